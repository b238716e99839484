-- The laws of the parts of a round for valid workloads: all that they ask for is there at every machine on its way.
use Rattle.std.proofs.Common.{◌≡◌, ℕ, ◌+◌, ◌<◌, ◌^◌, Bool, true, false, cond, List, [], refl, sym, ap, subst, ◌∙◌, Some, arith, map, slice_get, ltb, nat_eq, eqb-true, eq-eqb}
use Rattle.hs_law_run.proofs.Prelude.{AllByRecursion, and_parts, same_Some, all_each, is_declared, Ask, Step, Input, Took, PlainWorkload, ClientSends, node_sends, place_of, IsValid, NodeRun, asks_to, event_of, followed, IsRunnable, ValidWorkloadsRun, Known, Machine, with_steps, client_goes, node_at, heard_in, after_steps, IsReached, is_known, admitted_at}
use Rattle.hs_law_journal.specs.Fitting.{MayTake}
use Rattle.hs_law_run.specs.Conditions.{IsFit, MachinesFit}
use Rattle.hs_law_run.specs.Parts.{ClientsGoSo, AgentsGiveSo}
use Rattle.hs_law_run.specs.Reaching as reaching
use Rattle.hs_law_run.proofs.Bounds.{stamps_few, groups_few, place_low}
use Rattle.hs_law_run.proofs.Followed.{left_is}
use Rattle.hs_law_journal.proofs.Fit.{node_sends_fit, event_fits}
use Rattle.hs_law_run.proofs.Giving.{history_long, agent_gives}
use Rattle.hs_law_run.proofs.Going.{client_goes_so}
use Rattle.hs_law_journal.proofs.Groups.{asks_known}
use Rattle.hs_law_run.proofs.Held.{IsHeld}
use Rattle.hs_law_run.proofs.Keeping.{own_sends}
use Rattle.hs_law_run.proofs.Performed.{bare, bare_is, performed_walk, steps_keep}
use Rattle.hs_law_run.proofs.LockstepPools.{history_there}
use Rattle.hs_law_run.proofs.Progress.{spoken}
use Rattle.hs_law_run.proofs.Standing.{held_at, number_at, through_at}
use Rattle.hs_law_run.proofs.Taking.{done, behind, all_came, comes_to}
use Rattle.hs_law_run.proofs.Walks.{Walked, IsThrough, Stands}

module _ (k : Known) (W : PlainWorkload) (runs : IsRunnable W) (valid : IsValid W) where
  -- asks are of declared trigger ids
  asks_declared : (m : Machine) (node : ℕ) → AllByRecursion (λ (ask : Ask). is_declared W.settings.triggers ask.group.trigger ≡ true) (asks_to node (heard_in W m.journal))
  asks_declared m node =
      let run = followed W m.journal in
      let known = (spoken k W runs.laid runs.size runs.weights m).heard in
      all_each (λ (ask : Ask). is_known W.settings run.nodes ask.group ≡ true) (λ (ask : Ask). is_declared W.settings.triggers ask.group.trigger ≡ true) (asks_to node run.heard)
      (λ ask h. (and_parts (ltb ask.group.id.number (admitted_at run.nodes ask.group.id.node)) (is_declared W.settings.triggers ask.group.trigger) h).1)
      (asks_known (is_known W.settings run.nodes) node [] run.heard tt known)

  module _ (m : Machine) (r : IsReached W m) (i : ℕ) (run : NodeRun) (stands : node_at W m.journal i ≡ Some run) where
    held : IsHeld W.settings run
    held = held_at k W m r i run stands

    sends_are : run.sends ≡ node_sends W m.journal i
    sends_are =
        own_sends k W m.journal i run stands ∙ ap (node_sends W m.journal) (number_at k W m i run stands)

    -- the steps for this node, and none for the others
    abbrev only : List Step → NodeRun → List Step
    only steps node = cond (nat_eq node.node i) steps []

    -- a node of the machine where this one performs these steps alone
    abbrev gone : List Step → NodeRun → NodeRun
    gone steps node = behind k W m r (only steps) node

    alone : (steps : List Step) (middle : NodeRun) → after_steps W.settings (heard_in W m.journal) steps run ≡ Some middle → (j : ℕ) (node : NodeRun) → slice_get (followed W m.journal).nodes j ≡ Some node
        → Walked W.settings (heard_in W m.journal) IsThrough (gone steps node)
    alone steps middle came j node at = go (nat_eq node.node i) refl
      where
        left : (gone steps node).left ≡ only steps node
        left = left_is k W m (only steps) (done k W m r) j node at

        standing : bare (gone steps node) ≡ node
        standing =
            ap (λ (sends : List ClientSends). record node { sends = sends; left = [] }) (sym (own_sends k W m.journal j node at))
            ∙ bare_is node (through_at k W m r j node at)

        go : (here : Bool) → nat_eq node.node i ≡ here → Walked W.settings (heard_in W m.journal) IsThrough (gone steps node)
        go false e = record { last = gone steps node; walks = Stands (gone steps node); ends = left ∙ ap (λ (here : Bool). cond here steps []) e }
        go true e =
            let place : j ≡ i = sym (number_at k W m j node at) ∙ eqb-true node.node i e in
            let is : node ≡ run = same_Some node run (sym at ∙ ap (slice_get (followed W m.journal).nodes) place ∙ stands) in
            performed_walk W.settings (heard_in W m.journal) steps (gone steps node) middle (left ∙ ap (λ (here : Bool). cond here steps []) e) (ap (after_steps W.settings (heard_in W m.journal) steps) (standing ∙ is) ∙ came)

    -- so no ready steps lead to too many groups
    admits_few : (steps : List Step) (middle : NodeRun) → after_steps W.settings (heard_in W m.journal) steps run ≡ Some middle → middle.state.admitted + 1 < 2 ^ 32
    admits_few steps middle came =
        let f = only steps in
        let c = comes_to k W m r f (all_came k W m r f (alone steps middle came)) i run stands in
        let own : f run ≡ steps = ap (λ (here : Bool). cond here steps []) (eq-eqb run.node i (number_at k W m i run stands)) in
        let same : c.later ≡ middle = same_Some c.later middle (sym c.came ∙ ap (λ (left : List Step). after_steps W.settings (heard_in W m.journal) left run) own ∙ came) in
        subst (λ (n : NodeRun). n.state.admitted + 1 < 2 ^ 32) same
        (groups_few k W runs valid (with_steps m (map f (followed W m.journal).nodes)) i c.later c.there)

    takes : (front : List Step) (step : Step) (middle : NodeRun) (input : Input) → after_steps W.settings (heard_in W m.journal) front run ≡ Some middle → event_of middle (heard_in W m.journal) step ≡ Some (Took input)
        → MayTake W.settings i middle.state input
    takes front step middle input came met =
        let heard = heard_in W m.journal in
        let t = steps_keep W.settings heard front run middle came in
        let number : middle.node ≡ i = t.number ∙ number_at k W m i run stands in
        event_fits W.settings i middle.state (admits_few front middle came) middle heard step (Took input) refl number
        (λ c s at. node_sends_fit W valid m.journal i c s (ap (λ (sends : List ClientSends). slice_get sends c) (sym sends_are ∙ sym t.sends) ∙ at))
        (subst (λ (n : ℕ). AllByRecursion (λ (ask : Ask). is_declared W.settings.triggers ask.group.trigger ≡ true) (asks_to n heard)) (sym number) (asks_declared m i)) met

    pub is_fit : IsFit W m i run
    is_fit =
        let long = history_long W.settings run held in
        let few = stamps_few k W runs valid m i run run stands refl held in
        record { history = history_there W run held.holds; stamps = omega (arith, long, few); takes = takes }

pub machines_fit : Known → ValidWorkloadsRun → MachinesFit
machines_fit k run W valid m r i node stands = is_fit k W (run W valid) valid m r i node stands

pub agents_give_so : Known → ValidWorkloadsRun → AgentsGiveSo
agents_give_so k run W valid m r i node stands = agent_gives k W m r (stamps_few k W (run W valid) valid m) i node stands

pub clients_go_so : Known → ValidWorkloadsRun → ClientsGoSo
clients_go_so k run W valid m r i number node low stands =
    let place = place_of W.settings.clients i number in
    let new = client_goes W m place in
    let reached = reaching.Goes m place (place_low k W (run W valid) valid m i number node low stands) r in
    client_goes_so k W (run W valid).laid m r i number node low stands
    (λ later at.
    let held = held_at k W new reached i later at in
    let long = history_long W.settings later held in
    let few = stamps_few k W (run W valid) valid new i later later at refl held in
    omega (arith, long, few))
