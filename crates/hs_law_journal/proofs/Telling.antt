-- What agents tell leads to nodes that there are, whatever journal is followed.
use Rattle.std.proofs.Common.{◌≡◌, inl, inr, ℕ, ◌<◌, List, [], ◌∷◌, refl, sym, subst, Option, Some, None, map, option_map, slice_get}
use Rattle.hs_law_journal.proofs.Prelude.{AllByRecursion, option_and_then, same_Some, all_at, all_set, option_unmap, Crumb, Messages, PlainJournal, Step, CrumbsLeadBelow, AgentEvent, Took, Gave, Given, Missed, Unread, Chunk, Crumbed, Triggered, Asked, Turn, PlainSettings, PlainWorkload, Sent, ClientSends, node_sends, IsValid, Chunks, Crumbs, Triggers, Asks, taken, asks_to, NodeRun, Run, next_of, event_of, node_start, step_node, Performs, Leads, Stays, Goes}
use Rattle.hs_base.proofs.Alls.{all_by_place}
use Rattle.hs_records.specs.declared.journal.Step.TheVariants as steps
use Rattle.hs_law_agent.specs.Leading.{LeadsBelow, BringsBelow}
use Rattle.hs_law_journal.proofs.Steps.{step_from}
use Rattle.hs_law_journal.proofs.Fit.{node_sends_fit}
use Rattle.hs_law_journal.proofs.Hearing.{hear_nodes}

module _ (settings : PlainSettings) where
  abbrev CrumbsFit : ClientSends → Type 0
  CrumbsFit s = AllByRecursion (λ (item : Sent Crumb). item.item.node.0 < settings.nodes) s.crumbs

  abbrev Brings : AgentEvent → Type 0
  Brings event = BringsBelow settings.nodes event

  other_brings : {A : Type 0} (f : A → AgentEvent) (o : Option A) (event : AgentEvent) → ((x : A) → Brings (f x)) → option_map f o ≡ Some event → Brings event
  other_brings f o event each h = let t = option_unmap f o event h in subst Brings t.2 (each t.0)

  client_brings : {A : Type 0} (f : A → AgentEvent) (g : ClientSends → Option A) (o : Option ClientSends) (event : AgentEvent) → ((x : A) → Brings (f x)) → option_and_then (λ (s : ClientSends). option_map f (g s)) o ≡ Some event → Brings event
  client_brings f g None event each h = let never : None ≡ Some event = h in absurd cc
  client_brings f g (Some s) event each h = other_brings f (g s) event each h

  crumb_brings : (run : NodeRun) (client : ℕ) (o : Option ClientSends) (event : AgentEvent) → ((s : ClientSends) → o ≡ Some s → CrumbsFit s)
      → option_and_then (λ (s : ClientSends). option_map (λ crumb. Took (Crumbed client crumb)) (next_of (Crumbs client) run.state s.crumbs)) o ≡ Some event → Brings event
  crumb_brings run client None event fit h = let never : None ≡ Some event = h in absurd cc
  crumb_brings run client (Some s) event fit h =
      let t = option_unmap (λ crumb. Took (Crumbed client crumb)) (next_of (Crumbs client) run.state s.crumbs) event h in
      let u = option_unmap (λ (item : Sent Crumb). item.item) (slice_get s.crumbs (taken (Crumbs client) run.state.log)) t.0 t.1 in
      let low = all_at (λ (item : Sent Crumb). item.item.node.0 < settings.nodes) s.crumbs (taken (Crumbs client) run.state.log) u.0 (fit s refl) u.1 in
      subst Brings t.2 (subst (λ (crumb : Crumb). crumb.node.0 < settings.nodes) u.2 low)

  event_brings : (run : NodeRun) (heard : Messages) (step : Step) (event : AgentEvent) → AllByRecursion CrumbsFit run.sends → event_of run heard step ≡ Some event → Brings event
  event_brings run heard (steps.Chunk client) event fit h =
      client_brings (λ sheet. Took (Chunk client sheet)) (λ (s : ClientSends). next_of (Chunks client) run.state s.chunks) (slice_get run.sends client) event (λ x. tt) h
  event_brings run heard (steps.Crumb client) event fit h =
      crumb_brings run client (slice_get run.sends client) event (λ s at. all_at CrumbsFit run.sends client s fit at) h
  event_brings run heard (steps.Trigger client) event fit h =
      client_brings (λ trigger. Took (Triggered client trigger)) (λ (s : ClientSends). next_of (Triggers client) run.state s.triggers) (slice_get run.sends client) event (λ x. tt) h
  event_brings run heard steps.Ask event fit h = other_brings (λ ask. Took (Asked ask)) (slice_get (asks_to run.node heard) (taken Asks run.state.log)) event (λ x. tt) h
  event_brings run heard steps.Turn event fit h = subst Brings (same_Some (Took Turn) event h) tt
  event_brings run heard (steps.Given stamp) event fit h = other_brings (λ _. Gave (Given stamp)) (slice_get run.state.hand 0) event (λ x. tt) h
  event_brings run heard (steps.Missed stamp) event fit h = other_brings (λ _. Gave (Missed stamp)) (slice_get run.state.hand 0) event (λ x. tt) h
  event_brings run heard steps.Unread event fit h = other_brings (λ _. Gave Unread) (slice_get run.state.hand 0) event (λ x. tt) h

  pub record Tells (run : NodeRun) : Type 0 where
    fit : AllByRecursion CrumbsFit run.sends
    pub leads : LeadsBelow settings.nodes run.state

  module _ (below : CrumbsLeadBelow) where
    step_tells : (heard : Messages) (run next : NodeRun) → step_node settings heard run ≡ Some next → Tells run → Tells next
    step_tells heard run next h t =
        let s = step_from settings heard run next h in
        subst Tells (sym s.is)
        (record { fit = t.fit; leads = below settings run.node settings.nodes run.state s.event (event_brings run heard s.step s.event t.fit s.met) t.leads })

    performs_tells : (run next : Run) → Performs settings run next → AllByRecursion Tells run.nodes → AllByRecursion Tells next.nodes
    performs_tells run next (inl s) all =
        subst (λ (r : Run). AllByRecursion Tells r.nodes) (sym s.result)
        (all_set Tells run.nodes s.place s.stepped all (step_tells run.heard s.node s.stepped s.ready (all_at Tells run.nodes s.place s.node all s.stands)))
    performs_tells run next (inr heard) all = subst (AllByRecursion Tells) (sym (hear_nodes run next run.left heard)) all

    pub leads_tell : (run last : Run) → Leads settings run last → AllByRecursion Tells run.nodes → AllByRecursion Tells last.nodes
    leads_tell run last (Stays r) all = all
    leads_tell run last (Goes r next l p leads) all = leads_tell next last leads (performs_tells r next p all)

pub starts_tell : (W : PlainWorkload) (valid : IsValid W) (J : PlainJournal) (numbers : List ℕ) → AllByRecursion (Tells W.settings) (map (node_start W J) numbers)
starts_tell W valid J [] = tt
starts_tell W valid J (n ∷ numbers) = (
  record {
    fit = all_by_place (CrumbsFit W.settings) (node_sends W J n) (λ number s at. (node_sends_fit W valid J n number s at).crumbs);
    leads = record { crumbs = tt; said = tt };
  },
  starts_tell W valid J numbers,
)
