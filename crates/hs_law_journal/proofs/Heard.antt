-- What holds of any journal that is followed: of each node the coordinator has heard a front of what it said.
use Rattle.std.proofs.Common.{◌≡◌, ◌⊎◌, inl, inr, ℕ, zero, suc, ◌+◌, ◌<◌, Bool, true, false, cond, List, [], ◌∷◌, ◌++◌, length, refl, sym, ap, subst, ◌∙◌, Option, Some, None, arith, map, filter, option_map, slice_get, nat_eq, eqb-true, length-set, append-nil}
use Rattle.hs_law_journal.proofs.Prelude.{AllByRecursion, range_with_len, option_and_then, option_to_list, count_by, length-map, map-append, filter-append, slice_get-map, slice_get_within, same_Some, all_append, mapped_from, NodeId, Told, Message, Messages, message, PlainJournal, StepsSayWhatTheyTell, AgentState, AgentEvent, Took, Gave, told_by, after_event, PlainSettings, PlainWorkload, is_from, NodeRun, Run, node_start, run_start, message_of, Performs, Leads, Stays, Goes}
use Rattle.std.proofs.lemmas.List.FromFn.{length-range_with_len}
use Rattle.std.proofs.lemmas.List.Sums.{length-filter}
use Rattle.hs_base.proofs.Places.{get_set_cases}
use Rattle.hs_law_journal.specs.Fronts.{IsFront}
use Rattle.hs_law_journal.proofs.Fronts.{none_front, quiet_front, front_on, front_next}
use Rattle.hs_law_journal.proofs.Steps.{step_from, heard_from}

pub record IsHeardAt (heard : Messages) (i : ℕ) (node : NodeRun) : Type 0 where
  pub number : node.node ≡ i
  pub front : IsFront (filter (is_from (record { 0 = i })) heard) (map (message (record { 0 = i })) node.state.said)

pub record IsHeard (W : PlainWorkload) (run : Run) : Type 0 where
  pub count : length run.nodes ≡ W.settings.nodes
  pub each : (i : ℕ) (node : NodeRun) → slice_get run.nodes i ≡ Some node → IsHeardAt run.heard i node
  pub from : AllByRecursion (λ (m : Message). m.node.0 < W.settings.nodes) run.heard

abbrev pub said_by : PlainSettings → ℕ → AgentState → AgentEvent → List Told
said_by settings node state (Took input) = option_to_list (told_by settings node state input)
said_by settings node state (Gave answer) = []

pub event_says : (settings : PlainSettings) → StepsSayWhatTheyTell → (node : ℕ) (state : AgentState) (event : AgentEvent) → (after_event settings node state event).said ≡ state.said ++ said_by settings node state event
event_says settings says node state (Took input) = (says settings node state).inputs input
event_says settings says node state (Gave answer) = (says settings node state).answers answer ∙ sym (append-nil state.said)

-- the message that was taken
record IsTold (nodes : List NodeRun) (heard : Messages) (name : NodeId) (m : Message) : Type 0 where
  node : NodeRun
  there : slice_get nodes name.0 ≡ Some node
  told : Told
  said : slice_get node.state.said (count_by (is_from name) heard) ≡ Some told
  is : m ≡ message name told

told_from : (nodes : List NodeRun) (heard : Messages) (name : NodeId) (m : Message) → message_of nodes heard name ≡ Some m → IsTold nodes heard name m
told_from nodes heard name m h = go (slice_get nodes name.0) refl h
  where
    go : (o : Option NodeRun) → slice_get nodes name.0 ≡ o → option_and_then (λ (run : NodeRun). option_map (message name) (slice_get run.state.said (count_by (is_from name) heard))) o ≡ Some m → IsTold nodes heard name m
    go None e h = let no : None ≡ Some m = h in absurd cc
    go (Some run) e h = let t = mapped_from (message name) (slice_get run.state.said (count_by (is_from name) heard)) m h in record { node = run; there = e; told = t.item; said = t.there; is = t.is }

module _ (says : StepsSayWhatTheyTell) (W : PlainWorkload) where
  said_more : (heard : Messages) (i : ℕ) (node : NodeRun) (said more : List Told) → said ≡ node.state.said ++ more → IsHeardAt heard i node → IsFront (filter (is_from (record { 0 = i })) heard) (map (message (record { 0 = i })) said)
  said_more heard i node said more e f =
      subst (IsFront (filter (is_from (record { 0 = i })) heard)) (sym (map-append (message (record { 0 = i })) node.state.said more) ∙ ap (map (message (record { 0 = i }))) (sym e))
      (front_on (filter (is_from (record { 0 = i })) heard) (map (message (record { 0 = i })) node.state.said) (map (message (record { 0 = i })) more) f.front)

  hears : (nodes : List NodeRun) (heard : Messages) (name : NodeId) (m : Message) → IsTold nodes heard name m → (i : ℕ) (node : NodeRun) → slice_get nodes i ≡ Some node → IsHeardAt heard i node → IsHeardAt (heard ++ m ∷ []) i node
  hears nodes heard name m t i node stands f =
      record {
        number = f.number;
        front =
            subst (λ (list : Messages). IsFront list (map (message (record { 0 = i })) node.state.said)) (sym (filter-append (is_from (record { 0 = i })) heard (m ∷ [])))
            (either (nat_eq m.node.0 i) refl);
      }
    where
      named : m.node ≡ name
      named = ap (λ (m : Message). m.node) t.is

      either : (b : Bool) → nat_eq m.node.0 i ≡ b → IsFront (filter (is_from (record { 0 = i })) heard ++ cond b (m ∷ []) []) (map (message (record { 0 = i })) node.state.said)
      either true e =
          let same : name.0 ≡ i = ap (λ (n : NodeId). n.0) (sym named) ∙ eqb-true m.node.0 i e in
          let own : t.node ≡ node = same_Some t.node node (sym t.there ∙ ap (slice_get nodes) same ∙ stands) in
          let said : slice_get node.state.said (count_by (is_from name) heard) ≡ Some t.told = ap (λ (n : NodeRun). slice_get n.state.said (count_by (is_from name) heard)) (sym own) ∙ t.said in
          let long = length-filter (is_from name) heard in
          let next : slice_get (map (message name) node.state.said) (length (filter (is_from name) heard)) ≡ Some m =
          slice_get-map (message name) node.state.said (length (filter (is_from name) heard))
          ∙ ap (option_map (message name)) (ap (slice_get node.state.said) long ∙ said)
          ∙ ap Some (sym t.is)
          in
          let front = subst (λ (j : ℕ). IsFront (filter (is_from (record { 0 = j })) heard) (map (message (record { 0 = j })) node.state.said)) (sym same) f.front in
          subst (λ (j : ℕ). IsFront (filter (is_from (record { 0 = j })) heard ++ m ∷ []) (map (message (record { 0 = j })) node.state.said)) same
          (front_next (filter (is_from name) heard) (map (message name) node.state.said) m front next)
      either false e = quiet_front (filter (is_from (record { 0 = i })) heard) (map (message (record { 0 = i })) node.state.said) f.front

  performs : (run next : Run) → IsHeard W run → Performs W.settings run next → IsHeard W next
  performs run next h (inl s) =
      subst (IsHeard W) (sym s.result)
      (record {
        count = length-set run.nodes s.place s.stepped ∙ h.count;
        each = λ i node stands. either i node (get_set_cases run.nodes s.place i s.node s.stepped node s.stands stands);
        from = h.from;
      })
    where
      stepped_at : IsHeardAt run.heard s.place s.stepped
      stepped_at =
          let t = step_from W.settings run.heard s.node s.stepped s.ready in
          let here = h.each s.place s.node s.stands in
          record {
            number = ap (λ (n : NodeRun). n.node) t.is ∙ here.number;
            front = said_more run.heard s.place s.node s.stepped.state.said (said_by W.settings s.node.node s.node.state t.event) (ap (λ (n : NodeRun). n.state.said) t.is ∙ event_says W.settings says s.node.node s.node.state t.event) here;
          }

      either : (i : ℕ) (node : NodeRun) → ((s.place ≡ i) × (s.stepped ≡ node)) ⊎ ((s.place ≡ i → ⊥) × (slice_get run.nodes i ≡ Some node)) → IsHeardAt run.heard i node
      either i node (inl both) = subst (λ (j : ℕ). IsHeardAt run.heard j node) both.0 (subst (IsHeardAt run.heard s.place) both.1 stepped_at)
      either i node (inr there) = h.each i node there.1
  performs run next h (inr k) =
      let s = heard_from run next k in
      let t = told_from run.nodes run.heard s.node s.heard s.told in
      let low = slice_get_within run.nodes s.node.0 t.node t.there in
      let count = h.count in
      let name = ap (λ (m : Message). m.node.0) t.is in
      subst (IsHeard W) (sym s.is)
      (record {
        count = h.count;
        each = λ i node stands. hears run.nodes run.heard s.node s.heard t i node stands (h.each i node stands);
        from = all_append (λ (m : Message). m.node.0 < W.settings.nodes) run.heard (s.heard ∷ []) h.from (omega (arith, low, count, name), tt);
      })

  leads_heard : (run last : Run) → IsHeard W run → Leads W.settings run last → IsHeard W last
  leads_heard run last h (Stays r) = h
  leads_heard run last h (Goes r next l p leads) = leads_heard next last (performs r next h p) leads

  start_at : (J : PlainJournal) (start count i : ℕ) (node : NodeRun) → slice_get (map (node_start W J) (range_with_len start count)) i ≡ Some node → IsHeardAt [] (start + i) node
  start_at J start zero i node h = let no : None ≡ Some node = h in absurd cc
  start_at J start (suc count) zero node h =
      let here : start ≡ start + 0 = omega arith in
      subst (IsHeardAt [] (start + 0)) (same_Some (node_start W J start) node h) (record { number = here; front = none_front [] })
  start_at J start (suc count) (suc i) node h = let here : start + 1 + i ≡ start + suc i = omega arith in subst (λ (j : ℕ). IsHeardAt [] j node) here (start_at J (start + 1) count i node h)

  pub all_heard : (J : PlainJournal) (run : Run) → Leads W.settings (run_start W J) run → IsHeard W run
  all_heard J run leads =
      leads_heard (run_start W J) run
      (record {
        count = length-map (range_with_len 0 W.settings.nodes) (node_start W J) ∙ length-range_with_len 0 W.settings.nodes;
        each = λ i node stands. let here : 0 + i ≡ i = omega arith in subst (λ (j : ℕ). IsHeardAt [] j node) here (start_at J 0 W.settings.nodes i node stands);
        from = tt;
      })
      leads
