-- A journal's steps, as long as all triggers that clients send are of traces that pass a test: whatever an agent takes brings such traces,
-- whatever it tells and so whatever the coordinator asks is of such traces, and so is all that is claimed.
use Rattle.std.proofs.Common.{◌≡◌, inl, inr, ℕ, Bool, true, false, cond, List, [], ◌∷◌, ◌++◌, refl, sym, subst, Option, Some, None, slice_get, option_map, count_by}
use Rattle.hs_compare.proofs.Prelude.{AllByRecursion, range_with_len, same_Some, IsIn, all_at, all_append, all_map, TraceId, Trigger, PlainJournal, PlainWorkload, Sent, operations_at, place_of, sent_triggers, ClaimsOnly, ClaimsAreOfWhatIsBrought, NodeRun, Run, names_in}
use Rattle.std.specs.Option.{option_and_then}
use Rattle.hs_base.proofs.Options.{mapped_from}
use Rattle.hs_base.proofs.Alls.{all_always, all_set}
use Rattle.hs_base.specs.declared.ids.NodeId.{NodeId}
use Rattle.hs_base.specs.declared.told.Ask.{Ask}
use Rattle.hs_base.specs.declared.told.Told.{Told}
use Rattle.hs_coord.specs.Following.{Message, Messages, message, is_of, first_of, is_newly_asked}
use Rattle.hs_records.specs.declared.journal.Step.{Step}
use Rattle.hs_records.specs.declared.journal.Step.TheVariants as steps
use Rattle.hs_law_agent.specs.Stepping.{Given, Missed, Unread, Chunk, Crumbed, Triggered, Asked, Turn, AgentEvent, Took, Gave}
use Rattle.hs_client.specs.Sending.{ClientSends, client_sends, node_sends}
use Rattle.hs_law_agent.specs.Bringing.{AllPass, TellsOf, BringsOnly}
use Rattle.hs_law_journal.specs.Following.{Chunks, Crumbs, Triggers, Asks, taken, asks_behind, asks_to, node_start, run_start, next_of, event_of, perform, step_of, message_of, hear, is_from}
use Rattle.hs_law_journal.specs.Orders.{Performs, Leads, Stays, Goes}
use Rattle.hs_compare.proofs.Lists.{found_or}

-- ---- lists

module _ (W : PlainWorkload) (J : PlainJournal) (test : TraceId → Bool) where
  abbrev SendsOnly : ClientSends → Type 0
  SendsOnly sends = (item : Sent Trigger) → IsIn sends.triggers item → AllPass test (names_in item.item)

  -- ---- what is heard

  abbrev Tells : Message → Type 0
  Tells m = TellsOf test m.told

  abbrev AsksOf : Ask → Type 0
  AsksOf ask = AllPass test (ask.group.lead ∷ ask.laterals)

  ask_case : (told : Told) (b : Bool) → TellsOf test told → AllByRecursion AsksOf (cond b (record { group = told.group; laterals = told.laterals } ∷ []) [])
  ask_case told true only = (only, tt)
  ask_case told false only = tt

  asks_only : (node : ℕ) (before later : Messages) → AllByRecursion Tells before → AllByRecursion Tells later → AllByRecursion AsksOf (asks_behind node before later)
  asks_only node before [] front back = tt
  asks_only node before (m ∷ later) front back =
      all_append AsksOf (cond (is_newly_asked before m node) (record { group = (first_of before m).told.group; laterals = (first_of before m).told.laterals } ∷ []) []) (asks_behind node (before ++ m ∷ []) later)
      (ask_case (first_of before m).told (is_newly_asked before m node) (found_or Tells (is_of m.told.group.id) before m front back.0))
      (asks_only node (before ++ m ∷ []) later (all_append Tells before (m ∷ []) front (back.0, tt)) back.1)

  -- ---- what is taken

  record Keeps (run : NodeRun) : Type 0 where
    sends : run.sends ≡ node_sends W J run.node
    claims : ClaimsOnly test run.state

  quiet : {A : Type 0} (f : A → AgentEvent) (event : AgentEvent) (o : Option A) → ((a : A) → BringsOnly test (f a)) → option_map f o ≡ Some event → BringsOnly test event
  quiet f event o each h = let m = mapped_from f o event h in subst (BringsOnly test) (sym m.is) (each m.item)

  quiet_client : {A : Type 0} (f : A → AgentEvent) (event : AgentEvent) (g : ClientSends → Option A) (o : Option ClientSends) → ((a : A) → BringsOnly test (f a)) → option_and_then (λ (s : ClientSends). option_map f (g s)) o ≡ Some event
      → BringsOnly test event
  quiet_client f event g None each h = let no : None ≡ Some event = h in absurd cc
  quiet_client f event g (Some s) each h = quiet f event (g s) each h

  module _ (only : (place : ℕ) (item : Sent Trigger) → IsIn (sent_triggers W.settings.autos (operations_at W place)) item → AllPass test (names_in item.item)) where
    sends_only : (node : ℕ) → AllByRecursion SendsOnly (node_sends W J node)
    sends_only node =
        all_map SendsOnly (client_sends W J node) (range_with_len 0 W.settings.clients)
        (all_always (λ (number : ℕ). SendsOnly (client_sends W J node number)) (range_with_len 0 W.settings.clients) (λ number. only (place_of W.settings.clients node number)))

    module _ (heard : Messages) (told : AllByRecursion Tells heard) (run : NodeRun) (keeps : Keeps run) where
      trigger_brings : (client : ℕ) (event : AgentEvent) (o : Option ClientSends) → slice_get run.sends client ≡ o
          → option_and_then (λ (sends : ClientSends). option_map (λ trigger. Took (Triggered client trigger)) (next_of (Triggers client) run.state sends.triggers)) o ≡ Some event → BringsOnly test event
      trigger_brings client event None is h = let no : None ≡ Some event = h in absurd cc
      trigger_brings client event (Some sends) is h =
          let place = taken (Triggers client) run.state.log in
          let m = mapped_from (λ trigger. Took (Triggered client trigger)) (next_of (Triggers client) run.state sends.triggers) event h in
          let i = mapped_from (λ (item : Sent Trigger). item.item) (slice_get sends.triggers place) m.item m.there in
          let own = all_at SendsOnly run.sends client sends (subst (AllByRecursion SendsOnly) (sym keeps.sends) (sends_only run.node)) is in
          subst (BringsOnly test) (sym m.is) (subst (λ (trigger : Trigger). AllPass test (names_in trigger)) (sym i.is) (own i.item (record { place = place; there = i.there })))

      ask_brings : (event : AgentEvent) → option_map (λ ask. Took (Asked ask)) (slice_get (asks_to run.node heard) (taken Asks run.state.log)) ≡ Some event → BringsOnly test event
      ask_brings event h =
          let asks = asks_to run.node heard in
          let m = mapped_from (λ ask. Took (Asked ask)) (slice_get asks (taken Asks run.state.log)) event h in
          subst (BringsOnly test) (sym m.is) (all_at AsksOf asks (taken Asks run.state.log) m.item (asks_only run.node [] heard tt told) m.there)

      event_brings : (step : Step) (event : AgentEvent) → event_of run heard step ≡ Some event → BringsOnly test event
      event_brings (steps.Chunk client) event h =
          quiet_client (λ sheet. Took (Chunk client sheet)) event (λ (s : ClientSends). next_of (Chunks client) run.state s.chunks) (slice_get run.sends client) (λ sheet. tt) h
      event_brings (steps.Crumb client) event h =
          quiet_client (λ crumb. Took (Crumbed client crumb)) event (λ (s : ClientSends). next_of (Crumbs client) run.state s.crumbs) (slice_get run.sends client) (λ crumb. tt) h
      event_brings (steps.Trigger client) event h = trigger_brings client event (slice_get run.sends client) refl h
      event_brings steps.Ask event h = ask_brings event h
      event_brings steps.Turn event h = subst (BringsOnly test) (same_Some (Took Turn) event h) tt
      event_brings (steps.Given stamp) event h = quiet (λ _. Gave (Given stamp)) event (slice_get run.state.hand 0) (λ _. tt) h
      event_brings (steps.Missed stamp) event h = quiet (λ _. Gave (Missed stamp)) event (slice_get run.state.hand 0) (λ _. tt) h
      event_brings steps.Unread event h = quiet (λ _. Gave Unread) event (slice_get run.state.hand 0) (λ _. tt) h

      step_keeps : ClaimsAreOfWhatIsBrought → (stepped : NodeRun) (left : List Step) → step_of W.settings heard run left ≡ Some stepped → Keeps stepped
      step_keeps claims stepped [] h = let no : None ≡ Some stepped = h in absurd cc
      step_keeps claims stepped (step ∷ rest) h =
          let m = mapped_from (perform W.settings rest run) (event_of run heard step) stepped h in
          subst Keeps (sym m.is)
          (record { sends = keeps.sends; claims = claims W.settings run.node test run.state m.item (event_brings step m.item m.there) keeps.claims })

    -- ---- the coordinator's step

    module _ (runs : List NodeRun) (heard : Messages) (keep : AllByRecursion Keeps runs) where
      message_tells : (from : NodeId) (m : Message) (o : Option NodeRun) → slice_get runs from.0 ≡ o
          → option_and_then (λ (run : NodeRun). option_map (message from) (slice_get run.state.said (count_by (is_from from) heard))) o ≡ Some m → Tells m
      message_tells from m None is h = let no : None ≡ Some m = h in absurd cc
      message_tells from m (Some run) is h =
          let place = count_by (is_from from) heard in
          let t = mapped_from (message from) (slice_get run.state.said place) m h in
          let keeps = all_at Keeps runs from.0 run keep is in
          subst Tells (sym t.is) (all_at (TellsOf test) run.state.said place t.item keeps.claims.said t.there)

    -- ---- all steps

    record Stands (run : Run) : Type 0 where
      nodes : AllByRecursion Keeps run.nodes
      heard : AllByRecursion Tells run.heard

    hear_stands : (run next : Run) → Stands run → (left : List NodeId) → hear run left ≡ Some next → Stands next
    hear_stands run next st [] h = let no : None ≡ Some next = h in absurd cc
    hear_stands run next st (from ∷ rest) h =
        let m = mapped_from (λ (m : Message). record run { left = rest; heard = run.heard ++ m ∷ [] }) (message_of run.nodes run.heard from) next h in
        subst Stands (sym m.is)
        (record {
          nodes = st.nodes;
          heard = all_append Tells run.heard (m.item ∷ []) st.heard (message_tells run.nodes run.heard st.nodes from m.item (slice_get run.nodes from.0) refl m.there, tt);
        })

    module _ (claims : ClaimsAreOfWhatIsBrought) where
      performs_stands : (run next : Run) → Stands run → Performs W.settings run next → Stands next
      performs_stands run next st (inl s) =
          let keeps = all_at Keeps run.nodes s.place s.node st.nodes s.stands in
          subst Stands (sym s.result)
          (record { nodes = all_set Keeps run.nodes s.place s.stepped st.nodes (step_keeps run.heard st.heard s.node keeps claims s.stepped s.node.left s.ready); heard = st.heard })
      performs_stands run next st (inr k) = hear_stands run next st run.left k

      leads_stands : (run last : Run) → Stands run → Leads W.settings run last → Stands last
      leads_stands run last st (Stays r) = st
      leads_stands run last st (Goes r next l p leads) = leads_stands next last (performs_stands run next st p) leads

      starts_stand : Stands (run_start W J)
      starts_stand =
          record {
            nodes =
                all_map Keeps (node_start W J) (range_with_len 0 W.settings.nodes)
                (all_always (λ (node : ℕ). Keeps (node_start W J node)) (range_with_len 0 W.settings.nodes) (λ node. record { sends = refl; claims = record { claims = tt; said = tt } }));
            heard = tt;
          }

      claims_only : (runs : List NodeRun) → AllByRecursion Keeps runs → AllByRecursion (λ (run : NodeRun). ClaimsOnly test run.state) runs
      claims_only [] keep = tt
      claims_only (run ∷ runs) keep = (keep.0.claims, claims_only runs keep.1)

      -- in whatever order the steps come, all that a node claims and tells is of traces that pass
      pub all_claim_only : (run : Run) → Leads W.settings (run_start W J) run → AllByRecursion (λ (run : NodeRun). ClaimsOnly test run.state) run.nodes
      all_claim_only run leads = claims_only run.nodes (leads_stands (run_start W J) run starts_stand leads).nodes
