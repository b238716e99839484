-- The coordinator hears one message more, and asks what it leads to.
use Rattle.std.proofs.Common.{◌≡◌, ◌≢◌, inl, inr, ℕ, ◌+◌, ◌<◌, ◌≤◌, Bool, true, false, cond, List, [], ◌∷◌, ◌++◌, length, drop, Option, Some, None, refl, sym, ap, subst, ◌∙◌, arith, option_map, slice_get, count_by, append_assoc, append-nil, length-set, eqb, eqb-true, eq-eqb}
use Rattle.hs_check_follow.proofs.Prelude.{option_and_then, slice_get_within, get_there, get_set_cases, all_at, NodeId, NodeSet, Ask, Told, ChangesAt, AreAsked, Messages, PlainJournal, asks_to, NodeRun, Run, PlainWorkload, MayHearAt, HasHeard, HasNotHeard, AreSent, sent_by, FollowedCoordinator, FollowedNode}
use Rattle.std.proofs.lemmas.Option.{slice_get_past}
use Rattle.hs_base.proofs.Counts.{count_push}
use Rattle.hs_base.specs.NodeSets.{has_node}
use Rattle.hs_coord.specs.Following.{Message, message, first_of, is_newly_asked, AreAsks}
use Rattle.hs_coord.specs.Kept.{HasTaken}
use Rattle.hs_coord.specs.declared.asks.Asks.{Asks}
use Rattle.hs_law_journal.specs.Following.{is_from, message_of, hear}
use Rattle.hs_law_journal.specs.Performing.{StepByStep}
use Rattle.hs_law_agent.specs.Leading.{IsToldBelow}
use Rattle.hs_check_follow.proofs.Tracking.{drop_there, drop_past}

-- the nodes that are asked, one message more
asked_more : (nodes : ℕ) (before heard : Messages) (m : Message) (asked : List NodeSet) (to : NodeSet) → AreAsked nodes before heard asked
    → ((node : ℕ) → has_node to node ≡ is_newly_asked (before ++ heard) m node) → AreAsked nodes before (heard ++ m ∷ []) (asked ++ to ∷ [])
asked_more nodes before [] m [] to are is = (λ node low. is node ∙ ap (λ (all : Messages). is_newly_asked all m node) (append-nil before), tt)
asked_more nodes before [] m (x ∷ asked) to are is = absurd are
asked_more nodes before (h ∷ heard) m [] to are is = absurd are
asked_more nodes before (h ∷ heard) m (x ∷ asked) to are is =
    (are.0, asked_more nodes (before ++ h ∷ []) heard m asked to are.1 (λ node. is node ∙ ap (λ (all : Messages). is_newly_asked all m node) (sym (append_assoc before (h ∷ []) heard))))

module _ (W : PlainWorkload) (J : PlainJournal) (run : Run) (told : List NodeId) (nodes : List FollowedNode) (h : FollowedCoordinator) (m : MayHearAt W J run told nodes h) where
  -- ---- where nothing is heard

  left_is : run.left ≡ drop h.next told
  left_is = m.hearing.left_is ∙ ap (drop h.next) (sym m.told_is)

  pub nothing_left : length told ≤ h.next → HasNotHeard W J run h
  nothing_left high = record { none = ap (hear run) (left_is ∙ drop_past told h.next high); hearing = m.hearing }

  module _ (node : NodeId) (there : slice_get told h.next ≡ Some node) where
    next_left : run.left ≡ node ∷ drop (h.next + 1) told
    next_left = left_is ∙ drop_there told h.next node there

    abbrev heard_by : Message → Run
    heard_by message = record run { left = drop (h.next + 1) told; heard = run.heard ++ message ∷ [] }

    hears : (o : Option Message) → message_of run.nodes run.heard node ≡ o → hear run run.left ≡ option_map heard_by o
    hears o e = ap (hear run) next_left ∙ ap (option_map heard_by) e

    pub no_node : length nodes ≤ node.0 → HasNotHeard W J run h
    no_node high =
        let count = m.nodes_are.count in
        let past = slice_get_past run.nodes node.0 (omega (arith, high, count)) in
        record { none = hears None (ap (option_and_then (λ (run' : NodeRun). option_map (message node) (slice_get run'.state.said (count_by (is_from node) run.heard)))) past); hearing = m.hearing }

    module _ (t : FollowedNode) (t_there : slice_get nodes node.0 ≡ Some t) (count : ℕ) (count_there : slice_get h.counts.items node.0 ≡ Some count) where
      node_there : (r : NodeRun) × (slice_get run.nodes node.0 ≡ Some r)
      node_there = let low = slice_get_within nodes node.0 t t_there in let same = m.nodes_are.count in get_there run.nodes node.0 (omega (arith, low, same))

      r_said : t.follower.said.items ≡ node_there.0.state.said
      r_said = (m.nodes_are.each node.0 node_there.0 t node_there.1 t_there).stands.said

      next_message : (o : Option Told) → slice_get t.follower.said.items count ≡ o → message_of run.nodes run.heard node ≡ option_map (message node) o
      next_message o e =
          ap (option_and_then (λ (run' : NodeRun). option_map (message node) (slice_get run'.state.said (count_by (is_from node) run.heard)))) node_there.1
          ∙ ap (λ (l : List Told). option_map (message node) (slice_get l (count_by (is_from node) run.heard))) (sym r_said)
          ∙ ap (λ k. option_map (message node) (slice_get t.follower.said.items k)) (sym (m.hearing.counts node.0 count count_there)) ∙ ap (option_map (message node)) e

      pub not_told : length t.follower.said.items ≤ count → HasNotHeard W J run h
      not_told high = record { none = hears None (next_message None (slice_get_past t.follower.said.items count high)); hearing = m.hearing }

      module _ (said : Told) (said_there : slice_get t.follower.said.items count ≡ Some said) where
        pub below : (n : ℕ) → has_node said.crumbs n ≡ true → n < h.coordinator.nodes
        below n has =
            let told_there : slice_get node_there.0.state.said count ≡ Some said = ap (λ (l : List Told). slice_get l count) (sym r_said) ∙ said_there in
            let low = all_at (IsToldBelow W.settings.nodes) node_there.0.state.said count said (m.below node.0 node_there.0 node_there.1) told_there n has in
            let same = m.hearing.nodes in
            omega (arith, low, same)

        pub node_low : node.0 < h.coordinator.nodes
        node_low =
            let low = slice_get_within nodes node.0 t t_there in
            let many = m.nodes_are.many in
            let same = m.hearing.nodes in
            omega (arith, low, many, same)

        abbrev msg : Message
        msg = message node said

        abbrev heard : Messages
        heard = run.heard ++ msg ∷ []

        -- ---- the asks

        module _ (steps : StepByStep) (asks : Asks) (are : AreAsks run.heard msg asks) where
          abbrev the_ask : Ask
          the_ask = record { group = (first_of run.heard msg).told.group; laterals = (first_of run.heard msg).told.laterals }

          ask_is : asks.ask ≡ the_ask
          ask_is =
              ap (λ group. record { group = group; laterals = asks.ask.laterals }) are.group ∙ ap (λ laterals. record { group = (first_of run.heard msg).told.group; laterals = laterals }) are.laterals

          sent_case : (list : List Ask) (b : Bool) → cond b (list ++ asks.ask ∷ []) list ≡ list ++ cond b (the_ask ∷ []) []
          sent_case list true = ap (λ (ask : Ask). list ++ ask ∷ []) ask_is
          sent_case list false = sym (append-nil list)

          sent_is : (n : ℕ) → sent_by asks n (asks_to n run.heard) ≡ asks_to n heard
          sent_is n = ap (λ b. cond b (asks_to n run.heard ++ asks.ask ∷ []) (asks_to n run.heard)) (are.to n) ∙ sent_case (asks_to n run.heard) (is_newly_asked run.heard msg n) ∙ sym (steps.asks n run.heard msg)

          -- ---- the counts

          other_count : (n : ℕ) → node.0 ≢ n → count_by (is_from (record { 0 = n })) heard ≡ count_by (is_from (record { 0 = n })) run.heard
          other_count n ne =
              let all = count_push (is_from (record { 0 = n })) run.heard msg in
              let none = other (eqb node.0 n) refl in
              omega (arith, all, none)
            where
              other : (b : Bool) → eqb node.0 n ≡ b → cond {A = ℕ} b 1 0 ≡ 0
              other true e = absurd (ne (eqb-true node.0 n e))
              other false e = refl

          own_count : (n : ℕ) → node.0 ≡ n → count_by (is_from (record { 0 = n })) heard ≡ count_by (is_from (record { 0 = n })) run.heard + 1
          own_count n same =
              let all = count_push (is_from (record { 0 = n })) run.heard msg in
              let own = ap {B = ℕ} (λ b. cond b 1 0) (eq-eqb node.0 n same) in
              omega (arith, all, own)

          pub heard_one : (h' : FollowedCoordinator) → (kept : HasTaken h'.coordinator heard) → h'.coordinator.nodes ≡ h.coordinator.nodes → AreSent asks (length h.asks.items) h.asks.items h'.asks.items
              → ChangesAt node.0 h.counts.items h'.counts.items (λ old new. new ≡ old + 1) → h'.next ≡ h.next + 1 → h'.asked.items ≡ h.asked.items ++ asks.to ∷ [] → HasHeard W J run h'
          heard_one h' kept nodes_same sent counted next asked =
              record {
                next = heard_by msg;
                ready = hears (Some msg) (next_message (Some said) said_there);
                same = refl;
                hearing =
                    record {
                      taken = kept;
                      nodes = nodes_same ∙ m.hearing.nodes;
                      lists = sent.count ∙ m.hearing.lists;
                      asks =
                          λ n list at.
                          let low = slice_get_within h'.asks.items n list at in
                          let same = sent.count in
                          let was = sent.before n list at (omega (arith, low, same)) in
                          was.2 ∙ ap (sent_by asks n) (m.hearing.asks n was.0 was.1) ∙ sent_is n;
                      many = ap length counted.set ∙ length-set h.counts.items node.0 counted.now ∙ m.hearing.many;
                      counts =
                          λ n k at.
                          elim (get_set_cases h.counts.items node.0 n counted.before counted.now k counted.stood (ap (λ (l : List ℕ). slice_get l n) (sym counted.set) ∙ at)) as (λ _. k ≡ count_by (is_from (record { 0 = n })) heard) [
                            | inl own ↦
                                let was = m.hearing.counts node.0 counted.before counted.stood in
                                let same = ap (λ i. count_by (is_from (record { 0 = i })) run.heard) own.0 in
                                let more = own_count n own.0 in
                                let became = counted.became in
                                let is = own.1 in
                                omega (arith, was, same, more, became, is)
                            | inr other ↦ m.hearing.counts n k other.1 ∙ sym (other_count n other.0)
                          ];
                      left_is = ap (λ (l : List NodeId). drop (h.next + 1) l) m.told_is ∙ ap (λ k. drop k J.told) (sym next);
                      asked = subst (AreAsked W.settings.nodes [] heard) (sym asked) (asked_more W.settings.nodes [] run.heard msg h.asked.items asks.to m.hearing.asked are.to);
                    };
              }
