-- Where no offer is unread, nothing has to be shown of unread offers.
use Rattle.std.proofs.Common.{◌≡◌, ℕ, ◌+◌, List, [], ◌∷◌, length, refl, ap, ◌∙◌, true, cond, map, filter, take, zip}
use Rattle.hs_law_run.proofs.Prelude.{AllByRecursion, list_all, range_with_len, and_from, Step, noted_as, EventsAddThis, AgentEvent, NodeRun, Run, is_unread, NodeDoings, all_events, steps_of, journal_of, node_at_end, DoingsAreFollowed}
use Rattle.hs_law_journal.specs.Unreads.{may_be_unread, before_unreads}
use Rattle.hs_law_run.specs.Unread.{IsRead, NoneIsUnread}
use Rattle.hs_law_run.proofs.Nodes.{own_log}

none_before : (start : ℕ) (behind : ℕ × Step → List Step) (events : List AgentEvent) → AllByRecursion IsRead events
    → map behind (filter (λ (at : ℕ × Step). is_unread at.1) (zip (range_with_len start (length (steps_of events))) (steps_of events))) ≡ []
none_before start behind [] all = refl
none_before start behind (event ∷ events) all =
    let rest = filter (λ (at : ℕ × Step). is_unread at.1) (zip (range_with_len (start + 1) (length (steps_of events))) (steps_of events)) in
    ap (λ b. map behind (cond b ((start, noted_as event) ∷ rest) rest)) all.0 ∙ none_before (start + 1) behind events all.1

pub none_unread : DoingsAreFollowed → EventsAddThis → NoneIsUnread
none_unread follows adds W d facts read = ap (λ (run : Run). list_all (λ (run : NodeRun). list_all (may_be_unread W.settings run) (before_unreads run.state.log)) run.nodes) (follows W d facts) ∙ each d.nodes read
  where
    each : (nodes : List NodeDoings) → AllByRecursion (λ (n : NodeDoings). AllByRecursion IsRead (all_events n)) nodes
        → list_all (λ (run : NodeRun). list_all (may_be_unread W.settings run) (before_unreads run.state.log)) (map (node_at_end W (journal_of W d)) nodes) ≡ true
    each [] all = refl
    each (n ∷ nodes) all =
        let run = node_at_end W (journal_of W d) n in
        and_from (list_all (may_be_unread W.settings run) (before_unreads run.state.log)) _
        (ap (λ (log : List Step). list_all (may_be_unread W.settings run) (before_unreads log)) (own_log adds W.settings n.node (all_events n))
        ∙ ap (list_all (may_be_unread W.settings run)) (none_before 0 (λ (at : ℕ × Step). take at.0 (steps_of (all_events n))) (all_events n) all.0))
        (each nodes all.1)
