use Rattle.std.proofs.Common.{◌≡◌, ◌*◌, ◌+◌, ◌++◌, map, drop}
use Rattle.hs_check_follow.proofs.Prelude.{flat_map, journal_of, timed_draw, drawn_from}
use Rattle.hs_check_follow.proofs.happened.push_all_drawn.Given as goal

abbrev pub invariant-loop-number : goal.invariant-loop-number
invariant-loop-number l =
    l.events.items ++ flat_map (map timed_draw) (drawn_from (journal_of l.journal) (l.node * l.each + l.number) (drop l.number l.clients))
    ≡ l.fn.events.items ++ flat_map (map timed_draw) (drawn_from (journal_of l.journal) (l.node * l.each) l.clients)
