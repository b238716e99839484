use Rattle.std.proofs.Common.{◌≡◌, ◌++◌, map}
use Rattle.hs_agent.proofs.Prelude.{buffer_of, untagged}
use Rattle.hs_agent.proofs.holdings.take_indexed.Given as goal

-- what was taken out so far stands behind the others
abbrev pub invariant-loop-held : goal.invariant-loop-held
invariant-loop-held g l =
    (goal.iterator-loop-held g).can_next l.held-iterator ×
    (goal.iterator-loop-held g).is_finite l.held-iterator ×
    (map (buffer_of {L = g.row.L.Denot} {g = g.L.Token}) l.rest.items
    ≡ map (buffer_of {L = g.row.L.Denot} {g = g.L.Token}) l.fn.rest.items ++ map untagged (map buffer_of l.yielded))
