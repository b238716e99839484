use Rattle.std.proofs.Common.{◌≡◌, ◌++◌, length, map}
use Rattle.hs_agent.proofs.Prelude.{buffer_of, hand_of, untagged}
use Rattle.hs_agent.proofs.holdings.take_hand.Given as goal

-- what was taken out, and then the hand
abbrev pub invariant-loop-parting : goal.invariant-loop-parting
invariant-loop-parting g l =
    map (buffer_of {L = g.row.L.Denot} {g = g.L.Token}) l.rest.items ++ map untagged (hand_of {L = g.row.L.Denot} {g = g.L.Token} l.hand.items)
    ≡ map (buffer_of {L = g.row.L.Denot} {g = g.L.Token}) l.fn.rest.items ++ map untagged (hand_of {L = g.row.L.Denot} {g = g.L.Token} l.fn.hand.items)

abbrev pub decreases-loop-parting : goal.decreases-loop-parting
decreases-loop-parting g l = length l.hand.items
