use Rattle.std.proofs.Common.{◌≡◌, length, All, IsSome}
use Rattle.hs_agent.proofs.Prelude.{Pin, Tagged, reported}
use Rattle.hs_agent.proofs.holdings.Holdings.report.Given as goal

-- what is left to report leads to the same
abbrev pub invariant-loop-sent : goal.invariant-loop-sent
invariant-loop-sent g l = (reported l.self ≡ reported l.fn.self) × All (λ (pin : Pin (Tagged g.row.L.Denot)). IsSome pin.chunk.chunk.page) l.self.sent

abbrev pub decreases-loop-sent : goal.decreases-loop-sent
decreases-loop-sent g l = length l.self.sent
