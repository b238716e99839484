use Rattle.std.proofs.Common.{◌≡◌, ◌+◌, ◌≤◌, true, length, take, drop, fold}
use Rattle.hs_agent.proofs.Prelude.{claim_unclaimed, traces_of, Tagged, Pinning, Kept, Point, with_state}
use Rattle.hs_agent.specs.Asking.{IsClaiming}
use Rattle.hs_agent.proofs.holdings.claiming.claim_all.Given as goal

-- the lead and the laterals so far are claimed, and there is room for the others
abbrev pub invariant-loop-place : goal.invariant-loop-place
invariant-loop-place g l =
    ((kept : Kept g.row.L.Denot) (pins : Pinning (Tagged g.row.L.Denot)) (point : Point g.row.L.Denot) → IsClaiming l.ask (traces_of l.ask) kept pins l.fn.index l.fn.notes.items l.fn.claiming point
    → IsClaiming l.ask (drop l.place l.ask.laterals) kept pins l.index l.notes.items l.claiming
    (with_state (fold (claim_unclaimed l.ask) (claim_unclaimed l.ask point.state l.ask.group.lead) (take l.place l.ask.laterals)) point)) ×
    (length l.ask.laterals ≤ l.claiming.traces + l.place) ×
    (l.notes.keeps ≡ true → length l.notes.items + length l.ask.laterals ≤ l.notes.room + l.place) ×
    (l.claiming.ready ≡ l.fn.claiming.ready) ×
    (l.notes.keeps ≡ l.fn.notes.keeps)
