use Rattle.std.proofs.Common.{◌≡◌, ◌+◌, ◌*◌, ◌≤◌, ◌∷◌, take}
use Rattle.hs_agent.specs.Asking.{named_chunks}
use Rattle.hs_agent.proofs.holdings.claiming.chunks_needed.Given as goal

-- the chunks of the lead and of the laterals so far
abbrev pub invariant-loop-place : goal.invariant-loop-place
invariant-loop-place g l =
    (l.named ≡ named_chunks l.index.touched (l.ask.group.lead ∷ take l.place l.ask.laterals)) × (l.named ≤ 4294967296 * (l.place + 1))
