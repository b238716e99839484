use Rattle.std.proofs.Common.{◌≡◌, ◌<◌, ℕ, Some, slice_get}
use Rattle.hs_run.proofs.Prelude.{PlainClosedAgent, IsClosedAgentBare, NodeWork, PlainWorkload, AllSents, ClosedAgentsStand}
use Rattle.hs_run.proofs.closing.is_bare.Given as goal

abbrev pub invariant-loop-number : goal.invariant-loop-number
invariant-loop-number l =
    (W : PlainWorkload) (sents : AllSents) (works : ℕ → NodeWork) → ClosedAgentsStand W sents works l.nodes.items → (k : ℕ) (shut : PlainClosedAgent) → k < l.number → slice_get l.nodes.items k ≡ Some shut → IsClosedAgentBare W (works k) shut
