use Rattle.std.proofs.Common.{ℕ}
use Rattle.hs_run.proofs.Prelude.{Messages, NodeWork, PlainWorkload, AllSents, ClosingStands, Passing}
use Rattle.hs_run.proofs.closing.agents_pass.Given as goal

abbrev pub invariant-loop-number : goal.invariant-loop-number
invariant-loop-number l =
    (W : PlainWorkload) (sents : AllSents) (heard : Messages) (works : ℕ → NodeWork) → ClosingStands W sents heard works l.initial.nodes.items l.initial.coordinator
    → Passing W sents heard works l.number l.initial.nodes.items l.nodes.items l.coordinator
