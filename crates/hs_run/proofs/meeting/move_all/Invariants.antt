use Rattle.hs_run.proofs.Prelude.{PlainWorkload, RunState, IsHere, Moving}
use Rattle.hs_run.proofs.meeting.move_all.Given as goal

abbrev pub invariant-loop-number : goal.invariant-loop-number
invariant-loop-number l = (W : PlainWorkload) (m : RunState) → IsHere W m l.initial.nodes.items l.initial.coordinator → Moving W m l.number l.initial.nodes.items l.nodes.items l.coordinator
