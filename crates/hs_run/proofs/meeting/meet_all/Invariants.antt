use Rattle.hs_run.proofs.Prelude.{FirstChanged, HasMet}
use Rattle.hs_run.proofs.meeting.meet_all.Given as goal

abbrev pub invariant-loop-number : goal.invariant-loop-number
invariant-loop-number l = FirstChanged HasMet l.number l.initial.nodes.items l.nodes.items
