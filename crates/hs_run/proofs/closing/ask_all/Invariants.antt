use Rattle.hs_run.proofs.Prelude.{FirstChanged, IsAsked}
use Rattle.hs_run.proofs.closing.ask_all.Given as goal

abbrev pub invariant-loop-number : goal.invariant-loop-number
invariant-loop-number l = FirstChanged (IsAsked l.coordinator.asks) l.number l.initial.nodes.items l.nodes.items
