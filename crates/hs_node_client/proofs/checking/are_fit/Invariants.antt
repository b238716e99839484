use Rattle.std.proofs.Common.{take}
use Rattle.std.specs.List.{All}
use Rattle.hs_node_client.specs.Fitting.{IsFitAuto}
use Rattle.hs_node_client.proofs.checking.are_fit.Given as goal

abbrev pub invariant-loop-auto : goal.invariant-loop-auto
invariant-loop-auto l = All (IsFitAuto l.triggers) (take l.auto-index l.autos)
