use Rattle.hs_c.specs.Ports.{KeepsPort, IsOfPool}
use Rattle.hs_c.proofs.cells.give_back.Given as goal

abbrev pub invariant-loop : goal.invariant-loop
invariant-loop l = IsOfPool l.port l.held × KeepsPort l.initial.port l.port
