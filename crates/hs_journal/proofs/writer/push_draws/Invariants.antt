use Rattle.std.proofs.Common.{◌≡◌, ◌++◌, take, map}
use Rattle.hs_journal.specs.Statements.{draw_statement}
use Rattle.hs_journal.specs.Grammar.{statements_text}
use Rattle.hs_journal.proofs.writer.push_draws.Given as goal

abbrev pub invariant-loop-draw : goal.invariant-loop-draw
invariant-loop-draw l = l.out.items ≡ l.initial.out.items ++ statements_text (map draw_statement (take l.draw-index l.draws))
