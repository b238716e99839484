use Rattle.std.proofs.Common.{◌≡◌, ◌++◌, take, map}
use Rattle.hs_journal.specs.Statements.{told_statement}
use Rattle.hs_journal.specs.Grammar.{statements_text}
use Rattle.hs_journal.proofs.writer.push_told.Given as goal

abbrev pub invariant-loop-node : goal.invariant-loop-node
invariant-loop-node l = l.out.items ≡ l.initial.out.items ++ statements_text (map told_statement (take l.node-index l.told))
