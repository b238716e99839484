use Rattle.std.proofs.Common.{List, length}
use Rattle.hs_check.proofs.Prelude.{NodeRun, PlainSettings, AreAgentsOf}
use Rattle.hs_check.proofs.Finishing.{AreBooksSo}
use Rattle.hs_check.proofs.ending.finish_all.Given as goal

abbrev pub invariant-loop-agent : goal.invariant-loop-agent
invariant-loop-agent l =
    (goal.iterator-loop-agent).can_next l.agent-iterator ×
    (goal.iterator-loop-agent).is_finite l.agent-iterator ×
    ((settings : PlainSettings) (runs : List NodeRun) → AreAgentsOf settings runs l.fn.agents.items → AreBooksSo runs (length l.yielded) l.books.items)
