use Rattle.std.proofs.lemmas.Result.{IfOk-weaker}
use Rattle.tests_with.proofs.PageLemmas.{none_added}
use Rattle.tests_with.proofs.pages.no_pages.Goals as goal

pub returns-clause-none : goal.returns-clause-none
returns-clause-none c = IfOk-weaker c.make.result _ _ (none_added 0 0) c.make.ensures.empty

pub returns-clause-second : goal.returns-clause-second
returns-clause-second c = IfOk-weaker c.make.result _ _ (none_added 1 1) c.make.ensures.empty
