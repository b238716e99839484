use Rattle.hs_law_journal.proofs.StepByStep.{step_by_step}
use Rattle.hs_law_journal.proofs.laws.step_by_step.Goals as goal

pub returns : goal.returns
returns c = step_by_step
