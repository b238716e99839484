use Rattle.hs_law_agent.proofs.Reporting.{turns_report}
use Rattle.hs_law_agent.proofs.laws.turns_report.Goals as goal

pub returns : goal.returns
returns c = turns_report
