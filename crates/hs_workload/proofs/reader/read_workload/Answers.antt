use Rattle.hs_workload.proofs.Faultless.{only_this}
use Rattle.hs_workload.proofs.reader.read_workload.Goals as goal

pub returns-clause-only : goal.returns-clause-only
returns-clause-only c = only_this c.args.text.now c.read_lines.result c.read_lines.ensures.found c.read_lines.ensures.refused
