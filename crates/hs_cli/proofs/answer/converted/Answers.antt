use Rattle.hs_records.specs.Views.{workload_of}
use Rattle.hs_cli.proofs.answer.converted.Goals as goal

pub write_workload-requires : goal.write_workload-requires
write_workload-requires c = c.versions_are_exchanged.ensures.widens (workload_of c.args.workload) c.requires
