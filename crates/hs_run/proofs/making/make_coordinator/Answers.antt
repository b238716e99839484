use Rattle.hs_records.specs.declared.setting.Setting.TheVariants as words
use Rattle.hs_run.proofs.making.make_coordinator.Goals as goal

pub make-requires : goal.make-requires
make-requires c = (c.requires.head words.Nodes).1
