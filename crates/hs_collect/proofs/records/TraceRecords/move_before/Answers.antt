use Rattle.hs_collect.proofs.Prelude.{placed_of}
use Rattle.hs_collect.proofs.Turning.{rotated}
use Rattle.hs_collect.proofs.records.TraceRecords.move_before.Goals as goal

pub returns : goal.returns
returns c =
    rotated placed_of c.args.self.now.entries.items c.as_mut_slice.result.now c.rotate_left.new.self c.args.place c.args.middle c.as_mut_slice.ensures.value c.requires.order c.requires.within
    c.rotate_left.ensures.after
