use Rattle.std.proofs.Common.{sym, ◌∙◌, arith}
use Rattle.hs_run.proofs.Prelude.{is_point, operation_of}
use Rattle.hs_run.proofs.Sums.{counts_it, leaves_it}
use Rattle.hs_run.proofs.client.points_on.Goals.{then-is_record, else-is_record}
use Rattle.hs_run.proofs.client.points_on.Goals as goal

pub loop-place-preserved : goal.loop-place-preserved
loop-place-preserved c =
    let ops = c.args.operations.now in
    let place = c.loop-place.place in
    let op = c.index-operations-place.result in
    elim c.if-is_record.branch [
      | then-is_record w ↦ counts_it operation_of is_point ops place op (omega (arith, c.loop-place-test.true, c.requires.within)) c.index-operations-place.is c.loop-place.points c.if-is_record.points c.loop-place.invariant (sym c.is_record.ensures ∙ w.if-is_record.true) w.points-is
      | else-is_record w ↦ leaves_it operation_of is_point ops place op (omega (arith, c.loop-place-test.true, c.requires.within)) c.index-operations-place.is c.loop-place.points c.if-is_record.points c.loop-place.invariant (sym c.is_record.ensures ∙ w.if-is_record.false) w.points-is
    ]
