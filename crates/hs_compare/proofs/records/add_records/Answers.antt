use Rattle.std.proofs.Common.{map, take, length-take, arith}
use Rattle.hs_compare.proofs.Prelude.{length-map, operation_of}
use Rattle.hs_compare.proofs.Pointed.{records_few}
use Rattle.hs_compare.proofs.records.add_records.Goals as goal

pub add_record-requires : goal.add_record-requires
add_record-requires c =
    let done = take c.loop-number.number c.args.operations.now in
    omega (arith, c.loop-number.invariant.joined.gone.count, records_few (map operation_of done), length-map done operation_of, length-take c.loop-number.number c.args.operations.now)
