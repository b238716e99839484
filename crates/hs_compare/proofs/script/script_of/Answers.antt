use Rattle.std.proofs.Common.{map, take, length-take, arith}
use Rattle.hs_compare.proofs.Prelude.{length-map, operation_of}
use Rattle.hs_compare.proofs.Pointed.{records_few}
use Rattle.hs_compare.proofs.script.script_of.Goals as goal

pub take_operation-requires-clause-few : goal.take_operation-requires-clause-few
take_operation-requires-clause-few c =
    let done = take c.loop-number.number c.args.operations.now in
    omega (arith, c.loop-number.invariant.script.gone.count, records_few (map operation_of done), length-map done operation_of, length-take c.loop-number.number c.args.operations.now)
