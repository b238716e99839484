use Rattle.std.proofs.Common.{ap, map, length, ◌∙◌, arith}
use Rattle.hs_check_follow.proofs.Prelude.{length-map, row_is, place_of, operation_of}
use Rattle.hs_records.specs.Views.{operations_of}
use Rattle.hs_check_follow.proofs.clients.operations_of.Goals as goal

pub bounds-as_slice-place : goal.bounds-as_slice-place
bounds-as_slice-place c =
    let low = c.requires in
    let rows = length-map c.args.workload.now.clients.items operations_of in
    let same = ap length c.as_slice.ensures in
    omega (arith, low, rows, same)

pub returns : goal.returns
returns c =
    let low = c.requires in
    let rows = length-map c.args.workload.now.clients.items operations_of in
    ap (map operation_of) c.as_slice-2.ensures
    ∙ row_is c.args.workload.now.clients.items c.as_slice.result.now operations_of (place_of c.args.workload.now.settings.clients c.args.client.node c.args.client.number) c.index-as_slice-place.result c.as_slice.ensures (omega (arith, low, rows))
    c.index-as_slice-place.is
