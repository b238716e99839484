use Rattle.std.proofs.Common.{◌≡◌, ◌++◌, List, length, map, ap, ◌∙◌, arith}
use Rattle.hs_compare.proofs.Prelude.{length-map, row_is, on_ok_map, client_at, Operation, comings_of, operations_at, workload_of, operation_of, operations_of, Nodes, operations_few, coming_of}
use Rattle.hs_compare.proofs.Beginning.{place_low}
use Rattle.hs_compare.proofs.records.place_records.Goals as goal

pub client_at-client-requires-clause-low : goal.client_at-client-requires-clause-low
client_at-client-requires-clause-low c =
    let W = workload_of c.args.workload.now in
    let nodes = (c.requires.valid.head Nodes).1 in
    let rows = length-map c.args.workload.now.clients.items operations_of in
    place_low W c.requires.valid c.args.place (omega (arith, nodes)) (omega (arith, c.requires.low, rows))

pub add_records-requires : goal.add_records-requires
add_records-requires c =
    let W = workload_of c.args.workload.now in
    let rows = length-map c.args.workload.now.clients.items operations_of in
    let is : map operation_of c.as_slice-operations.result.now ≡ operations_at W c.args.place =
    ap (map operation_of) c.as_slice-operations.ensures
    ∙ row_is c.args.workload.now.clients.items c.as_slice.result.now operations_of c.args.place c.index-as_slice-place.result c.as_slice.ensures c.requires.low c.index-as_slice-place.is in
    let playable = c.valid_clients_may_be_played.ensures W c.requires.valid c.args.place (omega (arith, c.requires.low, rows)) in
    omega (arith, playable.few, operations_few W.settings.size (operations_at W c.args.place), ap length is, length-map c.as_slice-operations.result.now operation_of)

pub returns : goal.returns
returns c =
    let W = workload_of c.args.workload.now in
    let is : map operation_of c.as_slice-operations.result.now ≡ operations_at W c.args.place =
    ap (map operation_of) c.as_slice-operations.ensures
    ∙ row_is c.args.workload.now.clients.items c.as_slice.result.now operations_of c.args.place c.index-as_slice-place.result c.as_slice.ensures c.requires.low c.index-as_slice-place.is in
    on_ok_map c.add_records.result _ _
    (λ joins.
    joins ∙ ap (λ client. map coming_of c.args.all.now.items ++ comings_of client (map operation_of c.as_slice-operations.result.now)) c.client_at-client.ensures
    ∙ ap (λ (o : List Operation). map coming_of c.args.all.now.items ++ comings_of (client_at W.settings.clients c.args.place) o) is)
    c.add_records.ensures
