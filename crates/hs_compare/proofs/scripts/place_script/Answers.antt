use Rattle.std.proofs.Common.{◌≡◌, List, length, map, sym, ap, subst, ◌∙◌, arith}
use Rattle.hs_compare.proofs.Prelude.{length-map, IfOk-weaker, row_is, Draw, client_at, pages_of, Operation, draws_at, operations_at, workload_of, operation_of, operations_of, Nodes, IsClientScript}
use Rattle.hs_base.specs.Listing.{Listing}
use Rattle.hs_records.specs.Journals.{journal_of}
use Rattle.hs_client.specs.Playable.{IsPlayable}
use Rattle.hs_compare.proofs.Beginning.{place_low, draws_many, draws_each}
use Rattle.hs_compare.proofs.scripts.place_script.Goals as goal

pub client_at-client-requires-clause-low : goal.client_at-client-requires-clause-low
client_at-client-requires-clause-low c =
    let W = workload_of c.args.workload.now in
    let nodes = (c.requires.may.valid.head Nodes).1 in
    let rows = length-map c.args.workload.now.clients.items operations_of in
    place_low W c.requires.may.valid c.args.place (omega (arith, nodes)) (omega (arith, c.requires.low, rows))

pub bounds-as_slice-place-2 : goal.bounds-as_slice-place-2
bounds-as_slice-place-2 c =
    let W = workload_of c.args.workload.now in
    let J = journal_of c.args.journal.now in
    let many = draws_many W J c.requires.may in
    let rows = length-map c.args.journal.now.draws.items (λ (l : Listing Draw). l.items) in
    let rows' = length-map c.args.workload.now.clients.items operations_of in
    let same = ap length c.as_slice-2.ensures in
    omega (arith, c.requires.low, many, rows, rows', same)

pub client_script-requires-clause-playable : goal.client_script-requires-clause-playable
client_script-requires-clause-playable c =
    let W = workload_of c.args.workload.now in
    let rows = length-map c.args.workload.now.clients.items operations_of in
    let is : map operation_of c.as_slice-operations.result.now ≡ operations_at W c.args.place =
    ap (map operation_of) c.as_slice-operations.ensures
    ∙ row_is c.args.workload.now.clients.items c.as_slice.result.now operations_of c.args.place c.index-as_slice-place.result c.as_slice.ensures c.requires.low c.index-as_slice-place.is in
    subst (λ (o : List Operation). IsPlayable W.settings o) (sym is) (c.valid_clients_may_be_played.ensures W c.requires.may.valid c.args.place (omega (arith, c.requires.low, rows)))

pub client_script-requires-clause-each : goal.client_script-requires-clause-each
client_script-requires-clause-each c =
    let W = workload_of c.args.workload.now in
    let J = journal_of c.args.journal.now in
    let place = c.args.place in
    let rows = length-map c.args.workload.now.clients.items operations_of in
    let rows' = length-map c.args.journal.now.draws.items (λ (l : Listing Draw). l.items) in
    let many = draws_many W J c.requires.may in
    let is : map operation_of c.as_slice-operations.result.now ≡ operations_at W place =
    ap (map operation_of) c.as_slice-operations.ensures
    ∙ row_is c.args.workload.now.clients.items c.as_slice.result.now operations_of place c.index-as_slice-place.result c.as_slice.ensures c.requires.low c.index-as_slice-place.is in
    let draws : c.as_slice-draws.result.now ≡ draws_at J place =
    c.as_slice-draws.ensures
    ∙ row_is c.args.journal.now.draws.items c.as_slice-2.result.now (λ (l : Listing Draw). l.items) place c.index-as_slice-place-2.result c.as_slice-2.ensures (omega (arith, c.requires.low, rows, rows', many)) c.index-as_slice-place-2.is in
    ap length draws ∙ draws_each W J c.requires.may place ∙ ap (λ (o : List Operation). length (pages_of W.settings.size o)) (sym is)

pub returns : goal.returns
returns c =
    let W = workload_of c.args.workload.now in
    let is : map operation_of c.as_slice-operations.result.now ≡ operations_at W c.args.place =
    ap (map operation_of) c.as_slice-operations.ensures
    ∙ row_is c.args.workload.now.clients.items c.as_slice.result.now operations_of c.args.place c.index-as_slice-place.result c.as_slice.ensures c.requires.low c.index-as_slice-place.is in
    IfOk-weaker c.client_script.result _ _
    (λ script found.
    subst (λ (o : List Operation). IsClientScript W.settings.autos (client_at W.settings.clients c.args.place) o script) is
    (subst (λ client. IsClientScript W.settings.autos client (map operation_of c.as_slice-operations.result.now) script) c.client_at-client.ensures found))
    c.client_script.ensures
