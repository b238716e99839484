use Rattle.std.proofs.Common.{◌≡◌, List, length, map, sym, refl, ap, subst, ◌∙◌, arith}
use Rattle.hs_check_follow.proofs.Prelude.{length-map, row_is, Listing, journal_of, Draw, pages_of, Operation, draws_at, place_of, workload_of, operation_of}
use Rattle.hs_client.specs.Playable.{IsPlayable}
use Rattle.hs_check_follow.proofs.Beginning.{place_below, draws_many, draws_each, client_begins}
use Rattle.hs_check_follow.proofs.making.make_client.Goals as goal

pub bounds-as_slice-place : goal.bounds-as_slice-place
bounds-as_slice-place c =
    let W = workload_of c.args.workload.now in
    let J = journal_of c.args.journal.now in
    let low = place_below W J c.requires.may c.args.client.node c.args.client.number c.requires.node c.requires.number in
    let many = draws_many W J c.requires.may in
    let rows = length-map c.args.journal.now.draws.items (λ (l : Listing Draw). l.items) in
    let same = ap length c.as_slice.ensures in
    omega (arith, low, many, rows, same)

pub send-requires-clause-playable : goal.send-requires-clause-playable
send-requires-clause-playable c =
    let W = workload_of c.args.workload.now in
    let J = journal_of c.args.journal.now in
    let place = place_of W.settings.clients c.args.client.node c.args.client.number in
    let low = place_below W J c.requires.may c.args.client.node c.args.client.number c.requires.node c.requires.number in
    subst (λ (o : List Operation). IsPlayable W.settings o) (sym c.operations_of-operations.ensures) (c.valid_clients_may_be_played.ensures W c.requires.may.valid place low)

pub send-requires-clause-each : goal.send-requires-clause-each
send-requires-clause-each c =
    let W = workload_of c.args.workload.now in
    let J = journal_of c.args.journal.now in
    let place = place_of W.settings.clients c.args.client.node c.args.client.number in
    let low = place_below W J c.requires.may c.args.client.node c.args.client.number c.requires.node c.requires.number in
    let rows' = length-map c.args.journal.now.draws.items (λ (l : Listing Draw). l.items) in
    let many = draws_many W J c.requires.may in
    let draws : c.as_slice-draws.result.now ≡ draws_at J place =
    c.as_slice-draws.ensures ∙ row_is c.args.journal.now.draws.items c.as_slice.result.now (λ (l : Listing Draw). l.items) place c.index-as_slice-place.result c.as_slice.ensures (omega (arith, low, rows', many)) c.index-as_slice-place.is in
    ap length draws ∙ draws_each W J c.requires.may place ∙ ap (λ (o : List Operation). length (pages_of W.settings.size o)) (sym c.operations_of-operations.ensures)

pub returns : goal.returns
returns c =
    let W = workload_of c.args.workload.now in
    let J = journal_of c.args.journal.now in
    let place = place_of W.settings.clients c.args.client.node c.args.client.number in
    let low = place_below W J c.requires.may c.args.client.node c.args.client.number c.requires.node c.requires.number in
    let rows' = length-map c.args.journal.now.draws.items (λ (l : Listing Draw). l.items) in
    let many = draws_many W J c.requires.may in
    let draws : c.as_slice-draws.result.now ≡ draws_at J place =
    c.as_slice-draws.ensures ∙ row_is c.args.journal.now.draws.items c.as_slice.result.now (λ (l : Listing Draw). l.items) place c.index-as_slice-place.result c.as_slice.ensures (omega (arith, low, rows', many)) c.index-as_slice-place.is in
    client_begins W J c.requires.may c.args.client.node c.args.client.number c.args.client refl refl c.requires.node c.requires.number (map operation_of c.operations_of-operations.result.now) c.operations_of-operations.ensures c.as_slice-draws.result.now draws c.in_ok-sending.sending c.in_ok-sending.ensures
