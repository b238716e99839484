use Rattle.std.proofs.Common.{◌≡◌, ◌++◌, length, sym, ap, ◌∙◌, arith}
use Rattle.hs_compare.proofs.Prelude.{length-map, client_at, comings_of, operations_at, workload_of, operations_of, first_comings}
use Rattle.hs_compare.proofs.Beginning.{comings_more}
use Rattle.hs_compare.proofs.records.all_records.Goals as goal

pub loop-place-preserved : goal.loop-place-preserved
loop-place-preserved c =
    let W = workload_of c.args.workload.now in
    let place = c.loop-place.place in
    c.in_ok-place_records.ensures ∙ ap (λ cs. cs ++ comings_of (client_at W.settings.clients place) (operations_at W place)) c.loop-place.invariant ∙ sym (comings_more W place)

pub returns : goal.returns
returns c =
    let W = workload_of c.args.workload.now in
    let rows = length-map c.args.workload.now.clients.items operations_of in
    let all : c.loop-place.place ≡ length W.clients = omega (arith, rows) in
    c.loop-place.invariant ∙ ap (first_comings W) all
