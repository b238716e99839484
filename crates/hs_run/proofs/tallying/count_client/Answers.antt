use Rattle.std.proofs.Common.{◌≡◌, ℕ, ◌<◌, List, Some, get_or, length, map, set, sym, ap, subst, ◌∙◌, arith, slice_get}
use Rattle.hs_run.proofs.Prelude.{length-map, lent_is, lent_from, indexed, Listing, PlainClientActor, ClientCount, client_count, Operation, operations_at, Op, Workload, operation_of, operations_of, workload_of, no_operations, MayCountClient}
use Rattle.hs_run.proofs.TallyCounting.{operations_here}
use Rattle.hs_run.proofs.tallying.count_client.Goals as goal

-- the operations that are read are those at the place
read_there : (w : Workload) (place : ℕ) (now : List (Listing Op)) (ops : Listing Op) (list : List Op) → place < length (workload_of w).clients → now ≡ w.clients.items → ops ≡ get_or now place ops → list ≡ ops.items
    → map operation_of list ≡ operations_at (workload_of w) place
read_there w place now ops list low same is listed =
    let long = length-map w.clients.items operations_of in
    let there = indexed w.clients.items now place ops same (omega (arith, low, long)) is in
    ap (map operation_of) listed ∙ sym (operations_here w place ops there)

-- the count that is read can be counted on over them
ready : (items now : List ClientCount) (place : ℕ) (ops : List Operation) (list : List Op) (caller : PlainClientActor) → now ≡ items → place < length items → map operation_of list ≡ ops
    → ((count : ClientCount) → slice_get items place ≡ Some count → MayCountClient ops caller count) → MayCountClient (map operation_of list) caller (get_or now place no_operations)
ready items now place ops list caller same low read may =
    subst (λ (l : List Operation). MayCountClient l caller (get_or now place no_operations)) (sym read) (may (get_or now place no_operations) (lent_from items now place no_operations same low))

pub count-counted-requires-clause-few : goal.count-counted-requires-clause-few
count-counted-requires-clause-few c =
    let list = c.as_slice-operations.result.now in
    let read = read_there c.args.workload.now c.args.place c.as_slice.result.now c.index-as_slice-place.result list c.requires.there c.as_slice.ensures c.index-as_slice-place.is c.as_slice-operations.ensures in
    let may = ready c.args.counts.now.items c.as_slice-2.result.now c.args.place (operations_at (workload_of c.args.workload.now) c.args.place) list c.args.caller.now c.as_slice-2.ensures c.requires.counted read c.requires.may in
    let long = length-map list operation_of in
    let few = may.few in
    omega (arith, long, few)

pub count-counted-requires-clause-within : goal.count-counted-requires-clause-within
count-counted-requires-clause-within c =
    let list = c.as_slice-operations.result.now in
    let read = read_there c.args.workload.now c.args.place c.as_slice.result.now c.index-as_slice-place.result list c.requires.there c.as_slice.ensures c.index-as_slice-place.is c.as_slice-operations.ensures in
    let may = ready c.args.counts.now.items c.as_slice-2.result.now c.args.place (operations_at (workload_of c.args.workload.now) c.args.place) list c.args.caller.now c.as_slice-2.ensures c.requires.counted read c.requires.may in
    let long = length-map list operation_of in
    let within = may.within in
    (may.grown, omega (arith, long, within))

pub count-counted-requires-clause-points : goal.count-counted-requires-clause-points
count-counted-requires-clause-points c =
    let list = c.as_slice-operations.result.now in
    let read = read_there c.args.workload.now c.args.place c.as_slice.result.now c.index-as_slice-place.result list c.requires.there c.as_slice.ensures c.index-as_slice-place.is c.as_slice-operations.ensures in
    (ready c.args.counts.now.items c.as_slice-2.result.now c.args.place (operations_at (workload_of c.args.workload.now) c.args.place) list c.args.caller.now c.as_slice-2.ensures c.requires.counted read c.requires.may).points

pub returns : goal.returns
returns c =
    let items = c.args.counts.now.items in
    let list = c.as_slice-operations.result.now in
    let read = read_there c.args.workload.now c.args.place c.as_slice.result.now c.index-as_slice-place.result list c.requires.there c.as_slice.ensures c.index-as_slice-place.is c.as_slice-operations.ensures in
    lent_is items c.as_mut_slice.result.now c.args.place c.count-counted.result c.as_mut_slice.ensures.value
    ∙ ap (λ (x : ClientCount). set items c.args.place x) (c.count-counted.ensures ∙ ap (λ (l : List Operation). client_count l c.args.caller.now) read)
