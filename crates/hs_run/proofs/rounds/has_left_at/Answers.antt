use Rattle.std.proofs.Common.{◌≡◌, ◌+◌, ◌-◌, ◌*◌, ℕ, Bool, true, false, List, Some, length, take, drop, sym, ap, ◌∙◌, arith, slice_get}
use Rattle.hs_run.proofs.Prelude.{length-map, slice_get_within, get_there, Listing, Settings, PlainWorkload, PlainNodeActors, operations_at, place_of, workload_of, operation_of, Op, product_few, few_nodes, TellsNodeLeft, AreClients}
use Rattle.hs_run.specs.Sites.{TellsSiteLeft}
use Rattle.hs_run.proofs.FewTaken.{few_clients}
use Rattle.hs_run.proofs.Clients.{clients_are}
use Rattle.hs_run.proofs.rounds.has_left_at.Goals as goal

-- as many operations
count_of : (W : PlainWorkload) (n number : ℕ) (settings : Settings) (lists : List (Listing Op)) → AreClients W n settings lists → (ops : Listing Op) → slice_get lists number ≡ Some ops
    → length ops.items ≡ length (operations_at W (place_of W.settings.clients n number))
count_of W n number settings lists are ops at = sym (length-map ops.items operation_of) ∙ ap length (are.each number ops at)

tells : (W : PlainWorkload) (n : ℕ) (settings : Settings) (lists : List (Listing Op)) → AreClients W n settings lists → (site : PlainNodeActors) → length site.callers ≡ W.settings.clients → (b : Bool) → TellsSiteLeft lists site b → TellsNodeLeft W n site b
tells W n settings lists are site count true (number, caller, ops, at, found, less) =
    let same = count_of W n number settings lists are ops found in (number, caller, at, omega (arith, less, same))
tells W n settings lists are site count false none = λ number caller at.
    let low = slice_get_within site.callers number caller at in
    let many = are.count in
    let (ops, found) = get_there lists number (omega (arith, low, many, count)) in
    let same = count_of W n number settings lists are ops found in
    let all = none number caller ops at found in
    omega (arith, all, same)

pub overflow_mul-first : goal.overflow_mul-first
overflow_mul-first c =
    let W = workload_of c.args.workload.now in
    let nodes = few_nodes W c.requires.valid in
    let low = c.requires.low in
    let few = product_few c.args.number W.settings.clients (omega (arith, nodes, low)) (few_clients W c.requires.valid) in
    omega (arith, few)

pub returns : goal.returns
returns c =
    let w = c.args.workload.now in
    let first = c.args.number * w.settings.clients in
    tells (workload_of w) c.args.number w.settings (take (first + w.settings.clients - first) (drop first c.as_slice.result.now))
    (clients_are w c.requires.valid c.args.number c.requires.low c.as_slice.result.now c.as_slice.ensures (first + w.settings.clients - first) (omega arith))
    c.args.site.now c.requires.clients c.has_left.result c.has_left.ensures
