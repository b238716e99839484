use Rattle.std.proofs.Common.{◌≡◌, ◌+◌, ◌-◌, ◌*◌, length, map, take, drop, sym, ap, ap₂, ◌∙◌, subst, arith}
use Rattle.hs_run_actors.proofs.Prelude.{length-map, Port, incoming, new_drawers, client_pieces, operations_of, workload_of, NodeBegins, Receiving, lefts_of}
use Rattle.hs_words.specs.Chunks.{clear_chunks}
use Rattle.hs_words.proofs.Chunks.{length_clear}
use Rattle.hs_run_actors.proofs.Clients.{is_sized, are_few, clients_sliced, sum_few, each_few, count_of}
use Rattle.hs_run_actors.proofs.Connecting.{is_port, node_begins}
use Rattle.hs_run_actors.proofs.node.begin_node.Goals as goal

pub allowances_of-requires-clause-least : goal.allowances_of-requires-clause-least
allowances_of-requires-clause-least c = (is_sized (workload_of c.args.workload.now) c.requires.valid).least

pub allowances_of-requires-clause-few : goal.allowances_of-requires-clause-few
allowances_of-requires-clause-few c =
    let w = c.args.workload.now in
    let first = c.args.node * w.settings.clients in
    each_few w.settings.size _ (sum_few w c.args.node _ (clients_sliced w c.requires.valid c.args.node c.requires.low c.as_slice.result.now c.as_slice.ensures (first + w.settings.clients - first) (omega arith)))

pub make-requires-clause-some : goal.make-requires-clause-some
make-requires-clause-some c = (is_sized (workload_of c.args.workload.now) c.requires.valid).some

pub make-requires-clause-few : goal.make-requires-clause-few
make-requires-clause-few c = let sized = is_sized (workload_of c.args.workload.now) c.requires.valid in omega (arith, sized.few)

pub make-requires-clause-least : goal.make-requires-clause-least
make-requires-clause-least c = (is_sized (workload_of c.args.workload.now) c.requires.valid).least

pub make-requires-clause-most : goal.make-requires-clause-most
make-requires-clause-most c = (is_sized (workload_of c.args.workload.now) c.requires.valid).most

pub make-requires-2-clause-some : goal.make-requires-2-clause-some
make-requires-2-clause-some c =
    let s = c.args.workload.now.settings in
    let sized = is_sized (workload_of c.args.workload.now) c.requires.valid in
    omega (arith, ap length c.in_ok-stock.ensures, length_clear s.buffers s.size, sized.some)

pub make-requires-2-clause-few : goal.make-requires-2-clause-few
make-requires-2-clause-few c =
    let s = c.args.workload.now.settings in
    let sized = is_sized (workload_of c.args.workload.now) c.requires.valid in
    omega (arith, ap length c.in_ok-stock.ensures, length_clear s.buffers s.size, sized.few)

pub make-requires-2-clause-clear : goal.make-requires-2-clause-clear
make-requires-2-clause-clear c =
    let s = c.args.workload.now.settings in
    let count = ap length c.in_ok-stock.ensures ∙ length_clear s.buffers s.size in
    (s.size, c.in_ok-stock.ensures ∙ ap (λ k. clear_chunks k s.size) (sym count))

pub make-requires-2-clause-drawers : goal.make-requires-2-clause-drawers
make-requires-2-clause-drawers c =
    let w = c.args.workload.now in
    let first = c.args.node * w.settings.clients in
    let clients = take (first + w.settings.clients - first) (drop first c.as_slice.result.now) in
    let are = clients_sliced w c.requires.valid c.args.node c.requires.low c.as_slice.result.now c.as_slice.ensures (first + w.settings.clients - first) (omega arith) in
    let made = ap length (c.as_slice-2.ensures ∙ c.in_ok-allowances.ensures) in
    let mapped : length (lefts_of w.settings.size clients) ≡ length clients = length-map clients (λ ops. client_pieces w.settings.size (operations_of ops)) in
    omega (arith, made, mapped, count_of w c.args.node clients are, (are_few (workload_of w) c.requires.valid).some)

pub make-requires-2-clause-draws : goal.make-requires-2-clause-draws
make-requires-2-clause-draws c =
    let w = c.args.workload.now in
    let first = c.args.node * w.settings.clients in
    let clients = take (first + w.settings.clients - first) (drop first c.as_slice.result.now) in
    let are = clients_sliced w c.requires.valid c.args.node c.requires.low c.as_slice.result.now c.as_slice.ensures (first + w.settings.clients - first) (omega arith) in
    let few = sum_few w c.args.node clients are in
    omega (arith, few, ap Rattle.std.specs.Prelude.sum (c.as_slice-2.ensures ∙ c.in_ok-allowances.ensures))

pub connect_all-requires-clause-size : goal.connect_all-requires-clause-size
connect_all-requires-clause-size c =
    let s = c.args.workload.now.settings in
    let count = ap length c.in_ok-stock.ensures ∙ length_clear s.buffers s.size in
    let ends = c.in_ok-giver.ensures s.size (c.in_ok-stock.ensures ∙ ap (λ k. clear_chunks k s.size) (sym count)) in
    ap (λ g. g.size) ends.giver_is

pub connect_all-requires-clause-drawers : goal.connect_all-requires-clause-drawers
connect_all-requires-clause-drawers c =
    let s = c.args.workload.now.settings in
    let count = ap length c.in_ok-stock.ensures ∙ length_clear s.buffers s.size in
    let ends = c.in_ok-giver.ensures s.size (c.in_ok-stock.ensures ∙ ap (λ k. clear_chunks k s.size) (sym count)) in
    ends.drawers_are ∙ ap₂ (λ n lefts. new_drawers c.in_ok-giver.giver.pool n s.size 0 lefts) count (c.as_slice-2.ensures ∙ c.in_ok-allowances.ensures)

pub make-port-requires : goal.make-port-requires
make-port-requires c =
    let W = workload_of c.args.workload.now in
    let ends = c.in_ok-callers.field-0 in
    let few = are_few W c.requires.valid in
    is_port W c.args.node c.in_ok-giver.giver ends.callers.items (record { chunks = map incoming ends.chunks.items; crumbs = ends.crumbs.items; triggers = ends.triggers.items }) c.in_ok-callers.ensures few.some few.clients

pub returns : goal.returns
returns c =
    let w = c.args.workload.now in
    let W = workload_of w in
    let s = w.settings in
    let first = c.args.node * s.clients in
    let clients = take (first + s.clients - first) (drop first c.as_slice.result.now) in
    let are = clients_sliced w c.requires.valid c.args.node c.requires.low c.as_slice.result.now c.as_slice.ensures (first + s.clients - first) (omega arith) in
    let count = ap length c.in_ok-stock.ensures ∙ length_clear s.buffers s.size in
    let made = c.in_ok-giver.ensures s.size (c.in_ok-stock.ensures ∙ ap (λ k. clear_chunks k s.size) (sym count)) in
    let many : length c.as_slice-2.result.now ≡ s.clients = ap length (c.as_slice-2.ensures ∙ c.in_ok-allowances.ensures) ∙ length-map clients _ ∙ count_of w c.args.node clients are in
    let ends = c.in_ok-callers.field-0 in
    let receiving : Receiving = record { chunks = map incoming ends.chunks.items; crumbs = ends.crumbs.items; triggers = ends.triggers.items } in
    let port : Port = record { giver = c.in_ok-giver.giver; chunks = receiving.chunks; crumbs = receiving.crumbs; triggers = receiving.triggers } in
    subst (λ (p : Port). NodeBegins W c.args.node ends.callers.items p) (sym c.make-port.ensures)
    (node_begins W c.args.node c.in_ok-giver.giver (length c.in_ok-stock.stock.items) (length c.as_slice-2.result.now) ends.callers.items receiving made.giver_is count many c.in_ok-callers.ensures)
