use Rattle.std.proofs.Common.{◌+◌, ◌-◌, ◌*◌, get_or, arith}
use Rattle.hs_replay.proofs.Prelude.{on_ok_weaker, lent_is, lent_from, workload_of}
use Rattle.hs_replay.proofs.Others.{node_gone, first_few, clients_are}
use Rattle.hs_replay.proofs.all.play_node.Goals as goal

pub overflow_mul-first : goal.overflow_mul-first
overflow_mul-first c =
    let (m, at) = c.requires.at in
    let count = at.nodes_are.count in
    let low = c.requires.node in
    let few = first_few (workload_of c.args.workload.now) at.valid c.args.node (omega (arith, count, low)) in
    omega (arith, few)

pub play_clients-requires : goal.play_clients-requires
play_clients-requires c =
    let (m, at) = c.requires.at in
    let count = at.nodes_are.count in
    let low = c.requires.node in
    let items = c.args.nodes.now.items in
    let now = c.as_mut_slice.result.now in
    let first = c.args.node * c.args.workload.now.settings.clients in (
      workload_of c.args.workload.now,
      m,
      c.args.node,
      record { valid = at.valid; reached = at.reached; at = at.nodes_are.each c.args.node (get_or now c.args.node c.index-as_mut_slice-node.result) (lent_from items now c.args.node c.index-as_mut_slice-node.result c.as_mut_slice.ensures.value low) },
      clients_are c.args.workload.now at.valid c.args.node (omega (arith, count, low)) c.as_slice.result.now c.as_slice.ensures (first + c.args.workload.now.settings.clients - first) (omega arith),
    )

pub returns : goal.returns
returns c = λ m at.
    let W = workload_of c.args.workload.now in
    let count = at.nodes_are.count in
    let low = c.requires.node in
    let items = c.args.nodes.now.items in
    let now = c.as_mut_slice.result.now in
    let there = lent_from items now c.args.node c.index-as_mut_slice-node.result c.as_mut_slice.ensures.value low in
    let first = c.args.node * c.args.workload.now.settings.clients in
    on_ok_weaker c.play_clients.result
    (λ here.
    node_gone c.machines_are_whole.ensures c.clients_go_so.ensures W at.valid m c.args.node items at low _
    (record { before = get_or now c.args.node c.index-as_mut_slice-node.result; stood = there; now = c.play_clients.new.self; set = lent_is items now c.args.node c.play_clients.new.self c.as_mut_slice.ensures.value; became = here }))
    (c.play_clients.ensures W m c.args.node (record { valid = at.valid; reached = at.reached; at = at.nodes_are.each c.args.node (get_or now c.args.node c.index-as_mut_slice-node.result) there })
    (clients_are c.args.workload.now at.valid c.args.node (omega (arith, count, low)) c.as_slice.result.now c.as_slice.ensures (first + c.args.workload.now.settings.clients - first) (omega arith)))
