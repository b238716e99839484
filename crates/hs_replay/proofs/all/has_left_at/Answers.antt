use Rattle.std.proofs.Common.{◌+◌, ◌-◌, ◌*◌, get_or, arith, sym, ap, ◌∙◌, Some, List}
use Rattle.hs_replay.proofs.Prelude.{slice_get-get_or, workload_of, PlainReplayNode}
use Rattle.hs_replay.proofs.Others.{first_few}
use Rattle.hs_replay.proofs.Scheduled.{has_clients}
use Rattle.hs_replay.proofs.all.has_left_at.Goals as goal

pub overflow_mul-first : goal.overflow_mul-first
overflow_mul-first c =
    let (m, at) = c.requires.at in
    let count = at.nodes_are.count in
    let low = c.requires.node in
    let few = first_few (workload_of c.args.workload.now) at.valid c.args.node (omega (arith, count, low)) in
    omega (arith, few)

pub has_left-requires : goal.has_left-requires
has_left-requires c =
    let (m, at) = c.requires.at in
    let count = at.nodes_are.count in
    let low = c.requires.node in
    let items = c.args.nodes.now.items in
    let node = c.index-as_slice-node.result in
    let first = c.args.node * c.args.workload.now.settings.clients in
    let there = slice_get-get_or items c.args.node node low ∙ ap Some (sym (c.index-as_slice-node.is ∙ ap (λ (l : List PlainReplayNode). get_or l c.args.node node) c.as_slice-2.ensures)) in (
      workload_of c.args.workload.now,
      m,
      c.args.node,
      at.nodes_are.each c.args.node node there,
      has_clients c.args.workload.now at.valid c.args.node (omega (arith, count, low)) c.as_slice.result.now c.as_slice.ensures (first + c.args.workload.now.settings.clients - first) (omega arith),
    )

pub returns : goal.returns
returns c = λ m at.
    let count = at.nodes_are.count in
    let low = c.requires.node in
    let items = c.args.nodes.now.items in
    let node = c.index-as_slice-node.result in
    let first = c.args.node * c.args.workload.now.settings.clients in
    let there = slice_get-get_or items c.args.node node low ∙ ap Some (sym (c.index-as_slice-node.is ∙ ap (λ (l : List PlainReplayNode). get_or l c.args.node node) c.as_slice-2.ensures)) in
    c.has_left.ensures (workload_of c.args.workload.now) m c.args.node (at.nodes_are.each c.args.node node there)
    (has_clients c.args.workload.now at.valid c.args.node (omega (arith, count, low)) c.as_slice.result.now c.as_slice.ensures (first + c.args.workload.now.settings.clients - first) (omega arith))
