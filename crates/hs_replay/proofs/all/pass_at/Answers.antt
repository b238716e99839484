use Rattle.std.proofs.Common.{get_or, arith}
use Rattle.hs_replay.proofs.Prelude.{on_ok_weaker, lent_is, lent_from}
use Rattle.hs_replay.proofs.all.pass_at.Goals as goal

pub pass-requires : goal.pass-requires
pass-requires c =
    let (W, m, b) = c.requires.between in
    let items = c.args.nodes.now.items in
    let now = c.as_mut_slice.result.now in
    let there = lent_from items now c.args.node c.index-as_mut_slice-node.result c.as_mut_slice.ensures.value c.requires.node in
    (W, m, c.args.node, record { valid = b.valid; reached = b.reached; at = b.behind c.args.node (get_or now c.args.node c.index-as_mut_slice-node.result) there (omega arith) })

pub returns : goal.returns
returns c = λ W m b.
    let items = c.args.nodes.now.items in
    let now = c.as_mut_slice.result.now in
    let there = lent_from items now c.args.node c.index-as_mut_slice-node.result c.as_mut_slice.ensures.value c.requires.node in
    on_ok_weaker c.pass.result
    (λ here.
    record { before = get_or now c.args.node c.index-as_mut_slice-node.result; stood = there; now = c.pass.new.self; set = lent_is items now c.args.node c.pass.new.self c.as_mut_slice.ensures.value; became = here })
    (c.pass.ensures W m c.args.node (record { valid = b.valid; reached = b.reached; at = b.behind c.args.node (get_or now c.args.node c.index-as_mut_slice-node.result) there (omega arith) }))
