use Rattle.hs_replay.proofs.Prelude.{agents_take, agents_give}
use Rattle.hs_replay.proofs.Others.{all_passed, nodes_only}
use Rattle.hs_replay.proofs.all.pass.Goals as goal

pub pass_all-requires : goal.pass_all-requires
pass_all-requires c = let (W, m, at) = c.requires in (W, m, nodes_only W m c.args.nodes.now.items c.args.coordinator.now at)

pub coordinate-requires : goal.coordinate-requires
coordinate-requires c =
    let (W, m, at) = c.requires in (
      W,
      agents_give W (agents_take W m),
      all_passed c.agents_take_so.ensures c.agents_give_so.ensures c.machines_are_whole.ensures W m c.args.nodes.now.items c.args.coordinator.now at c.pass_all.new.nodes.items (c.in_ok-pass_all.ensures W m (nodes_only W m c.args.nodes.now.items c.args.coordinator.now at)),
    )

pub returns : goal.returns
returns c = λ W m at.
    c.coordinate.ensures W (agents_give W (agents_take W m))
    (all_passed c.agents_take_so.ensures c.agents_give_so.ensures c.machines_are_whole.ensures W m c.args.nodes.now.items c.args.coordinator.now at c.pass_all.new.nodes.items (c.in_ok-pass_all.ensures W m (nodes_only W m c.args.nodes.now.items c.args.coordinator.now at)))
