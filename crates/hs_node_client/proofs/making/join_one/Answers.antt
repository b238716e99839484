use Rattle.std.proofs.Common.{ap}
use Rattle.hs_node_client.proofs.Prelude.{Core, Leased}
use Rattle.hs_node_client.proofs.Newness.{is_new}
use Rattle.hs_node_client.specs.Making.{rules_by}
use Rattle.hs_node_client.proofs.making.join_one.Goals as goal

pub make-live-requires : goal.make-live-requires
make-live-requires c =
    let rules = rules_by c.args.autos.now.items c.args.triggers.now.items c.args.nodes in
    let core = c.bare-core.ensures.core in
    record {
      new =
          is_new c.args.limits.now rules c.args.giver.now c.args.id c.new-key.result c.bare-core.result c.in_ok-watches.watches.items c.args.drawer c.in_ok-senders.senders c.in_ok-senders.receivers c.requires.fit
          c.requires.size c.requires.drawer c.new-key.ensures c.in_ok-senders.ensures c.in_ok-watches.ensures core;
      first = ap (λ (core : Core Leased). core.renewed) core;
    }
