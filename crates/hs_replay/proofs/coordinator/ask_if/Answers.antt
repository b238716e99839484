use Rattle.std.proofs.Common.{cond, sym, ap, ◌∙◌}
use Rattle.hs_replay.proofs.Prelude.{get_there, with_ask}
use Rattle.hs_base.proofs.Places.{set_same}
use Rattle.hs_replay.proofs.coordinator.ask_if.Goals as goal

pub returns-else-contains : goal.returns-else-contains
returns-else-contains c =
    let there = get_there c.args.nodes.now.items c.args.node c.requires.node in
    record {
      before = there.0;
      stood = there.1;
      now = there.0;
      set = sym (set_same c.args.nodes.now.items c.args.node there.0 there.1);
      became = ap (λ b. cond b (with_ask c.args.asks.now.ask there.0) there.0) (sym c.if-contains.false ∙ c.contains.ensures);
    }
