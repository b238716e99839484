use Rattle.std.proofs.Common.{refl}
use Rattle.hs_check_follow.proofs.making.make_hearing.Goals as goal

pub returns : goal.returns
returns c =
    record {
      taken = c.in_ok-coordinator.ensures.taken;
      nodes_are = c.in_ok-coordinator.ensures.nodes;
      asks = c.in_ok-asks.ensures;
      counts = c.in_ok-counts.ensures;
      next = refl;
      asked = c.new.ensures.items;
    }
