use Rattle.std.proofs.Common.{ap}
use Rattle.hs_live.specs.Live.{Port}
use Rattle.tests_with.specs.Pairs.{links}
use Rattle.tests_with.proofs.Pairs.{links_received}
use Rattle.tests_with.proofs.moves.next_trigger.Goals as goal

pub returns : goal.returns
returns c =
    let only = c.trigger.ensures.only in
    record {
      chunks = ap (λ (p : Port). links p.chunks) only;
      crumbs = ap (λ (p : Port). links p.crumbs) only;
      triggers = links_received c.args.port.now.triggers c.trigger.new.self.triggers c.trigger.result c.trigger.ensures.received;
      pool = ap (λ (p : Port). p.giver.pool) only;
      size = ap (λ (p : Port). p.giver.size) only;
      drawers = ap (λ (p : Port). p.giver.drawers) only;
    }
