use Rattle.std.proofs.Common.{ap}
use Rattle.hs_live.specs.Live.{Port}
use Rattle.tests_with.specs.Pairs.{links}
use Rattle.tests_with.proofs.Pairs.{links_received}
use Rattle.tests_with.proofs.moves.next_crumb.Goals as goal

pub returns : goal.returns
returns c =
    let only = c.crumb.ensures.only in
    record {
      chunks = ap (λ (p : Port). links p.chunks) only;
      crumbs = links_received c.args.port.now.crumbs c.crumb.new.self.crumbs c.crumb.result c.crumb.ensures.received;
      triggers = ap (λ (p : Port). links p.triggers) only;
      pool = ap (λ (p : Port). p.giver.pool) only;
      size = ap (λ (p : Port). p.giver.size) only;
      drawers = ap (λ (p : Port). p.giver.drawers) only;
    }
