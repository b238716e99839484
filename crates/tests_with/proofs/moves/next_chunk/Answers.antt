use Rattle.hs_words.specs.Buffers.{buffer_in}
use Rattle.std.proofs.Common.{ap}
use Rattle.hs_live.specs.Live.{Port}
use Rattle.tests_with.specs.Pairs.{links}
use Rattle.tests_with.proofs.Pairs.{links_received}
use Rattle.tests_with.proofs.moves.next_chunk.Goals as goal

pub returns-clause-same : goal.returns-clause-same
returns-clause-same c =
    let only = c.chunk.ensures.only in
    record {
      chunks = links_received c.args.port.now.chunks c.chunk.new.self.chunks (buffer_in c.chunk.result) c.chunk.ensures.received;
      crumbs = ap (λ (p : Port). links p.crumbs) only;
      triggers = ap (λ (p : Port). links p.triggers) only;
      pool = ap (λ (p : Port). p.giver.pool) only;
      size = ap (λ (p : Port). p.giver.size) only;
      drawers = ap (λ (p : Port). p.giver.drawers) only;
    }
