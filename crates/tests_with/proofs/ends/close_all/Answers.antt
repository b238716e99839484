use Rattle.std.proofs.Common.{ap}
use Rattle.hs_live.specs.Live.{Port}
use Rattle.tests_with.proofs.Pairs.{chunk_links}
use Rattle.tests_with.proofs.ends.close_all.Goals as goal

pub left_of-chunks-requires : goal.left_of-chunks-requires
left_of-chunks-requires c =
    chunk_links c.parts-giver.result.chunks.items c.close-book.result.chunks c.args.port c.args.client (ap (λ (p : Port). p.chunks) c.parts-giver.ensures) c.close-book.ensures.chunks c.requires.ends.chunks
