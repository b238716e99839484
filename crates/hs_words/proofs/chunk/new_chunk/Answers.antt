use Rattle.std.proofs.Common.{length, arith}
use Rattle.hs_words.proofs.Layouts.{zeros_show_nothing}
use Rattle.hs_words.proofs.chunk.new_chunk.Goals as goal

pub invariant_of-result : goal.invariant_of-result
invariant_of-result c = record {
  least = c.requires.least;
  most = c.requires.most;
  page = zeros_show_nothing c.args.bytes.items (length c.args.bytes.items) (omega (arith, c.requires.least)) c.requires.zeros;
}
