use Rattle.std.proofs.Common.{◌≡◌, ◌≤◌}
use Rattle.hs_words.specs.Chunks.{clear_chunks}
use Rattle.hs_words.proofs.chunk.Stock.make.Given as goal

abbrev pub invariant-loop-number : goal.invariant-loop-number
invariant-loop-number l = record {
  made : l.chunks.items ≡ clear_chunks l.number l.size;
  room : l.count ≤ l.chunks.room;
}
