-- How many chunks are made.
use Rattle.std.proofs.Common.{◌≡◌, ℕ, length}
use Rattle.std.proofs.lemmas.List.FromFn.{length-map-range_with_len}
use Rattle.hs_words.specs.Chunks.{clear_chunk, clear_chunks}

pub length_clear : (count size : ℕ) → length (clear_chunks count size) ≡ count
length_clear count size = length-map-range_with_len (clear_chunk size) 0 count
