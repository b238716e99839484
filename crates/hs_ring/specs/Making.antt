-- The table of a new ring: the words, the slots, and the giver's seat.
use Rattle.std.specs.Prelude.{◌≡◌, ℕ, ◌+◌, List, [], ◌∷◌, ◌++◌, length, map, replicate, Option, Some, None}
use Rattle.std.specs.List.{range_with_len}
use Rattle.atomic_table.specs.Seated.{TableId}
use Rattle.hs_ring.specs.declared.board.TheConstants.{LEVEL}
use Rattle.hs_words.specs.Chunks.{Contents}
use Rattle.hs_words.specs.Ends.{Answer}
use Rattle.hs_ring.specs.Views.{GiverSeat, giver_seat_of}
use Rattle.hs_ring.specs.Seats.{PoolSeat, IsSeatAt, IsFree}

-- the counts, of which none is drawn; then for each buffer one more than its number, then as many entries that are free
abbrev pub first_words : ℕ → List ℕ
first_words n = (n + LEVEL) ∷ range_with_len 1 n ++ replicate n 0

-- the chunks, then as many slots that are empty
abbrev pub first_slots : List Contents → List (Option Contents)
first_slots chunks = map (λ chunk. Some chunk) chunks ++ replicate (length chunks) None

-- the seat of a giver that has made so many drawers, and has these allowances for others
pub record IsMaking (table : TableId) (s : PoolSeat) (size made : ℕ) (spare : List ℕ) : Type 0 where
  pub at : IsSeatAt table s
  pub free : IsFree s
  pub post_is : giver_seat_of s.me.0 ≡ record { size = size; spare = spare; made = made; closed = []; floor = 0; misses = 0; turns = [] }

-- a giver's seat when drawers with these answers were closed
abbrev pub closed_giver_seat : GiverSeat → List (List Answer) → GiverSeat
closed_giver_seat post lists =
    record {
      size = post.size;
      spare = post.spare;
      made = post.made;
      closed = lists;
      floor = post.floor;
      misses = post.misses;
      turns = post.turns;
    }
