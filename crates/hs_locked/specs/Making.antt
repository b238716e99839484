-- The giver's seat at the table of a new locked pool, and what it knows as the drawers are closed.
use Rattle.std.specs.Prelude.{◌≡◌, ℕ, List, []}
use Rattle.atomic_table.specs.Seated.{TableId}
use Rattle.hs_words.specs.Ends.{Answer}
use Rattle.hs_locked.specs.Views.{GiverSeat, giver_seat_of}
use Rattle.hs_locked.specs.Seats.{PoolSeat, IsSeatAt, IsFree}

-- the seat of a giver that has made so many drawers, and has these allowances for others
abbrev pub making_giver_seat : ℕ → ℕ → ℕ → List ℕ → GiverSeat
making_giver_seat buffers size made spare = record { buffers = buffers; size = size; spare = spare; made = made; closed = []; floor = 0; turns = [] }

pub record IsMaking (table : TableId) (s : PoolSeat) (buffers size made : ℕ) (spare : List ℕ) : Type 0 where
  pub at : IsSeatAt table s
  pub free : IsFree s
  pub post_is : giver_seat_of s.me.0 ≡ making_giver_seat buffers size made spare

-- a giver's seat when drawers with these answers were closed
abbrev pub closed_giver_seat : GiverSeat → List (List Answer) → GiverSeat
closed_giver_seat post lists =
    record {
      buffers = post.buffers;
      size = post.size;
      spare = post.spare;
      made = post.made;
      closed = lists;
      floor = post.floor;
      turns = post.turns;
    }
