-- How a moment came about by rounds from the beginning: in each all acted, all met, and what was told was moved.
use Rattle.std.specs.Prelude.{◌≡◌, ℕ, suc, ◌<◌}
use Rattle.hs_records.specs.Plain.{PlainWorkload}
use Rattle.hs_run.specs.RunStates.{RunState, IsBegun}
use Rattle.hs_run.specs.Acting.{Acts}
use Rattle.hs_run.specs.Meeting.{AllMeet}
use Rattle.hs_run.specs.Moving.{Moves}

-- The moment behind so many rounds; and the moments in each round, by its number from 0 on, when all had acted and when all had met.
pub record Came (W : PlainWorkload) (rounds : ℕ) (m : RunState) : Type 0 where
  pub at : ℕ → RunState
  pub acted : ℕ → RunState
  pub met : ℕ → RunState
  pub begun : IsBegun W (at 0)
  pub acts : (round : ℕ) → round < rounds → Acts W (at round) (acted round)
  pub meets : (round : ℕ) → round < rounds → AllMeet W (acted round) (met round)
  pub moves : (round : ℕ) → round < rounds → Moves W (met round) (at (suc round))
  pub last : at rounds ≡ m

-- A moment that stands at the beginning came by no round.
abbrev pub NoRoundsCome : Type 0
NoRoundsCome = (W : PlainWorkload) (m : RunState) → IsBegun W m → (came : Came W 0 m) × (came.at 0 ≡ m)

-- A round more leads on, from the same beginning.
abbrev pub RoundsGoOn : Type 0
RoundsGoOn =
    (W : PlainWorkload) (rounds : ℕ) (m acted met m' : RunState) (came : Came W rounds m) → Acts W m acted → AllMeet W acted met → Moves W met m' → (next : Came W (suc rounds) m') × (next.at 0 ≡ came.at 0)

-- And it keeps what led to it.
abbrev pub RoundsKeepWhatCame : Type 0
RoundsKeepWhatCame =
    (W : PlainWorkload) (rounds : ℕ) (m acted met m' : RunState) (came : Came W rounds m) → Acts W m acted → AllMeet W acted met → Moves W met m'
    → (next : Came W (suc rounds) m') × ((k : ℕ) → k < suc rounds → next.at k ≡ came.at k)
