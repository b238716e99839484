-- How many rounds and passes the schedule has. After so many rounds every client has done all of its operations, and not before. After
-- so many passes more nothing waits any more, and not before; the journal there is the schedule's.
use Rattle.std.specs.Prelude.{◌≡◌, ℕ, zero, suc, ◌+◌, ◌<◌, ◌≤◌, ◌^◌, true, false, length}
use Rattle.hs_records.specs.Plain.{PlainWorkload}
use Rattle.hs_client.specs.Sending.{operations_at}
use Rattle.hs_records.specs.Validity.{IsValid}
use Rattle.hs_law_journal.specs.Ends.{is_bare, rounds_of}
use Rattle.hs_law_journal.specs.Played.{played}
use Rattle.hs_law_run.specs.Lockstep.{Machine, machine_start, done_at, passes, round, rounds, closing_limit, lockstep}

-- every client has done all of its operations
abbrev pub AllDone : PlainWorkload → Machine → Type 0
AllDone W m = (place : ℕ) → place < length W.clients → done_at m place ≡ length (operations_at W place)

-- A round more is one behind the others, and clients have operations left exactly before the last round.
pub record HasRounds (W : PlainWorkload) (n : ℕ) : Type 0 where
  pub more : rounds (n + 1) W (machine_start W) ≡ round W (rounds n W (machine_start W))
  pub before : AllDone W (rounds n W (machine_start W)) → rounds_of W ≤ n
  pub behind : rounds_of W ≤ n → AllDone W (rounds n W (machine_start W))
  pub few : rounds_of W < 2 ^ 32

abbrev pub RoundsEnd : Type 0
RoundsEnd = (W : PlainWorkload) → IsValid W → (n : ℕ) → HasRounds W n

-- the machine behind all rounds, and behind so many passes more
abbrev pub behind_rounds : PlainWorkload → Machine
behind_rounds W = rounds (rounds_of W) W (machine_start W)

abbrev pub passed : ℕ → PlainWorkload → Machine → Machine
passed zero W m = m
passed (suc n) W m = passes W (passed n W m)

-- Something waits before each pass of the closing, and nothing behind the last.
pub record HasClosing (W : PlainWorkload) : Type 0 where
  pub count : ℕ
  pub waits : (n : ℕ) → n < count → is_bare (played W (passed n W (behind_rounds W)).journal) ≡ false
  pub ends : is_bare (played W (passed count W (behind_rounds W)).journal) ≡ true
  pub is : lockstep W ≡ (passed count W (behind_rounds W)).journal
  pub most : count ≤ closing_limit W
  pub few : closing_limit W < 2 ^ 32

abbrev pub ClosingEnds : Type 0
ClosingEnds = (W : PlainWorkload) → IsValid W → HasClosing W
