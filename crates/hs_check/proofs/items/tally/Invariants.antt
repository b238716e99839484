use Rattle.std.proofs.Common.{◌≡◌, ℕ, ◌<◌, length, take, get_or}
use Rattle.hs_check.proofs.Prelude.{sent_in}
use Rattle.hs_check.proofs.items.tally.Given as goal

abbrev pub invariant-loop-number : goal.invariant-loop-number
invariant-loop-number l = record {
  many : length l.tally.items ≡ l.rounds;
  each : (round : ℕ) → round < l.rounds → get_or l.tally.items round 0 ≡ sent_in l.stride (take l.number-index l.numbers) round;
}
