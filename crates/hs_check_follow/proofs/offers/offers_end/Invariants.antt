use Rattle.std.proofs.Common.{◌≡◌, ◌+◌, length, drop}
use Rattle.hs_check_follow.proofs.Prelude.{passes_of, ends_through}
use Rattle.hs_check_follow.proofs.offers.offers_end.Given as goal

abbrev pub invariant-loop-place : goal.invariant-loop-place
invariant-loop-place l = record {
  is : ends_through (drop l.place l.log) (drop l.pass l.hands) ≡ ends_through l.log l.hands;
  many : length (passes_of (drop l.place l.log)) + l.pass ≡ length l.hands;
}
