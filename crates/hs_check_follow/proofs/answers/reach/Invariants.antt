use Rattle.std.proofs.Common.{◌≡◌, ℕ, ◌+◌, ◌-◌, None, length, slice_index_or}
use Rattle.hs_check_follow.proofs.answers.reach.Given as goal

abbrev pub invariant-places : goal.invariant-places
invariant-places l = (buffer : ℕ) → slice_index_or l.stamps.items buffer None ≡ slice_index_or l.initial.stamps.items buffer None

abbrev pub decreases-places : goal.decreases-places
decreases-places l = l.place + 1 - length l.stamps.items
