use Rattle.std.proofs.Common.{◌≡◌, ◌≤◌, length, map}
use Rattle.hs_pins.proofs.Prelude.{filter, claim_from, AreNoted, AreNamed}
use Rattle.hs_pins.proofs.Parties.{stays, NoneFrom}
use Rattle.hs_pins.proofs.claims.drop_parties.Given as goal

-- No party from here on is of the group, and what stays claimed does.
abbrev pub invariant-loop-place : goal.invariant-loop-place
invariant-loop-place l =
    record {
      within : l.place ≤ length l.parties.items;
      noted : AreNoted l.parties.items l.notes.entries;
      named : AreNamed l.parties.items l.notes.entries;
      none : NoneFrom l.fn.group l.parties.items l.place;
      stay : filter (stays l.fn.group) (map (claim_from l.parties.items) l.notes.entries) ≡ filter (stays l.fn.group) (map (claim_from l.fn.parties.items) l.fn.notes.entries);
    }

abbrev pub decreases-loop-place : goal.decreases-loop-place
decreases-loop-place l = l.place
