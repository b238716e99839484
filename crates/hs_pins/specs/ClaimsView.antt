-- How the claims lie in their fields.
use Rattle.std.specs.Prelude.{◌-◌, length, map, slice_get}
use Rattle.indexmap.specs.IndexMap.{spare}
use Rattle.hs_pins.specs.declared.claims.Claims.TheInside.{Inside}
use Rattle.hs_pins.specs.ClaimsLayout.{ClaimList, claim_from, AreNoted, AreNamed}

abbrev pub claims_in : Inside → ClaimList
claims_in a =
    record {
      claims = map (claim_from a.parties.items) a.notes.entries;
      room = spare a.notes;
      seats = a.parties.room - length a.parties.items;
      last = slice_get a.parties.items (length a.parties.items - 1);
    }

-- Each noted party is there, and none is there without a claim.
pub record IsClaims (a : Inside) : Type 0 where
  pub noted : AreNoted a.parties.items a.notes.entries
  pub named : AreNamed a.parties.items a.notes.entries
