-- The parts of a claim: a party is a group with its laterals, and stands once for the traces that it claims one after
-- another; of each trace the place of its party is noted, and the nodes to which its crumbs lead.
use Rattle.std.specs.Prelude.{◌≡◌, ◌==◌, ◌+◌, ℕ, ◌<◌, Bool, true, List, [], length, slice_get, Option, Some, unwrap_or, if◌then◌else◌}
use Rattle.std.specs.List.{AllByRecursion, list_any}
use Rattle.hs_base.specs.declared.ids.TraceId.{TraceId}
use Rattle.hs_base.specs.declared.node_set.NodeSet.{NodeSet}
use Rattle.hs_pins.specs.declared.claims.Party.{Party}
use Rattle.hs_pins.specs.declared.claims.ClaimNote.{ClaimNote}
use Rattle.hs_pins.specs.Remembered.{Claim}

-- The claims, and for how many more there is room. A claim of the last party takes that room alone, any other takes a place
-- for its party too.
pub record ClaimList : Type 0 where
  pub claims : List Claim
  pub room : ℕ
  -- for how many parties more there is a place, and which party is the last
  pub seats : ℕ
  pub last : Option Party

-- the party has a place, or there is one for it
abbrev pub HasSeat : ClaimList → Party → Type 0
HasSeat list party = list.seats ≡ 0 → list.last ≡ Some party

abbrev pub nobody : Party
nobody = record { group = record { id = record { node = 0; number = 0 }; trigger = record { 0 = 0 }; lead = record { 0 = 0 } }; laterals = [] }

abbrev pub party_at : List Party → ℕ → Party
party_at parties place = unwrap_or (slice_get parties place) nobody

abbrev pub claim_by : Party → TraceId → NodeSet → Claim
claim_by party trace crumbs = record { trace = trace; group = party.group; laterals = party.laterals; crumbs = crumbs }

-- the claim that is noted so
abbrev pub claim_from : List Party → TraceId × ClaimNote → Claim
claim_from parties noted = claim_by (party_at parties noted.1.party) noted.0 noted.1.crumbs

-- each noted party is there
abbrev pub AreNoted : List Party → List (TraceId × ClaimNote) → Type 0
AreNoted parties notes = AllByRecursion (λ (noted : TraceId × ClaimNote). noted.1.party < length parties) notes

-- a claim is noted of the party at the place
abbrev pub is_named : List (TraceId × ClaimNote) → ℕ → Bool
is_named notes place = list_any (λ (noted : TraceId × ClaimNote). noted.1.party == place) notes

-- of each party a claim is noted
abbrev pub AreNamed : List Party → List (TraceId × ClaimNote) → Type 0
AreNamed parties notes = (place : ℕ) → place < length parties → is_named notes place ≡ true

-- ---- a party that goes

-- The party at a place goes, and the last one takes the place.
pub record LastTakes (place : ℕ) (old new : List Party) : Type 0 where
  pub shorter : length new + 1 ≡ length old
  pub at : (k : ℕ) → k < length new → party_at new k ≡ party_at old (if k == place then length new else k)

-- what is noted then of a claim of another party
abbrev pub note_moved : ℕ → ℕ → ClaimNote → ClaimNote
note_moved place last note = record note { party = if note.party == last then place else note.party }
