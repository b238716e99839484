-- What a node says of a claim: how whole its part of the trace is, as far as it heard. It says whole or unheard only where each node to
-- which a crumb of the trace led, as its notes tell, was named to the hub by a message for the claim's group, or for another group that claims
-- the trace.
use Rattle.std.specs.Prelude.{◌≡◌, ℕ, Bool, true, false, ◌||◌, ◌==◌, List, [], ◌∷◌, if◌then◌else◌, refl}
use Rattle.hs_base.specs.declared.node_set.NodeSet.{NodeSet}
use Rattle.hs_base.specs.NodeSets.{has_node, either}
use Rattle.hs_base.specs.Samples.{t}
use Rattle.hs_claimed.specs.declared.answers.StatedClaim.{StatedClaim}
use Rattle.hs_claimed.specs.Claims.{PlainClaims, told_by, told_for, claim_of, g, both, after_named}
use Rattle.hs_whole.specs.Notes.{PlainNotes, standing_of, crumbs_of, whole_9, led_on}
use Rattle.hs_wire.specs.declared.message.Standing.{Standing}
use Rattle.hs_wire.specs.declared.message.Wholeness.{Wholeness}
use Rattle.hs_wire.specs.declared.message.Wholeness.TheVariants.{WholeSince, Lost, UnheardSince, Unknown, Open}

-- whether each of these nodes is among those that were told: no more are in either set
abbrev pub are_told : NodeSet → NodeSet → Bool
are_told crumbs told = (either crumbs told).0 == told.0

-- whether each node to which a crumb of the claim's trace led was named for its group, or for a group that claims the trace
abbrev pub is_told : PlainNotes → PlainClaims → StatedClaim → Bool
is_told notes claims claim = are_told (crumbs_of notes claim.trace) (told_by claims claim.group) || are_told (crumbs_of notes claim.trace) (told_for claims claim.trace)

-- whether this node was named so
abbrev pub was_named : PlainClaims → StatedClaim → ℕ → Bool
was_named claims claim node = has_node (told_by claims claim.group) node || has_node (told_for claims claim.trace) node

abbrev pub told_wholeness : Bool → Wholeness → Wholeness
told_wholeness told WholeSince = if told then WholeSince else Unknown
told_wholeness told Lost = Lost
told_wholeness told UnheardSince = if told then UnheardSince else Unknown
told_wholeness told Unknown = Unknown
told_wholeness told Open = Open

abbrev pub told_standing : Bool → Standing → Standing
told_standing told standing = record standing { wholeness = told_wholeness told standing.wholeness }

abbrev pub node_standing : PlainNotes → PlainClaims → StatedClaim → Standing
node_standing notes claims claim = told_standing (is_told notes claims claim) (standing_of notes claim.trace claim.group)

-- ---- worked examples: group 7 claims traces 9 and 8, crumbs of both led to node 1, and trace 9 is whole otherwise

abbrev nine : StatedClaim
nine = claim_of (g 7) (t 9)

abbrev eight : StatedClaim
eight = claim_of (g 7) (t 8)

-- no message named node 1, or one did
abbrev told_one : PlainClaims
told_one = after_named both (g 7) (record { 0 = 2 }) 4

one_is_told : ((node_standing led_on both nine).wholeness ≡ Unknown) × ((node_standing led_on told_one nine).wholeness ≡ WholeSince)
    × ((node_standing led_on both eight).wholeness ≡ Unknown) × ((node_standing led_on told_one eight).wholeness ≡ UnheardSince)
one_is_told = (refl, refl, refl, refl)

-- group 5 claims trace 9 too: what was named for group 7 counts
of_another : ((node_standing led_on told_one (claim_of (g 5) (t 9))).wholeness ≡ WholeSince) × (was_named told_one (claim_of (g 5) (t 9)) 1 ≡ true) × (was_named told_one (claim_of (g 5) (t 9)) 0 ≡ false)
of_another = (refl, refl, refl)

-- a trace without crumbs asks for none
without_crumbs : (node_standing whole_9 both nine).wholeness ≡ WholeSince
without_crumbs = refl
