-- The life of a list of claims: calls in any order and number, the latest one first, and what was said last of each claim.
use Rattle.std.specs.Prelude.{◌≡◌, ℕ, zero, suc, ◌<◌, Bool, true, not, ◌&&◌, List, [], ◌∷◌, length, slice_get, Option, Some, None, if◌then◌else◌, refl}
use Rattle.hs_base.specs.declared.ids.TraceId.{TraceId}
use Rattle.hs_base.specs.declared.ids.GroupId.{GroupId}
use Rattle.hs_base.specs.declared.told.Group.{Group}
use Rattle.hs_base.specs.declared.node_set.NodeSet.{NodeSet}
use Rattle.hs_base.specs.NodeSets.{no_nodes, either}
use Rattle.hs_base.specs.Ids.{same_trace}
use Rattle.hs_base.specs.Samples.{t}
use Rattle.hs_wire.specs.declared.message.Standing.{Standing}
use Rattle.hs_wire.specs.declared.message.Wholeness.TheVariants.{WholeSince, UnheardSince}
use Rattle.hs_claimed.specs.declared.answers.StatedClaim.{StatedClaim}
use Rattle.hs_claimed.specs.declared.answers.Claimant.{Claimant}
use Rattle.hs_claimed.specs.News.{word}
use Rattle.hs_claimed.specs.Claims.{PlainClaims, no_claims, same_group, traces_of, is_known, after_claim, after_spoke, after_named, is_news_in, after_said, advanced, after_forget, g, led}

pub data ClaimDeed : Type 0 where
  Claims : (group : Group) → (laterals : List TraceId) → ClaimDeed
  Speaks : (group : GroupId) → (number : ℕ) → ClaimDeed
  Names : (group : GroupId) → (nodes : NodeSet) → (number : ℕ) → ClaimDeed
  Says : (standing : Standing) → (number : ℕ) → ClaimDeed
  LooksOn : ClaimDeed
  Forgets : ClaimDeed

abbrev pub after : PlainClaims → ClaimDeed → PlainClaims
after s (Claims group laterals) = after_claim s group (traces_of group.lead laterals)
after s (Speaks group number) = after_spoke s group number
after s (Names group nodes number) = after_named s group nodes number
after s (Says standing number) = after_said s standing number
after s LooksOn = advanced s
after s Forgets = after_forget s

-- the claims after these deeds
abbrev pub claims_after : ℕ → List ClaimDeed → PlainClaims
claims_after most [] = no_claims most
claims_after most (deed ∷ deeds) = after (claims_after most deeds) deed

-- what was said last of a trace and a group behind a deed, where this was before it: nothing behind a new claim
abbrev pub news_by : PlainClaims → GroupId → TraceId → ClaimDeed → Option Standing → Option Standing
news_by s group trace (Claims other laterals) before = if same_group group other.id && not (is_known s other.id) then None else before
news_by s group trace (Speaks other number) before = before
news_by s group trace (Names other nodes number) before = before
news_by s group trace (Says standing number) before = if is_news_in s standing && (same_group standing.group group && same_trace standing.trace trace) then Some standing else before
news_by s group trace LooksOn before = before
news_by s group trace Forgets before = before

-- the latest standing of a trace and a group that was news and was said, since the group claimed
abbrev pub latest_news : ℕ → GroupId → TraceId → List ClaimDeed → Option Standing
latest_news most group trace [] = None
latest_news most group trace (deed ∷ deeds) = news_by (claims_after most deeds) group trace deed (latest_news most group trace deeds)

-- the nodes that messages named for a group behind a deed, where these were before it: none behind its new claim
abbrev pub names_by : PlainClaims → GroupId → ClaimDeed → NodeSet → NodeSet
names_by s group (Claims other laterals) before = if same_group other.id group && not (is_known s other.id) then no_nodes else before
names_by s group (Speaks other number) before = before
names_by s group (Names other nodes number) before = if same_group other group then either before nodes else before
names_by s group (Says standing number) before = before
names_by s group LooksOn before = before
names_by s group Forgets before = before

-- the nodes that messages named for a group since it claimed
abbrev pub named_since : ℕ → GroupId → List ClaimDeed → NodeSet
named_since most group [] = no_nodes
named_since most group (deed ∷ deeds) = names_by (claims_after most deeds) group deed (named_since most group deeds)

-- whether two claims are of one group and trace
abbrev pub same_claim : StatedClaim → StatedClaim → Bool
same_claim a b = same_group a.group b.group && same_trace a.trace b.trace

-- What holds of the claims after these deeds.
pub record AreKept (most : ℕ) (deeds : List ClaimDeed) : Type 0 where
  -- what was said last of each is its latest news
  pub said : (place : ℕ) (claim : StatedClaim) → slice_get (claims_after most deeds).claims place ≡ Some claim → claim.said ≡ latest_news most claim.group claim.trace deeds
  -- a group claims a trace once
  pub once : (place other : ℕ) (a b : StatedClaim) → slice_get (claims_after most deeds).claims place ≡ Some a → slice_get (claims_after most deeds).claims other ≡ Some b → same_claim a b ≡ true → place ≡ other
  -- the group of each is known, so it is forgotten with its claims
  pub known : (place : ℕ) (claim : StatedClaim) → slice_get (claims_after most deeds).claims place ≡ Some claim → is_known (claims_after most deeds) claim.group ≡ true

-- What is kept of each group of what messages named is all that they named since it claimed.
abbrev pub AreTold : ℕ → List ClaimDeed → Type 0
AreTold most deeds = (place : ℕ) (one : Claimant) → slice_get (claims_after most deeds).groups place ≡ Some one → one.told ≡ named_since most one.group.id deeds

-- so many steps on
abbrev pub steps_on : ℕ → PlainClaims → PlainClaims
steps_on zero s = s
steps_on (suc n) s = advanced (steps_on n s)

-- The claim at a place is looked at after fewer steps than there are claims.
pub record ComesRound (s : PlainClaims) (place : ℕ) : Type 0 where
  pub steps : ℕ
  pub few : steps < length s.claims
  pub there : (steps_on steps s).place ≡ place

-- ---- worked examples: group 7 claims trace 9

abbrev life : List ClaimDeed
life = Says (word WholeSince 6 1) 5 ∷ Says (word UnheardSince 2 0) 4 ∷ Says (word UnheardSince 0 0) 3 ∷ Claims (led 7 9) [] ∷ []

-- the second word was no news
latest : (latest_news 4 (g 7) (t 9) life ≡ Some (word WholeSince 6 1)) × (latest_news 4 (g 7) (t 8) life ≡ None)
latest = (refl, refl)

-- messages named node 0 and node 2 for group 7, and none since it claimed anew
abbrev names : List ClaimDeed
names = Names (g 7) (record { 0 = 4 }) 7 ∷ Names (g 5) (record { 0 = 2 }) 6 ∷ Names (g 7) (record { 0 = 1 }) 5 ∷ Claims (led 7 9) [] ∷ []

since_it_claimed : (named_since 4 (g 7) names ≡ record { 0 = 5 }) × (named_since 4 (g 7) (Claims (led 7 9) [] ∷ Forgets ∷ names) ≡ no_nodes) × (named_since 4 (g 7) (Claims (led 7 9) [] ∷ names) ≡ record { 0 = 5 })
since_it_claimed = (refl, refl, refl)

-- nothing was said of it since it was claimed anew
anew : latest_news 4 (g 7) (t 9) (Claims (led 7 9) [] ∷ Forgets ∷ life) ≡ None
anew = refl
