-- The traces that groups claim at a node, the oldest claim first, with what was said of each last; and the groups, each with the
-- greatest number of a message that speaks of it, and the nodes that such messages named. One claim is looked at at a time.
use Rattle.std.specs.Prelude.{◌≡◌, ℕ, ◌+◌, ◌-◌, max, Bool, true, false, ◌&&◌, ◌||◌, ◌==◌, List, [], ◌∷◌, ◌++◌, length, map, fold, drop, position, slice_get, slice_set, nat_lt, nat_le, Option, Some, None, is_some, if◌then◌else◌, refl}
use Rattle.std.specs.List.{list_any}
use Rattle.std.specs.Option.{option_map_or}
use Rattle.hs_base.specs.declared.ids.TraceId.{TraceId}
use Rattle.hs_base.specs.declared.ids.GroupId.{GroupId}
use Rattle.hs_base.specs.declared.told.Group.{Group}
use Rattle.hs_base.specs.declared.node_set.NodeSet.{NodeSet}
use Rattle.hs_base.specs.NodeSets.{no_nodes, either}
use Rattle.hs_base.specs.Ids.{same_trace}
use Rattle.hs_base.specs.Samples.{t}
use Rattle.hs_wire.specs.declared.message.Standing.{Standing}
use Rattle.hs_wire.specs.declared.message.Wholeness.TheVariants.{WholeSince, UnheardSince}
use Rattle.hs_claimed.specs.declared.answers.StatedClaim.{StatedClaim}
use Rattle.hs_claimed.specs.declared.answers.Claimant.{Claimant}
use Rattle.hs_claimed.specs.declared.answers.ClaimOutcome.{ClaimOutcome}
use Rattle.hs_claimed.specs.declared.answers.ClaimOutcome.TheVariants.{Claimed, Known, Full}
use Rattle.hs_claimed.specs.News.{is_news, word}

pub record PlainClaims : Type 0 where
  -- the most claims
  pub most : ℕ
  -- the oldest first
  pub claims : List StatedClaim
  -- the one that claimed first in front
  pub groups : List Claimant
  -- the claim that is looked at, by its place
  pub place : ℕ

abbrev pub no_claims : ℕ → PlainClaims
no_claims most = record { most = most; claims = []; groups = []; place = 0 }

-- whether two groups are one
abbrev pub same_group : GroupId → GroupId → Bool
same_group a b = a.node == b.node && a.number == b.number

abbrev pub is_of : GroupId → StatedClaim → Bool
is_of group claim = same_group group claim.group

abbrev pub is_the : GroupId → Claimant → Bool
is_the group one = same_group group one.group.id

-- ---- a group claims its traces

-- each lateral once, but for the lead
abbrev pub with_other : TraceId → List TraceId → TraceId → List TraceId
with_other lead others trace = if same_trace trace lead || list_any (same_trace trace) others then others else others ++ trace ∷ []

abbrev pub others : TraceId → List TraceId → List TraceId
others lead laterals = fold (with_other lead) [] laterals

-- the traces of a group, each once: its lead, then its laterals
abbrev pub traces_of : TraceId → List TraceId → List TraceId
traces_of lead laterals = lead ∷ others lead laterals

abbrev pub claim_of : GroupId → TraceId → StatedClaim
claim_of group trace = record { group = group; trace = trace; said = None }

-- a group with so many traces, of which no message speaks
abbrev pub claimant : Group → ℕ → Claimant
claimant group traces = record { group = group; traces = traces; last = None; told = no_nodes }

abbrev pub is_known : PlainClaims → GroupId → Bool
is_known s group = is_some (position (is_the group) s.groups)

-- there are more traces than free places, or as many groups as places
abbrev pub is_full_for : PlainClaims → List TraceId → Bool
is_full_for s traces = nat_lt s.most (length s.claims + length traces) || nat_le s.most (length s.groups)

abbrev pub answer_to_claim : PlainClaims → Group → List TraceId → ClaimOutcome
answer_to_claim s group traces = if is_known s group.id then Known else if is_full_for s traces then Full else Claimed

-- each trace is claimed, or none
abbrev pub with_claims : PlainClaims → Group → List TraceId → PlainClaims
with_claims s group traces = record s { claims = s.claims ++ map (claim_of group.id) traces; groups = s.groups ++ claimant group (length traces) ∷ [] }

abbrev pub after_claim : PlainClaims → Group → List TraceId → PlainClaims
after_claim s group traces = if is_known s group.id || is_full_for s traces then s else with_claims s group traces

-- ---- a message speaks of a group

abbrev pub place_of : PlainClaims → GroupId → Option ℕ
place_of s group = position (is_the group) s.groups

abbrev pub with_number : ℕ → Claimant → Claimant
with_number number one = record one { last = Some (option_map_or (max number) one.last number) }

abbrev pub noted_at : ℕ → List Claimant → ℕ → List Claimant
noted_at number groups place = option_map_or (λ one. slice_set groups place (with_number number one)) (slice_get groups place) groups

abbrev pub after_spoke : PlainClaims → GroupId → ℕ → PlainClaims
after_spoke s group number = record s { groups = option_map_or (noted_at number s.groups) (place_of s group) s.groups }

-- ---- a message names nodes for a group

abbrev pub with_name : NodeSet → ℕ → Claimant → Claimant
with_name nodes number one = record (with_number number one) { told = either one.told nodes }

abbrev pub named_at : NodeSet → ℕ → List Claimant → ℕ → List Claimant
named_at nodes number groups place = option_map_or (λ one. slice_set groups place (with_name nodes number one)) (slice_get groups place) groups

abbrev pub after_named : PlainClaims → GroupId → NodeSet → ℕ → PlainClaims
after_named s group nodes number = record s { groups = option_map_or (named_at nodes number s.groups) (place_of s group) s.groups }

-- the nodes that messages named which speak of a group, if it is known
abbrev pub told_at : List Claimant → ℕ → NodeSet
told_at groups place = option_map_or (λ (one : Claimant). one.told) (slice_get groups place) no_nodes

abbrev pub told_by : PlainClaims → GroupId → NodeSet
told_by s group = option_map_or (told_at s.groups) (place_of s group) no_nodes

-- these nodes, and those that messages named for a claim of the trace
abbrev pub with_told : PlainClaims → TraceId → NodeSet → StatedClaim → NodeSet
with_told s trace nodes claim = if same_trace trace claim.trace then either nodes (told_by s claim.group) else nodes

-- the nodes that messages named which speak of a group that claims the trace
abbrev pub told_in : PlainClaims → TraceId → List StatedClaim → NodeSet
told_in s trace claims = fold (with_told s trace) no_nodes claims

abbrev pub told_for : PlainClaims → TraceId → NodeSet
told_for s trace = told_in s trace s.claims

-- ---- the claim that is looked at

abbrev pub current : PlainClaims → Option StatedClaim
current s = slice_get s.claims s.place

-- whether a standing is of this claim, and news of it
abbrev pub is_about : Standing → StatedClaim → Bool
is_about standing claim = same_group standing.group claim.group && same_trace standing.trace claim.trace

abbrev pub is_news_of : Standing → StatedClaim → Bool
is_news_of standing claim = is_about standing claim && is_news claim.said standing

-- whether it is news of the claim that is looked at
abbrev pub is_news_in : PlainClaims → Standing → Bool
is_news_in s standing = option_map_or (is_news_of standing) (current s) false

abbrev pub with_said : PlainClaims → Standing → StatedClaim → PlainClaims
with_said s standing claim = record s { claims = slice_set s.claims s.place (record claim { said = Some standing }) }

-- it was said by the message of this number
abbrev pub after_said : PlainClaims → Standing → ℕ → PlainClaims
after_said s standing number =
    option_map_or (λ claim. if is_news_of standing claim then after_spoke (with_said s standing claim) standing.group number else s) (current s) s

-- the next claim is looked at, and the first behind the last
abbrev pub advanced : PlainClaims → PlainClaims
advanced s = record s { place = if nat_lt (s.place + 1) (length s.claims) then s.place + 1 else 0 }

-- ---- the group that claimed first is forgotten

abbrev pub oldest : PlainClaims → Option Claimant
oldest s = slice_get s.groups 0

abbrev pub is_above : PlainClaims → ℕ → Bool
is_above s limit = nat_lt limit (length s.claims)

-- its claims are those in front; the claim that is looked at stays, unless it is one of them
abbrev pub without_oldest : PlainClaims → Claimant → PlainClaims
without_oldest s one = record s {
  claims = drop one.traces s.claims;
  groups = drop 1 s.groups;
  place = s.place - one.traces;
}

abbrev pub after_forget : PlainClaims → PlainClaims
after_forget s = option_map_or (without_oldest s) (oldest s) s

-- ---- worked examples: at most four claims

abbrev pub g : ℕ → GroupId
g number = record { node = 0; number = number }

-- the group of this number, with trigger id 1 and this lead
abbrev pub led : (number lead : ℕ) → Group
led number lead = record { id = g number; trigger = record { 0 = 1 }; lead = t lead }

-- group 7 claims trace 9 and its laterals 8 and 3, of which 8 stands there twice, and the lead as well
abbrev seven : PlainClaims
seven = after_claim (no_claims 4) (led 7 9) (traces_of (t 9) (t 8 ∷ t 9 ∷ t 3 ∷ t 8 ∷ []))

each_once : seven.claims ≡ claim_of (g 7) (t 9) ∷ claim_of (g 7) (t 8) ∷ claim_of (g 7) (t 3) ∷ []
each_once = refl

-- another group with two traces has too few places, and one with one trace has none to spare
all_or_none :
    (answer_to_claim seven (led 5 1) (traces_of (t 1) (t 2 ∷ [])) ≡ Full) × (after_claim seven (led 5 1) (traces_of (t 1) (t 2 ∷ [])) ≡ seven) × (answer_to_claim seven (led 7 1) (traces_of (t 1) []) ≡ Known)
    × (answer_to_claim seven (led 5 9) (traces_of (t 9) []) ≡ Claimed)
all_or_none = (refl, refl, refl, refl)

abbrev pub both : PlainClaims
both = after_claim seven (led 5 9) (traces_of (t 9) [])

-- message 4 says that trace 9 is unheard of at this node, for group 7; saying it again, with another horizon, is nothing new
abbrev said_9 : PlainClaims
said_9 = after_said both (word UnheardSince 0 0) 4

says_it_once : (is_news_in both (word UnheardSince 0 0) ≡ true) × (is_news_in said_9 (word UnheardSince 3 0) ≡ false) × (is_news_in said_9 (word WholeSince 3 1) ≡ true) × (is_news_in (advanced said_9) (word WholeSince 3 1) ≡ false)
says_it_once = (refl, refl, refl, refl)

-- the greatest number counts
last_message : (oldest said_9 ≡ Some (record (claimant (led 7 9) 3) { last = Some 4 })) × (oldest (after_spoke (after_spoke said_9 (g 7) 6) (g 7) 5) ≡ Some (record (claimant (led 7 9) 3) { last = Some 6 })) × (oldest both ≡ Some (claimant (led 7 9) 3))
last_message = (refl, refl, refl)

-- messages named nodes 0 and 2 for group 7, and node 1 for group 5: trace 9 is claimed by both, and trace 8 by group 7 alone
abbrev named : PlainClaims
named = after_named (after_named (after_named both (g 7) (record { 0 = 1 }) 3) (g 7) (record { 0 = 4 }) 4) (g 5) (record { 0 = 2 }) 5

told_of_both : (told_for named (t 9) ≡ record { 0 = 7 }) × (told_for named (t 8) ≡ record { 0 = 5 }) × (told_for named (t 1) ≡ no_nodes) × (told_for (after_forget named) (t 9) ≡ record { 0 = 2 })
    × (oldest named ≡ Some (record (claimant (led 7 9) 3) { last = Some 4; told = record { 0 = 5 } }))
told_of_both = (refl, refl, refl, refl, refl)

-- four claims are looked at, one after the other
comes_round : ((advanced (advanced (advanced both))).place ≡ 3) × (advanced (advanced (advanced (advanced both))) ≡ both)
comes_round = (refl, refl)

-- group 7 is forgotten: the claim of group 5 that was looked at still is
forgets_seven : (after_forget (advanced (advanced (advanced both)))).claims ≡ claim_of (g 5) (t 9) ∷ []
forgets_seven = refl

looks_on : ((after_forget (advanced (advanced (advanced both)))).place ≡ 0) × ((after_forget both).place ≡ 0) × (is_above both 3 ≡ true) × (is_above (after_forget both) 3 ≡ false) × (oldest (after_forget both) ≡ Some (claimant (led 5 9) 1))
looks_on = (refl, refl, refl, refl, refl)
