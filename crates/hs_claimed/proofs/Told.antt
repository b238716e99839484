-- Over any deeds: what is kept of each group of what messages named is what they named since it claimed.
use Rattle.std.proofs.Common.{◌≡◌, inl, inr, ℕ, ◌+◌, ◌<◌, Bool, true, false, not, ◌&&◌, ◌||◌, List, [], ◌∷◌, ◌++◌, length, get_or, set, drop, position, slice_get, is_some, Option, Some, None, refl, sym, ap, subst, ◌∙◌}
use Rattle.std.specs.Prelude.{if◌then◌else◌}
use Rattle.std.specs.List.{list_any}
use Rattle.std.specs.Option.{option_map_or}
use Rattle.std.proofs.lemmas.List.Quantifiers.{position-Some}
use Rattle.std.proofs.lemmas.Option.{get_or_from_slice_get, slice_get-get_or}
use Rattle.hs_base.proofs.Bools.{by_answer}
use Rattle.hs_base.proofs.Places.{get_set_cases, get_push_cases}
use Rattle.hs_base.specs.declared.ids.TraceId.{TraceId}
use Rattle.hs_base.specs.declared.ids.GroupId.{GroupId}
use Rattle.hs_base.specs.declared.node_set.NodeSet.{NodeSet}
use Rattle.hs_base.specs.declared.told.Group.{Group}
use Rattle.hs_base.specs.NodeSets.{no_nodes, either}
use Rattle.hs_wire.specs.declared.message.Standing.{Standing}
use Rattle.hs_claimed.specs.declared.answers.StatedClaim.{StatedClaim}
use Rattle.hs_claimed.specs.declared.answers.Claimant.{Claimant}
use Rattle.hs_claimed.specs.ClaimsLayout.{AreDistinct}
use Rattle.hs_claimed.specs.Claims.{PlainClaims, same_group, is_the, traces_of, claimant, is_known, is_full_for, with_claims, after_claim, with_number, noted_at, after_spoke, with_name, named_at, after_named, is_news_of, with_said, after_said, without_oldest, after_forget}
use Rattle.hs_claimed.specs.Lives.{ClaimDeed, Claims, Speaks, Names, Says, LooksOn, Forgets, after, claims_after, names_by, named_since, AreTold}
use Rattle.hs_claimed.proofs.Groups.{group_refl, group_same, get_drop, positioned, none_distinct, not_at, push_distinct, drop_distinct, set_distinct}

-- what holds of the groups, where these are the nodes that messages named for each
record Hold (word : GroupId → NodeSet) (groups : List Claimant) : Type 0 where
  distinct : AreDistinct groups
  told : (place : ℕ) (one : Claimant) → slice_get groups place ≡ Some one → one.told ≡ word one.group.id

-- a group that is not known stands nowhere
stands_apart : (groups : List Claimant) (group : GroupId) (place : ℕ) (one : Claimant) → is_some (position (is_the group) groups) ≡ false → slice_get groups place ≡ Some one → same_group group one.group.id ≡ false
stands_apart groups group place one unknown at = not_at groups group place one (sym (positioned (is_the group) groups) ∙ unknown) at

-- ---- a group claims its traces

abbrev anew : (GroupId → NodeSet) → PlainClaims → GroupId → GroupId → NodeSet
anew word s group other = if same_group group other && not (is_known s group) then no_nodes else word other

claims_any : (word : GroupId → NodeSet) (s : PlainClaims) (group : Group) (laterals : List TraceId) → Hold word s.groups
    → Hold (anew word s group.id) (after_claim s group (traces_of group.lead laterals)).groups
claims_any word s group laterals hold = at (is_known s group.id) (is_full_for s (traces_of group.lead laterals)) refl
  where
    and_off : (b : Bool) → (b && false) ≡ false
    and_off true = refl
    and_off false = refl

    as_before : (one : Claimant) → (same_group group.id one.group.id && not (is_known s group.id)) ≡ false → word one.group.id ≡ anew word s group.id one.group.id
    as_before one off = sym (ap (λ b. if b then no_nodes else word one.group.id) off)

    old : is_known s group.id ≡ false → (place : ℕ) (one : Claimant) → slice_get s.groups place ≡ Some one → one.told ≡ anew word s group.id one.group.id
    old unknown place one is = hold.told place one is ∙ as_before one (ap (λ b. b && not (is_known s group.id)) (stands_apart s.groups group.id place one unknown is))

    new : is_known s group.id ≡ false → (place : ℕ) (one : Claimant) → slice_get (s.groups ++ claimant group (length (traces_of group.lead laterals)) ∷ []) place ≡ Some one → one.told ≡ anew word s group.id one.group.id
    new unknown place one is =
        elim (get_push_cases s.groups (claimant group (length (traces_of group.lead laterals))) one place is) [
          | inl before ↦ old unknown place one before
          | inr now ↦
              let on : (same_group group.id one.group.id && not (is_known s group.id)) ≡ true =
              ap (λ (x : Claimant). same_group group.id x.group.id && not (is_known s group.id)) (sym now.1) ∙ ap (λ b. b && not (is_known s group.id)) (group_refl group.id) ∙ ap not unknown in
              ap (λ (x : Claimant). x.told) (sym now.1) ∙ sym (ap (λ b. if b then no_nodes else word one.group.id) on)
        ]

    at : (known full : Bool) → is_known s group.id ≡ known → Hold (anew word s group.id) (if known || full then s else with_claims s group (traces_of group.lead laterals)).groups
    at true full known = record {
      distinct = hold.distinct;
      told = λ place one is. hold.told place one is ∙ as_before one (ap (λ b. same_group group.id one.group.id && not b) known ∙ and_off (same_group group.id one.group.id));
    }
    at false true unknown = record { distinct = hold.distinct; told = old unknown }
    at false false unknown = record {
      distinct = push_distinct s.groups (claimant group (length (traces_of group.lead laterals))) hold.distinct unknown;
      told = new unknown;
    }

-- ---- a message speaks of a group

spoken : (word : GroupId → NodeSet) (groups : List Claimant) (number : ℕ) (o : Option ℕ) → Hold word groups → Hold word (option_map_or (noted_at number groups) o groups)
spoken word groups number None hold = hold
spoken word groups number (Some place) hold = at (slice_get groups place) refl
  where
    at : (o : Option Claimant) → slice_get groups place ≡ o → Hold word (option_map_or (λ one. set groups place (with_number number one)) o groups)
    at None is = hold
    at (Some one) is = record {
      distinct = set_distinct groups place one (with_number number one) hold.distinct is refl;
      told = λ other x found.
          elim (get_set_cases groups place other one (with_number number one) x is found) [
            | inl h ↦ subst (λ (c : Claimant). c.told ≡ word c.group.id) h.1 (hold.told place one is)
            | inr h ↦ hold.told other x h.1
          ];
    }

-- ---- a message names nodes for a group

abbrev more : (GroupId → NodeSet) → GroupId → NodeSet → GroupId → NodeSet
more word group nodes other = if same_group group other then either (word other) nodes else word other

named : (word : GroupId → NodeSet) (groups : List Claimant) (group : GroupId) (nodes : NodeSet) (number : ℕ) → Hold word groups
    → Hold (more word group nodes) (option_map_or (named_at nodes number groups) (position (is_the group) groups) groups)
named word groups group nodes number hold = found (position (is_the group) groups) refl
  where
    aside : (place : ℕ) (one : Claimant) → slice_get groups place ≡ Some one → same_group group one.group.id ≡ false → one.told ≡ more word group nodes one.group.id
    aside place one is off = hold.told place one is ∙ sym (ap (λ b. if b then either (word one.group.id) nodes else word one.group.id) off)

    at : (place : ℕ) → position (is_the group) groups ≡ Some place → (o : Option Claimant) → slice_get groups place ≡ o → Hold (more word group nodes) (option_map_or (λ one. set groups place (with_name nodes number one)) o groups)
    at place there None is = record {
      distinct = hold.distinct;
      told = λ other x found.
          (let within = (position-Some (is_the group) groups place x there).0 in
          let never : None ≡ Some (get_or groups place x) = sym is ∙ slice_get-get_or groups place x within in
          absurd cc);
    }
    at place there (Some one) is =
        let own : same_group group one.group.id ≡ true = ap (is_the group) (sym (get_or_from_slice_get groups place one one is)) ∙ (position-Some (is_the group) groups place one there).1 in
        record {
          distinct = set_distinct groups place one (with_name nodes number one) hold.distinct is refl;
          told = λ other x found.
              elim (get_set_cases groups place other one (with_name nodes number one) x is found) [
                | inl h ↦
                    subst (λ (c : Claimant). c.told ≡ more word group nodes c.group.id) h.1
                    (ap (λ (told : NodeSet). either told nodes) (hold.told place one is) ∙ sym (ap (λ b. if b then either (word one.group.id) nodes else word one.group.id) own))
                | inr h ↦
                    aside other x h.1
                    (by_answer (same_group group x.group.id)
                    (λ y. let same : one.group.id ≡ x.group.id = sym (group_same group one.group.id own) ∙ group_same group x.group.id y in
                    absurd (h.0 (hold.distinct place other one x is h.1 (ap (λ (g : GroupId). same_group g x.group.id) same ∙ group_refl x.group.id))))
                    (λ n. n))
              ];
        }

    found : (o : Option ℕ) → position (is_the group) groups ≡ o → Hold (more word group nodes) (option_map_or (named_at nodes number groups) o groups)
    found None none = record {
      distinct = hold.distinct;
      told = λ place one is. aside place one is (stands_apart groups group place one (ap is_some none) is);
    }
    found (Some place) there = at place there (slice_get groups place) refl

-- ---- a standing is said of the claim that is looked at

says_any : (word : GroupId → NodeSet) (s : PlainClaims) (standing : Standing) (number : ℕ) → Hold word s.groups → Hold word (after_said s standing number).groups
says_any word s standing number hold = at (slice_get s.claims s.place)
  where
    taken : (claim : StatedClaim) (b : Bool) → Hold word (if b then after_spoke (with_said s standing claim) standing.group number else s).groups
    taken claim true = spoken word s.groups number (position (is_the standing.group) s.groups) hold
    taken claim false = hold

    at : (o : Option StatedClaim) → Hold word (option_map_or (λ claim. if is_news_of standing claim then after_spoke (with_said s standing claim) standing.group number else s) o s).groups
    at None = hold
    at (Some claim) = taken claim (is_news_of standing claim)

-- ---- the group that claimed first is forgotten

forgets_any : (word : GroupId → NodeSet) (s : PlainClaims) → Hold word s.groups → Hold word (after_forget s).groups
forgets_any word s hold = at (slice_get s.groups 0)
  where
    at : (o : Option Claimant) → Hold word (option_map_or (without_oldest s) o s).groups
    at None = hold
    at (Some one) = record {
      distinct = drop_distinct 1 s.groups hold.distinct;
      told = λ place x found. hold.told (1 + place) x (get_drop 1 s.groups place x found);
    }

-- ---- and any deeds

by_deed : (word : GroupId → NodeSet) (s : PlainClaims) (deed : ClaimDeed) → Hold word s.groups → Hold (λ group. names_by s group deed (word group)) (after s deed).groups
by_deed word s (Claims group laterals) hold = claims_any word s group laterals hold
by_deed word s (Speaks group number) hold = spoken word s.groups number (position (is_the group) s.groups) hold
by_deed word s (Names group nodes number) hold = named word s.groups group nodes number hold
by_deed word s (Says standing number) hold = says_any word s standing number hold
by_deed word s LooksOn hold = hold
by_deed word s Forgets hold = forgets_any word s hold

all_hold : (most : ℕ) (deeds : List ClaimDeed) → Hold (λ group. named_since most group deeds) (claims_after most deeds).groups
all_hold most [] = record { distinct = none_distinct; told = λ place one is. (let never : None ≡ Some one = is in absurd cc) }
all_hold most (deed ∷ deeds) = by_deed (λ group. named_since most group deeds) (claims_after most deeds) deed (all_hold most deeds)

pub are_told : (most : ℕ) (deeds : List ClaimDeed) → AreTold most deeds
are_told most deeds = (all_hold most deeds).told
