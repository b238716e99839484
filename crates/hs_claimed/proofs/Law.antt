-- Over any deeds: what was said last of each claim is its latest news.
use Rattle.std.proofs.Common.{◌≡◌, inl, inr, ℕ, zero, suc, ◌+◌, Bool, true, false, not, ◌&&◌, ◌||◌, List, [], ◌∷◌, ◌++◌, length, map, fold, flat_map, replicate, drop, set, position, slice_get, Option, Some, None, refl, sym, ap, subst, arith, ◌∙◌}
use Rattle.std.specs.Prelude.{if◌then◌else◌}
use Rattle.std.specs.List.{list_any}
use Rattle.std.specs.Option.{option_map_or}
use Rattle.std.proofs.lemmas.Bool.{and_from}
use Rattle.std.proofs.lemmas.Option.{same_Some}
use Rattle.std.proofs.lemmas.List.{length-replicate}
use Rattle.std.proofs.lemmas.List.Concat.{flat_map-append}
use Rattle.hs_base.proofs.Bools.{by_answer, first_false, second_false, first_true, second_true}
use Rattle.hs_base.proofs.Places.{get_map, get_unmap, get_set_cases, get_push_cases, map_set, set_same}
use Rattle.hs_base.proofs.Parts.{map_append, map_drop, drop_front}
use Rattle.hs_base.specs.declared.ids.TraceId.{TraceId}
use Rattle.hs_base.specs.declared.ids.GroupId.{GroupId}
use Rattle.hs_base.specs.declared.told.Group.{Group}
use Rattle.hs_base.specs.declared.node_set.NodeSet.{NodeSet}
use Rattle.hs_base.specs.Ids.{same_trace}
use Rattle.hs_wire.specs.declared.message.Standing.{Standing}
use Rattle.hs_claimed.specs.declared.answers.StatedClaim.{StatedClaim}
use Rattle.hs_claimed.specs.declared.answers.Claimant.{Claimant}
use Rattle.hs_claimed.specs.Claims.{PlainClaims, no_claims, same_group, is_the, with_other, traces_of, claim_of, claimant, is_known, is_full_for, with_claims, after_claim, with_number, after_spoke, with_name, after_named, is_about, is_news_of, is_news_in, with_said, after_said, without_oldest, after_forget}
use Rattle.hs_claimed.proofs.Groups.{group_refl, group_same, trace_refl, trace_same, get_both, get_drop, get_same, positioned, or_first, or_second}
use Rattle.hs_claimed.specs.Lives.{ClaimDeed, Claims, Speaks, Names, Says, LooksOn, Forgets, after, claims_after, news_by, latest_news, same_claim, AreKept}

-- ---- claims stand group by group

abbrev group_of : StatedClaim → GroupId
group_of claim = claim.group

abbrev ids_of : Claimant → List GroupId
ids_of one = replicate one.traces one.group.id

any_in : (groups : List Claimant) (i : ℕ) (group : GroupId) → slice_get (flat_map ids_of groups) i ≡ Some group → list_any (is_the group) groups ≡ true
any_in [] i group at = let none : None ≡ Some group = at in absurd cc
any_in (one ∷ groups) i group at =
    elim (get_both (ids_of one) (flat_map ids_of groups) i group at) [
      | inl h ↦
          let same : one.group.id ≡ group = get_same one.traces one.group.id i group h in
          or_first (same_group group one.group.id) (list_any (is_the group) groups) (subst (λ (x : GroupId). same_group x one.group.id ≡ true) same (group_refl one.group.id))
      | inr h ↦ or_second (same_group group one.group.id) (list_any (is_the group) groups) (any_in groups h.place group h.there)
    ]

abbrev AreTogether : PlainClaims → Type 0
AreTogether s = map group_of s.claims ≡ flat_map ids_of s.groups

known_at : (s : PlainClaims) → AreTogether s → (place : ℕ) (claim : StatedClaim) → slice_get s.claims place ≡ Some claim → is_known s claim.group ≡ true
known_at s together place claim at =
    positioned (is_the claim.group) s.groups
    ∙ any_in s.groups place claim.group (ap (λ (ids : List GroupId). slice_get ids place) (sym together) ∙ get_map group_of s.claims place claim at)

-- ---- each claim once

abbrev AreOnce : List StatedClaim → Type 0
AreOnce claims = (place other : ℕ) (a b : StatedClaim) → slice_get claims place ≡ Some a → slice_get claims other ≡ Some b → same_claim a b ≡ true → place ≡ other

abbrev AreApart : List TraceId → Type 0
AreApart traces = (place other : ℕ) (a b : TraceId) → slice_get traces place ≡ Some a → slice_get traces other ≡ Some b → same_trace a b ≡ true → place ≡ other

not_there : (traces : List TraceId) (trace : TraceId) (place : ℕ) (x : TraceId) → list_any (same_trace trace) traces ≡ false → slice_get traces place ≡ Some x → same_trace trace x ≡ false
not_there [] trace place x none at = let never : None ≡ Some x = at in absurd cc
not_there (y ∷ traces) trace zero x none at = ap (same_trace trace) (sym (same_Some y x at)) ∙ first_false (same_trace trace y) (list_any (same_trace trace) traces) none
not_there (y ∷ traces) trace (suc place) x none at = not_there traces trace place x (second_false (same_trace trace y) (list_any (same_trace trace) traces) none) at

apart_push : (traces : List TraceId) (trace : TraceId) → AreApart traces → list_any (same_trace trace) traces ≡ false → AreApart (traces ++ trace ∷ [])
apart_push traces trace apart none place other a b first second same =
    elim (get_push_cases traces trace a place first) [
      | inl old ↦
          elim (get_push_cases traces trace b other second) [
            | inl older ↦ apart place other a b old older same
            | inr new ↦
                let on : same_trace trace a ≡ true = subst (λ (x : TraceId). same_trace x a ≡ true) (trace_same a b same ∙ sym new.1) (trace_refl a) in
                let off = not_there traces trace place a none old in
                let never : true ≡ false = sym on ∙ off in
                absurd cc
          ]
      | inr new ↦
          elim (get_push_cases traces trace b other second) [
            | inl older ↦
                let on : same_trace trace b ≡ true = subst (λ (x : TraceId). same_trace x b ≡ true) (sym new.1) same in
                let off = not_there traces trace other b none older in
                let never : true ≡ false = sym on ∙ off in
                absurd cc
            | inr newer ↦ sym new.0 ∙ newer.0
          ]
    ]

apart_more : (lead : TraceId) (own laterals : List TraceId) → AreApart (lead ∷ own) → AreApart (lead ∷ fold (with_other lead) own laterals)
apart_more lead own [] apart = apart
apart_more lead own (trace ∷ laterals) apart = apart_more lead (with_other lead own trace) laterals (at (same_trace trace lead || list_any (same_trace trace) own) refl)
  where
    at : (b : Bool) → (same_trace trace lead || list_any (same_trace trace) own) ≡ b → AreApart (lead ∷ (if b then own else own ++ trace ∷ []))
    at true is = apart
    at false is = apart_push (lead ∷ own) trace apart is

one_apart : (lead : TraceId) → AreApart (lead ∷ [])
one_apart lead zero zero a b first second same = refl
one_apart lead zero (suc other) a b first second same = let never : None ≡ Some b = second in absurd cc
one_apart lead (suc place) other a b first second same = let never : None ≡ Some a = first in absurd cc

traces_apart : (lead : TraceId) (laterals : List TraceId) → AreApart (traces_of lead laterals)
traces_apart lead laterals = apart_more lead [] laterals (one_apart lead)

-- ---- a group claims its traces

abbrev SaidBy : (GroupId → TraceId → Option Standing) → List StatedClaim → Type 0
SaidBy word claims = (place : ℕ) (claim : StatedClaim) → slice_get claims place ≡ Some claim → claim.said ≡ word claim.group claim.trace

-- what holds of the claims, where this is what was said last of each
record Hold (word : GroupId → TraceId → Option Standing) (s : PlainClaims) : Type 0 where
  together : AreTogether s
  once : AreOnce s.claims
  said : SaidBy word s.claims

new_ids : (group : GroupId) (traces : List TraceId) → map group_of (map (claim_of group) traces) ≡ replicate (length traces) group
new_ids group [] = refl
new_ids group (trace ∷ traces) = ap (λ (ids : List GroupId). group ∷ ids) (new_ids group traces)

nothing_behind : {A : Type 0} (xs : List A) → xs ++ [] ≡ xs
nothing_behind [] = refl
nothing_behind {A = A} (x ∷ xs) = ap (λ (ys : List A). x ∷ ys) (nothing_behind xs)

together_new : (s : PlainClaims) (group : Group) (traces : List TraceId) → AreTogether s → AreTogether (with_claims s group traces)
together_new s group traces together =
    map_append group_of s.claims (map (claim_of group.id) traces)
    ∙ ap (λ (ids : List GroupId). ids ++ map group_of (map (claim_of group.id) traces)) together
    ∙ ap (λ (ids : List GroupId). flat_map ids_of s.groups ++ ids) (new_ids group.id traces ∙ sym (nothing_behind (replicate (length traces) group.id)))
    ∙ sym (flat_map-append ids_of s.groups (claimant group (length traces) ∷ []))

-- the claims of a group that is not known
module _ (s : PlainClaims) (group : GroupId) (traces : List TraceId) (unknown : is_known s group ≡ false) (together : AreTogether s) where
  other_group : (place : ℕ) (claim : StatedClaim) → slice_get s.claims place ≡ Some claim → same_group claim.group group ≡ false
  other_group place claim at =
      by_answer (same_group claim.group group)
      (λ y. let known : is_known s group ≡ true = subst (λ (x : GroupId). is_known s x ≡ true) (group_same claim.group group y) (known_at s together place claim at) in
      let never : true ≡ false = sym known ∙ unknown in
      absurd cc)
      (λ n. n)

  new_claim : (place : ℕ) (claim : StatedClaim) → slice_get (map (claim_of group) traces) place ≡ Some claim → (trace : TraceId) × (slice_get traces place ≡ Some trace) × (claim_of group trace ≡ claim)
  new_claim place claim at = get_unmap (claim_of group) traces place claim at

  once_new : AreApart traces → AreOnce s.claims → AreOnce (s.claims ++ map (claim_of group) traces)
  once_new apart once place other a b first second same =
      elim (get_both s.claims (map (claim_of group) traces) place a first) [
        | inl old ↦
            elim (get_both s.claims (map (claim_of group) traces) other b second) [
              | inl older ↦ once place other a b old older same
              | inr new ↦
                  let n = new_claim new.place b new.there in
                  let on : same_group a.group group ≡ true = ap (λ (c : StatedClaim). same_group a.group c.group) n.2 ∙ first_true (same_group a.group b.group) (same_trace a.trace b.trace) same in
                  let never : true ≡ false = sym on ∙ other_group place a old in
                  absurd cc
            ]
        | inr new ↦
            let n = new_claim new.place a new.there in
            elim (get_both s.claims (map (claim_of group) traces) other b second) [
              | inl older ↦
                  let both : a.group ≡ b.group = group_same a.group b.group (first_true (same_group a.group b.group) (same_trace a.trace b.trace) same) in
                  let on : same_group b.group group ≡ true = ap (λ (x : GroupId). same_group b.group x) (ap (λ (c : StatedClaim). c.group) n.2 ∙ both) ∙ group_refl b.group in
                  let never : true ≡ false = sym on ∙ other_group other b older in
                  absurd cc
              | inr newer ↦
                  let m = new_claim newer.place b newer.there in
                  let on : same_trace n.0 m.0 ≡ true = ap (λ (c : StatedClaim). same_trace c.trace m.0) n.2 ∙ ap (λ (c : StatedClaim). same_trace a.trace c.trace) m.2 ∙ second_true (same_group a.group b.group) (same_trace a.trace b.trace) same in
                  let places = apart new.place newer.place n.0 m.0 n.1 m.1 on in
                  let one = new.is in
                  let two = newer.is in
                  omega (arith, places, one, two)
            ]
      ]

  -- of a claim of another group the word stays, and of this one there is none
  abbrev anew : (GroupId → TraceId → Option Standing) → GroupId → TraceId → Option Standing
  anew word other trace = if same_group other group && not (is_known s group) then None else word other trace

  said_old : (word : GroupId → TraceId → Option Standing) → SaidBy word s.claims → SaidBy (anew word) s.claims
  said_old word said place claim at = said place claim at ∙ sym (ap (λ b. if b && not (is_known s group) then None else word claim.group claim.trace) (other_group place claim at))

  said_new : (word : GroupId → TraceId → Option Standing) → SaidBy word s.claims → SaidBy (anew word) (s.claims ++ map (claim_of group) traces)
  said_new word said place claim at =
      elim (get_both s.claims (map (claim_of group) traces) place claim at) [
        | inl old ↦ said_old word said place claim old
        | inr new ↦
            let n = new_claim new.place claim new.there in
            let none : claim.said ≡ None = ap (λ (c : StatedClaim). c.said) (sym n.2) in
            let on : (same_group claim.group group && not (is_known s group)) ≡ true =
            and_from _ _ (ap (λ (c : StatedClaim). same_group c.group group) (sym n.2) ∙ group_refl group) (ap not unknown) in
            none ∙ sym (ap (λ b. if b then None else word claim.group claim.trace) on)
      ]

claims_any : (word : GroupId → TraceId → Option Standing) (s : PlainClaims) (group : Group) (laterals : List TraceId) → Hold word s
    → Hold (λ other trace. if same_group other group.id && not (is_known s group.id) then None else word other trace) (after_claim s group (traces_of group.lead laterals))
claims_any word s group laterals hold = at (is_known s group.id) (is_full_for s (traces_of group.lead laterals)) refl
  where
    and_off : (b : Bool) → (b && false) ≡ false
    and_off true = refl
    and_off false = refl

    at : (known full : Bool) → is_known s group.id ≡ known
        → Hold (λ other trace. if same_group other group.id && not (is_known s group.id) then None else word other trace) (if known || full then s else with_claims s group (traces_of group.lead laterals))
    at true full known = record {
      together = hold.together;
      once = hold.once;
      said = λ place claim is.
          hold.said place claim is
          ∙ sym (ap (λ b. if b then None else word claim.group claim.trace) (ap (λ b. same_group claim.group group.id && not b) known ∙ and_off (same_group claim.group group.id)));
    }
    at false true unknown = record {
      together = hold.together;
      once = hold.once;
      said = said_old s group.id (traces_of group.lead laterals) unknown hold.together word hold.said;
    }
    at false false unknown = record {
      together = together_new s group (traces_of group.lead laterals) hold.together;
      once = once_new s group.id (traces_of group.lead laterals) unknown hold.together (traces_apart group.lead laterals) hold.once;
      said = said_new s group.id (traces_of group.lead laterals) unknown hold.together word hold.said;
    }

-- ---- a message speaks of a group

-- a group that changes, and keeps its number and its count of traces
changed_ids : (f : Claimant → Claimant) → ((one : Claimant) → ids_of (f one) ≡ ids_of one) → (groups : List Claimant) (place : ℕ) (one : Claimant) → slice_get groups place ≡ Some one
    → flat_map ids_of (set groups place (f one)) ≡ flat_map ids_of groups
changed_ids f keeps [] place one at = refl
changed_ids f keeps (first ∷ groups) zero one at = ap (λ (ids : List GroupId). ids ++ flat_map ids_of groups) (keeps one ∙ ap ids_of (sym (same_Some first one at)))
changed_ids f keeps (first ∷ groups) (suc place) one at = ap (λ (ids : List GroupId). ids_of first ++ ids) (changed_ids f keeps groups place one at)

same_ids : (f : Claimant → Claimant) → ((one : Claimant) → ids_of (f one) ≡ ids_of one) → (groups : List Claimant) (o : Option ℕ)
    → flat_map ids_of (option_map_or (λ place. option_map_or (λ one. set groups place (f one)) (slice_get groups place) groups) o groups) ≡ flat_map ids_of groups
same_ids f keeps groups None = refl
same_ids f keeps groups (Some place) = at (slice_get groups place) refl
  where
    at : (o : Option Claimant) → slice_get groups place ≡ o → flat_map ids_of (option_map_or (λ one. set groups place (f one)) o groups) ≡ flat_map ids_of groups
    at None is = refl
    at (Some one) is = changed_ids f keeps groups place one is

together_spoke : (s : PlainClaims) (group : GroupId) (number : ℕ) → AreTogether s → AreTogether (after_spoke s group number)
together_spoke s group number together = together ∙ sym (same_ids (with_number number) (λ one. refl) s.groups (position (is_the group) s.groups))

together_named : (s : PlainClaims) (group : GroupId) (nodes : NodeSet) (number : ℕ) → AreTogether s → AreTogether (after_named s group nodes number)
together_named s group nodes number together = together ∙ sym (same_ids (with_name nodes number) (λ one. refl) s.groups (position (is_the group) s.groups))

-- ---- a standing is said of the claim that is looked at

abbrev said_again : (GroupId → TraceId → Option Standing) → Bool → Standing → GroupId → TraceId → Option Standing
said_again word taken standing group trace = if taken && (same_group standing.group group && same_trace standing.trace trace) then Some standing else word group trace

module _ (word : GroupId → TraceId → Option Standing) (s : PlainClaims) (hold : Hold word s) (standing : Standing) (number : ℕ) (claim : StatedClaim) (here : slice_get s.claims s.place ≡ Some claim) (about : is_about standing claim ≡ true) where
  abbrev spoken : StatedClaim
  spoken = record claim { said = Some standing }

  -- what stood at a place before
  record Was (place : ℕ) (x : StatedClaim) : Type 0 where
    item : StatedClaim
    there : slice_get s.claims place ≡ Some item
    group_is : item.group ≡ x.group
    trace_is : item.trace ≡ x.trace

  was : (place : ℕ) (x : StatedClaim) → slice_get (set s.claims s.place spoken) place ≡ Some x → Was place x
  was place x at =
      elim (get_set_cases s.claims s.place place claim spoken x here at) [
        | inl h ↦ record { item = claim; there = ap (slice_get s.claims) (sym h.0) ∙ here; group_is = ap (λ (c : StatedClaim). c.group) h.1; trace_is = ap (λ (c : StatedClaim). c.trace) h.1 }
        | inr h ↦ record { item = x; there = h.1; group_is = refl; trace_is = refl }
      ]

  once_said : AreOnce (set s.claims s.place spoken)
  once_said place other a b first second same =
      let one = was place a first in
      let two = was other b second in
      hold.once place other one.item two.item one.there two.there
      (and_from _ _ (ap (λ (g : GroupId). same_group g two.item.group) one.group_is ∙ ap (same_group a.group) two.group_is ∙ first_true (same_group a.group b.group) (same_trace a.trace b.trace) same)
      (ap (λ (t : TraceId). same_trace t two.item.trace) one.trace_is ∙ ap (same_trace a.trace) two.trace_is ∙ second_true (same_group a.group b.group) (same_trace a.trace b.trace) same))

  said_said : SaidBy (said_again word true standing) (set s.claims s.place spoken)
  said_said place x at =
      elim (get_set_cases s.claims s.place place claim spoken x here at) [
        | inl h ↦
            let on : (same_group standing.group x.group && same_trace standing.trace x.trace) ≡ true = ap (λ (c : StatedClaim). same_group standing.group c.group && same_trace standing.trace c.trace) (sym h.1) ∙ about in
            let now : x.said ≡ Some standing = ap (λ (c : StatedClaim). c.said) (sym h.1) in
            now ∙ sym (ap (λ b. if b then Some standing else word x.group x.trace) on)
        | inr h ↦
            let off : (same_group standing.group x.group && same_trace standing.trace x.trace) ≡ false =
            by_answer (same_group standing.group x.group && same_trace standing.trace x.trace)
            (λ y. let g : standing.group ≡ x.group = group_same standing.group x.group (first_true (same_group standing.group x.group) (same_trace standing.trace x.trace) y) in
            let t : standing.trace ≡ x.trace = trace_same standing.trace x.trace (second_true (same_group standing.group x.group) (same_trace standing.trace x.trace) y) in
            let c : standing.group ≡ claim.group = group_same standing.group claim.group (first_true (same_group standing.group claim.group) (same_trace standing.trace claim.trace) about) in
            let u : standing.trace ≡ claim.trace = trace_same standing.trace claim.trace (second_true (same_group standing.group claim.group) (same_trace standing.trace claim.trace) about) in
            let both : same_claim claim x ≡ true =
            and_from _ _ (ap (λ (a : GroupId). same_group a x.group) (sym c ∙ g) ∙ group_refl x.group) (ap (λ (a : TraceId). same_trace a x.trace) (sym u ∙ t) ∙ trace_refl x.trace) in
            absurd (h.0 (hold.once s.place place claim x here h.1 both)))
            (λ n. n) in
            hold.said place x h.1 ∙ sym (ap (λ b. if b then Some standing else word x.group x.trace) off)
      ]

  together_said : AreTogether (after_spoke (with_said s standing claim) standing.group number)
  together_said =
      together_spoke (with_said s standing claim) standing.group number
      (map_set group_of s.claims s.place spoken ∙ set_same (map group_of s.claims) s.place claim.group (get_map group_of s.claims s.place claim here) ∙ hold.together)

says_any : (word : GroupId → TraceId → Option Standing) (s : PlainClaims) (standing : Standing) (number : ℕ) → Hold word s → Hold (said_again word (is_news_in s standing) standing) (after_said s standing number)
says_any word s standing number hold = at (slice_get s.claims s.place) refl
  where
    same : Hold (said_again word false standing) s
    same = record { together = hold.together; once = hold.once; said = hold.said }

    taken : (claim : StatedClaim) → slice_get s.claims s.place ≡ Some claim → (b : Bool) → is_news_of standing claim ≡ b
        → Hold (said_again word b standing) (if b then after_spoke (with_said s standing claim) standing.group number else s)
    taken claim here true news =
        let about = first_true (is_about standing claim) _ news in
        record {
          together = together_said word s hold standing number claim here about;
          once = once_said word s hold standing number claim here about;
          said = said_said word s hold standing number claim here about;
        }
    taken claim here false news = same

    at : (o : Option StatedClaim) → slice_get s.claims s.place ≡ o
        → Hold (said_again word (option_map_or (is_news_of standing) o false) standing)
        (option_map_or (λ claim. if is_news_of standing claim then after_spoke (with_said s standing claim) standing.group number else s) o s)
    at None is = same
    at (Some claim) is = taken claim is (is_news_of standing claim) refl

-- ---- the group that claimed first is forgotten

forgets_any : (word : GroupId → TraceId → Option Standing) (s : PlainClaims) → Hold word s → Hold word (after_forget s)
forgets_any word s hold = at s.groups refl
  where
    rest_ids : (groups : List Claimant) (one : Claimant) → drop one.traces (ids_of one ++ flat_map ids_of groups) ≡ flat_map ids_of groups
    rest_ids groups one =
        ap (λ n. drop n (ids_of one ++ flat_map ids_of groups)) (sym (length-replicate one.traces one.group.id)) ∙ drop_front (ids_of one) (flat_map ids_of groups)

    at : (groups : List Claimant) → s.groups ≡ groups → Hold word (option_map_or (without_oldest s) (slice_get groups 0) s)
    at [] is = hold
    at (one ∷ groups) is = record {
      together =
          map_drop group_of one.traces s.claims
          ∙ ap (drop one.traces) (hold.together ∙ ap (flat_map ids_of) is)
          ∙ rest_ids groups one
          ∙ sym (ap (λ (gs : List Claimant). flat_map ids_of (drop 1 gs)) is);
      once = λ place other a b first second same.
          (let places = hold.once (one.traces + place) (one.traces + other) a b (get_drop one.traces s.claims place a first) (get_drop one.traces s.claims other b second) same in omega (arith, places));
      said = λ place claim found. hold.said (one.traces + place) claim (get_drop one.traces s.claims place claim found);
    }

-- ---- and any deeds

none_hold : (most : ℕ) → Hold (λ group trace. None) (no_claims most)
none_hold most = record {
  together = refl;
  once = λ place other a b first second same. (let never : None ≡ Some a = first in absurd cc);
  said = λ place claim found. (let never : None ≡ Some claim = found in absurd cc);
}

by_deed : (word : GroupId → TraceId → Option Standing) (s : PlainClaims) (deed : ClaimDeed) → Hold word s → Hold (λ group trace. news_by s group trace deed (word group trace)) (after s deed)
by_deed word s (Claims group laterals) hold = claims_any word s group laterals hold
by_deed word s (Speaks group number) hold = record { together = together_spoke s group number hold.together; once = hold.once; said = hold.said }
by_deed word s (Names group nodes number) hold = record { together = together_named s group nodes number hold.together; once = hold.once; said = hold.said }
by_deed word s (Says standing number) hold = says_any word s standing number hold
by_deed word s LooksOn hold = record { together = hold.together; once = hold.once; said = hold.said }
by_deed word s Forgets hold = forgets_any word s hold

all_hold : (most : ℕ) (deeds : List ClaimDeed) → Hold (λ group trace. latest_news most group trace deeds) (claims_after most deeds)
all_hold most [] = none_hold most
all_hold most (deed ∷ deeds) = by_deed (λ group trace. latest_news most group trace deeds) (claims_after most deeds) deed (all_hold most deeds)

pub are_kept : (most : ℕ) (deeds : List ClaimDeed) → AreKept most deeds
are_kept most deeds =
    let hold = all_hold most deeds in
    record { said = hold.said; once = hold.once; known = known_at (claims_after most deeds) hold.together }
