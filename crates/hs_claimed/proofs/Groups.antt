-- Groups by their ids: no group stands twice, so where one is found is where it stands.
use Rattle.std.proofs.Common.{◌≡◌, ◌⊎◌, inl, inr, ℕ, zero, suc, ◌+◌, ◌<◌, Bool, true, false, cond, not, ◌||◌, List, [], ◌∷◌, ◌++◌, length, replicate, drop, get_or, position, slice_get, set, Option, Some, None, is_some, refl, sym, ap, arith, ◌∙◌}
use Rattle.std.specs.Prelude.{nat_lt, nat_eq}
use Rattle.std.specs.List.{list_any, position_or_len}
use Rattle.std.specs.Option.{option_map_or}
use Rattle.std.proofs.lemmas.Bool.{eqb-true, eq-eqb, and_parts, and_from}
use Rattle.std.proofs.lemmas.Option.{same_Some, slice_get_within, slice_get-get_or}
use Rattle.std.proofs.lemmas.List.Sums.{position_or_len_is}
use Rattle.hs_base.proofs.Bools.{by_answer, first_false, second_false}
use Rattle.hs_base.proofs.Places.{get_push_cases, get_set_cases}
use Rattle.hs_base.specs.declared.ids.TraceId.{TraceId}
use Rattle.hs_base.specs.declared.ids.GroupId.{GroupId}
use Rattle.hs_base.specs.Ids.{same_trace}
use Rattle.hs_claimed.specs.declared.answers.Claimant.{Claimant}
use Rattle.hs_claimed.specs.Claims.{same_group, is_the}
use Rattle.hs_claimed.specs.ClaimsLayout.{AreDistinct}

-- ---- ids

pub group_refl : (a : GroupId) → same_group a a ≡ true
group_refl a = and_from _ _ (eq-eqb a.node a.node refl) (eq-eqb a.number a.number refl)

pub group_same : (a b : GroupId) → same_group a b ≡ true → a ≡ b
group_same a b e =
    let parts = and_parts (nat_eq a.node b.node) (nat_eq a.number b.number) e in
    λ i. record { node = eqb-true a.node b.node parts.0 i; number = eqb-true a.number b.number parts.1 i }

pub trace_refl : (a : TraceId) → same_trace a a ≡ true
trace_refl a = eq-eqb a.0 a.0 refl

pub trace_same : (a b : TraceId) → same_trace a b ≡ true → a ≡ b
trace_same a b e = ap (λ (m : ℕ). record { 0 = m }) (eqb-true a.0 b.0 e)

-- ---- lists

-- what stands in one of two lists
pub record IsBehind {A : Type 0} (xs ys : List A) (i : ℕ) (x : A) : Type 0 where
  pub place : ℕ
  pub is : i ≡ length xs + place
  pub there : slice_get ys place ≡ Some x

pub get_both : {A : Type 0} (xs ys : List A) (i : ℕ) (x : A) → slice_get (xs ++ ys) i ≡ Some x → (slice_get xs i ≡ Some x) ⊎ IsBehind xs ys i x
get_both [] ys i x at = inr (record { place = i; is = omega arith; there = at })
get_both (z ∷ xs) ys zero x at = inl at
get_both (z ∷ xs) ys (suc i) x at =
    elim (get_both xs ys i x at) [ inl h ↦ inl h | inr h ↦ inr (record { place = h.place; is = (let is = h.is in omega (arith, is)); there = h.there }) ]

pub get_drop : {A : Type 0} (n : ℕ) (xs : List A) (i : ℕ) (x : A) → slice_get (drop n xs) i ≡ Some x → slice_get xs (n + i) ≡ Some x
get_drop zero xs i x at = let same : 0 + i ≡ i = omega arith in ap (slice_get xs) same ∙ at
get_drop (suc n) [] i x at = let none : None ≡ Some x = at in absurd cc
get_drop (suc n) (y ∷ xs) i x at = let same : suc n + i ≡ suc (n + i) = omega arith in ap (slice_get (y ∷ xs)) same ∙ get_drop n xs i x at

pub get_same : {A : Type 0} (n : ℕ) (y : A) (i : ℕ) (x : A) → slice_get (replicate n y) i ≡ Some x → y ≡ x
get_same zero y i x at = let none : None ≡ Some x = at in absurd cc
get_same (suc n) y zero x at = same_Some y x at
get_same (suc n) y (suc i) x at = get_same n y i x at

pub positioned : {A : Type 0} (p : A → Bool) (xs : List A) → is_some (position p xs) ≡ list_any p xs
positioned {A = A} p xs = shown (nat_lt (position_or_len p xs) (length xs)) (position_or_len p xs) ∙ below xs
  where
    shown : (b : Bool) (n : ℕ) → is_some (cond b (Some n) None) ≡ b
    shown true n = refl
    shown false n = refl

    below : (ys : List A) → nat_lt (position_or_len p ys) (length ys) ≡ list_any p ys
    below [] = refl
    below (y ∷ ys) = at (p y) (below ys)
      where
        at : (b : Bool) → nat_lt (position_or_len p ys) (length ys) ≡ list_any p ys → nat_lt (cond (not b) (1 + position_or_len p ys) 0) (suc (length ys)) ≡ (b || list_any p ys)
        at true rest = grind arith
        at false rest = grind (arith, rest)

pub or_first : (a b : Bool) → a ≡ true → (a || b) ≡ true
or_first true b on = refl
or_first false b on = let never : false ≡ true = on in absurd cc

pub or_second : (a b : Bool) → b ≡ true → (a || b) ≡ true
or_second true b on = refl
or_second false b on = on

-- ---- no group stands twice

-- where a group is that stands at a place
pub stands_here : (groups : List Claimant) (group : GroupId) (place : ℕ) (one : Claimant) → AreDistinct groups → slice_get groups place ≡ Some one → is_the group one ≡ true → position (is_the group) groups ≡ Some place
stands_here groups group place one distinct there named =
    let within = slice_get_within groups place one there in
    let here : get_or groups place one ≡ one = same_Some (get_or groups place one) one (sym (slice_get-get_or groups place one within) ∙ there) in
    let first : position_or_len (is_the group) groups ≡ place =
    position_or_len_is (is_the group) groups place one (omega (arith, within)) (before within) (λ low. ap (is_the group) here ∙ named) in
    let low : nat_lt place (length groups) ≡ true = grind (arith, within) in
    ap (λ n. cond (nat_lt n (length groups)) (Some n) None) first ∙ ap (λ b. cond b (Some place) None) low
  where
    before : place < length groups → (k : ℕ) → k < place → is_the group (get_or groups k one) ≡ false
    before within k low =
        by_answer (is_the group (get_or groups k one))
        (λ y. let at : slice_get groups k ≡ Some (get_or groups k one) = slice_get-get_or groups k one (omega (arith, low, within)) in
        let same : (get_or groups k one).group.id ≡ one.group.id = sym (group_same group (get_or groups k one).group.id y) ∙ group_same group one.group.id named in
        let places = distinct k place (get_or groups k one) one at there (ap (λ (g : GroupId). same_group g one.group.id) same ∙ group_refl one.group.id) in
        absurd (omega (arith, places, low)))
        (λ n. n)

pub none_distinct : AreDistinct []
none_distinct place other a b first second same = let never : None ≡ Some a = first in absurd cc

pub not_at : (groups : List Claimant) (group : GroupId) (place : ℕ) (one : Claimant) → list_any (is_the group) groups ≡ false → slice_get groups place ≡ Some one → is_the group one ≡ false
not_at [] group place one none at = let never : None ≡ Some one = at in absurd cc
not_at (y ∷ groups) group zero one none at = ap (is_the group) (sym (same_Some y one at)) ∙ first_false (is_the group y) (list_any (is_the group) groups) none
not_at (y ∷ groups) group (suc place) one none at = not_at groups group place one (second_false (is_the group y) (list_any (is_the group) groups) none) at

pub push_distinct : (groups : List Claimant) (new : Claimant) → AreDistinct groups → is_some (position (is_the new.group.id) groups) ≡ false → AreDistinct (groups ++ new ∷ [])
push_distinct groups new distinct unknown place other a b first second same =
    let none : list_any (is_the new.group.id) groups ≡ false = sym (positioned (is_the new.group.id) groups) ∙ unknown in
    elim (get_push_cases groups new a place first) [
      | inl old ↦
          elim (get_push_cases groups new b other second) [
            | inl older ↦ distinct place other a b old older same
            | inr newer ↦
                let equal : a.group.id ≡ new.group.id = group_same a.group.id b.group.id same ∙ ap (λ (c : Claimant). c.group.id) (sym newer.1) in
                let on : is_the new.group.id a ≡ true = ap (same_group new.group.id) equal ∙ group_refl new.group.id in
                let never : true ≡ false = sym on ∙ not_at groups new.group.id place a none old in
                absurd cc
          ]
      | inr now ↦
          elim (get_push_cases groups new b other second) [
            | inl older ↦
                let equal : b.group.id ≡ new.group.id = sym (group_same a.group.id b.group.id same) ∙ ap (λ (c : Claimant). c.group.id) (sym now.1) in
                let on : is_the new.group.id b ≡ true = ap (same_group new.group.id) equal ∙ group_refl new.group.id in
                let never : true ≡ false = sym on ∙ not_at groups new.group.id other b none older in
                absurd cc
            | inr newer ↦ sym now.0 ∙ newer.0
          ]
    ]

pub drop_distinct : (n : ℕ) (groups : List Claimant) → AreDistinct groups → AreDistinct (drop n groups)
drop_distinct n groups distinct place other a b first second same =
    let places = distinct (n + place) (n + other) a b (get_drop n groups place a first) (get_drop n groups other b second) same in omega (arith, places)

record Was (groups : List Claimant) (place : ℕ) (x : Claimant) : Type 0 where
  item : Claimant
  there : slice_get groups place ≡ Some item
  group_is : item.group.id ≡ x.group.id

was : (groups : List Claimant) (at : ℕ) (one new : Claimant) → slice_get groups at ≡ Some one → new.group.id ≡ one.group.id → (place : ℕ) (x : Claimant) → slice_get (set groups at new) place ≡ Some x → Was groups place x
was groups at one new here same place x found =
    elim (get_set_cases groups at place one new x here found) [
      | inl h ↦ record { item = one; there = ap (slice_get groups) (sym h.0) ∙ here; group_is = sym same ∙ ap (λ (c : Claimant). c.group.id) h.1 }
      | inr h ↦ record { item = x; there = h.1; group_is = refl }
    ]

pub set_distinct : (groups : List Claimant) (at : ℕ) (one new : Claimant) → AreDistinct groups → slice_get groups at ≡ Some one → new.group.id ≡ one.group.id → AreDistinct (set groups at new)
set_distinct groups at one new distinct here equal place other a b first second same =
    let before = was groups at one new here equal place a first in
    let after = was groups at one new here equal other b second in
    distinct place other before.item after.item before.there after.there
    (ap (λ (g : GroupId). same_group g after.item.group.id) before.group_is ∙ ap (same_group a.group.id) after.group_is ∙ same)

pub found_here : (groups : List Claimant) (group : GroupId) (place : ℕ) → AreDistinct groups → option_map_or (is_the group) (slice_get groups place) false ≡ true → position (is_the group) groups ≡ Some place
found_here groups group place distinct found = at (slice_get groups place) refl found
  where
    at : (o : Option Claimant) → slice_get groups place ≡ o → option_map_or (is_the group) o false ≡ true → position (is_the group) groups ≡ Some place
    at None is found = let never : false ≡ true = found in absurd cc
    at (Some one) is found = stands_here groups group place one distinct is found
