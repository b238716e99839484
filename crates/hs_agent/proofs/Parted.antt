-- That of chunks that leave one after another what is noted last of each is why it left; and which of them were never offered.
use Rattle.std.proofs.Common.{◌≡◌, ◌≢◌, ℕ, zero, suc, ◌<◌, Bool, true, false, ◌||◌, nat_eq, eq-eqb, List, [], ◌∷◌, ◌++◌, length, map, Option, Some, None, slice_get, slice_set, refl, sym, ap, subst, ◌∙◌, arith, true≢false, append-nil}
use Rattle.hs_agent.proofs.Prelude.{AllByRecursion, option_map_or, option_and_then, option_to_list, append_assoc, map-append, map-map, length-append, all_append, all_weaker, Pin, is_among, Tagged, Placed, place_of, Left, ChunkNote, AreLeft, left_at, with_left, Going, going_buffer, going_left, behind, unoffered}
use Rattle.std.proofs.lemmas.List.{length-set}
use Rattle.hs_base.proofs.Places.{get_front_same}
use Rattle.hs_agent.specs.Trying.{lefts_noted}

-- ---- a write in a list

pub get-apart : {X : Type 0} (xs : List X) (i j : ℕ) (x : X) → i ≢ j → slice_get (slice_set xs i x) j ≡ slice_get xs j
get-apart [] i j x other = refl
get-apart (y ∷ ys) zero zero x other = absurd (other refl)
get-apart (y ∷ ys) zero (suc j) x other = refl
get-apart (y ∷ ys) (suc i) zero x other = refl
get-apart (y ∷ ys) (suc i) (suc j) x other = get-apart ys i j x (λ e. other (ap suc e))

pub get-there : {X : Type 0} (xs : List X) (i : ℕ) (x y : X) → slice_get xs i ≡ Some y → slice_get (slice_set xs i x) i ≡ Some x
get-there [] i x y e = cc
get-there (z ∷ zs) zero x y e = refl
get-there (z ∷ zs) (suc i) x y e = get-there zs i x y e

there : {X : Type 0} (xs : List X) (i : ℕ) → i < length xs → (x : X) × (slice_get xs i ≡ Some x)
there [] i within = absurd (omega (arith, within))
there (x ∷ xs) zero within = (x, refl)
there (x ∷ xs) (suc i) within = there xs i (omega (arith, within))

-- ---- a chunk that leaves

module _ (place : ℕ) (left : Left) (marks : List ChunkNote) where
  abbrev pub left_now : List ChunkNote
  left_now = with_left place (Some left) marks

  pub length-with : length left_now ≡ length marks
  length-with = by (slice_get marks place)
    where
      by : (o : Option ChunkNote) → length (option_map_or (λ (mark : ChunkNote). slice_set marks place (record mark { left = Some left })) o marks) ≡ length marks
      by None = refl
      by (Some mark) = length-set marks place (record mark { left = Some left })

  at-with : place < length marks → left_at left_now place ≡ Some left
  at-with within =
      let found = there marks place within in
      ap (λ o. left_at (option_map_or (λ (mark : ChunkNote). slice_set marks place (record mark { left = Some left })) o marks) place) found.1
      ∙ ap (option_and_then (λ (mark : ChunkNote). mark.left)) (get-there marks place (record found.0 { left = Some left }) found.0 found.1)

  other-with : (other : ℕ) → place ≢ other → left_at left_now other ≡ left_at marks other
  other-with other apart = by (slice_get marks place)
    where
      by : (o : Option ChunkNote) → left_at (option_map_or (λ (mark : ChunkNote). slice_set marks place (record mark { left = Some left })) o marks) other ≡ left_at marks other
      by None = refl
      by (Some mark) = ap (option_and_then (λ (m : ChunkNote). m.left)) (get-apart marks place other (record mark { left = Some left }) apart)

among-more : (places : List ℕ) (q p : ℕ) → is_among (places ++ q ∷ []) p ≡ false → (is_among places p ≡ false) × (nat_eq q p ≡ false)
among-more [] q p out = (refl, by (nat_eq q p) out)
  where
    by : (b : Bool) → (b || false) ≡ false → b ≡ false
    by true e = absurd (true≢false e)
    by false e = refl
among-more (x ∷ places) q p out = by (nat_eq x p) out (among-more places q p)
  where
    by : (b : Bool) → (b || is_among (places ++ q ∷ []) p) ≡ false → (is_among (places ++ q ∷ []) p ≡ false → (is_among places p ≡ false) × (nat_eq q p ≡ false)) → ((b || is_among places p) ≡ false) × (nat_eq q p ≡ false)
    by true e rest = absurd (true≢false e)
    by false e rest = rest e

differ : (q p : ℕ) → nat_eq q p ≡ false → q ≢ p
differ q p out same = true≢false (sym (eq-eqb q p same) ∙ out)

never : (l : Left) (lefts : List Left) → l ∷ lefts ≡ [] → ⊥
never l lefts h = cc

-- one more leaves
pub left-one : (place : ℕ) (left : Left) (marks : List ChunkNote) → place < length marks → (places : List ℕ) (lefts : List Left) → AreLeft marks places lefts
    → AreLeft (with_left place (Some left) marks) (places ++ place ∷ []) (lefts ++ left ∷ [])
left-one place left marks within [] [] h = (let n = length-with place left marks in omega (arith, within, n), (λ out. at-with place left marks within), refl)
left-one place left marks within [] (l ∷ lefts) h = absurd (never l lefts h)
left-one place left marks within (p ∷ places) [] h = absurd h
left-one place left marks within (p ∷ places) (l ∷ lefts) h = (
  let n = length-with place left marks in let below = h.0 in omega (arith, below, n),
  (λ out. let parts = among-more places place p out in other-with place left marks p (differ place p parts.1) ∙ h.1 parts.0),
  left-one place left marks within places lefts h.2,
)

-- one more is noted
pub left-more : (marks : List ChunkNote) (mark : ChunkNote) (places : List ℕ) (lefts : List Left) → AreLeft marks places lefts → AreLeft (marks ++ mark ∷ []) places lefts
left-more marks mark [] lefts h = h
left-more marks mark (p ∷ places) [] h = absurd h
left-more marks mark (p ∷ places) (l ∷ lefts) h = (
  let n = length-append marks (mark ∷ []) in let below = h.0 in omega (arith, below, n),
  (λ out. ap (option_and_then (λ (m : ChunkNote). m.left)) (get_front_same marks (mark ∷ []) p h.0) ∙ h.1 out),
  left-more marks mark places lefts h.2,
)

-- ---- chunks that leave one after another

abbrev pub GoWithin : {L : Type 0} → ℕ → List (Going L) → Type 0
GoWithin {L} n goings = AllByRecursion (λ (going : Going L). place_of going.buffer < n) goings

abbrev pub going_places : {L : Type 0} → List (Going L) → List ℕ
going_places {L} goings = map (λ (going : Going L). place_of going.buffer) goings

left-all : {L : Type 0} → (goings : List (Going L)) (marks : List ChunkNote) (places : List ℕ) (lefts : List Left) → GoWithin (length marks) goings → AreLeft marks places lefts
    → AreLeft (lefts_noted marks goings) (places ++ going_places goings) (lefts ++ map going_left goings)
left-all [] marks places lefts within h = subst (λ ps. AreLeft marks ps (lefts ++ [])) (sym (append-nil places)) (subst (AreLeft marks places) (sym (append-nil lefts)) h)
left-all (g ∷ goings) marks places lefts within h =
    let now = with_left (place_of g.buffer) (Some g.left) marks in
    let n : length now ≡ length marks = length-with (place_of g.buffer) g.left marks in
    let rest : GoWithin (length now) goings = subst (λ k. GoWithin k goings) (sym n) within.1 in
    let all = left-all goings now (places ++ place_of g.buffer ∷ []) (lefts ++ g.left ∷ []) rest (left-one (place_of g.buffer) g.left marks within.0 places lefts h) in
    subst (λ ps. AreLeft (lefts_noted now goings) ps (lefts ++ map going_left (g ∷ goings))) (append_assoc places (place_of g.buffer ∷ []) (going_places goings))
    (subst (λ ls. AreLeft (lefts_noted now goings) ((places ++ place_of g.buffer ∷ []) ++ going_places goings) ls) (append_assoc lefts (g.left ∷ []) (map going_left goings)) all)

-- they stand last in the hand
pub hand-left : {L : Type 0} → (marks : List ChunkNote) (out : Option ℕ) (hand : List (Placed L)) (lefts : List Left) (goings : List (Going L)) → GoWithin (length marks) goings
    → AreLeft marks (option_to_list out ++ map place_of hand) lefts
    → AreLeft (lefts_noted marks goings) (option_to_list out ++ map place_of (hand ++ map going_buffer goings)) (lefts ++ map going_left goings)
hand-left marks out hand lefts goings within h =
    let places : (option_to_list out ++ map place_of hand) ++ going_places goings ≡ option_to_list out ++ map place_of (hand ++ map going_buffer goings) =
    append_assoc (option_to_list out) (map place_of hand) (going_places goings)
    ∙ ap (λ l. option_to_list out ++ l) (ap (λ l. map place_of hand ++ l) (sym (map-map place_of going_buffer goings)) ∙ sym (map-append place_of hand (map going_buffer goings))) in
    subst (λ ps. AreLeft (lefts_noted marks goings) ps (lefts ++ map going_left goings)) places (left-all goings marks (option_to_list out ++ map place_of hand) lefts within h)

-- pins that go
pub pins-within : {L : Type 0} → (n : ℕ) (f : Pin (Tagged L) → Going L) → ((pin : Pin (Tagged L)) → going_buffer (f pin) ≡ pin.chunk) → (pins : List (Pin (Tagged L)))
    → AllByRecursion (λ (placed : Placed L). place_of placed < n) (map (λ (pin : Pin (Tagged L)). pin.chunk) pins) → GoWithin n (map f pins)
pins-within n f same [] h = tt
pins-within {L} n f same (pin ∷ pins) h = (subst (λ (placed : Placed L). place_of placed < n) (sym (same pin)) h.0, pins-within n f same pins h.1)

-- ---- what was never offered

module _ {A : Type 0} (P : A → Type 0) where
  pub all-behind : (xs : List A) → AllByRecursion P xs → AllByRecursion P (behind xs)
  all-behind [] h = tt
  all-behind (x ∷ xs) h = h.1

  pub unoffered-more : (out : Option ℕ) (again : Bool) (hand more : List A) → AllByRecursion P (unoffered out again hand) → AllByRecursion P more → AllByRecursion P (unoffered out again (hand ++ more))
  unoffered-more (Some place) again hand more h k = all_append P hand more h k
  unoffered-more None false hand more h k = all_append P hand more h k
  unoffered-more None true [] more h k = all-behind more k
  unoffered-more None true (x ∷ hand) more h k = all_append P hand more h k

  -- while a chunk is out, and once it was given
  pub unoffered-out : (place : ℕ) (again : Bool) (first : A) (hand : List A) → AllByRecursion P (unoffered None again (first ∷ hand)) → AllByRecursion P hand
  unoffered-out place true first hand h = h
  unoffered-out place false first hand h = h.1

module _ {A : Type 0} (P Q : A → Type 0) (weaker : (x : A) → P x → Q x) where
  pub unoffered-weaker : (out : Option ℕ) (again : Bool) (hand : List A) → AllByRecursion P (unoffered out again hand) → AllByRecursion Q (unoffered out again hand)
  unoffered-weaker out again hand h = all_weaker P Q weaker (unoffered out again hand) h
