-- Going through the events of a pool in the order of stamps says of each give whether it answers its draw.
use Rattle.std.proofs.Common.{◌≡◌, ℕ, zero, suc, ◌+◌, ◌<◌, ◌≤◌, Bool, true, false, cond, eqb, ltb, List, [], ◌∷◌, ◌++◌, length, map, Option, Some, None, refl, sym, ap, ◌∙◌, subst, inl, inr, ◌⊎◌, arith}
use Rattle.hs_check_follow.proofs.Prelude.{count_by, not, ◌&&◌, ◌||◌, AllByRecursion, list_all, list_any, IsPermutation, IsNonDecreasingBy, option_map_or, and_parts, and_from, and_left, and_right, eqb-true, eq-eqb, ne_eqb, ltb-true, ltb-false, lt-ltb, le-ltb, cases_Bool, cases_eq, cases_lt, or_cases, true≢false, false_from_ne_true, count_cons, one_if, all_each, PoolEvent, StampedPoolEvent, is_touched, NotedEvent, StampedEvent, event_of, pool_event, answers_last, answers_through}
use Rattle.hs_law_journal.specs.Pooled.{has_buffer}
use Rattle.std.proofs.lemmas.List.Sorted.{sum_by-IsPermutation}
use Rattle.hs_base.proofs.Tests.{list_any_none}
use Rattle.hs_check_follow.specs.declared.happened.NotedEvent.TheVariants as happenings
use Rattle.hs_check_follow.specs.Answering.{last_at}
use Rattle.hs_check_follow.proofs.Sorting.{Sorted, sorted_from}

-- ---- some and all

module _ {A : Type 0} where
  pub any_weaker : (p q : A → Bool) (xs : List A) → AllByRecursion (λ x. p x ≡ true → q x ≡ true) xs → list_any p xs ≡ true → list_any q xs ≡ true
  any_weaker p q [] all some = some
  any_weaker p q (x ∷ xs) all some = at (p x) (q x) refl (or_cases (p x) (list_any p xs) some) all.0 (any_weaker p q xs all.1)
    where
      at : (a b : Bool) → p x ≡ a → (p x ≡ true) ⊎ (list_any p xs ≡ true) → (p x ≡ true → b ≡ true) → (list_any p xs ≡ true → list_any q xs ≡ true) → (b || list_any q xs) ≡ true
      at a true e cases here later = refl
      at a false e cases here later = elim cases [ inl h ↦ absurd (true≢false (sym (here h))) | inr h ↦ later h ]

  pub all_counted : (p : A → Bool) (xs : List A) → list_all p xs ≡ eqb (count_by (λ x. not (p x)) xs) 0
  all_counted p [] = refl
  all_counted p (x ∷ xs) = at (p x) (count_by (λ y. not (p y)) xs) (all_counted p xs) ∙ sym (ap (λ n. eqb n 0) (count_cons (λ y. not (p y)) x xs))
    where
      at : (b : Bool) (n : ℕ) → list_all p xs ≡ eqb n 0 → (b && list_all p xs) ≡ eqb (one_if (not b) + n) 0
      at true n e = e ∙ ap (λ k. eqb k 0) (omega arith)
      at false n e = sym (ne_eqb (1 + n) 0 (λ h. omega (arith, h)))

  pub any_counted : (p : A → Bool) (xs : List A) → list_any p xs ≡ not (eqb (count_by p xs) 0)
  any_counted p [] = refl
  any_counted p (x ∷ xs) = at (p x) (count_by p xs) (any_counted p xs) ∙ sym (ap (λ n. not (eqb n 0)) (count_cons p x xs))
    where
      at : (b : Bool) (n : ℕ) → list_any p xs ≡ not (eqb n 0) → (b || list_any p xs) ≡ not (eqb (one_if b + n) 0)
      at true n e = sym (ap not (ne_eqb (1 + n) 0 (λ h. omega (arith, h))))
      at false n e = e ∙ ap (λ k. not (eqb k 0)) (omega arith)

  pub count-permutation : (p : A → Bool) (xs ys : List A) → IsPermutation xs ys → count_by p ys ≡ count_by p xs
  count-permutation p xs ys same = sum_by-IsPermutation (λ y. cond (p y) 1 0) xs ys same

  pub all-permutation : (p : A → Bool) (xs ys : List A) → IsPermutation xs ys → list_all p xs ≡ list_all p ys
  all-permutation p xs ys same = all_counted p xs ∙ sym (ap (λ n. eqb n 0) (count-permutation (λ x. not (p x)) xs ys same)) ∙ sym (all_counted p ys)

-- ---- rising stamps

abbrev pub Rising : List StampedEvent → Type 0
Rising [] = Unit {0}
Rising (t ∷ timed) = AllByRecursion (λ (u : StampedEvent). t.stamp < u.stamp) timed × Rising timed

none_of : (s : ℕ) (timed : List StampedEvent) → count_by (λ (t : StampedEvent). eqb t.stamp s) timed ≡ 0 → AllByRecursion (λ (t : StampedEvent). s ≤ t.stamp) timed → AllByRecursion (λ (t : StampedEvent). s < t.stamp) timed
none_of s [] none low = tt
none_of s (t ∷ timed) none low =
    let count = count_cons (λ (t : StampedEvent). eqb t.stamp s) t timed in
    elim (cases_eq t.stamp s) [
      | inl same ↦ (let one = ap one_if (eq-eqb t.stamp s same) in absurd (omega (arith, count, none, one)))
      | inr other ↦ (let at = low.0 in (omega (arith, other, at), none_of s timed (omega (arith, count, none)) low.1))
    ]

-- sorted stamps of which none comes twice rise
pub rising_from : (timed : List StampedEvent) → Sorted (λ (t : StampedEvent). t.stamp) timed → ((s : ℕ) → count_by (λ (t : StampedEvent). eqb t.stamp s) timed ≤ 1) → Rising timed
rising_from [] sorted once = tt
rising_from (t ∷ timed) sorted once =
    let here = once t.stamp in
    let count = count_cons (λ (u : StampedEvent). eqb u.stamp t.stamp) t timed in
    let one = ap one_if (eq-eqb t.stamp t.stamp refl) in (
      none_of t.stamp timed (omega (arith, here, count, one)) sorted.0,
      rising_from timed sorted.1 (λ s. let all = once s in let c = count_cons (λ (u : StampedEvent). eqb u.stamp s) t timed in omega (arith, all, c)),
    )

-- ---- the last event of a buffer

abbrev pub touches : ℕ → StampedEvent → Bool
touches buffer t = has_buffer buffer (event_of t.event)

-- events below a stamp, the last first
abbrev pub Falling : List StampedEvent → Type 0
Falling [] = Unit {0}
Falling (t ∷ before) = AllByRecursion (λ (u : StampedEvent). u.stamp < t.stamp) before × Falling before

-- this is the last stamp of the buffer
record LastIs (buffer : ℕ) (before : List StampedEvent) (last : ℕ) : Type 0 where
  upper : AllByRecursion (λ t. touches buffer t ≡ true → t.stamp ≤ last) before
  there : list_any (λ t. touches buffer t && eqb t.stamp last) before ≡ true

last_none : (buffer : ℕ) (before : List StampedEvent) → last_at buffer before ≡ None → AllByRecursion (λ t. touches buffer t ≡ false) before
last_none buffer [] e = tt
last_none buffer (t ∷ before) e = at (touches buffer t) refl e (last_none buffer before)
  where
    at : (b : Bool) → touches buffer t ≡ b → cond b (Some t.stamp) (last_at buffer before) ≡ None → (last_at buffer before ≡ None → AllByRecursion (λ t. touches buffer t ≡ false) before) → AllByRecursion (λ t. touches buffer t ≡ false) (t ∷ before)
    at true h e later = let no_none : Some t.stamp ≡ None = e in absurd cc
    at false h e later = (h, later e)

last_some : (buffer : ℕ) (before : List StampedEvent) (last : ℕ) → Falling before → last_at buffer before ≡ Some last → LastIs buffer before last
last_some buffer [] last falls e = let none : None ≡ Some last = e in absurd cc
last_some buffer (t ∷ before) last falls e = at (touches buffer t) refl e (last_some buffer before last falls.1)
  where
    at : (b : Bool) → touches buffer t ≡ b → cond b (Some t.stamp) (last_at buffer before) ≡ Some last → (last_at buffer before ≡ Some last → LastIs buffer before last) → LastIs buffer (t ∷ before) last
    at true h e later =
        let same : t.stamp ≡ last = cc in
        record {
          upper = ((λ k. omega (arith, same)), all_each (λ (u : StampedEvent). u.stamp < t.stamp) (λ u. touches buffer u ≡ true → u.stamp ≤ last) before (λ u low k. omega (arith, low, same)) falls.0);
          there = ap (λ b. b || list_any (λ u. touches buffer u && eqb u.stamp last) before) (and_from (touches buffer t) (eqb t.stamp last) h (eq-eqb t.stamp last same));
        }
    at false h e later =
        let l = later e in
        record {
          upper = ((λ k. absurd (true≢false (sym k ∙ h))), l.upper);
          there = ap (λ b. b || list_any (λ u. touches buffer u && eqb u.stamp last) before) (and_left (touches buffer t) (eqb t.stamp last) h) ∙ l.there;
        }

-- ---- one event

-- what all events say of a test, parted before this one
abbrev pub Parted : ((StampedEvent → Bool) → Bool) → List StampedEvent → List StampedEvent → Type 0
Parted whole before later = (p : StampedEvent → Bool) → whole p ≡ (list_any p before || list_any p later)

-- whether the event answers its draw among all
abbrev pub answers_all : ((StampedEvent → Bool) → Bool) → ℕ → NotedEvent → Bool
answers_all whole given (happenings.Given buffer drawn) = ltb drawn given && not (whole (λ t. touches buffer t && ltb drawn t.stamp && ltb t.stamp given))
answers_all whole given _ = true

-- whether the draw is among all
abbrev pub has_draw : ((StampedEvent → Bool) → Bool) → NotedEvent → Bool
has_draw whole (happenings.Given buffer drawn) = whole (λ t. touches buffer t && eqb t.stamp drawn)
has_draw whole _ = true

or_left_part : (a b : Bool) → (a || b) ≡ true → b ≡ false → a ≡ true
or_left_part true b e none = refl
or_left_part false b e none = absurd (true≢false (sym e ∙ none))

module _ (whole : (StampedEvent → Bool) → Bool) (before later : List StampedEvent) (buffer drawn given : ℕ) (parted : Parted whole before later) (falls : Falling before)
    (low : AllByRecursion (λ (t : StampedEvent). t.stamp < given) before) (high : AllByRecursion (λ (t : StampedEvent). given ≤ t.stamp) later) (draw : whole (λ t. touches buffer t && eqb t.stamp drawn) ≡ true) where
  abbrev between : StampedEvent → Bool
  between t = touches buffer t && ltb drawn t.stamp && ltb t.stamp given

  none_later : list_any (λ t. touches buffer t && ltb drawn t.stamp && ltb t.stamp given) later ≡ false
  none_later =
      list_any_none (λ t. touches buffer t && ltb drawn t.stamp && ltb t.stamp given) later
      (all_each (λ (t : StampedEvent). given ≤ t.stamp) (λ t. (touches buffer t && ltb drawn t.stamp && ltb t.stamp given) ≡ false) later
      (λ t h. and_right (touches buffer t && ltb drawn t.stamp) (ltb t.stamp given) (le-ltb t.stamp given h)) high)

  -- a draw that came before stands among the events before
  draw_before : drawn < given → list_any (λ t. touches buffer t && eqb t.stamp drawn) before ≡ true
  draw_before less =
      or_left_part (list_any (λ t. touches buffer t && eqb t.stamp drawn) before) (list_any (λ t. touches buffer t && eqb t.stamp drawn) later) (sym (parted (λ t. touches buffer t && eqb t.stamp drawn)) ∙ draw)
      (list_any_none (λ t. touches buffer t && eqb t.stamp drawn) later
      (all_each (λ (t : StampedEvent). given ≤ t.stamp) (λ t. (touches buffer t && eqb t.stamp drawn) ≡ false) later
      (λ t h. and_right (touches buffer t) (eqb t.stamp drawn) (ne_eqb t.stamp drawn (λ e. omega (arith, e, h, less)))) high))

  touched_is : whole (λ t. touches buffer t && ltb drawn t.stamp && ltb t.stamp given) ≡ list_any (λ t. touches buffer t && ltb drawn t.stamp && ltb t.stamp given) before
  touched_is = parted (λ t. touches buffer t && ltb drawn t.stamp && ltb t.stamp given) ∙ or_none (list_any (λ t. touches buffer t && ltb drawn t.stamp && ltb t.stamp given) before) _ none_later
    where
      or_none : (a b : Bool) → b ≡ false → (a || b) ≡ a
      or_none true b e = refl
      or_none false b e = e

  -- where none of the buffer came before, no draw of it did
  without : last_at buffer before ≡ None → (ltb drawn given && not (whole (λ t. touches buffer t && ltb drawn t.stamp && ltb t.stamp given))) ≡ false
  without none =
      elim (cases_Bool (ltb drawn given)) [
        | inl less ↦
            (let nobody = list_any_none (λ t. touches buffer t && eqb t.stamp drawn) before (all_each (λ t. touches buffer t ≡ false) (λ t. (touches buffer t && eqb t.stamp drawn) ≡ false) before (λ t h. and_left (touches buffer t) (eqb t.stamp drawn) h) (last_none buffer before none)) in
            absurd (true≢false (sym (draw_before (ltb-true drawn given less)) ∙ nobody)))
        | inr past ↦ and_left (ltb drawn given) (not (whole (λ t. touches buffer t && ltb drawn t.stamp && ltb t.stamp given))) past
      ]

  module _ (last : ℕ) (is : last_at buffer before ≡ Some last) where
    l : LastIs buffer before last
    l = last_some buffer before last falls is

    last_low : last < given
    last_low = elim (cases_lt last given) [
      | inl less ↦ less
      | inr past ↦ absurd (true≢false (sym l.there ∙ list_any_none (λ t. touches buffer t && eqb t.stamp last) before
          (all_each (λ (t : StampedEvent). t.stamp < given) (λ t. (touches buffer t && eqb t.stamp last) ≡ false) before (λ t h. and_right (touches buffer t) (eqb t.stamp last) (ne_eqb t.stamp last (λ e. omega (arith, e, h, past)))) low)))
    ]

    -- the last one is the draw
    same_last : last ≡ drawn → (ltb drawn given && not (whole (λ t. touches buffer t && ltb drawn t.stamp && ltb t.stamp given))) ≡ true
    same_last same =
        let less : drawn < given = omega (arith, same, last_low) in
        let untouched = list_any_none (λ t. touches buffer t && ltb drawn t.stamp && ltb t.stamp given) before
        (all_each (λ t. touches buffer t ≡ true → t.stamp ≤ last) (λ t. (touches buffer t && ltb drawn t.stamp && ltb t.stamp given) ≡ false) before
        (λ t h. and_left (touches buffer t && ltb drawn t.stamp) (ltb t.stamp given)
        (false_from_ne_true (touches buffer t && ltb drawn t.stamp) (λ k. let both = and_parts (touches buffer t) (ltb drawn t.stamp) k in let upper = h both.0 in let above = ltb-true drawn t.stamp both.1 in omega (arith, upper, above, same)))) l.upper) in
        and_from (ltb drawn given) (not (whole (λ t. touches buffer t && ltb drawn t.stamp && ltb t.stamp given))) (lt-ltb drawn given less) (ap not (touched_is ∙ untouched))

    -- the last one is another
    other_last : (last ≡ drawn → ⊥) → (ltb drawn given && not (whole (λ t. touches buffer t && ltb drawn t.stamp && ltb t.stamp given))) ≡ false
    other_last other =
        elim (cases_Bool (ltb drawn given)) [
          | inl less ↦
              (let here = draw_before (ltb-true drawn given less) in
              let below : drawn ≤ last =
              elim (cases_lt last drawn) [
                | inl past ↦ absurd (true≢false (sym here ∙ list_any_none (λ t. touches buffer t && eqb t.stamp drawn) before
                    (all_each (λ t. touches buffer t ≡ true → t.stamp ≤ last) (λ t. (touches buffer t && eqb t.stamp drawn) ≡ false) before
                    (λ t h. false_from_ne_true (touches buffer t && eqb t.stamp drawn) (λ k. let both = and_parts (touches buffer t) (eqb t.stamp drawn) k in let upper = h both.0 in let e = eqb-true t.stamp drawn both.1 in omega (arith, upper, e, past))) l.upper)))
                | inr fine ↦ fine
              ] in
              let touched : whole (λ t. touches buffer t && ltb drawn t.stamp && ltb t.stamp given) ≡ true =
              touched_is ∙ any_weaker (λ t. touches buffer t && eqb t.stamp last) (λ t. touches buffer t && ltb drawn t.stamp && ltb t.stamp given) before
              (all_each (λ (t : StampedEvent). t.stamp < given) (λ t. (touches buffer t && eqb t.stamp last) ≡ true → (touches buffer t && ltb drawn t.stamp && ltb t.stamp given) ≡ true) before
              (λ t h k. let both = and_parts (touches buffer t) (eqb t.stamp last) k in let e = eqb-true t.stamp last both.1 in
              and_from (touches buffer t && ltb drawn t.stamp) (ltb t.stamp given) (and_from (touches buffer t) (ltb drawn t.stamp) both.0 (lt-ltb drawn t.stamp (omega (arith, e, below, other)))) (lt-ltb t.stamp given h)) low) l.there in
              and_right (ltb drawn given) (not (whole (λ t. touches buffer t && ltb drawn t.stamp && ltb t.stamp given))) (ap not touched))
          | inr past ↦ and_left (ltb drawn given) (not (whole (λ t. touches buffer t && ltb drawn t.stamp && ltb t.stamp given))) past
        ]

  last_answers : (o : Option ℕ) → last_at buffer before ≡ o → option_map_or (λ stamp. eqb stamp drawn) o false ≡ (ltb drawn given && not (whole (λ t. touches buffer t && ltb drawn t.stamp && ltb t.stamp given)))
  last_answers None e = sym (without e)
  last_answers (Some last) e =
      elim (cases_eq last drawn) [ inl same ↦ eq-eqb last drawn same ∙ sym (same_last last e same) | inr other ↦ ne_eqb last drawn other ∙ sym (other_last last e other) ]

event_answers : (whole : (StampedEvent → Bool) → Bool) (before later : List StampedEvent) (given : ℕ) (event : NotedEvent) → Parted whole before later → Falling before
    → AllByRecursion (λ (t : StampedEvent). t.stamp < given) before → AllByRecursion (λ (t : StampedEvent). given ≤ t.stamp) later → has_draw whole event ≡ true → answers_last before event ≡ answers_all whole given event
event_answers whole before later given (happenings.Given buffer drawn) parted falls low high draw = last_answers whole before later buffer drawn given parted falls low high draw (last_at buffer before) refl
event_answers whole before later given (happenings.Got buffer) parted falls low high draw = refl
event_answers whole before later given happenings.Empty parted falls low high draw = refl
event_answers whole before later given happenings.Missed parted falls low high draw = refl

-- ---- all events

-- all of them before some
abbrev pub Before : List StampedEvent → List StampedEvent → Type 0
Before before later = AllByRecursion (λ (u : StampedEvent). AllByRecursion (λ (t : StampedEvent). t.stamp < u.stamp) before) later

before_more : (t : StampedEvent) (before later : List StampedEvent) → AllByRecursion (λ (u : StampedEvent). t.stamp < u.stamp) later → Before before later → Before (t ∷ before) later
before_more t before [] above all = tt
before_more t before (u ∷ later) above all = ((above.0, all.0), before_more t before later above.1 all.1)

pub through_is : (whole : (StampedEvent → Bool) → Bool) (before later : List StampedEvent) → Parted whole before later → Falling before → Before before later → Rising later
    → list_all (λ (t : StampedEvent). has_draw whole t.event) later ≡ true → answers_through before later ≡ list_all (λ (t : StampedEvent). answers_all whole t.stamp t.event) later
through_is whole before [] parted falls low rises draws = refl
through_is whole before (t ∷ later) parted falls low rises draws =
    let both = and_parts (has_draw whole t.event) (list_all (λ (t : StampedEvent). has_draw whole t.event) later) draws in
    let high : AllByRecursion (λ (u : StampedEvent). t.stamp ≤ u.stamp) (t ∷ later) = (omega arith, all_each (λ (u : StampedEvent). t.stamp < u.stamp) (λ (u : StampedEvent). t.stamp ≤ u.stamp) later (λ u h. omega (arith, h)) rises.0) in
    let here = event_answers whole before (t ∷ later) t.stamp t.event parted falls low.0 high both.0 in
    let rest = through_is whole (t ∷ before) later (λ p. parted p ∙ moved (p t) (list_any p before) (list_any p later)) (low.0, falls) (before_more t before later rises.0 low.1) rises.1 both.1 in
    ap (λ b. b && answers_through (t ∷ before) later) here ∙ ap (λ b. answers_all whole t.stamp t.event && b) rest
  where
    moved : (a b c : Bool) → (b || (a || c)) ≡ ((a || b) || c)
    moved true true c = refl
    moved true false c = refl
    moved false true c = refl
    moved false false c = refl
