-- One more trace: it joins the distinct others where it is neither the sample's own nor among them.
use Rattle.std.proofs.Common.{cond, ◌≡◌, ◌≢◌, ℕ, ◌+◌, ◌<◌, ◌≤◌, Bool, true, false, not, ◌||◌, List, [], ◌∷◌, ◌++◌, length, take, drop, get_or, refl, sym, ap, ◌∙◌, arith, ◌==◌, eq-eqb, ⊎_elim, append-nil}
use Rattle.std.specs.List.{list_any}
use Rattle.std.proofs.lemmas.Bool.{cases_eq, cases_Bool, both_ways, or_cases, or_parts, eqb-true, eqb-false}
use Rattle.std.proofs.lemmas.List.{length-take, length-drop, drop_more, take_more}
use Rattle.std.proofs.lemmas.List.Elements.{filter-append}
use borrow.Author.Tests.{ne_eqb}
use Rattle.hs_base.specs.declared.ids.TraceId.{TraceId}
use Rattle.hs_auto.specs.Firing.{without, distinct}

abbrev pub is_in : TraceId → List TraceId → Bool
is_in trace traces = list_any (λ other. other.0 == trace.0) traces

pub length-without : (t : TraceId) (xs : List TraceId) → length (without t xs) ≤ length xs
length-without t [] = omega arith
length-without t (x ∷ xs) =
    elim (x.0 == t.0) as (λ b. length (cond (not b) (x ∷ without t xs) (without t xs)) ≤ length (x ∷ xs)) [
      | true ↦ omega (arith, length-without t xs)
      | false ↦ omega (arith, length-without t xs)
    ]

pub length-distinct : (xs : List TraceId) → length (distinct xs) ≤ length xs
length-distinct [] = omega arith
length-distinct (x ∷ xs) = omega (arith, length-distinct xs, length-without x (distinct xs))

-- another trace is as much among the rest without t
is_in-without : (t x : TraceId) → x.0 ≢ t.0 → (xs : List TraceId) → is_in x (without t xs) ≡ is_in x xs
is_in-without t x other [] = refl
is_in-without t x other (y ∷ xs) =
    ⊎_elim
    (λ (own : y.0 ≡ t.0).
    let apart : (y.0 == x.0) ≡ false = ne_eqb y.0 x.0 (λ same. other (sym same ∙ own)) in
    rw (eq-eqb y.0 t.0 own, apart) (is_in-without t x other xs))
    (λ (apart : y.0 ≡ t.0 → ⊥). rw (ne_eqb y.0 t.0 apart) (ap (λ b. (y.0 == x.0) || b) (is_in-without t x other xs)))
    (cases_eq y.0 t.0)

is_in-distinct : (x : TraceId) (xs : List TraceId) → is_in x (distinct xs) ≡ is_in x xs
is_in-distinct x [] = refl
is_in-distinct x (y ∷ xs) =
    ⊎_elim
    (λ (same : y.0 ≡ x.0). rw (eq-eqb y.0 x.0 same) refl)
    (λ (apart : y.0 ≡ x.0 → ⊥).
    rw (ne_eqb y.0 x.0 apart) (is_in-without y x (λ same. apart (sym same)) (distinct xs) ∙ is_in-distinct x xs))
    (cases_eq y.0 x.0)

without-one : (t x : TraceId) → x.0 ≡ t.0 → without t (x ∷ []) ≡ []
without-one t x own = rw (eq-eqb x.0 t.0 own) refl

without-other : (t x : TraceId) → x.0 ≢ t.0 → without t (x ∷ []) ≡ x ∷ []
without-other t x other = rw (ne_eqb x.0 t.0 other) refl

without-push : (t x : TraceId) (xs : List TraceId) → without t (xs ++ x ∷ []) ≡ without t xs ++ without t (x ∷ [])
without-push t x xs = filter-append (λ other. not (other.0 == t.0)) xs (x ∷ [])

-- a new trace joins at the end
distinct_new : (x : TraceId) (xs : List TraceId) → is_in x xs ≡ false → distinct (xs ++ x ∷ []) ≡ distinct xs ++ x ∷ []
distinct_new x [] new = refl
distinct_new x (y ∷ xs) new =
    let parts = or_parts (y.0 == x.0) (is_in x xs) new in
    ap (λ ys. y ∷ ys)
    (ap (without y) (distinct_new x xs parts.1) ∙ without-push y x (distinct xs)
    ∙ ap (λ ys. without y (distinct xs) ++ ys) (without-other y x (λ same. eqb-false y.0 x.0 parts.0 (sym same))))

-- a trace that stands there already adds nothing
distinct_again : (x : TraceId) (xs : List TraceId) → is_in x xs ≡ true → distinct (xs ++ x ∷ []) ≡ distinct xs
distinct_again x [] again = cc
distinct_again x (y ∷ xs) again =
    ⊎_elim
    (λ (there : is_in x xs ≡ true). ap (λ ys. y ∷ without y ys) (distinct_again x xs there))
    (λ (new : is_in x xs ≡ false).
    let own : x.0 ≡ y.0 = ⊎_elim (λ (same : (y.0 == x.0) ≡ true). sym (eqb-true y.0 x.0 same)) (λ (there : is_in x xs ≡ true). absurd (both_ways (is_in x xs) new there)) (or_cases (y.0 == x.0) (is_in x xs) again) in
    ap (λ ys. y ∷ ys)
    (ap (without y) (distinct_new x xs new) ∙ without-push y x (distinct xs) ∙ ap (λ ys. without y (distinct xs) ++ ys) (without-one y x own)
    ∙ append-nil (without y (distinct xs))))
    (cases_Bool (is_in x xs))

-- the sample's own trace adds nothing, and one that is among the others neither
pub others_own : (t x : TraceId) (xs : List TraceId) → x.0 ≡ t.0 → without t (distinct (xs ++ x ∷ [])) ≡ without t (distinct xs)
others_own t x xs own =
    ⊎_elim
    (λ (there : is_in x xs ≡ true). ap (without t) (distinct_again x xs there))
    (λ (new : is_in x xs ≡ false).
    ap (without t) (distinct_new x xs new) ∙ without-push t x (distinct xs) ∙ ap (λ ys. without t (distinct xs) ++ ys) (without-one t x own)
    ∙ append-nil (without t (distinct xs)))
    (cases_Bool (is_in x xs))

pub others_again : (t x : TraceId) (xs : List TraceId) → is_in x (without t (distinct xs)) ≡ true → without t (distinct (xs ++ x ∷ [])) ≡ without t (distinct xs)
others_again t x xs again =
    ⊎_elim
    (λ (own : x.0 ≡ t.0). others_own t x xs own)
    (λ (other : x.0 ≡ t.0 → ⊥).
    ap (without t) (distinct_again x xs (sym (is_in-distinct x xs) ∙ sym (is_in-without t x other (distinct xs)) ∙ again)))
    (cases_eq x.0 t.0)

-- any other joins at the end
pub others_new : (t x : TraceId) (xs : List TraceId) → x.0 ≢ t.0 → is_in x (without t (distinct xs)) ≡ false → without t (distinct (xs ++ x ∷ [])) ≡ without t (distinct xs) ++ x ∷ []
others_new t x xs other new =
    ap (without t) (distinct_new x xs (sym (is_in-distinct x xs) ∙ sym (is_in-without t x other (distinct xs)) ∙ new)) ∙ without-push t x (distinct xs)
    ∙ ap (λ ys. without t (distinct xs) ++ ys) (without-other t x other)

-- a walk of the items that has yielded n of them, with what is left and the laterals so far
pub record IsSoFar (items : List TraceId) (t : TraceId) (n : ℕ) (rest laterals : List TraceId) : Type 0 where
  pub left : rest ≡ drop n items
  pub within : n ≤ length items
  pub others : laterals ≡ without t (distinct (take n items))

pub so_far_few : (items : List TraceId) (t : TraceId) (n : ℕ) (rest laterals : List TraceId) → IsSoFar items t n rest laterals → length laterals ≤ n
so_far_few items t n rest laterals so =
    omega (arith, ap length so.others, length-without t (distinct (take n items)), length-distinct (take n items), length-take n items)

-- the next of the items
next_item : (items : List TraceId) (n : ℕ) (x : TraceId) (more : List TraceId) → x ∷ more ≡ drop n items
    → (n < length items) × (more ≡ drop (n + 1) items) × (take (n + 1) items ≡ take n items ++ x ∷ [])
next_item items n x more left =
    let within : n < length items = omega (arith, ap length left, length-drop n items) in
    let step : drop n items ≡ get_or items n x ∷ drop (n + 1) items = drop_more items n x within in
    let whole : x ∷ more ≡ get_or items n x ∷ drop (n + 1) items = left ∙ step in
    let same : x ≡ get_or items n x = cc in
    (within, (let tail : more ≡ drop (n + 1) items = cc in tail), take_more items n x within ∙ ap (λ y. take n items ++ y ∷ []) (sym same))

pub so_far_next : (items : List TraceId) (t : TraceId) (n : ℕ) (x : TraceId) (rest more laterals after : List TraceId) → IsSoFar items t n rest laterals
    → rest ≡ x ∷ more → without t (distinct (take n items ++ x ∷ [])) ≡ after → IsSoFar items t (n + 1) more after
so_far_next items t n x rest more laterals after so is step =
    let next = next_item items n x more (sym is ∙ so.left) in
    record {
      left = next.1;
      within = omega (arith, next.0);
      others = sym step ∙ ap (λ xs. without t (distinct xs)) (sym next.2);
    }
