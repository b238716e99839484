-- Which chunk is the next one to be reported of a trigger id: the first that is pinned for its group.
use Rattle.std.proofs.Common.{◌≡◌, ℕ, Bool, true, false, cond, not, ◌||◌, List, [], ◌∷◌, ◌++◌, filter, slice_get, nat_eq, ◌+◌, ◌≤◌, eq-eqb, refl, sym, ap, ◌∙◌, arith}
use Rattle.hs_agent.proofs.Prelude.{AllByRecursion, option_map_or, true≢false, eqb-true, by_answer, TriggerId, Group, put_by, ordered_by, is_no_greater, Pin, is_for, is_under, pins_under, goes_behind, same_group-true, is_among, count_of}
use Rattle.std.specs.Ordering.{nat_cmp, ordering_then, is_le}
use Rattle.std.specs.declared.cmp.Ordering.TheVariants.{Equal, Less, Greater}
use Rattle.std.proofs.lemmas.Bool.{le-ltb, or_parts}
use Rattle.hs_base.specs.Ranks.{trace_rank}
use Rattle.hs_pins.specs.Remembered.{without_first}
use Rattle.hs_pins.specs.Waiting.{order_of, without_next}
use Rattle.hs_pins.proofs.Order.{same_group-refl}

-- ---- one group

nat_same : (n : ℕ) → nat_cmp n n ≡ Equal
nat_same n = ap (λ b. cond b Less (cond (nat_eq n n) Equal Greater)) (le-ltb n n (omega arith)) ∙ ap (λ b. cond b Equal Greater) (eq-eqb n n refl)

pub no_greater-itself : (group : Group) → is_no_greater group group ≡ true
no_greater-itself group =
    (λ i. is_le (ordering_then (nat_same (trace_rank group.lead).word i) (ordering_then (nat_same group.lead.0 i) (ordering_then (nat_same group.id.node i) (nat_same group.id.number i)))))

module _ {L : Type 0} where
  -- a chunk that is pinned, and before it none for its group
  pub record FirstFor (id : TriggerId) (pinned : List (Pin L)) (item : Pin L) : Type 0 where
    pub before : List (Pin L)
    pub after : List (Pin L)
    pub is : pinned ≡ before ++ item ∷ after
    pub none : AllByRecursion (λ (pin : Pin L). is_for item.group pin ≡ false) before
    pub under : is_under id item ≡ true

  at_once : (id : TriggerId) (x item : Pin L) (xs : List (Pin L)) → is_under id x ≡ true → x ≡ item → FirstFor id (x ∷ xs) item
  at_once id x item xs u e = record { before = []; after = xs; is = ap (λ p. p ∷ xs) e; none = tt; under = ap (is_under id) (sym e) ∙ u }

  later : (id : TriggerId) (x item : Pin L) (xs : List (Pin L)) → is_for item.group x ≡ false → FirstFor id xs item → FirstFor id (x ∷ xs) item
  later id x item xs out f = record { before = x ∷ f.before; after = f.after; is = ap (λ l. x ∷ l) f.is; none = (out, f.none); under = f.under }

  apart_by : (id : TriggerId) (x item : Pin L) → (item.group ≡ x.group → ⊥) → is_for item.group x ≡ false
  apart_by id x item differ = by_answer (is_for item.group x) (λ y. absurd (differ (same_group-true item.group x.group y))) (λ n. n)

  -- the front of what waits is the first for its group
  pub first-waiting : (id : TriggerId) (pinned : List (Pin L)) (item : Pin L) (rest : List (Pin L)) → order_of pinned id ≡ item ∷ rest → FirstFor id pinned item
  first-waiting id [] item rest e = cc
  first-waiting id (x ∷ xs) item rest e =
      by_answer (is_under id x)
      (λ y. put (λ i r q. first-waiting id xs i r q) y (order_of xs id) refl (sym (ap (λ b. ordered_by goes_behind (cond b (x ∷ pins_under id xs) (pins_under id xs))) y) ∙ e))
      (λ n.
      let found = first-waiting id xs item rest (sym (ap (λ b. ordered_by goes_behind (cond b (x ∷ pins_under id xs) (pins_under id xs))) n) ∙ e) in
      later id x item xs (apart_by id x item (λ same. true≢false (sym found.under ∙ ap (λ (g : Group). nat_eq g.trigger.0 id.0) same ∙ n))) found)
    where
      chosen : ((i : Pin L) (r : List (Pin L)) → order_of xs id ≡ i ∷ r → FirstFor id xs i) → is_under id x ≡ true → (y : Pin L) (ys : List (Pin L)) → order_of xs id ≡ y ∷ ys → (b : Bool) → goes_behind y x ≡ b
          → cond b (x ∷ y ∷ ys) (y ∷ put_by goes_behind x ys) ≡ item ∷ rest → FirstFor id (x ∷ xs) item
      chosen deeper u y ys f true g e = let same : x ≡ item = cc in at_once id x item xs u same
      chosen deeper u y ys f false g e =
          let same : y ≡ item = cc in
          let found = deeper item ys (f ∙ ap (λ p. p ∷ ys) same) in
          later id x item xs
          (apart_by id x item (λ groups. true≢false (sym (no_greater-itself x.group) ∙ ap (λ (q : Group). is_no_greater q x.group) (sym groups) ∙ ap (λ (p : Pin L). is_no_greater p.group x.group) (sym same) ∙ g))) found

      put : ((i : Pin L) (r : List (Pin L)) → order_of xs id ≡ i ∷ r → FirstFor id xs i) → is_under id x ≡ true → (waits : List (Pin L)) → order_of xs id ≡ waits → put_by goes_behind x (order_of xs id) ≡ item ∷ rest → FirstFor id (x ∷ xs) item
      put deeper u [] f e = let front : x ∷ [] ≡ item ∷ rest = sym (ap (put_by goes_behind x) f) ∙ e in let same : x ≡ item = cc in at_once id x item xs u same
      put deeper u (y ∷ ys) f e = chosen deeper u y ys f (goes_behind y x) refl (sym (ap (put_by goes_behind x) f) ∙ e)

  -- without it
  pub without-first : (item : Pin L) (before after : List (Pin L)) → AllByRecursion (λ (pin : Pin L). is_for item.group pin ≡ false) before → without_first item.group (before ++ item ∷ after) ≡ before ++ after
  without-first item [] after none = ap (λ b. cond b after (item ∷ without_first item.group after)) (same_group-refl item.group)
  without-first item (b ∷ before) after none =
      ap (λ c. cond c (before ++ item ∷ after) (b ∷ without_first item.group (before ++ item ∷ after))) none.0 ∙ ap (λ l. b ∷ l) (without-first item before after none.1)

  pub without-next : (id : TriggerId) (pinned : List (Pin L)) (item : Pin L) (rest : List (Pin L)) → order_of pinned id ≡ item ∷ rest → (f : FirstFor id pinned item) → without_next pinned id ≡ f.before ++ f.after
  without-next id pinned item rest e f =
      ap (λ (l : List (Pin L)). option_map_or (λ (pin : Pin L). without_first pin.group pinned) (slice_get l 0) pinned) e
      ∙ ap (without_first item.group) f.is
      ∙ without-first item f.before f.after f.none

  -- what waits is of what is pinned
  all-put : (P : Pin L → Type 0) (x : Pin L) (xs : List (Pin L)) → P x → AllByRecursion P xs → AllByRecursion P (put_by goes_behind x xs)
  all-put P x [] p h = (p, tt)
  all-put P x (y ∷ ys) p h = by (goes_behind y x) (all-put P x ys p h.1)
    where
      by : (b : Bool) → AllByRecursion P (put_by goes_behind x ys) → AllByRecursion P (cond b (x ∷ y ∷ ys) (y ∷ put_by goes_behind x ys))
      by true rest = (p, h)
      by false rest = (h.0, rest)

  pub all-waiting : (P : Pin L → Type 0) (id : TriggerId) (pinned : List (Pin L)) → AllByRecursion P pinned → AllByRecursion P (order_of pinned id)
  all-waiting P id [] h = tt
  all-waiting P id (x ∷ xs) h = by (is_under id x) (all-waiting P id xs h.1)
    where
      by : (b : Bool) → AllByRecursion P (order_of xs id) → AllByRecursion P (ordered_by goes_behind (cond b (x ∷ pins_under id xs) (pins_under id xs)))
      by true rest = all-put P x (order_of xs id) h.0 rest
      by false rest = rest

-- ---- places that differ

abbrev pub AreDistinct : List ℕ → Type 0
AreDistinct [] = Unit {0}
AreDistinct (p ∷ places) = (is_among places p ≡ false) × AreDistinct places

eq_swap : (a b : ℕ) → nat_eq a b ≡ false → nat_eq b a ≡ false
eq_swap a b n = by_answer (nat_eq b a) (λ y. absurd (true≢false (sym (eq-eqb a b (sym (eqb-true b a y))) ∙ n))) (λ no. no)

is_other : (p q : ℕ) → nat_eq p q ≡ false → is_among (p ∷ []) q ≡ false
is_other p q n = ap (λ b. b || false) n

others-differ : (p : ℕ) (places : List ℕ) → is_among places p ≡ false → AllByRecursion (λ (q : ℕ). is_among (p ∷ []) q ≡ false) places
others-differ p [] e = tt
others-differ p (q ∷ places) e = let parts = or_parts (nat_eq q p) (is_among places p) e in (is_other p q (eq_swap q p parts.0), others-differ p places parts.1)

among-parts : (x p : ℕ) (xs ys : List ℕ) → is_among (xs ++ p ∷ ys) x ≡ false → (nat_eq p x ≡ false) × (is_among (xs ++ ys) x ≡ false)
among-parts x p [] ys e = or_parts (nat_eq p x) (is_among ys x) e
among-parts x p (z ∷ xs) ys e =
    let parts = or_parts (nat_eq z x) (is_among (xs ++ p ∷ ys) x) e in
    let rest = among-parts x p xs ys parts.1 in
    (rest.0, (λ i. parts.0 i || rest.1 i))

module _ (p : ℕ) where
  pub differ-from : (xs ys : List ℕ) → AreDistinct (xs ++ p ∷ ys) → AllByRecursion (λ (q : ℕ). is_among (p ∷ []) q ≡ false) (xs ++ ys)
  differ-from [] ys d = others-differ p ys d.0
  differ-from (x ∷ xs) ys d = (is_other p x (among-parts x p xs ys d.0).0, differ-from xs ys d.1)

  pub distinct-without : (xs ys : List ℕ) → AreDistinct (xs ++ p ∷ ys) → AreDistinct (xs ++ ys)
  distinct-without [] ys d = d.1
  distinct-without (x ∷ xs) ys d = ((among-parts x p xs ys d.0).1, distinct-without xs ys d.1)

  all-stay : (ys : List ℕ) → AllByRecursion (λ (q : ℕ). is_among (p ∷ []) q ≡ false) ys → filter (λ q. not (is_among (p ∷ []) q)) ys ≡ ys
  all-stay [] h = refl
  all-stay (y ∷ ys) h = ap (λ b. cond (not b) (y ∷ filter (λ q. not (is_among (p ∷ []) q)) ys) (filter (λ q. not (is_among (p ∷ []) q)) ys)) h.0 ∙ ap (λ l. y ∷ l) (all-stay ys h.1)

  pub filter-others : (xs ys : List ℕ) → AllByRecursion (λ (q : ℕ). is_among (p ∷ []) q ≡ false) (xs ++ ys) → filter (λ q. not (is_among (p ∷ []) q)) (xs ++ p ∷ ys) ≡ xs ++ ys
  filter-others [] ys h =
      ap (λ b. cond (not (b || false)) (p ∷ filter (λ q. not (is_among (p ∷ []) q)) ys) (filter (λ q. not (is_among (p ∷ []) q)) ys)) (eq-eqb p p refl) ∙ all-stay ys h
  filter-others (x ∷ xs) ys h =
      ap (λ b. cond (not b) (x ∷ filter (λ q. not (is_among (p ∷ []) q)) (xs ++ p ∷ ys)) (filter (λ q. not (is_among (p ∷ []) q)) (xs ++ p ∷ ys))) h.0 ∙ ap (λ l. x ∷ l) (filter-others xs ys h.1)

-- each place once, by how often they stand there
among-counted : (p : ℕ) (places : List ℕ) → is_among places p ≡ true → 1 ≤ count_of places p
among-counted p [] e = absurd (true≢false (sym e))
among-counted p (q ∷ places) e = by (λ h. among-counted p places h) (nat_eq q p) refl e
  where
    by : (is_among places p ≡ true → 1 ≤ count_of places p) → (b : Bool) → nat_eq q p ≡ b → (b || is_among places p) ≡ true → 1 ≤ count_of (q ∷ places) p
    by deeper true f g = let one : count_of (q ∷ places) p ≡ 1 + count_of places p = ap (λ c. cond c 1 0 + count_of places p) f in omega (arith, one)
    by deeper false f g =
        let rest = deeper g in
        let none : count_of (q ∷ places) p ≡ 0 + count_of places p = ap (λ c. cond c 1 0 + count_of places p) f in
        omega (arith, rest, none)

pub distinct-counted : (places : List ℕ) → ((p : ℕ) → count_of places p ≤ 1) → AreDistinct places
distinct-counted [] h = tt
distinct-counted (p ∷ places) h = (
  by_answer (is_among places p)
      (λ y.
      let more = among-counted p places y in
      let most = h p in
      let one : count_of (p ∷ places) p ≡ 1 + count_of places p = ap (λ c. cond c 1 0 + count_of places p) (eq-eqb p p refl) in
      absurd (omega (arith, more, most, one)))
      (λ n. n),
  distinct-counted places (λ q. less q (nat_eq p q) refl (h q)),
)
  where
    less : (q : ℕ) (b : Bool) → nat_eq p q ≡ b → cond (nat_eq p q) 1 0 + count_of places q ≤ 1 → count_of places q ≤ 1
    less q b e most = omega (arith, most)
