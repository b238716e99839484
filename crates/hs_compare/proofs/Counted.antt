-- Traces that are counted one by one.
use Rattle.std.proofs.Common.{◌≡◌, ℕ, suc, ◌+◌, ◌≤◌, cond, ◌==◌, ◌||◌, ◌&&◌, Bool, true, false, List, [], ◌∷◌, ◌++◌, length, filter, Some, None, is_some, refl, sym, ap, ap₂, ◌∙◌, arith}
use Rattle.hs_compare.proofs.Prelude.{count_by, nat_lt, unwrap_or, AllByRecursion, all_each, lookup, list_any-append, sum_by_push, sum_by-cons, count_alike, TraceId, Line, is_same, times, times_in, AreCounted, is_counted, is_whole_by, line_by}
use Rattle.std.proofs.lemmas.List.Sums.{count_by-le-length, length-filter}
use Rattle.hs_compare.specs.Ringing.{is_among}
use Rattle.hs_compare.specs.Counting.{each_once, HasCountsOf}
use Rattle.hs_compare.proofs.Queued.{is_key, same_ids}

abbrev pub Counts : Type 0
Counts = List (TraceId × ℕ)

pub among_more : (traces : List TraceId) (x t : TraceId) → is_among (traces ++ x ∷ []) t ≡ (is_among traces t || (x.0 == t.0))
among_more traces x t = list_any-append (λ (other : TraceId). other.0 == t.0) traces (x ∷ []) ∙ ap (λ b. is_among traces t || b) (or_false (x.0 == t.0))
  where
    or_false : (b : Bool) → (b || false) ≡ b
    or_false true = refl
    or_false false = refl

-- a list once each, with one more
pub once_more : (p : TraceId → Bool) (traces : List TraceId) (x : TraceId) → count_by p (each_once (traces ++ x ∷ [])) ≡ count_by p (each_once traces) + cond (is_among traces x) 0 (cond (p x) 1 0)
once_more p [] x = sum_by-cons (λ y. cond (p y) 1 0) x [] ∙ (let z : cond {A = ℕ} (p x) 1 0 + 0 ≡ 0 + cond (p x) 1 0 = omega arith in z)
once_more p (y ∷ ys) x =
    ap (λ b. count_by p (cond b (each_once (ys ++ x ∷ [])) (y ∷ each_once (ys ++ x ∷ [])))) (among_more ys x y)
    ∙ by (is_among ys y) (x.0 == y.0) (y.0 == x.0) (is_among ys x) refl refl refl refl (once_more p ys x)
  where
    cons : (zs : List TraceId) → count_by p (y ∷ zs) ≡ cond (p y) 1 0 + count_by p zs
    cons zs = sum_by-cons (λ z. cond (p z) 1 0) y zs

    by : (a e f b : Bool) → is_among ys y ≡ a → (x.0 == y.0) ≡ e → (y.0 == x.0) ≡ f → is_among ys x ≡ b
        → count_by p (each_once (ys ++ x ∷ [])) ≡ count_by p (each_once ys) + cond b 0 (cond (p x) 1 0)
        → count_by p (cond (a || e) (each_once (ys ++ x ∷ [])) (y ∷ each_once (ys ++ x ∷ []))) ≡ count_by p (cond a (each_once ys) (y ∷ each_once ys)) + cond (f || b) 0 (cond (p x) 1 0)
    by true true f b ha he hf hb ih =
        let same : x ≡ y = same_ids x y he in
        let there : b ≡ true = sym hb ∙ ap (is_among ys) same ∙ ha in
        let fb : (f || b) ≡ true = ap (λ c. f || c) there ∙ or_true f in
        ih ∙ ap (λ c. count_by p (each_once ys) + cond c 0 (cond (p x) 1 0)) (there ∙ sym fb)
      where
        or_true : (c : Bool) → (c || true) ≡ true
        or_true true = refl
        or_true false = refl
    by true false true b ha he hf hb ih = absurd (apart he hf)
      where
        apart : (x.0 == y.0) ≡ false → (y.0 == x.0) ≡ true → ⊥
        apart h k = grind arith
    by true false false b ha he hf hb ih = ih
    by false true false b ha he hf hb ih = absurd (apart he hf)
      where
        apart : (x.0 == y.0) ≡ true → (y.0 == x.0) ≡ false → ⊥
        apart h k = grind arith
    by false true true b ha he hf hb ih =
        let same : x ≡ y = same_ids x y he in
        let there : b ≡ false = sym hb ∙ ap (is_among ys) same ∙ ha in
        let one : cond {A = ℕ} b 0 (cond (p x) 1 0) ≡ cond (p y) 1 0 = ap (λ c. cond c 0 (cond (p x) 1 0)) there ∙ ap (λ t. cond (p t) 1 0) same in
        let whole = cons (each_once ys) in
        omega (arith, ih, one, whole)
    by false false true b ha he hf hb ih = absurd (apart he hf)
      where
        apart : (x.0 == y.0) ≡ false → (y.0 == x.0) ≡ true → ⊥
        apart h k = grind arith
    by false false false b ha he hf hb ih =
        let whole = cons (each_once ys) in
        let more = cons (each_once (ys ++ x ∷ [])) in
        omega (arith, ih, whole, more)

length_is : (xs : List TraceId) → length xs ≡ count_by (λ _. true) xs
length_is [] = refl
length_is (x ∷ xs) = let e = sum_by-cons (λ (y : TraceId). 1) x xs in let ih = length_is xs in omega (arith, e, ih)

pub once_length : (traces : List TraceId) (x : TraceId) → length (each_once (traces ++ x ∷ [])) ≡ length (each_once traces) + cond (is_among traces x) 0 1
once_length traces x = length_is (each_once (traces ++ x ∷ [])) ∙ once_more (λ _. true) traces x ∙ ap (λ n. n + cond (is_among traces x) 0 1) (sym (length_is (each_once traces)))

-- ---- one trace more

pub times_more : (traces : List TraceId) (x t : TraceId) → times (traces ++ x ∷ []) t ≡ times traces t + cond (x.0 == t.0) 1 0
times_more traces x t = sum_by_push (λ (y : TraceId). cond (is_same t y) 1 0) traces x

pub none_counted : (traces : List TraceId) (t : TraceId) → is_among traces t ≡ false → times traces t ≡ 0
none_counted [] t h = refl
none_counted (x ∷ traces) t h = by (x.0 == t.0) refl h (none_counted traces t)
  where
    by : (b : Bool) → (x.0 == t.0) ≡ b → (b || is_among traces t) ≡ false → (is_among traces t ≡ false → times traces t ≡ 0) → times (x ∷ traces) t ≡ 0
    by true e k rest = absurd (cc)
    by false e k rest =
        let ih = rest k in
        let one : cond {A = ℕ} (x.0 == t.0) 1 0 ≡ 0 = ap (λ b. cond b 1 0) e in
        let whole = sum_by-cons (λ (y : TraceId). cond (is_same t y) 1 0) x traces in
        omega (arith, ih, one, whole)

pub times_are : (traces : List TraceId) (counts : Counts) → AreCounted traces counts → (t : TraceId) → times_in counts t ≡ times traces t
times_are traces counts are t = ap (λ o. unwrap_or o 0) (are.each t) ∙ by (is_among traces t) refl
  where
    by : (b : Bool) → is_among traces t ≡ b → unwrap_or (cond b (Some (times traces t)) None) 0 ≡ times traces t
    by true e = refl
    by false e = sym (none_counted traces t e)

pub counted_more : (traces : List TraceId) (x : TraceId) (old new : Counts) → AreCounted traces old
    → ((q : TraceId) → lookup (is_key q) new ≡ cond (is_key x q) (Some (times_in old x + 1)) (lookup (is_key q) old))
    → length new ≡ length old + cond (is_some (lookup (is_key x) old)) 0 1 → AreCounted (traces ++ x ∷ []) new
counted_more traces x old new are updated long =
    record {
      each = λ t.
          updated t ∙ ap (cond (is_key x t) (Some (times_in old x + 1))) (are.each t)
          ∙ by t (is_key x t) refl (is_among traces t) refl
          ∙ ap (λ b. cond b (Some (times (traces ++ x ∷ []) t)) None) (sym (among_more traces x t));
      count =
          let there : is_some (lookup (is_key x) old) ≡ is_among traces x = ap is_some (are.each x) ∙ found (is_among traces x) (times traces x) in
          long ∙ ap (λ b. length old + cond b 0 1) there ∙ ap (λ n. n + cond (is_among traces x) 0 1) are.count ∙ sym (once_length traces x);
    }
  where
    found : (b : Bool) (n : ℕ) → is_some (cond b (Some n) None) ≡ b
    found true n = refl
    found false n = refl

    by : (t : TraceId) (e : Bool) → is_key x t ≡ e → (b : Bool) → is_among traces t ≡ b
        → cond e (Some (times_in old x + 1)) (cond b (Some (times traces t)) None) ≡ cond (b || e) (Some (times (traces ++ x ∷ []) t)) None
    by t true he true hb = ap Some (ap (λ n. n + 1) (times_are traces old are x ∙ ap (times traces) (same_ids x t he)) ∙ ap (λ b. times traces t + cond b 1 0) (sym he) ∙ sym (times_more traces x t))
    by t true he false hb = ap Some (ap (λ n. n + 1) (times_are traces old are x ∙ ap (times traces) (same_ids x t he)) ∙ ap (λ b. times traces t + cond b 1 0) (sym he) ∙ sym (times_more traces x t))
    by t false he true hb =
        ap Some ((let z : times traces t ≡ times traces t + 0 = omega arith in z) ∙ ap (λ b. times traces t + cond b 1 0) (sym he) ∙ sym (times_more traces x t))
    by t false he false hb = refl

pub whole_same : (all kept : List TraceId) (all' kept' : Counts) (named : List TraceId) → HasCountsOf named all all' → AreCounted kept kept'
    → count_by (is_whole_by (times_in all') (times_in kept')) named ≡ count_by (is_whole_by (times all) (times kept)) named
whole_same all kept all' kept' [] has those = refl
whole_same all kept all' kept' (t ∷ named) has those =
    let a = sum_by-cons (λ x. cond (is_whole_by (times_in all') (times_in kept') x) 1 0) t named in
    let b = sum_by-cons (λ x. cond (is_whole_by (times all) (times kept) x) 1 0) t named in
    let one : cond {A = ℕ} (is_whole_by (times_in all') (times_in kept') t) 1 0 ≡ cond (is_whole_by (times all) (times kept) t) 1 0 =
    ap₂ (λ n k. cond (nat_lt 0 n && (k == n)) 1 0) has.0 (times_are kept kept' those t) in
    let ih = whole_same all kept all' kept' named has.1 those in
    omega (arith, a, b, one, ih)

pub few_times : (traces : List TraceId) (counts : Counts) (t : TraceId) → AreCounted traces counts → times_in counts t ≤ length traces
few_times traces counts t are = omega (arith, times_are traces counts are t, count_by-le-length (is_same t) traces)

abbrev pub the_line : ℕ → ℕ → ℕ → ℕ → Line
the_line records traces whole shipped = record { records = records; traces = traces; whole = whole; shipped = shipped }

pub line_is : (all named kept : List TraceId) (all' kept' : Counts) (shipped r t w : ℕ) → HasCountsOf named all all' → AreCounted kept kept' → r ≡ length kept → t ≡ length kept'
    → w ≡ count_by (is_whole_by (times_in all') (times_in kept')) named → the_line r t w shipped ≡ line_by all named kept shipped
line_is all named kept all' kept' shipped r t w has those records traces whole =
    ap (λ n. the_line n t w shipped) records ∙ ap (λ n. the_line (length kept) n w shipped) (traces ∙ those.count)
    ∙ ap (λ n. the_line (length kept) (length (each_once kept)) n shipped) (whole ∙ whole_same all kept all' kept' named has those)

-- ---- each trace once

pub once_few : (traces : List TraceId) → length (each_once traces) ≤ length traces
once_few [] = omega arith
once_few (x ∷ traces) = by (is_among traces x) (once_few traces)
  where
    by : (b : Bool) → length (each_once traces) ≤ length traces → length (cond b (each_once traces) (x ∷ each_once traces)) ≤ suc (length traces)
    by true ih = omega (arith, ih)
    by false ih = omega (arith, ih)

times_cons : (x : TraceId) (traces : List TraceId) (t : TraceId) → times (x ∷ traces) t ≡ cond (is_same t x) 1 0 + times traces t
times_cons x traces t = sum_by-cons (λ (y : TraceId). cond (is_same t y) 1 0) x traces

once_less : (traces : List TraceId) (t : TraceId) → times (each_once traces) t ≤ times traces t
once_less [] t = omega arith
once_less (x ∷ traces) t = by (is_among traces x) (once_less traces t)
  where
    by : (b : Bool) → times (each_once traces) t ≤ times traces t → times (cond b (each_once traces) (x ∷ each_once traces)) t ≤ times (x ∷ traces) t
    by true ih = omega (arith, ih, times_cons x traces t)
    by false ih = omega (arith, ih, times_cons x traces t, times_cons x (each_once traces) t)

pub times_once : (traces : List TraceId) (t : TraceId) → times (each_once traces) t ≤ 1
times_once [] t = omega arith
times_once (x ∷ traces) t = by (is_among traces x) refl (times_once traces t)
  where
    first : (b : Bool) → is_same t x ≡ b → is_among traces x ≡ false → times (each_once traces) t ≤ 1 → cond b 1 0 + times (each_once traces) t ≤ 1
    first true e none ih = let here = none_counted traces t (ap (is_among traces) (sym (same_ids x t e)) ∙ none) in omega (arith, here, once_less traces t)
    first false e none ih = omega (arith, ih)

    by : (b : Bool) → is_among traces x ≡ b → times (each_once traces) t ≤ 1 → times (cond b (each_once traces) (x ∷ each_once traces)) t ≤ 1
    by true e ih = ih
    by false e ih = omega (arith, times_cons x (each_once traces) t, first (is_same t x) refl e ih)

-- ---- those that were counted

pub counted_is : (traces : List TraceId) (counts : Counts) → AreCounted traces counts → (t : TraceId) → is_counted counts t ≡ is_among traces t
counted_is traces counts are t = ap is_some (are.each t) ∙ found (is_among traces t)
  where
    found : (b : Bool) → is_some (cond b (Some (times traces t)) None) ≡ b
    found true = refl
    found false = refl

count_none : {X : Type 0} (xs : List X) → count_by (λ _. false) xs ≡ 0
count_none [] = refl
count_none (x ∷ xs) = let e = sum_by-cons (λ _. 0) x xs in let ih = count_none xs in omega (arith, e, ih)

count_either : {X : Type 0} (p q : X → Bool) (xs : List X) → count_by (λ x. p x || q x) xs ≤ count_by p xs + count_by q xs
count_either p q [] = omega arith
count_either p q (x ∷ xs) =
    let a = sum_by-cons (λ y. cond (p y || q y) 1 0) x xs in
    let b = sum_by-cons (λ y. cond (p y) 1 0) x xs in
    let c = sum_by-cons (λ y. cond (q y) 1 0) x xs in
    omega (arith, a, b, c, one (p x) (q x), count_either p q xs)
  where
    one : (a b : Bool) → cond {A = ℕ} (a || b) 1 0 ≤ cond a 1 0 + cond b 1 0
    one true b = omega arith
    one false b = omega arith

-- where each stands once in a list, as many of it are among some traces as there are of these
few_among : (traces named : List TraceId) → ((t : TraceId) → times named t ≤ 1) → count_by (is_among traces) named ≤ length traces
few_among [] named once = omega (arith, count_none named)
few_among (x ∷ traces) named once =
    omega (arith, count_either (λ (t : TraceId). x.0 == t.0) (is_among traces) named, count_alike (λ (t : TraceId). x.0 == t.0) (is_same x) (λ t. flip x.0 t.0) named, once x, few_among traces named once)
  where
    flip : (a b : ℕ) → (a == b) ≡ (b == a)
    flip a b = grind arith

pub named_few : (traces named : List TraceId) (counts : Counts) → AreCounted traces counts → ((t : TraceId) → times named t ≤ 1) → length (filter (is_counted counts) named) ≤ length traces
named_few traces named counts are once =
    omega (arith, length-filter (is_counted counts) named, count_alike (is_counted counts) (is_among traces) (counted_is traces counts are) named, few_among traces named once)

pub count_filtered : {X : Type 0} (p q : X → Bool) (xs : List X) → AllByRecursion (λ x. q x ≡ false → p x ≡ false) xs → count_by p (filter q xs) ≡ count_by p xs
count_filtered p q [] none = refl
count_filtered p q (x ∷ xs) none = by (q x) refl (count_filtered p q xs none.1)
  where
    by : (b : Bool) → q x ≡ b → count_by p (filter q xs) ≡ count_by p xs → count_by p (cond b (x ∷ filter q xs) (filter q xs)) ≡ count_by p (x ∷ xs)
    by true e ih = omega (arith, ih, sum_by-cons (λ y. cond (p y) 1 0) x xs, sum_by-cons (λ y. cond (p y) 1 0) x (filter q xs))
    by false e ih = let zero : cond {A = ℕ} (p x) 1 0 ≡ 0 = ap (λ b. cond b 1 0) (none.0 e) in omega (arith, ih, zero, sum_by-cons (λ y. cond (p y) 1 0) x xs)

-- a line leaves the others out, where they have no record
pub line_known : (traces named kept : List TraceId) (counts : Counts) (shipped : ℕ) → AllByRecursion (λ (t : TraceId). is_counted counts t ≡ false → times traces t ≡ 0) named
    → line_by traces (filter (is_counted counts) named) kept shipped ≡ line_by traces named kept shipped
line_known traces named kept counts shipped none =
    ap (λ n. the_line (length kept) (length (each_once kept)) n shipped)
    (count_filtered (is_whole_by (times traces) (times kept)) (is_counted counts) named
    (all_each (λ (t : TraceId). is_counted counts t ≡ false → times traces t ≡ 0) (λ (t : TraceId). is_counted counts t ≡ false → is_whole_by (times traces) (times kept) t ≡ false) named
    (λ t zero other. ap (λ n. nat_lt 0 n && (times kept t == n)) (zero other)) none))
