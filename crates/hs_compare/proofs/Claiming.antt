-- Claimed traces that have records.
use Rattle.std.proofs.Common.{◌≡◌, ℕ, ◌+◌, ◌<◌, ◌==◌, ◌||◌, ◌&&◌, cond, Bool, true, false, List, [], ◌∷◌, ◌++◌, length, get_or, take, map, refl, sym, ap, ◌∙◌, arith}
use Rattle.hs_compare.proofs.Prelude.{not, count_by, AllByRecursion, list_any, take_more, sum_by-cons, TraceId, Entry, is_reported, is_gap, is_limited, is_counted}
use Rattle.std.proofs.Math.Bool.{or-true, or-false}
use Rattle.hs_base.proofs.Numbers.{nat_eq_itself}
use Rattle.hs_base.proofs.Alls.{all_weaker}
use Rattle.hs_compare.specs.Ringing.{is_among}
use Rattle.hs_compare.proofs.Counted.{Counts, among_more}
use Rattle.hs_compare.proofs.Queued.{same_ids}
use Rattle.hs_compare.proofs.Rings.{among_is}

-- ---- the trace of each record

abbrev pub traces_in : List Entry → List TraceId
traces_in entries = map (λ (e : Entry). e.trace) entries

pub each_among : (entries : List Entry) → AllByRecursion (λ (e : Entry). is_among (traces_in entries) e.trace ≡ true) entries
each_among [] = tt
each_among (e ∷ entries) = (
  ap (λ b. b || is_among (traces_in entries) e.trace) (nat_eq_itself e.trace.0),
  all_weaker (λ (f : Entry). is_among (traces_in entries) f.trace ≡ true) (λ (f : Entry). is_among (traces_in (e ∷ entries)) f.trace ≡ true)
      (λ f there. ap (λ b. (e.trace.0 == f.trace.0) || b) there ∙ or-true (e.trace.0 == f.trace.0)) entries (each_among entries),
)

-- ---- where each claimed trace of a record was counted, no claim is missed

abbrev pub AreClaims : Counts → List TraceId → List TraceId → Type 0
AreClaims counts claimed claims = (t : TraceId) → is_among claims t ≡ (is_counted counts t && is_among claimed t)

abbrev IsMet : Counts → List TraceId → Entry → Type 0
IsMet counts claimed e = is_among claimed e.trace ≡ true → is_counted counts e.trace ≡ true

claims_same : (counts : Counts) (claimed claims : List TraceId) → AreClaims counts claimed claims → (e : Entry) → IsMet counts claimed e → is_among claims e.trace ≡ is_among claimed e.trace
claims_same counts claimed claims are e met = are e.trace ∙ by (is_among claimed e.trace) met
  where
    by : (b : Bool) → (b ≡ true → is_counted counts e.trace ≡ true) → (is_counted counts e.trace && b) ≡ b
    by true met = ap (λ c. c && true) (met refl)
    by false met = and_false (is_counted counts e.trace)
      where
        and_false : (c : Bool) → (c && false) ≡ false
        and_false true = refl
        and_false false = refl

pub gaps_same : (counts : Counts) (claimed claims : List TraceId) (entries : List Entry) → AreClaims counts claimed claims → AllByRecursion (IsMet counts claimed) entries
    → count_by (is_gap claims) entries ≡ count_by (is_gap claimed) entries
gaps_same counts claimed claims [] are there = refl
gaps_same counts claimed claims (e ∷ entries) are there =
    let a = sum_by-cons (λ f. cond (is_gap claims f) 1 0) e entries in
    let b = sum_by-cons (λ f. cond (is_gap claimed f) 1 0) e entries in
    let one : cond {A = ℕ} (is_gap claims e) 1 0 ≡ cond (is_gap claimed e) 1 0 = ap (λ c. cond (c && not (is_reported e.fate)) 1 0) (claims_same counts claimed claims are e there.0) in
    let ih = gaps_same counts claimed claims entries are there.1 in
    omega (arith, a, b, one, ih)

pub limited_same : (counts : Counts) (named claimed claims : List TraceId) (entries : List Entry) → AreClaims counts claimed claims → AllByRecursion (IsMet counts claimed) entries
    → count_by (is_limited named claims) entries ≡ count_by (is_limited named claimed) entries
limited_same counts named claimed claims [] are there = refl
limited_same counts named claimed claims (e ∷ entries) are there =
    let a = sum_by-cons (λ f. cond (is_limited named claims f) 1 0) e entries in
    let b = sum_by-cons (λ f. cond (is_limited named claimed f) 1 0) e entries in
    let one : cond {A = ℕ} (is_limited named claims e) 1 0 ≡ cond (is_limited named claimed e) 1 0 = ap (λ c. cond (is_among named e.trace && not c) 1 0) (claims_same counts claimed claims are e there.0) in
    let ih = limited_same counts named claimed claims entries are there.1 in
    omega (arith, a, b, one, ih)

-- ---- a claimed trace more

put_among : (ks : List TraceId) (x t : TraceId) → is_among (cond (list_any (λ (other : TraceId). x.0 == other.0) ks) ks (ks ++ x ∷ [])) t ≡ (is_among ks t || (x.0 == t.0))
put_among ks x t = ap (λ b. is_among (cond b ks (ks ++ x ∷ [])) t) (among_is ks x) ∙ by (is_among ks x) refl
  where
    again : is_among ks x ≡ true → (e : Bool) → (x.0 == t.0) ≡ e → is_among ks t ≡ (is_among ks t || e)
    again ha true he = let yes : is_among ks t ≡ true = ap (is_among ks) (sym (same_ids x t he)) ∙ ha in yes ∙ sym (or-true (is_among ks t))
    again ha false he = sym (or-false (is_among ks t))

    by : (a : Bool) → is_among ks x ≡ a → is_among (cond a ks (ks ++ x ∷ [])) t ≡ (is_among ks t || (x.0 == t.0))
    by true ha = again ha (x.0 == t.0) refl
    by false ha = among_more ks x t

-- it was counted
pub claims_put : (counts : Counts) (claimed : List TraceId) (i : ℕ) (d : TraceId) (old new : List TraceId) → i < length claimed → AreClaims counts (take i claimed) old → is_counted counts (get_or claimed i d) ≡ true
    → new ≡ cond (list_any (λ (other : TraceId). (get_or claimed i d).0 == other.0) old) old (old ++ get_or claimed i d ∷ []) → AreClaims counts (take (i + 1) claimed) new
claims_put counts claimed i d old new within are there put t =
    let x = get_or claimed i d in
    ap (λ ks. is_among ks t) put ∙ put_among old x t ∙ ap (λ b. b || (x.0 == t.0)) (are t) ∙ by (is_counted counts t) refl (x.0 == t.0) refl
    ∙ ap (λ b. is_counted counts t && b) (sym (ap (λ ks. is_among ks t) (take_more claimed i d within) ∙ among_more (take i claimed) x t))
  where
    by : (c : Bool) → is_counted counts t ≡ c → (e : Bool) → ((get_or claimed i d).0 == t.0) ≡ e → ((c && is_among (take i claimed) t) || e) ≡ (c && (is_among (take i claimed) t || e))
    by true hc e he = refl
    by false hc false he = refl
    by false hc true he = let never : false ≡ true = sym hc ∙ ap (is_counted counts) (sym (same_ids (get_or claimed i d) t he)) ∙ there in absurd cc

-- it was not
pub claims_left : (counts : Counts) (claimed : List TraceId) (i : ℕ) (d : TraceId) (old : List TraceId) → i < length claimed → AreClaims counts (take i claimed) old → is_counted counts (get_or claimed i d) ≡ false
    → AreClaims counts (take (i + 1) claimed) old
claims_left counts claimed i d old within are none t =
    let x = get_or claimed i d in
    are t ∙ by (is_counted counts t) refl (x.0 == t.0) refl
    ∙ ap (λ b. is_counted counts t && b) (sym (ap (λ ks. is_among ks t) (take_more claimed i d within) ∙ among_more (take i claimed) x t))
  where
    by : (c : Bool) → is_counted counts t ≡ c → (e : Bool) → ((get_or claimed i d).0 == t.0) ≡ e → (c && is_among (take i claimed) t) ≡ (c && (is_among (take i claimed) t || e))
    by false hc e he = refl
    by true hc false he = sym (or-false (is_among (take i claimed) t))
    by true hc true he = let never : false ≡ true = sym none ∙ ap (is_counted counts) (same_ids (get_or claimed i d) t he) ∙ hc in absurd cc
