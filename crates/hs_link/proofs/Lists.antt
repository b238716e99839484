-- Lists read place by place, and places of a ring.
use Rattle.std.proofs.Common.{◌≡◌, ℕ, zero, suc, ◌+◌, ◌%◌, ◌<◌, ◌≤◌, ◌≢◌, subst, Bool, List, [], ◌∷◌, ◌++◌, length, take, drop, append_assoc, sym, refl, ap, ◌∙◌, inl, inr, ⊎_elim, lt_of_not-le, le_refl, mod-lt, add-one, arith, eqb, eq-eqb, ne_eqb, MatchBool, Option, Some, None, IfSome, length-append}
use native.Mathlib.Nat.{suc-mod, mod-eq_of_lt, mod_self}
use mathlib.Core.Option.{some, some-injective, some-ne-none}
use mathlib.Core.Logic.{dite}
use native.Mathlib.Decide.{dec_le, ℕ_discrete}
use lib.ListN.{get_elem?, length-take}
use lib.Seq.{drop-append_seam}
use Rattle.std.proofs.lemmas.List.{take-append-le, take-append-drop, take_all}
use Rattle.atomic_table.proofs.Lists.{at_longer, one_turn}
use Rattle.hs_link.specs.Contents.{IsBeginning, OneBegins, HasContents}
use Rattle.hs_link.specs.Ring.{Begins, AllHold}
use Rattle.std.specs.Option.{option_to_list}
use Rattle.hs_base.proofs.Places.{elem_push_cases}

module _ {T : Type 0} where
  -- a place with an item is below the length
  pub at_below : (xs : List T) (x : T) (j : ℕ) → get_elem? xs j ≡ some x → j < length xs
  at_below [] x j e = absurd (some-ne-none x (sym e))
  at_below (z ∷ zs) x zero e = omega arith
  at_below (z ∷ zs) x (suc j) e = let h = at_below zs x j e in omega arith

  pub at_place : (xs : List T) (j : ℕ) → j < length xs → (x : T) × (get_elem? xs j ≡ some x)
  at_place [] j h = absurd (omega arith)
  at_place (z ∷ zs) zero h = (z, refl)
  at_place (z ∷ zs) (suc j) h = at_place zs j (omega arith)

  pub begins_grown : (xs ys : List T) (y : T) → Begins xs ys → Begins xs (ys ++ y ∷ [])
  begins_grown xs ys y b p x e = at_longer ys (y ∷ []) p x (b p x e)

  pub grown_begins : (xs ys : List T) (x : T) → Begins xs ys → get_elem? ys (length xs) ≡ some x → Begins (xs ++ x ∷ []) ys
  grown_begins xs ys x b next p y e = ⊎_elim (b p y) (λ (t : (p ≡ length xs) × (x ≡ y)). ap (get_elem? ys) t.0 ∙ (next ∙ ap some t.1)) (elem_push_cases xs x y p e)

  pub begins_length : (xs ys : List T) → Begins xs ys → length xs ≤ length ys
  begins_length [] ys b = omega arith
  begins_length (x ∷ xs) [] b = absurd (some-ne-none x (sym (b 0 x refl)))
  begins_length (x ∷ xs) (y ∷ ys) b = let h = begins_length xs ys (λ p. b (suc p)) in omega arith

  -- of two beginnings of one list, the shorter is the beginning of the other
  pub shorter_begins : (xs ys zs : List T) → Begins xs zs → Begins ys zs → length xs ≤ length ys → IsBeginning xs ys
  shorter_begins [] ys zs a b h = refl
  shorter_begins (x ∷ xs) [] zs a b h = absurd (omega arith)
  shorter_begins (x ∷ xs) (y ∷ ys) [] a b h = absurd (some-ne-none x (sym (a 0 x refl)))
  shorter_begins (x ∷ xs) (y ∷ ys) (z ∷ zs) a b h =
      let is : y ≡ x = sym (some-injective z y (b 0 y refl)) ∙ some-injective z x (a 0 x refl) in
      let rest : take (length xs) ys ≡ xs = shorter_begins xs ys zs (λ p. a (suc p)) (λ p. b (suc p)) (omega arith) in λ i. is i ∷ rest i

  pub begins_taken : (xs ys : List T) → Begins xs ys → IsBeginning xs ys
  begins_taken xs ys b = shorter_begins xs ys ys b (λ p x e. e) (begins_length xs ys b)

  pub one_begins : (xs ys zs : List T) → Begins xs zs → Begins ys zs → OneBegins xs ys
  one_begins xs ys zs a b = dite (dec_le (length xs) (length ys)) (λ h. inl (shorter_begins xs ys zs a b h)) (λ n. let h = lt_of_not-le n in inr (shorter_begins ys xs zs b a (omega arith)))

module _ {T : Type 0} where
  pub beginning_short : (xs ys : List T) → IsBeginning xs ys → length xs ≤ length ys
  beginning_short xs ys e = let l = length-take (length xs) ys in let same : length (take (length xs) ys) ≡ length xs = ap length e in omega arith

  pub beginning_grown : (xs ys zs : List T) → IsBeginning xs ys → IsBeginning xs (ys ++ zs)
  beginning_grown xs ys zs e = take-append-le (length xs) ys zs (beginning_short xs ys e) ∙ e

  pub beginning_trans : (xs ys zs : List T) → IsBeginning xs ys → IsBeginning ys zs → IsBeginning xs zs
  beginning_trans xs ys zs a b = let short = beginning_short xs ys a in sym (ap (λ (z : List T). take (length xs) z) (take-append-drop (length ys) zs))
      ∙ (take-append-le (length xs) (take (length ys) zs) (drop (length ys) zs) (let l = ap length b in let h : length xs ≤ length (take (length ys) zs) = omega arith in h) ∙ (ap (take (length xs)) b ∙ a))

  -- a list is its beginning and what comes after
  pub after_beginning : (xs ys : List T) → IsBeginning xs ys → ys ≡ xs ++ drop (length xs) ys
  after_beginning xs ys e = sym (take-append-drop (length xs) ys) ∙ ap (λ (z : List T). z ++ drop (length xs) ys) e

  pub contents_of : (put outbox received : List T) → IsBeginning received put → (ring : List T) × HasContents (put ++ outbox) received ring outbox × (put ≡ received ++ ring)
  contents_of put outbox received e = let split = after_beginning received put e in (drop (length received) put, ap (λ (z : List T). z ++ outbox) split ∙ append_assoc received (drop (length received) put) outbox, split)

  -- what leaves a list at its front
  pub first_holds : (P : T → Type 0) (o : Option T) (xs ys : List T) → xs ≡ option_to_list o ++ ys → AllHold P xs → IfSome o (λ x. (xs ≡ x ∷ ys) × P x)
  first_holds P None xs ys e h = tt
  first_holds P (Some x) xs ys e h = (e, h 0 x (ap (λ (z : List T). get_elem? z 0) e))

  pub rest_holds : (P : T → Type 0) (o : Option T) (xs ys : List T) → xs ≡ option_to_list o ++ ys → AllHold P xs → AllHold P ys
  rest_holds P None xs ys e h p x at = h p x (ap (λ (z : List T). get_elem? z p) e ∙ at)
  rest_holds P (Some y) xs ys e h p x at = h (suc p) x (ap (λ (z : List T). get_elem? z (suc p)) e ∙ at)

  pub rest_short : (o : Option T) (xs ys : List T) → xs ≡ option_to_list o ++ ys → length ys ≤ length xs
  rest_short o xs ys e = let l = ap length e in omega (arith, length-append (option_to_list o) ys)

  -- what is left of a list goes on with its next item
  next_left : (xs ys : List T) (x : T) → IsBeginning (xs ++ x ∷ []) ys → drop (length xs) ys ≡ x ∷ drop (length (xs ++ x ∷ [])) ys
  next_left xs ys x e = let left = drop (length (xs ++ x ∷ [])) ys in
      ap (drop (length xs)) (after_beginning (xs ++ x ∷ []) ys e ∙ append_assoc xs (x ∷ []) left) ∙ drop-append_seam xs (x ∷ left)

  -- of two lists of which one begins the other, the one that is not longer begins
  begins_if_short : (xs ys : List T) → OneBegins xs ys → length xs ≤ length ys → IsBeginning xs ys
  begins_if_short xs ys one short = elim one [ inl e ↦ e | inr e ↦ let same : xs ≡ ys = sym (take_all (length ys) xs short) ∙ e in subst (λ (z : List T). take (length xs) z ≡ xs) same (take_all (length xs) xs (le_refl (length xs))) ]

  -- an item that was received is the next of what is left
  pub next_given : (xs ys told put outbox : List T) (o : Option T) → told ≡ put → length xs < length put → IfSome o (λ x. (ys ≡ xs ++ x ∷ []) × OneBegins ys told)
      → IfSome o (λ x. drop (length xs) put ++ outbox ≡ x ∷ (drop (length ys) put ++ outbox))
  next_given xs ys told put outbox None all more got = tt
  next_given xs ys told put outbox (Some x) all more got = let grown = got.0 in let one : OneBegins (xs ++ x ∷ []) put = subst (λ (z : List T × List T). OneBegins z.0 z.1) (λ i. (grown i, all i)) got.1 in
      let begins = begins_if_short (xs ++ x ∷ []) put one (omega (arith, length-append xs (x ∷ []))) in
      ap (λ (z : List T). z ++ outbox) (next_left xs put x begins ∙ ap (λ (z : List T). x ∷ drop (length z) put) (sym grown))

  pub beginning_self : (xs : List T) → IsBeginning xs xs
  beginning_self xs = begins_taken xs xs (λ p x e. e)

-- two places of one turn have different entries
pub apart : (n low a p : ℕ) → low ≤ a → a < low + n → low ≤ p → p < low + n → p ≢ a → p % n ≢ a % n
apart n low a p a₀ a₁ p₀ p₁ other same = dite (dec_le a p) (λ le. other (sym (one_turn a p n le (omega arith) (sym same)))) (λ not. let gt = lt_of_not-le not in other (one_turn p a n (omega arith) (omega arith) same))

-- what a test for zero tells
pub match_zero : (n : ℕ) (A B : Type 0) → (n ≡ 0 → A) → (n ≢ 0 → B) → MatchBool (eqb n 0) A B
match_zero n A B hit miss = dite (ℕ_discrete n 0) (λ e. subst (λ (b : Bool). MatchBool b A B) (sym (eq-eqb n 0 e)) (hit e)) (λ ne. subst (λ (b : Bool). MatchBool b A B) (sym (ne_eqb n 0 ne)) (miss ne))

after : (n m : ℕ) → (n + 1) % m ≡ suc (n % m) % m
after n m = ap (λ (z : ℕ). z % m) (add-one n) ∙ suc-mod n m

-- the entry after that of item n
pub next_entry : (n m e : ℕ) → e ≡ n % m → e + 1 < m → e + 1 ≡ (n + 1) % m
next_entry n m e is near = let last : suc (n % m) < m = omega arith in let same : suc (n % m) ≡ e + 1 = omega arith in sym (after n m ∙ (mod-eq_of_lt last ∙ same))

-- the first entry again
pub first_entry : (n m e : ℕ) → e ≡ n % m → 0 < m → m ≤ e + 1 → 0 ≡ (n + 1) % m
first_entry n m e is pos far = let low : n % m < m = mod-lt n pos in let turn : suc (n % m) ≡ m = omega arith in sym (after n m ∙ (ap (λ (z : ℕ). z % m) turn ∙ mod_self m))
