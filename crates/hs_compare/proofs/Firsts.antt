-- The first item of a list, and the last ones of a list that has room.
use Rattle.std.proofs.Common.{◌≡◌, ℕ, ◌-◌, ◌≤◌, cond, Bool, true, false, List, [], ◌∷◌, length, drop, slice_get, Some, None, refl, sym, ap, arith}
use Rattle.hs_compare.proofs.Prelude.{same_Some, length-drop}
use Rattle.circular_buffer.specs.Buffer.{keep_last}

pub first_some : {X : Type 0} (xs : List X) (x : X) → Some x ≡ slice_get xs 0 → xs ≡ x ∷ drop 1 xs
first_some [] x h = absurd (cc)
first_some (y ∷ ys) x h = ap (λ z. z ∷ ys) (sym (same_Some x y h))

pub first_none : {X : Type 0} (xs : List X) → None ≡ slice_get xs 0 → xs ≡ []
first_none [] h = refl
first_none (y ∷ ys) h = absurd (cc)

pub kept_whole : {X : Type 0} (n : ℕ) (xs : List X) → length xs ≤ n → keep_last n xs ≡ xs
kept_whole n xs h = let none : length xs - n ≡ 0 = omega arith in ap (λ k. drop k xs) none

pub cond_both : {X : Type 0} (b : Bool) (x : X) → cond b x x ≡ x
cond_both true x = refl
cond_both false x = refl

pub drop-less : {X : Type 0} (n : ℕ) (xs : List X) → length (drop n xs) ≤ length xs
drop-less n xs = omega (arith, length-drop n xs)
