-- The entry at the place of the first that passes is the one that is found, and the one that is removed.
use Rattle.std.proofs.Common.{◌≡◌, ℕ, suc, ◌+◌, ◌<◌, ◌≤◌, Bool, true, false, not, cond, List, [], ◌∷◌, length, Some, None, option_map, refl, sym, ap, subst, ◌∙◌, arith}
use Rattle.std.specs.Prelude.{slice_get, position, remove, nat_lt}
use Rattle.std.specs.List.{position_or_len}
use Rattle.std.specs.Map.{lookup, remove_entry}
use Rattle.std.proofs.lemmas.Bool.{ltb-true, ltb-false}
use Rattle.std.proofs.lemmas.Option.{same_Some}

one_more : (n : ℕ) → suc n ≡ 1 + n
one_more n = omega arith

place_is : (b : Bool) (at place : ℕ) → cond b (Some at) None ≡ Some place → (b ≡ true) × (at ≡ place)
place_is true at place e = (refl, same_Some at place e)
place_is false at place e = let never : None ≡ Some place = e in absurd cc

none_is : (b : Bool) (at : ℕ) → cond b (Some at) None ≡ None → b ≡ false
none_is true at e = let never : Some at ≡ None = e in absurd cc
none_is false at e = refl

module _ {K X : Type 0} (test : K → Bool) where
  abbrev pub passes : K × X → Bool
  passes e = test e.0

  -- what stands at that place
  pub record IsPlace (es : List (K × X)) (place : ℕ) : Type 0 where
    pub within : place < length es
    pub removes : remove es place ≡ remove_entry test es
    pub found : lookup test es ≡ option_map (λ e. e.1) (slice_get es place)

  head_place : (e : K × X) (es : List (K × X)) → test e.0 ≡ true → IsPlace (e ∷ es) 0
  head_place e es y = record {
    within = omega arith;
    removes = sym (ap (λ b. cond b es (e ∷ remove_entry test es)) y);
    found = ap (λ b. cond b (Some e.1) (lookup test es)) y;
  }

  tail_place : (e : K × X) (es : List (K × X)) (place : ℕ) → test e.0 ≡ false → IsPlace es place → IsPlace (e ∷ es) (suc place)
  tail_place e es place n is = record {
    within = let within = is.within in omega (arith, within);
    removes = ap (λ (l : List (K × X)). e ∷ l) is.removes ∙ sym (ap (λ b. cond b es (e ∷ remove_entry test es)) n);
    found = ap (λ b. cond b (Some e.1) (lookup test es)) n ∙ is.found;
  }

  first_place : (es : List (K × X)) → position_or_len passes es < length es → IsPlace es (position_or_len passes es)
  first_place [] within = absurd (omega arith)
  first_place (e ∷ es) within = at (test e.0) refl within (first_place es)
    where
      at : (b : Bool) → test e.0 ≡ b → cond (not (test e.0)) (1 + position_or_len passes es) 0 < length (e ∷ es) → (position_or_len passes es < length es → IsPlace es (position_or_len passes es))
          → IsPlace (e ∷ es) (cond (not (test e.0)) (1 + position_or_len passes es) 0)
      at true y within rest = subst (λ b. IsPlace (e ∷ es) (cond (not b) (1 + position_or_len passes es) 0)) (sym y) (head_place e es y)
      at false n within rest =
          let past : cond (not (test e.0)) (1 + position_or_len passes es) 0 ≡ 1 + position_or_len passes es = ap (λ b. cond (not b) (1 + position_or_len passes es) 0) n in
          subst (λ b. IsPlace (e ∷ es) (cond (not b) (1 + position_or_len passes es) 0)) (sym n) (subst (IsPlace (e ∷ es)) (one_more (position_or_len passes es)) (tail_place e es (position_or_len passes es) n (rest (omega (arith, within, past)))))

  missing_from : (es : List (K × X)) → length es ≤ position_or_len passes es → (lookup test es ≡ None) × (remove_entry test es ≡ es)
  missing_from [] past = (refl, refl)
  missing_from (e ∷ es) past = at (test e.0) refl past (missing_from es)
    where
      at : (b : Bool) → test e.0 ≡ b → length (e ∷ es) ≤ cond (not (test e.0)) (1 + position_or_len passes es) 0 → (length es ≤ position_or_len passes es → (lookup test es ≡ None) × (remove_entry test es ≡ es))
          → (cond (test e.0) (Some e.1) (lookup test es) ≡ None) × (cond (test e.0) es (e ∷ remove_entry test es) ≡ e ∷ es)
      at true y past rest =
          let here : cond (not (test e.0)) (1 + position_or_len passes es) 0 ≡ 0 = ap (λ b. cond (not b) (1 + position_or_len passes es) 0) y in
          absurd (omega (arith, past, here))
      at false n past rest =
          let there : cond (not (test e.0)) (1 + position_or_len passes es) 0 ≡ 1 + position_or_len passes es = ap (λ b. cond (not b) (1 + position_or_len passes es) 0) n in
          let both = rest (omega (arith, past, there)) in
          (ap (λ b. cond b (Some e.1) (lookup test es)) n ∙ both.0, ap (λ b. cond b es (e ∷ remove_entry test es)) n ∙ ap (λ (l : List (K × X)). e ∷ l) both.1)

  pub found_place : (es : List (K × X)) (place : ℕ) → position passes es ≡ Some place → IsPlace es place
  found_place es place e =
      let parts = place_is (nat_lt (position_or_len passes es) (length es)) (position_or_len passes es) place e in
      subst (IsPlace es) parts.1 (first_place es (ltb-true (position_or_len passes es) (length es) parts.0))

  pub no_place : (es : List (K × X)) → position passes es ≡ None → (lookup test es ≡ None) × (remove_entry test es ≡ es)
  no_place es e = missing_from es (ltb-false (position_or_len passes es) (length es) (none_is (nat_lt (position_or_len passes es) (length es)) (position_or_len passes es) e))
