-- The traces that stay are the longest end of the list that is within the limits.
use Rattle.std.proofs.Common.{◌≡◌, ℕ, ◌≤◌, false, List, [], ◌∷◌, ◌++◌, length, refl, sym, ap, ◌∙◌, arith}
use Rattle.std.proofs.lemmas.List.{length-append}
use Rattle.hs_base.proofs.Bools.{by_answer}
use Rattle.hs_index.specs.Index.{Indexed, is_over, kept}
use Rattle.hs_index.specs.Calls.{IsLongestEnd}
use Rattle.hs_index.proofs.Evicting.{within-not-over, all-stay, first-leaves}

module _ {L : Type 0} (threshold most : ℕ) where
  rest : (ts : List (Indexed L)) → (gone : List (Indexed L)) × (ts ≡ gone ++ kept threshold most ts)
  rest [] = ([], refl)
  rest (t ∷ ts) =
      let more = rest ts in
      by_answer (is_over threshold most (t ∷ ts))
      (λ y. (t ∷ more.0, ap (λ l. t ∷ l) more.1 ∙ ap (λ l. t ∷ (more.0 ++ l)) (sym (first-leaves threshold most t ts y))))
      (λ n. ([], sym (all-stay threshold most (t ∷ ts) n)))

  pub within : (ts : List (Indexed L)) → is_over threshold most (kept threshold most ts) ≡ false
  within [] = within-not-over {L = L} threshold most [] (omega arith) (omega arith)
  within (t ∷ ts) =
      by_answer (is_over threshold most (t ∷ ts))
      (λ y. ap (is_over threshold most) (first-leaves threshold most t ts y) ∙ within ts)
      (λ n. ap (is_over threshold most) (all-stay threshold most (t ∷ ts) n) ∙ n)

  longest : (ts front back : List (Indexed L)) → ts ≡ front ++ back → is_over threshold most back ≡ false → length back ≤ length (kept threshold most ts)
  longest [] front back e h =
      let long = ap length e in
      let parts = length-append front back in
      omega (arith, long, parts)
  longest (t ∷ ts) [] back e h =
      let stay : kept threshold most (t ∷ ts) ≡ t ∷ ts = all-stay threshold most (t ∷ ts) (ap (is_over threshold most) e ∙ h) in
      let long = ap length e in
      let kept-long = ap length stay in
      omega (arith, long, kept-long)
  longest (t ∷ ts) (f ∷ front) back e h =
      let tail : ts ≡ front ++ back = cc in
      let shorter = longest ts front back tail h in
      by_answer (is_over threshold most (t ∷ ts))
      (λ y. let same = ap length (first-leaves threshold most t ts y) in omega (arith, shorter, same))
      (λ n. let same = ap length (all-stay threshold most (t ∷ ts) n) in
      let long = ap length e in
      let parts = length-append front back in
      omega (arith, same, long, parts))

  pub longest_end : (ts : List (Indexed L)) → IsLongestEnd threshold most ts (kept threshold most ts)
  longest_end ts = record { rest = rest ts; within = within ts; longest = λ front back e h. longest ts front back e h }
