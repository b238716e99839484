-- A sequence with one item written.
use Rattle.std.proofs.Common.{◌≡◌, inl, inr, ℕ, ap, sym, ◌∙◌}
use Rattle.std.proofs.lemmas.Bool.{cases_eq}

-- two sequences that agree at one place and at all others
pub same_everywhere : {A : Type 0} (f g : ℕ → A) (n : ℕ) → f n ≡ g n → ((k : ℕ) → (k ≡ n → ⊥) → f k ≡ g k) → (k : ℕ) → f k ≡ g k
same_everywhere f g n here there k = elim (cases_eq k n) [ inl e ↦ ap f e ∙ here ∙ ap g (sym e) | inr ne ↦ there k ne ]
