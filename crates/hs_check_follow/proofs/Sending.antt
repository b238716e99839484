-- An ask goes to one node after another.
use Rattle.std.proofs.Common.{◌≡◌, ◌⊎◌, inl, inr, ℕ, ◌+◌, ◌≤◌, List, length, Some, refl, sym, ap, ◌∙◌, arith, length-set}
use Rattle.hs_check_follow.proofs.Prelude.{slice_get, get_set_cases, Listing, Ask, ChangesAt, AreSent, sent_by}
use Rattle.std.proofs.lemmas.Bool.{cases_lt}
use Rattle.hs_coord.specs.declared.asks.Asks.{Asks}

pub sent_none : (asks : Asks) (lists : List (Listing Ask)) → AreSent asks 0 lists lists
sent_none asks lists = record { count = refl; before = λ n list at low. absurd (omega (arith, low)); behind = λ n list at high. at }

module _ (asks : Asks) (node : ℕ) (old middle new : List (Listing Ask)) (are : AreSent asks node old middle) (changes : ChangesAt node middle new (λ old new. new.items ≡ sent_by asks node old.items)) where
  there : (n : ℕ) (list : Listing Ask) → slice_get new n ≡ Some list → ((node ≡ n) × (changes.now ≡ list)) ⊎ ((node ≡ n → ⊥) × (slice_get middle n ≡ Some list))
  there n list at = get_set_cases middle node n changes.before changes.now list changes.stood (ap (λ (l : List (Listing Ask)). slice_get l n) (sym changes.set) ∙ at)

  own : (n : ℕ) (list : Listing Ask) → node ≡ n → changes.now ≡ list → (was : Listing Ask) × (slice_get old n ≡ Some was) × (list.items ≡ sent_by asks n was.items)
  own n list same is =
      let here : node ≤ node = omega arith in
      (changes.before, ap (slice_get old) (sym same) ∙ are.behind node changes.before changes.stood here, ap (λ (l : Listing Ask). l.items) (sym is) ∙ changes.became ∙ ap (λ i. sent_by asks i changes.before.items) same)

  pub sent_more : AreSent asks (node + 1) old new
  sent_more =
      record {
        count = ap length changes.set ∙ length-set middle node changes.now ∙ are.count;
        before =
            λ n list at low.
            elim (there n list at) as (λ _. (was : Listing Ask) × (slice_get old n ≡ Some was) × (list.items ≡ sent_by asks n was.items)) [
              | inl h ↦ own n list h.0 h.1
              | inr h ↦
                  elim (cases_lt n node) as (λ _. (was : Listing Ask) × (slice_get old n ≡ Some was) × (list.items ≡ sent_by asks n was.items)) [
                    | inl less ↦ are.before n list h.1 less
                    | inr more ↦ let same : node ≡ n = omega (arith, more, low) in absurd (h.0 same)
                  ]
            ];
        behind =
            λ n list at high.
            elim (there n list at) as (λ _. slice_get old n ≡ Some list) [
              | inl h ↦ let same = h.0 in absurd (omega (arith, same, high))
              | inr h ↦ are.behind n list h.1 (omega (arith, high))
            ];
      }
