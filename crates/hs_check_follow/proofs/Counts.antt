-- Whether clients have as many draws as pages, one client after another.
use Rattle.std.proofs.Common.{◌≡◌, ℕ, zero, suc, ◌+◌, ◌<◌, ◌≤◌, Bool, true, false, eqb, List, [], ◌∷◌, length, map, drop, get_or, refl, sym, ap, ◌∙◌, arith}
use Rattle.hs_check_follow.proofs.Prelude.{◌&&◌, drop_more, drop_all, Listing, Draw, pages_of, Op, operations_of}
use Rattle.hs_law_journal.specs.Shape.{same_counts}

-- whether these clients have as many draws as pages
abbrev pub have_drawn : ℕ → List (Listing Draw) → List (Listing Op) → Bool
have_drawn size draws clients = same_counts (map length (map (λ (d : Listing Draw). d.items) draws)) (map (λ ops. length (pages_of size ops)) (map operations_of clients))

module _ (size : ℕ) where
  pub other_count : (draws : List (Listing Draw)) (clients : List (Listing Op)) → (length draws ≡ length clients → ⊥) → false ≡ have_drawn size draws clients
  other_count [] [] differ = absurd (differ refl)
  other_count [] (c ∷ clients) differ = refl
  other_count (d ∷ draws) [] differ = refl
  other_count (d ∷ draws) (c ∷ clients) differ =
      later (eqb (length d.items) (length (pages_of size (operations_of c)))) (have_drawn size draws clients) (other_count draws clients (λ e. differ (ap suc e)))
    where
      later : (a b : Bool) → false ≡ b → false ≡ (a && b)
      later true b e = e
      later false b e = refl

  module _ (draws : List (Listing Draw)) (clients : List (Listing Op)) (i : ℕ) where
    next : (d : Listing Draw) (c : Listing Op) → i < length draws → i < length clients → d ≡ get_or draws i d → c ≡ get_or clients i c
        → have_drawn size (drop i draws) (drop i clients) ≡ (eqb (length d.items) (length (pages_of size (operations_of c))) && have_drawn size (drop (i + 1) draws) (drop (i + 1) clients))
    next d c a b is_d is_c =
        ap (λ (l : List (Listing Draw)). have_drawn size l (drop i clients)) (drop_more draws i d a)
        ∙ ap (λ (l : List (Listing Op)). have_drawn size (get_or draws i d ∷ drop (i + 1) draws) l) (drop_more clients i c b)
        ∙ sym (ap (λ (x : Listing Draw). have_drawn size (x ∷ drop (i + 1) draws) (get_or clients i c ∷ drop (i + 1) clients)) is_d)
        ∙ sym (ap (λ (x : Listing Op). have_drawn size (d ∷ drop (i + 1) draws) (x ∷ drop (i + 1) clients)) is_c)

    pub counts_more : (d : Listing Draw) (c : Listing Op) → i < length draws → i < length clients → d ≡ get_or draws i d → c ≡ get_or clients i c
        → (whole : Bool) → eqb (length d.items) (length (pages_of size (operations_of c))) ≡ true → have_drawn size (drop i draws) (drop i clients) ≡ whole → have_drawn size (drop (i + 1) draws) (drop (i + 1) clients) ≡ whole
    counts_more d c a b is_d is_c whole same e = sym (ap (λ t. t && have_drawn size (drop (i + 1) draws) (drop (i + 1) clients)) same) ∙ sym (next d c a b is_d is_c) ∙ e

    pub counts_fail : (d : Listing Draw) (c : Listing Op) → i < length draws → i < length clients → d ≡ get_or draws i d → c ≡ get_or clients i c
        → (whole : Bool) → eqb (length d.items) (length (pages_of size (operations_of c))) ≡ false → have_drawn size (drop i draws) (drop i clients) ≡ whole → false ≡ whole
    counts_fail d c a b is_d is_c whole differ e = sym (ap (λ t. t && have_drawn size (drop (i + 1) draws) (drop (i + 1) clients)) differ) ∙ sym (next d c a b is_d is_c) ∙ e

    pub counts_done : length draws ≤ i → length clients ≤ i → (whole : Bool) → have_drawn size (drop i draws) (drop i clients) ≡ whole → true ≡ whole
    counts_done a b whole e = sym (ap (λ (l : List (Listing Draw)). have_drawn size l (drop i clients)) (drop_all i draws a) ∙ ap (λ (l : List (Listing Op)). have_drawn size [] l) (drop_all i clients b)) ∙ e
