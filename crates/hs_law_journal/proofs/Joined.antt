-- Lists that are joined, and lists that grow pass by pass: what was added in the passes, one behind another, is the list.
use Rattle.std.proofs.Common.{◌≡◌, ℕ, zero, suc, ◌+◌, ◌<◌, ◌≤◌, List, [], ◌∷◌, ◌++◌, length, refl, sym, ap, ◌∙◌, Some, None, arith, append_assoc, append-nil, map, slice_get, take}
use Rattle.hs_law_journal.proofs.Prelude.{AllByRecursion, flat_map, range_with_len, length-map, map-append, same_Some, slice_get_within, Step, noted_as, AgentEvent}
use Rattle.std.proofs.lemmas.List.FromFn.{length-range_with_len}
use Rattle.hs_base.proofs.Parts.{take_whole}
use Rattle.hs_base.proofs.Ranges.{map_range_at}
use Rattle.hs_law_journal.specs.Doings.{joined, steps_of}

-- the first lists and one more
pub take_next : {X : Type 0} (lists : List (List X)) (k : ℕ) (next : List X) → slice_get lists k ≡ Some next → joined (take (suc k) lists) ≡ joined (take k lists) ++ next
take_next [] k next h = let no : None ≡ Some next = h in absurd cc
take_next (x ∷ lists) zero next h = append-nil x ∙ same_Some x next h
take_next (x ∷ lists) (suc k) next h = ap (λ rest. x ++ rest) (take_next lists k next h) ∙ sym (append_assoc x (joined (take k lists)) next)

-- the steps of passes that are joined
pub steps_joined : (k : ℕ) (passes : List (List AgentEvent)) → flat_map (λ pass. pass) (take k (map steps_of passes)) ≡ steps_of (joined (take k passes))
steps_joined zero passes = refl
steps_joined (suc k) [] = refl
steps_joined (suc k) (pass ∷ passes) = ap (λ (rest : List Step). steps_of pass ++ rest) (steps_joined k passes) ∙ sym (map-append noted_as pass (joined (take k passes)))

-- ---- one item for each pass

pub mapped_long : {X : Type 0} (f : ℕ → X) (count : ℕ) → length (map f (range_with_len 0 count)) ≡ count
mapped_long f count = length-map (range_with_len 0 count) f ∙ length-range_with_len 0 count

pub record IsMappedAt {X : Type 0} (f : ℕ → X) (count k : ℕ) (x : X) : Type 0 where
  pub low : k < count
  pub is : f k ≡ x

pub unmapped_at : {X : Type 0} (f : ℕ → X) (count k : ℕ) (x : X) → slice_get (map f (range_with_len 0 count)) k ≡ Some x → IsMappedAt f count k x
unmapped_at f count k x h =
    let within = slice_get_within (map f (range_with_len 0 count)) k x h in
    let long = mapped_long f count in
    let low : k < count = omega (arith, within, long) in
    record { low = low; is = same_Some (f k) x (sym (map_range_at f count k low) ∙ h) }

pub all_mapped_range : {X : Type 0} (P : X → Type 0) (f : ℕ → X) (count : ℕ) → ((k : ℕ) → k < count → P (f k)) → AllByRecursion P (map f (range_with_len 0 count))
all_mapped_range P f count each = from 0 count (λ k low high. each k (omega (arith, high)))
  where
    from : (start count : ℕ) → ((k : ℕ) → start ≤ k → k < start + count → P (f k)) → AllByRecursion P (map f (range_with_len start count))
    from start zero each = tt
    from start (suc count) each = (each start (omega arith) (omega arith), from (start + 1) count (λ k low high. each k (omega (arith, low)) (omega (arith, high))))

-- ---- a list that grows by so much in each pass

module _ {X : Type 0} (list more : ℕ → List X) (passes : ℕ) (begins : list 0 ≡ []) (grows : (k : ℕ) → k < passes → list (suc k) ≡ list k ++ more k) where
  pub grown : (k : ℕ) → k ≤ passes → joined (take k (map more (range_with_len 0 passes))) ≡ list k
  grown zero low = sym begins
  grown (suc k) low =
      take_next (map more (range_with_len 0 passes)) k (more k) (map_range_at more passes k (omega (arith, low)))
      ∙ ap (λ front. front ++ more k) (grown k (omega (arith, low)))
      ∙ sym (grows k (omega (arith, low)))

  pub grown_all : joined (map more (range_with_len 0 passes)) ≡ list passes
  grown_all = ap joined (sym (take_whole (map more (range_with_len 0 passes)) passes (let long = mapped_long more passes in omega (arith, long)))) ∙ grown passes (omega arith)

  pub grown_beyond : (k : ℕ) → passes ≤ k → joined (take k (map more (range_with_len 0 passes))) ≡ list passes
  grown_beyond k high = ap joined (take_whole (map more (range_with_len 0 passes)) k (let long = mapped_long more passes in omega (arith, long, high))) ∙ grown_all
