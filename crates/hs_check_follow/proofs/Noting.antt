-- One step more, and what is noted behind the passes.
use Rattle.std.proofs.Common.{◌≡◌, ℕ, zero, suc, ◌+◌, ◌<◌, ◌≤◌, Bool, true, false, cond, List, [], ◌∷◌, ◌++◌, length, map, take, drop, refl, sym, ap, ◌∙◌, arith, length-append}
use Rattle.hs_check_follow.proofs.Prelude.{map-append, Step, NodeRun, AgentState, AgentEvent, after, PlainSettings, ends_front, ends_within, behind_at, noted_if}
use Rattle.hs_base.proofs.Parts.{take_whole}

-- ---- ends

pub ends_more : (here k : ℕ) (log : List Step) → k < length log → ends_within here (suc k) log ≡ ends_within here k log ++ noted_if (ends_front (drop k log)) (here + k + 1)
ends_more here k [] low = absurd (omega (arith, low))
ends_more here zero (step ∷ log) low =
    let same : here + 1 ≡ here + 0 + 1 = omega arith in
    one (ends_front (step ∷ log)) (here + 1) (here + 0 + 1) same
  where
    one : (b : Bool) (n m : ℕ) → n ≡ m → cond b (n ∷ []) [] ≡ noted_if b m
    one true n m e = ap (λ k. k ∷ []) e
    one false n m e = refl
ends_more here (suc k) (step ∷ log) low =
    let rest = ends_more (here + 1) k log (omega (arith, low)) in
    let same : here + 1 + k + 1 ≡ here + suc k + 1 = omega arith in
    ap (λ l. cond (ends_front (step ∷ log)) ((here + 1) ∷ l) l) (rest ∙ ap (λ m. ends_within (here + 1) k log ++ noted_if (ends_front (drop k log)) m) same)
    ∙ both (ends_front (step ∷ log)) (here + 1) (ends_within (here + 1) k log) (noted_if (ends_front (drop k log)) (here + suc k + 1))
  where
    both : (b : Bool) (n : ℕ) (l m : List ℕ) → cond b (n ∷ (l ++ m)) (l ++ m) ≡ cond b (n ∷ l) l ++ m
    both true n l m = refl
    both false n l m = refl

-- at what was noted so far nothing changes
pub ends_alike : (f g : ℕ → ℕ) (here k : ℕ) (log : List Step) → ((m : ℕ) → m ≤ here + k → f m ≡ g m) → map f (ends_within here k log) ≡ map g (ends_within here k log)
ends_alike f g here zero log same = refl
ends_alike f g here (suc k) [] same = refl
ends_alike f g here (suc k) (step ∷ log) same =
    let rest = ends_alike f g (here + 1) k log (λ m low. same m (omega (arith, low))) in
    let first = same (here + 1) (omega arith) in
    both (ends_front (step ∷ log)) first rest
  where
    both : (b : Bool) → f (here + 1) ≡ g (here + 1) → map f (ends_within (here + 1) k log) ≡ map g (ends_within (here + 1) k log)
        → map f (cond b ((here + 1) ∷ ends_within (here + 1) k log) (ends_within (here + 1) k log)) ≡ map g (cond b ((here + 1) ∷ ends_within (here + 1) k log) (ends_within (here + 1) k log))
    both true e rest = λ i. e i ∷ rest i
    both false e rest = rest

-- ---- events

take_front : {A : Type 0} (xs more : List A) (n : ℕ) → n ≤ length xs → take n (xs ++ more) ≡ take n xs
take_front [] more zero low = refl
take_front [] more (suc n) low = absurd (omega (arith, low))
take_front (x ∷ xs) more zero low = refl
take_front {A = A} (x ∷ xs) more (suc n) low = ap (λ (l : List A). x ∷ l) (take_front xs more n (omega (arith, low)))

-- ---- notes

module _ (count : AgentState → ℕ) (settings : PlainSettings) (run next : NodeRun) (event : AgentEvent) (node_is : next.node ≡ run.node) (events_are : next.events ≡ run.events ++ event ∷ []) (comes : next.state ≡ after settings next.node next.events) where
  same_behind : (n : ℕ) → n ≤ length run.events → behind_at settings run count n ≡ behind_at settings next count n
  same_behind n low =
      ap (λ node. count (after settings node (take n run.events))) (sym node_is)
      ∙ ap (λ (l : List AgentEvent). count (after settings next.node l)) (sym (take_front run.events (event ∷ []) n low) ∙ ap (take n) (sym events_are))

  last_behind : (n : ℕ) → n ≡ length run.events + 1 → behind_at settings next count n ≡ count next.state
  last_behind n is =
      let long = ap length events_are ∙ length-append run.events (event ∷ []) in
      ap (λ (l : List AgentEvent). count (after settings next.node l)) (take_whole next.events n (omega (arith, is, long))) ∙ ap count (sym comes)

  pub noted_more : (log : List Step) (k : ℕ) → length run.events ≡ k → k < length log → (last : Bool) → last ≡ ends_front (drop k log) → (notes notes' : List ℕ) → notes ≡ map (behind_at settings run count) (ends_within 0 k log)
      → notes' ≡ notes ++ noted_if last (count next.state) → (k' : ℕ) → k' ≡ k + 1 → notes' ≡ map (behind_at settings next count) (ends_within 0 k' log)
  noted_more log k long low last last_is notes notes' were are k' k_is =
      let on : k' ≡ suc k = omega (arith, k_is) in
      let front = ends_alike (behind_at settings run count) (behind_at settings next count) 0 k log (λ m m_low. same_behind m (omega (arith, m_low, long))) in
      let number : 0 + k + 1 ≡ length run.events + 1 = omega (arith, long) in
      are
      ∙ ap (λ (l : List ℕ). l ++ noted_if last (count next.state)) (were ∙ front)
      ∙ ap (λ (l : List ℕ). map (behind_at settings next count) (ends_within 0 k log) ++ l) (one last (sym (last_behind (0 + k + 1) number)) ∙ ap (λ b. map (behind_at settings next count) (noted_if b (0 + k + 1))) last_is)
      ∙ sym (map-append (behind_at settings next count) (ends_within 0 k log) (noted_if (ends_front (drop k log)) (0 + k + 1)))
      ∙ ap (map (behind_at settings next count)) (sym (ends_more 0 k log low))
      ∙ ap (λ n. map (behind_at settings next count) (ends_within 0 n log)) (sym on)
    where
      one : (b : Bool) → count next.state ≡ behind_at settings next count (0 + k + 1) → noted_if b (count next.state) ≡ map (behind_at settings next count) (noted_if b (0 + k + 1))
      one true e = ap (λ n. n ∷ []) e
      one false e = refl
