-- The passes of a log end where its steps say so.
use Rattle.std.proofs.Common.{◌≡◌, ℕ, zero, suc, ◌+◌, ◌≤◌, Bool, true, false, cond, List, [], ◌∷◌, length, map, take, refl, sym, ap, ◌∙◌, arith, length-append}
use Rattle.hs_check_follow.proofs.Prelude.{flat_map, range_with_len, Step, NodeRun, AgentState, PlainSettings, ends_front, ends_within, behind_at}
use Rattle.hs_base.proofs.Parts.{map_alike}
use Rattle.hs_law_journal.specs.Passes.{ends_between, put_step, passes_of, steps_in}
use Rattle.hs_law_journal.specs.Played.{state_behind}
use Rattle.hs_check_follow.specs.Finding.{behind_passes}

-- ---- passes

-- where passes end that begin here
abbrev ends_of : ℕ → List (List Step) → List ℕ
ends_of here [] = []
ends_of here (pass ∷ passes) = (here + length pass) ∷ ends_of (here + length pass) passes

begins : (step : Step) (log : List Step) → (pass : List Step) × (later : List (List Step)) × (passes_of (step ∷ log) ≡ (step ∷ pass) ∷ later)
begins step log = put_begins (passes_of log)
  where
    put_begins : (passes : List (List Step)) → (pass : List Step) × (later : List (List Step)) × (put_step step passes ≡ (step ∷ pass) ∷ later)
    put_begins [] = ([], [], refl)
    put_begins ([] ∷ passes) = ([], passes, refl)
    put_begins ((next ∷ pass) ∷ passes) = at (ends_between step next)
      where
        at : (b : Bool) → (front : List Step) × (later : List (List Step)) × (cond b ((step ∷ []) ∷ (next ∷ pass) ∷ passes) ((step ∷ next ∷ pass) ∷ passes) ≡ (step ∷ front) ∷ later)
        at true = ([], (next ∷ pass) ∷ passes, refl)
        at false = (next ∷ pass, passes, refl)

ends_are : (here : ℕ) (log : List Step) → ends_of here (passes_of log) ≡ ends_within here (length log) log
ends_are here [] = refl
ends_are here (step ∷ []) = refl
ends_are here (step ∷ next ∷ log) =
    let h = begins next log in
    let rest = ap (ends_of (here + 1)) (sym h.2) ∙ ends_are (here + 1) (next ∷ log) in
    ap (λ l. ends_of here (put_step step l)) h.2 ∙ at (ends_between step next) h.0 h.1 rest
  where
    at : (b : Bool) (pass : List Step) (later : List (List Step)) → ends_of (here + 1) ((next ∷ pass) ∷ later) ≡ ends_within (here + 1) (length (next ∷ log)) (next ∷ log)
        → ends_of here (cond b ((step ∷ []) ∷ (next ∷ pass) ∷ later) ((step ∷ next ∷ pass) ∷ later)) ≡ cond b ((here + 1) ∷ ends_within (here + 1) (length (next ∷ log)) (next ∷ log)) (ends_within (here + 1) (length (next ∷ log)) (next ∷ log))
    at true pass later rest = ap (λ (l : List ℕ). (here + 1) ∷ l) rest
    at false pass later rest = let same : here + length (step ∷ next ∷ pass) ≡ (here + 1) + length (next ∷ pass) = omega arith in ap (λ n. n ∷ ends_of n later) same ∙ rest

-- ---- what is behind passes

map_shift : (f : ℕ → ℕ) (start count : ℕ) → map f (range_with_len (start + 1) count) ≡ map (λ k. f (k + 1)) (range_with_len start count)
map_shift f start zero = refl
map_shift f start (suc count) = ap (λ (l : List ℕ). f (start + 1) ∷ l) (map_shift f (start + 1) count)

-- the passes end behind so many steps
steps_are : (f : ℕ → ℕ) (here : ℕ) (passes : List (List Step)) → map (λ k. f (here + steps_in passes k)) (range_with_len 1 (length passes)) ≡ map f (ends_of here passes)
steps_are f here [] = refl
steps_are f here (pass ∷ passes) =
    let one : here + steps_in (pass ∷ passes) 1 ≡ here + length pass = ap (λ n. here + n) (length-append pass [] ∙ (omega arith)) in
    let on : (k : ℕ) → f (here + steps_in (pass ∷ passes) (k + 1)) ≡ f ((here + length pass) + steps_in passes k) = λ k.
    let more : k + 1 ≡ suc k = omega arith in
    let both = ap (steps_in (pass ∷ passes)) more ∙ length-append pass (flat_map (λ p. p) (take k passes)) in
    let same : here + steps_in (pass ∷ passes) (k + 1) ≡ (here + length pass) + steps_in passes k = omega (arith, both) in
    ap f same in
    λ i. f (one i) ∷ (map_shift (λ k. f (here + steps_in (pass ∷ passes) k)) 1 (length passes) ∙ map_alike (λ k. f (here + steps_in (pass ∷ passes) (k + 1))) (λ k. f ((here + length pass) + steps_in passes k)) (range_with_len 1 (length passes)) on ∙ steps_are f (here + length pass) passes) i

-- there is nothing behind the log
ends_past : (here k : ℕ) (log : List Step) → length log ≤ k → ends_within here k log ≡ ends_within here (length log) log
ends_past here zero [] high = refl
ends_past here (suc k) [] high = refl
ends_past here zero (step ∷ log) high = absurd (omega (arith, high))
ends_past here (suc k) (step ∷ log) high =
    let rest = ends_past (here + 1) k log (omega (arith, high)) in
    ap (λ l. cond (ends_front (step ∷ log)) ((here + 1) ∷ l) l) rest

-- what was noted behind all passes of the log
pub all_noted : (settings : PlainSettings) (run : NodeRun) (count : AgentState → ℕ) (log : List Step) → run.state.log ≡ log → (next : ℕ) → length log ≤ next
    → map (behind_at settings run count) (ends_within 0 next log) ≡ behind_passes run (λ k. count (state_behind settings run (steps_in (passes_of run.state.log) k)))
all_noted settings run count log is next all =
    let f = behind_at settings run count in
    let zero_on : (k : ℕ) → f (0 + steps_in (passes_of log) k) ≡ f (steps_in (passes_of log) k) = λ k. let e : 0 + steps_in (passes_of log) k ≡ steps_in (passes_of log) k = omega arith in ap f e in
    ap (map f) (ends_past 0 next log all)
    ∙ ap (map f) (sym (ends_are 0 log))
    ∙ sym (steps_are f 0 (passes_of log))
    ∙ map_alike (λ k. f (0 + steps_in (passes_of log) k)) (λ k. f (steps_in (passes_of log) k)) (range_with_len 1 (length (passes_of log))) zero_on
    ∙ ap (λ (l : List Step). map (λ k. f (steps_in (passes_of l) k)) (range_with_len 1 (length (passes_of l)))) (sym is)
