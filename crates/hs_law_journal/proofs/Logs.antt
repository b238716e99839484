-- Steps and logs: that they are themselves, what they take, and their stamps.
use Rattle.std.proofs.Common.{◌≡◌, true, refl, eq-eqb, List, [], ◌∷◌, false, ℕ, ◌<◌, arith, nat_lt, ltb-true, ◌++◌, sym, ap, ◌∙◌, append_assoc, append-nil, ◌+◌, suc, ◌-◌, ◌*◌, ◌≤◌}
use Rattle.hs_law_journal.proofs.Prelude.{and_from, and_parts, filter_map-append, sum_by-append, AllByRecursion, all_each, one_if, Step, Ask, same_steps, is_turn, is_offer, asks_behind, ask_by, Queue, takes, taken}
use Rattle.std.proofs.Math.Nat.{div-lt_iff_lt-mul, suc-mul}
use Rattle.hs_records.specs.declared.journal.Step.TheVariants as steps
use Rattle.hs_coord.specs.Messages.{Message, Messages}
use Rattle.hs_law_journal.specs.Passes.{same_step}
use Rattle.hs_law_journal.specs.Shape.{rise_above, step_stamp, log_stamps}
use Rattle.hs_law_journal.specs.Ends.{rounds_for}

pub same_step_refl : (step : Step) → same_step step step ≡ true
same_step_refl (steps.Chunk client) = eq-eqb client client refl
same_step_refl (steps.Crumb client) = eq-eqb client client refl
same_step_refl (steps.Trigger client) = eq-eqb client client refl
same_step_refl steps.Ask = refl
same_step_refl steps.Turn = refl
same_step_refl (steps.Given stamp) = eq-eqb stamp stamp refl
same_step_refl (steps.Missed stamp) = eq-eqb stamp stamp refl
same_step_refl steps.Unread = refl

pub same_steps_refl : (log : List Step) → same_steps log log ≡ true
same_steps_refl [] = refl
same_steps_refl (step ∷ log) = and_from (same_step step step) (same_steps log log) (same_step_refl step) (same_steps_refl log)

-- what comes before a turn
pub record IsTake (step : Step) : Type 0 where
  pub turn : is_turn step ≡ false
  pub offer : is_offer step ≡ false

pub above_all : (before : ℕ) (list : List ℕ) → rise_above before list ≡ true → AllByRecursion (λ s. before < s) list
above_all before [] h = tt
above_all before (s ∷ list) h =
    let parts = and_parts (nat_lt before s) (rise_above s list) h in
    let low = ltb-true before s parts.0 in (low, all_each (λ t. s < t) (λ t. before < t) list (λ t more. omega (arith, low, more)) (above_all s list parts.1))

pub stamps_both : (a b : List Step) → log_stamps (a ++ b) ≡ log_stamps a ++ log_stamps b
stamps_both a b = filter_map-append step_stamp a b

pub behind_more : (node : ℕ) (before xs : Messages) (m : Message) → asks_behind node before (xs ++ m ∷ []) ≡ asks_behind node before xs ++ ask_by node (before ++ xs) m
behind_more node before [] m = append-nil (ask_by node before m) ∙ ap (λ (l : Messages). ask_by node l m) (sym (append-nil before))
behind_more node before (x ∷ xs) m =
    ap (λ (l : List Ask). ask_by node before x ++ l) (behind_more node (before ++ x ∷ []) xs m ∙ ap (λ (l : Messages). asks_behind node (before ++ x ∷ []) xs ++ ask_by node l m) (append_assoc before (x ∷ []) xs))
    ∙ sym (append_assoc (ask_by node before x) (asks_behind node (before ++ x ∷ []) xs) (ask_by node (before ++ x ∷ xs) m))

pub taken_push : (queue : Queue) (log : List Step) (step : Step) → taken queue (log ++ step ∷ []) ≡ taken queue log + one_if (takes queue step)
taken_push queue log step = let both = sum_by-append (λ (s : Step). one_if (takes queue s)) log (step ∷ []) in omega (arith, both)

pub taken_still : (queue : Queue) (log : List Step) (step : Step) → takes queue step ≡ false → taken queue (log ++ step ∷ []) ≡ taken queue log
taken_still queue log step other = let more = taken_push queue log step in let none = ap one_if other in omega (arith, more, none)

pub rounds_few : (stride operations n : ℕ) → 1 ≤ stride → operations ≤ n * stride → rounds_for stride operations ≤ n
rounds_few stride operations n some low =
    let product : (n + 1) * stride ≡ n * stride + stride = let e : n + 1 ≡ suc n = omega arith in ap (λ (k : ℕ). k * stride) e ∙ suc-mul n stride in
    let below = (div-lt_iff_lt-mul {k = stride} {x = operations + (stride - 1)} {y = n + 1} (omega (arith, some))).1 (omega (arith, some, low, product)) in
    omega (arith, below)
