-- Runs of pieces as they grow.
use Rattle.std.proofs.Common.{◌≡◌, ℕ, ◌+◌, ◌<◌, ◌≤◌, List, [], ◌∷◌, ◌++◌, length, refl, sym, ap, ◌∙◌, subst, arith, length-append, append_assoc}
use Rattle.hs_base.specs.declared.limits.TheConstants.{HEADER_COST}
use Rattle.hs_records.specs.Records.{Piece}
use Rattle.hs_records.specs.Pages.{cost_of, page_room, runs_of}
use Rattle.hs_records.specs.Laws.{costs, joined, front_cost, AreRuns}

-- what is known of runs: those that have no room for what comes next are the pages'
abbrev pub AreLongest : Type 0
AreLongest = (size : ℕ) (runs : List (List Piece)) → AreRuns size runs → runs_of size (joined runs) ≡ runs

pub costs-append : (xs ys : List Piece) → costs (xs ++ ys) ≡ costs xs + costs ys
costs-append [] ys = omega arith
costs-append (x ∷ xs) ys = omega (arith, costs-append xs ys)

pub joined-append : (xs ys : List (List Piece)) → joined (xs ++ ys) ≡ joined xs ++ joined ys
joined-append [] ys = refl
joined-append (x ∷ xs) ys = ap (λ (l : List Piece). x ++ l) (joined-append xs ys) ∙ sym (append_assoc x (joined xs) (joined ys))

front_same : (run : List Piece) (p : Piece) → 0 < length run → front_cost (run ++ p ∷ []) ≡ front_cost run
front_same [] p some = absurd (omega arith)
front_same (q ∷ run) p some = refl

-- the used bytes of the last page, 0 where there is none
abbrev pub used_of : List (List Piece) → ℕ
used_of [] = 0
used_of (run ∷ []) = HEADER_COST + costs run
used_of (run ∷ next ∷ runs) = used_of (next ∷ runs)

pub used_last : (front : List (List Piece)) (run : List Piece) → used_of (front ++ run ∷ []) ≡ HEADER_COST + costs run
used_last [] run = refl
used_last (f ∷ []) run = refl
used_last (f ∷ g ∷ front) run = used_last (g ∷ front) run

-- a piece that does not fit starts a run
pub add_run : (size : ℕ) (runs : List (List Piece)) (p : Piece) → HEADER_COST + cost_of p ≤ size → AreRuns size runs → (0 < used_of runs → size < used_of runs + cost_of p) → AreRuns size (runs ++ (p ∷ []) ∷ [])
add_run size [] p narrow are full = (record { some = omega arith; fits = omega arith }, tt, tt)
add_run size (run ∷ []) p narrow are full =
    let more = full (omega arith) in (are.0, omega (arith, more), (record { some = omega arith; fits = omega arith }, tt, tt))
add_run size (run ∷ next ∷ runs) p narrow are full = (are.0, are.1, add_run size (next ∷ runs) p narrow are.2 full)

-- a piece that fits joins the last run
pub grow_run : (size : ℕ) (front : List (List Piece)) (run : List Piece) (p : Piece) → HEADER_COST + costs run + cost_of p ≤ size → AreRuns size (front ++ run ∷ []) → AreRuns size (front ++ (run ++ p ∷ []) ∷ [])
grow_run size [] run p room are =
    (record { some = omega (arith, length-append run (p ∷ []), are.0.some); fits = omega (arith, costs-append run (p ∷ [])) }, tt, tt)
grow_run size (f ∷ []) run p room are =
    let here : page_room size < costs f + front_cost (run ++ p ∷ []) = subst (λ (n : ℕ). page_room size < costs f + n) (sym (front_same run p are.2.0.some)) are.1 in
    (are.0, here, grow_run size [] run p room are.2)
grow_run size (f ∷ g ∷ front) run p room are = (are.0, are.1, grow_run size (g ∷ front) run p room are.2)
