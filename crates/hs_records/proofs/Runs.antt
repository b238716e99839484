-- Runs that fit pages, each without room for what comes next, are the runs that pages take.
use Rattle.std.proofs.Common.{◌≡◌, ℕ, zero, suc, ◌+◌, ◌<◌, ◌≤◌, true, false, cond, nat_le, List, [], ◌∷◌, ◌++◌, length, take, drop, map, refl, sym, ap, ap₂, ◌∙◌, subst, arith, one-add, length-append}
use Rattle.std.proofs.lemmas.Bool.{le-leb}
use Rattle.std.proofs.lemmas.Bool.Decides.{nat_tests}
use Rattle.hs_base.proofs.Parts.{drop_front}
use Rattle.hs_records.specs.Records.{Piece}
use Rattle.hs_records.specs.Fronts.{count_beside}
use Rattle.hs_records.specs.Pages.{cost_of, page_room, fits, runs_within, runs_of}
use Rattle.hs_records.specs.Laws.{costs, joined, IsFull, AreRuns}

-- The piece behind a run does not fit beside it where so much of the room is spent.
abbrev Stops : ℕ → ℕ → List Piece → List Piece → Type 0
Stops room spent run [] = Unit {0}
Stops room spent run (p ∷ rest) = room < spent + costs run + cost_of p

shorter : (room spent : ℕ) (p : Piece) (run rest : List Piece) → Stops room spent (p ∷ run) rest → Stops room (spent + cost_of p) run rest
shorter room spent p run [] stops = tt
shorter room spent p run (q ∷ rest) stops = omega (arith, stops)

longest_is : (room spent : ℕ) (run rest : List Piece) → spent + costs run ≤ room → Stops room spent run rest → count_beside room spent (map cost_of (run ++ rest)) ≡ length run
longest_is room spent [] [] le stops = refl
longest_is room spent [] (q ∷ rest) le stops =
    let past : nat_le (spent + cost_of q) room ≡ false = let h : room < spent + cost_of q = omega (arith, stops) in grind (arith, nat_tests) in
    ap (λ b. cond b (1 + count_beside room (spent + cost_of q) (map cost_of rest)) 0) past
longest_is room spent (p ∷ run) rest le stops =
    let fits : nat_le (spent + cost_of p) room ≡ true = le-leb (spent + cost_of p) room (omega (arith, le)) in
    let later = longest_is room (spent + cost_of p) run rest (omega (arith, le)) (shorter room spent p run rest stops) in
    ap (λ b. cond b (1 + count_beside room (spent + cost_of p) (map cost_of (run ++ rest))) 0) fits ∙ ap (λ n. 1 + n) later ∙ one-add (length run)

take_front : (run rest : List Piece) → take (length run) (run ++ rest) ≡ run
take_front [] rest = refl
take_front (p ∷ run) rest = ap (λ (l : List Piece). p ∷ l) (take_front run rest)

stops_at : (size : ℕ) (run : List Piece) (runs : List (List Piece)) → IsFull size run runs → AreRuns size runs → Stops (page_room size) 0 run (joined runs)
stops_at size run [] full are = tt
stops_at size run ([] ∷ runs) full are = absurd (omega (arith, are.0.some))
stops_at size run ((p ∷ next) ∷ runs) full are = omega (arith, full)

runs_are : (most size : ℕ) (runs : List (List Piece)) → AreRuns size runs → length (joined runs) ≤ most → runs_within most size (joined runs) ≡ runs
runs_are zero size [] are le = refl
runs_are (suc most) size [] are le = refl
runs_are most size ([] ∷ runs) are le = absurd (omega (arith, are.0.some))
runs_are zero size ((p ∷ run) ∷ runs) are le = absurd (omega (arith, le))
runs_are (suc most) size ((p ∷ run) ∷ runs) are le =
    let all = (p ∷ run) ++ joined runs in
    let is : fits size all ≡ length (p ∷ run) = longest_is (page_room size) 0 (p ∷ run) (joined runs) (omega (arith, are.0.fits)) (stops_at size (p ∷ run) runs are.1 are.2) in
    let rest = runs_are most size runs are.2 (omega (arith, le, length-append run (joined runs))) in
    subst (λ (n : ℕ). take n all ∷ runs_within most size (drop n all) ≡ (p ∷ run) ∷ runs) (sym is)
    (ap₂ (λ (x : List Piece) (xs : List (List Piece)). x ∷ xs) (take_front (p ∷ run) (joined runs)) (ap (runs_within most size) (drop_front (p ∷ run) (joined runs)) ∙ rest))

pub runs_of-joined : (size : ℕ) (runs : List (List Piece)) → AreRuns size runs → runs_of size (joined runs) ≡ runs
runs_of-joined size runs are = runs_are (length (joined runs)) size runs are (omega arith)
