-- Lists in which numbers rise.
use Rattle.std.proofs.Common.{◌≡◌, ℕ, ◌+◌, ◌≤◌, Bool, true, false, not, List, [], ◌∷◌, ◌++◌, filter, refl, ap, arith}
use Rattle.std.specs.Prelude.{nat_lt}
use Rattle.std.proofs.lemmas.Bool.{cond_both, le-ltb, ltb-false}
use Rattle.hs_outbox.specs.Queue.{Pending}
use Rattle.hs_outbox.specs.Lives.{Rises}

pub rises_bounds : (ps : List Pending) (from to : ℕ) → Rises from to ps → from ≤ to
rises_bounds [] from to rise = rise
rises_bounds (p ∷ ps) from to rise = let rest = rises_bounds ps (p.number + 1) to rise.1 in omega (arith, rise.0, rest)

-- from a lower number on
pub rises_from : (ps : List Pending) (from lower to : ℕ) → lower ≤ from → Rises from to ps → Rises lower to ps
rises_from [] from lower to le rise = omega (arith, le, rise)
rises_from (p ∷ ps) from lower to le rise = (omega (arith, le, rise.0), rise.1)

-- up to a greater one
pub rises_to : (ps : List Pending) (from to more : ℕ) → to ≤ more → Rises from to ps → Rises from more ps
rises_to [] from to more le rise = omega (arith, le, rise)
rises_to (p ∷ ps) from to more le rise = (rise.0, rises_to ps (p.number + 1) to more le rise.1)

-- one list behind another
pub rises_behind : (ps qs : List Pending) (from mid to : ℕ) → Rises from mid ps → Rises mid to qs → Rises from to (ps ++ qs)
rises_behind [] qs from mid to first second = rises_from qs mid from to first second
rises_behind (p ∷ ps) qs from mid to first second = (first.0, rises_behind ps qs (p.number + 1) mid to first.1 second)

-- some of a list
pub rises_filter : (test : Pending → Bool) (ps : List Pending) (from to : ℕ) → Rises from to ps → Rises from to (filter test ps)
rises_filter test [] from to rise = rise
rises_filter test (p ∷ ps) from to rise =
    let rest : Rises (p.number + 1) to (filter test ps) = rises_filter test ps (p.number + 1) to rise.1 in
    cond_both (test p) (p ∷ filter test ps) (filter test ps) (λ (qs : List Pending). Rises from to qs)
    (λ passes. (rise.0, rest))
    (λ fails. rises_from (filter test ps) (p.number + 1) from to (let low = rise.0 in omega arith) rest)

-- ---- what is below a number, and what is not

none_below : (k : ℕ) (ps : List Pending) (from to : ℕ) → Rises from to ps → k ≤ from → filter (λ p. nat_lt p.number k) ps ≡ []
none_below k [] from to rise le = refl
none_below k (p ∷ ps) from to rise le =
    let high : k ≤ p.number = let low = rise.0 in omega arith in
    rw (le-ltb p.number k high) (none_below k ps (p.number + 1) to rise.1 (omega arith))

all_above : (k : ℕ) (ps : List Pending) (from to : ℕ) → Rises from to ps → k ≤ from → filter (λ p. not (nat_lt p.number k)) ps ≡ ps
all_above k [] from to rise le = refl
all_above k (p ∷ ps) from to rise le =
    let high : k ≤ p.number = let low = rise.0 in omega arith in
    rw (le-ltb p.number k high) (ap (λ (qs : List Pending). p ∷ qs) (all_above k ps (p.number + 1) to rise.1 (omega arith)))

parts_at : (k : ℕ) (p : Pending) (ps : List Pending) (to : ℕ) → Rises (p.number + 1) to ps → ps ≡ filter (λ q. nat_lt q.number k) ps ++ filter (λ q. not (nat_lt q.number k)) ps
    → (b : Bool) → nat_lt p.number k ≡ b → p ∷ ps ≡ filter (λ q. nat_lt q.number k) (p ∷ ps) ++ filter (λ q. not (nat_lt q.number k)) (p ∷ ps)
parts_at k p ps to rise rest true e = rw e (ap (λ (qs : List Pending). p ∷ qs) rest)
parts_at k p ps to rise rest false e =
    let high : k ≤ p.number + 1 = let le = ltb-false p.number k e in omega arith in
    rw (e, none_below k ps (p.number + 1) to rise high, all_above k ps (p.number + 1) to rise high) refl

-- what is below the number stands before what is not
pub parts_of : (k : ℕ) (ps : List Pending) (from to : ℕ) → Rises from to ps → ps ≡ filter (λ q. nat_lt q.number k) ps ++ filter (λ q. not (nat_lt q.number k)) ps
parts_of k [] from to rise = refl
parts_of k (p ∷ ps) from to rise = parts_at k p ps to rise.1 (parts_of k ps (p.number + 1) to rise.1) (nat_lt p.number k) refl
