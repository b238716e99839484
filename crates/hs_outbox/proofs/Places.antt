-- Where messages stand: the first from a number on, and the one of a number.
use Rattle.std.proofs.Common.{◌≡◌, ℕ, zero, suc, ◌+◌, ◌<◌, ◌≤◌, Bool, true, false, not, List, [], ◌∷◌, length, cond, get_or, filter, Some, refl, sym, ap, arith, ltb}
use Rattle.std.specs.Prelude.{nat_lt, ◌==◌, slice_get}
use Rattle.std.specs.List.{find, list_any, remove}
use Rattle.std.specs.List.Sorted.{IsNonDecreasingBy, IsPartitionPoint}
use Rattle.std.proofs.lemmas.Bool.{ltb-true, ltb-false, eqb-true, eqb-false, ne_eqb, or_parts}
use Rattle.hs_outbox.specs.Queue.{Pending, is_numbered, has_number}
use Rattle.hs_outbox.specs.Lives.{Rises}
use Rattle.hs_outbox.specs.Layout.{entry_of, waiting_in, place_of}
use Rattle.hs_outbox.specs.declared.outbox.OutboxEntry.{OutboxEntry}

-- ---- entries

-- each is at least the bound
not_below : (es : List OutboxEntry) (from to : ℕ) → Rises from to (waiting_in es) → (j : ℕ) (d : OutboxEntry) → j < length es → from ≤ (get_or es j d).number
not_below [] from to rise j d within = absurd (omega arith)
not_below (e ∷ es) from to rise zero d within = rise.0
not_below (e ∷ es) from to rise (suc j) d within =
    let rest = not_below es (e.number + 1) to rise.1 j d (omega arith) in
    let low = rise.0 in
    omega (arith, rest, low)

pub never_falls : (es : List OutboxEntry) (from to : ℕ) → Rises from to (waiting_in es) → IsNonDecreasingBy (λ (e : OutboxEntry). e.number) es
never_falls [] from to rise i j d le within = absurd (omega arith)
never_falls (e ∷ es) from to rise zero zero d le within = omega arith
never_falls (e ∷ es) from to rise zero (suc j) d le within =
    let rest = not_below es (e.number + 1) to rise.1 j d (omega arith) in
    omega (arith, rest)
never_falls (e ∷ es) from to rise (suc i) zero d le within = absurd (omega arith)
never_falls (e ∷ es) from to rise (suc i) (suc j) d le within = never_falls es (e.number + 1) to rise.1 i j d (omega arith) (omega arith)

-- where those below a number end
pub place_is : (k : ℕ) (es : List OutboxEntry) (i : ℕ) → i ≤ length es
    → IsPartitionPoint (λ (e : OutboxEntry). ltb e.number k ≡ true) (λ (e : OutboxEntry). ltb e.number k ≡ false) es i → i ≡ place_of k (waiting_in es)
place_is k [] i within at = omega arith
place_is k (e ∷ es) zero within at = rw (at.1 zero e (omega arith) (omega arith)) refl
place_is k (e ∷ es) (suc i) within at =
    let rest : i ≡ place_of k (waiting_in es) =
    place_is k es i (omega arith) (λ j d less low. at.0 (suc j) d (omega arith) (omega arith), λ j d low high. at.1 (suc j) d (omega arith) (omega arith)) in
    rw (at.0 zero e (omega arith) (omega arith)) (ap suc rest)

-- an entry less
pub waiting_without : (es : List OutboxEntry) (i : ℕ) → waiting_in (remove es i) ≡ remove (waiting_in es) i
waiting_without [] zero = refl
waiting_without [] (suc i) = refl
waiting_without (e ∷ es) zero = refl
waiting_without (e ∷ es) (suc i) = ap (λ (ps : List Pending). entry_of e ∷ ps) (waiting_without es i)

-- ---- the first from a number on

first_at : (k : ℕ) (p : Pending) (ps : List Pending) (b : Bool) → slice_get ps (place_of k ps) ≡ find (λ q. not (nat_lt q.number k)) ps
    → slice_get (p ∷ ps) (cond b (suc (place_of k ps)) 0) ≡ cond (not b) (Some p) (find (λ q. not (nat_lt q.number k)) ps)
first_at k p ps true rest = rest
first_at k p ps false rest = refl

pub first_is : (k : ℕ) (ps : List Pending) → slice_get ps (place_of k ps) ≡ find (λ p. not (nat_lt p.number k)) ps
first_is k [] = refl
first_is k (p ∷ ps) = first_at k p ps (nat_lt p.number k) (first_is k ps)

-- ---- the one of a number

-- whether the message at the place of a number has that number
abbrev pub stands : ℕ → List Pending → Bool
stands n ps = has_number (slice_get ps (place_of n ps)) n

abbrev pub others : ℕ → List Pending → List Pending
others n ps = filter (λ p. not (is_numbered n p)) ps

none_numbered : (n : ℕ) (ps : List Pending) (from to : ℕ) → Rises from to ps → n < from → list_any (is_numbered n) ps ≡ false
none_numbered n [] from to rise low = refl
none_numbered n (p ∷ ps) from to rise low =
    let above = rise.0 in
    let apart : (p.number == n) ≡ false = ne_eqb p.number n (λ same. omega (arith, above, low, same)) in
    rw apart (none_numbered n ps (p.number + 1) to rise.1 (omega (arith, above, low)))

all_others : (n : ℕ) (ps : List Pending) (from to : ℕ) → Rises from to ps → n < from → others n ps ≡ ps
all_others n [] from to rise low = refl
all_others n (p ∷ ps) from to rise low =
    let above = rise.0 in
    let apart : (p.number == n) ≡ false = ne_eqb p.number n (λ same. omega (arith, above, low, same)) in
    rw apart (ap (λ (qs : List Pending). p ∷ qs) (all_others n ps (p.number + 1) to rise.1 (omega (arith, above, low))))

-- what one message more does, by whether its number is below and whether it is the number
waits_at : (n : ℕ) (p : Pending) (ps : List Pending) (to : ℕ) → Rises (p.number + 1) to ps → (below same : Bool) → nat_lt p.number n ≡ below → (p.number == n) ≡ same
    → stands n ps ≡ list_any (is_numbered n) ps → stands n (p ∷ ps) ≡ list_any (is_numbered n) (p ∷ ps)
waits_at n p ps to rise true true low at rest = absurd (omega (arith, ltb-true p.number n low, eqb-true p.number n at))
waits_at n p ps to rise true false low at rest = rw (low, at) rest
waits_at n p ps to rise false true low at rest = rw (low, at) refl
waits_at n p ps to rise false false low at rest =
    let apart = eqb-false p.number n at in
    let none : list_any (is_numbered n) ps ≡ false = none_numbered n ps (p.number + 1) to rise (omega (arith, ltb-false p.number n low, apart)) in
    rw (low, at) (sym none)

pub waits_is : (n : ℕ) (ps : List Pending) (from to : ℕ) → Rises from to ps → stands n ps ≡ list_any (is_numbered n) ps
waits_is n [] from to rise = refl
waits_is n (p ∷ ps) from to rise = waits_at n p ps to rise.1 (nat_lt p.number n) (p.number == n) refl refl (waits_is n ps (p.number + 1) to rise.1)

gone_at : (n : ℕ) (p : Pending) (ps : List Pending) (to : ℕ) → Rises (p.number + 1) to ps → (below same : Bool) → nat_lt p.number n ≡ below → (p.number == n) ≡ same
    → (stands n ps ≡ true → remove ps (place_of n ps) ≡ others n ps) → stands n (p ∷ ps) ≡ true → remove (p ∷ ps) (place_of n (p ∷ ps)) ≡ others n (p ∷ ps)
gone_at n p ps to rise true true low at rest there = absurd (omega (arith, ltb-true p.number n low, eqb-true p.number n at))
gone_at n p ps to rise true false low at rest there =
    let deeper : stands n ps ≡ true = rw low at there in
    rw (low, at) (ap (λ (qs : List Pending). p ∷ qs) (rest deeper))
gone_at n p ps to rise false true low at rest there =
    let all : others n ps ≡ ps = all_others n ps (p.number + 1) to rise (omega (arith, eqb-true p.number n at)) in
    rw (low, at) (sym all)
gone_at n p ps to rise false false low at rest there =
    let no : false ≡ true = rw (low, at) at there in
    absurd cc

-- the message of a number goes
pub gone_is : (n : ℕ) (ps : List Pending) (from to : ℕ) → Rises from to ps → stands n ps ≡ true → remove ps (place_of n ps) ≡ others n ps
gone_is n [] from to rise there = absurd cc
gone_is n (p ∷ ps) from to rise there = gone_at n p ps to rise.1 (nat_lt p.number n) (p.number == n) refl refl (gone_is n ps (p.number + 1) to rise.1) there

-- where none has the number, all are of other numbers
pub kept_is : (n : ℕ) (ps : List Pending) → list_any (is_numbered n) ps ≡ false → others n ps ≡ ps
kept_is n [] none = refl
kept_is n (p ∷ ps) none =
    let parts = or_parts (p.number == n) (list_any (is_numbered n) ps) none in
    rw parts.0 (ap (λ (qs : List Pending). p ∷ qs) (kept_is n ps parts.1))
