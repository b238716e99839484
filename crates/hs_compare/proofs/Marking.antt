-- One mark more.
use Rattle.std.proofs.Common.{◌≡◌, ℕ, ◌+◌, ◌<◌, ◌≤◌, cond, Bool, true, false, List, [], ◌∷◌, ◌++◌, length, get_or, take, refl, ap, ap₂, ◌∙◌, arith, length-take}
use Rattle.hs_compare.proofs.Prelude.{append-nil, map-append, take_more, take_all, sum_by-cons, sum_by_push, Coming, marked, traces_of, bytes_in}
use Rattle.std.proofs.lemmas.List.Sums.{sum_by-take-le}

-- the record, where it is marked
abbrev pub one : Bool → Coming → List Coming
one mark c = cond mark (c ∷ []) []

marked-push : (marks : List Bool) (records : List Coming) (mark : Bool) (c : Coming) → length marks ≡ length records → marked (marks ++ mark ∷ []) (records ++ c ∷ []) ≡ marked marks records ++ one mark c
marked-push [] [] mark c h = refl
marked-push [] (r ∷ rs) mark c h = absurd (omega arith)
marked-push (m ∷ ms) [] mark c h = absurd (omega arith)
marked-push (m ∷ ms) (r ∷ rs) mark c h = by m (marked-push ms rs mark c (omega arith))
  where
    by : (b : Bool) → marked (ms ++ mark ∷ []) (rs ++ c ∷ []) ≡ marked ms rs ++ one mark c
        → cond b (r ∷ marked (ms ++ mark ∷ []) (rs ++ c ∷ [])) (marked (ms ++ mark ∷ []) (rs ++ c ∷ [])) ≡ cond b (r ∷ marked ms rs) (marked ms rs) ++ one mark c
    by true ih = ap (λ cs. r ∷ cs) ih
    by false ih = ih

pub marked_more : (marks : List Bool) (records : List Coming) (i : ℕ) (d : Bool) (e : Coming) → length marks ≡ length records → i < length records
    → marked (take (i + 1) marks) (take (i + 1) records) ≡ marked (take i marks) (take i records) ++ one (get_or marks i d) (get_or records i e)
marked_more marks records i d e each within =
    let same : length (take i marks) ≡ length (take i records) = omega (arith, length-take i marks, length-take i records) in
    ap₂ marked (take_more marks i d (omega arith)) (take_more records i e within) ∙ marked-push (take i marks) (take i records) (get_or marks i d) (get_or records i e) same

pub traces_yes : (marks : List Bool) (records : List Coming) (i : ℕ) (d : Bool) (e : Coming) → length marks ≡ length records → i < length records → get_or marks i d ≡ true
    → traces_of (marked (take (i + 1) marks) (take (i + 1) records)) ≡ traces_of (marked (take i marks) (take i records)) ++ (get_or records i e).trace ∷ []
traces_yes marks records i d e each within is_marked =
    ap traces_of (marked_more marks records i d e each within) ∙ map-append (λ (c : Coming). c.trace) (marked (take i marks) (take i records)) (one (get_or marks i d) (get_or records i e))
    ∙ ap (λ b. traces_of (marked (take i marks) (take i records)) ++ traces_of (one b (get_or records i e))) is_marked

pub marked_no : (marks : List Bool) (records : List Coming) (i : ℕ) (d : Bool) → length marks ≡ length records → i < length records → get_or marks i d ≡ false
    → marked (take (i + 1) marks) (take (i + 1) records) ≡ marked (take i marks) (take i records)
marked_no marks [] i d each within not_marked = absurd (omega arith)
marked_no marks (r ∷ rs) i d each within not_marked =
    marked_more marks (r ∷ rs) i d r each within ∙ ap (λ b. marked (take i marks) (take i (r ∷ rs)) ++ one b (get_or (r ∷ rs) i r)) not_marked ∙ append-nil (marked (take i marks) (take i (r ∷ rs)))

pub bytes_yes : (marks : List Bool) (records : List Coming) (i : ℕ) (d : Bool) (e : Coming) → length marks ≡ length records → i < length records → get_or marks i d ≡ true
    → bytes_in (marked (take (i + 1) marks) (take (i + 1) records)) ≡ bytes_in (marked (take i marks) (take i records)) + (get_or records i e).bytes
bytes_yes marks records i d e each within is_marked =
    ap bytes_in (marked_more marks records i d e each within) ∙ ap (λ b. bytes_in (marked (take i marks) (take i records) ++ one b (get_or records i e))) is_marked
    ∙ sum_by_push (λ (c : Coming). c.bytes) (marked (take i marks) (take i records)) (get_or records i e)

pub marked_less : (marks : List Bool) (records : List Coming) → bytes_in (marked marks records) ≤ bytes_in records
marked_less [] [] = omega arith
marked_less [] (r ∷ rs) = omega arith
marked_less (m ∷ ms) [] = omega arith
marked_less (m ∷ ms) (r ∷ rs) = by m (marked_less ms rs)
  where
    by : (b : Bool) → bytes_in (marked ms rs) ≤ bytes_in rs → bytes_in (cond b (r ∷ marked ms rs) (marked ms rs)) ≤ bytes_in (r ∷ rs)
    by true ih = omega (arith, ih, sum_by-cons (λ (c : Coming). c.bytes) r (marked ms rs), sum_by-cons (λ (c : Coming). c.bytes) r rs)
    by false ih = omega (arith, ih, sum_by-cons (λ (c : Coming). c.bytes) r rs)

pub marked_few : (marks : List Bool) (records : List Coming) → length (marked marks records) ≤ length records
marked_few [] records = omega arith
marked_few (m ∷ marks) [] = omega arith
marked_few (m ∷ marks) (r ∷ records) = by m (marked_few marks records)
  where
    by : (b : Bool) → length (marked marks records) ≤ length records → length (cond b (r ∷ marked marks records) (marked marks records)) ≤ length (r ∷ records)
    by true ih = omega (arith, ih)
    by false ih = omega (arith, ih)

-- so the sum fits
pub bytes_fit : (marks : List Bool) (records : List Coming) (i : ℕ) (d : Bool) (e : Coming) → length marks ≡ length records → i < length records → get_or marks i d ≡ true
    → bytes_in (marked (take i marks) (take i records)) + (get_or records i e).bytes ≤ bytes_in records
bytes_fit marks records i d e each within is_marked =
    omega (arith, bytes_yes marks records i d e each within is_marked, marked_less (take (i + 1) marks) (take (i + 1) records), sum_by-take-le (λ (c : Coming). c.bytes) records (i + 1))

pub marked_all : (marks : List Bool) (records : List Coming) (i : ℕ) → length marks ≡ length records → length records ≤ i → marked (take i marks) (take i records) ≡ marked marks records
marked_all marks records i each past = ap₂ marked (take_all i marks (omega arith)) (take_all i records past)

-- what stands past the end of a slice of records
abbrev pub nothing : Coming
nothing = record { id = record { client = record { node = 0; number = 0 }; number = 0 }; trace = record { 0 = 0 }; bytes = 0 }
