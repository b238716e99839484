-- Records that are alive and records that are dead.
use Rattle.std.proofs.Common.{◌≡◌, ℕ, suc, ◌+◌, ◌<◌, cond, ◌==◌, ◌||◌, Bool, true, false, List, [], ◌∷◌, ◌++◌, length, get_or, take, drop, filter, Some, refl, sym, ap, ◌∙◌, arith, append_assoc}
use Rattle.hs_compare.proofs.Prelude.{not, slice_get, list_any, drop-cons, filter-append, TraceId, TracedRecord, alive}
use Rattle.std.proofs.Math.Seq.{take-suc, drop-length, take-length}
use Rattle.hs_compare.specs.Ringing.{is_among}
use Rattle.hs_compare.proofs.Firsts.{first_some}

eq_flip : (a b : ℕ) → (a == b) ≡ (b == a)
eq_flip a b = grind arith

pub among_is : (traces : List TraceId) (trace : TraceId) → list_any (λ (other : TraceId). trace.0 == other.0) traces ≡ is_among traces trace
among_is [] trace = refl
among_is (t ∷ traces) trace =
    ap (λ b. b || list_any (λ (other : TraceId). trace.0 == other.0) traces) (eq_flip trace.0 t.0) ∙ ap (λ b. (t.0 == trace.0) || b) (among_is traces trace)

abbrev pub alive_at : Bool → TracedRecord → List TracedRecord → List TracedRecord
alive_at named noted rest = cond (not named) (noted ∷ rest) rest

-- the first record is taken out
pub alive_first : (named : List TraceId) (records : List TracedRecord) (noted : TracedRecord) (b : Bool) → Some noted ≡ slice_get records 0 → b ≡ is_among named noted.trace
    → alive named records ≡ alive_at b noted (alive named (drop 1 records))
alive_first named records noted b first among =
    ap (alive named) (first_some records noted first) ∙ ap (λ c. alive_at c noted (alive named (drop 1 records))) (sym among)

-- a record that passes goes from the front to the back, if it is alive
pub passed : (named : List TraceId) (records : List TracedRecord) (noted : TracedRecord) (b : Bool) → Some noted ≡ slice_get records 0 → b ≡ is_among named noted.trace
    → alive named (take 1 records) ≡ alive_at b noted []
passed named records noted b first among =
    ap (λ rs. alive named (take 1 rs)) (first_some records noted first) ∙ ap (λ c. alive_at c noted []) (sym among)

-- so many have passed
abbrev pub after_passing : List TraceId → List TracedRecord → ℕ → List TracedRecord
after_passing named records count = drop count records ++ alive named (take count records)

pub pass_more : (named : List TraceId) (records : List TracedRecord) (count : ℕ) → count < length records
    → let ring = after_passing named records count in drop 1 ring ++ alive named (take 1 ring) ≡ after_passing named records (count + 1)
pass_more named [] count within = absurd (omega arith)
pass_more named (r ∷ rs) count within =
    let records : List TracedRecord = r ∷ rs in
    let x : TracedRecord = get_or records count r in
    let rest : List TracedRecord = drop (suc count) records in
    let passed : List TracedRecord = alive named (take count records) in
    let now : after_passing named records count ≡ x ∷ rest ++ passed = ap (λ xs. xs ++ passed) (drop-cons records count r within) in
    let more : alive named (take (suc count) records) ≡ passed ++ alive named (x ∷ []) =
    ap (alive named) (take-suc records count r within) ∙ filter-append (λ (n : TracedRecord). not (is_among named n.trace)) (take count records) (x ∷ []) in
    let next : (rest ++ passed) ++ alive named (x ∷ []) ≡ after_passing named records (suc count) = append_assoc rest passed (alive named (x ∷ [])) ∙ ap (λ ys. rest ++ ys) (sym more) in
    ap (λ ring. drop 1 ring ++ alive named (take 1 ring)) now ∙ next ∙ ap (after_passing named records) (let e : suc count ≡ count + 1 = omega arith in e)

pub all_passed : (named : List TraceId) (records : List TracedRecord) (count : ℕ) → count ≡ length records → after_passing named records count ≡ alive named records
all_passed named records count all = ap (after_passing named records) all ∙ by named records
  where
    by : (named : List TraceId) (records : List TracedRecord) → drop (length records) records ++ alive named (take (length records) records) ≡ alive named records
    by named records = ap (λ xs. xs ++ alive named (take (length records) records)) (drop-length records) ∙ ap (alive named) (take-length records)

filter_twice : {X : Type 0} (p : X → Bool) (xs : List X) → filter p (filter p xs) ≡ filter p xs
filter_twice p [] = refl
filter_twice {X} p (x ∷ xs) = by (p x) refl (filter_twice p xs)
  where
    by : (b : Bool) → p x ≡ b → filter p (filter p xs) ≡ filter p xs → filter p (cond b (x ∷ filter p xs) (filter p xs)) ≡ cond b (x ∷ filter p xs) (filter p xs)
    by true e rest = ap (λ c. cond c (x ∷ filter p (filter p xs)) (filter p (filter p xs))) e ∙ ap (λ ys. x ∷ ys) rest
    by false e rest = rest

pub alive_twice : (named : List TraceId) (records : List TracedRecord) → alive named (alive named records) ≡ alive named records
alive_twice named records = filter_twice (λ (n : TracedRecord). not (is_among named n.trace)) records

-- a record that is alive joins
pub alive_more : (named : List TraceId) (records : List TracedRecord) (noted : TracedRecord) → is_among named noted.trace ≡ false → alive named (records ++ noted ∷ []) ≡ alive named records ++ noted ∷ []
alive_more named records noted h =
    filter-append (λ (n : TracedRecord). not (is_among named n.trace)) records (noted ∷ []) ∙ ap (λ b. alive named records ++ alive_at b noted []) h
