-- Traces that are read or written one after the other, as a loop does.
use Rattle.std.proofs.Common.{◌≡◌, ℕ, zero, suc, ◌+◌, ◌-◌, ◌^◌, ◌<◌, ◌≤◌, List, [], ◌∷◌, ◌++◌, take, Option, Some, None, slice_get, refl, sym, ap, subst, ◌∙◌, append_assoc, append-nil, arith}
use Rattle.hs_wire.proofs.Prelude.{w128, flat_map, TraceId, trace_bytes, FitTraces, number_at, traces_at}
use Rattle.hs_wire.specs.Reading.{◌>>=◌}

-- what was read before, and what is still read
abbrev pub with_front : List TraceId → Option (List TraceId × List ℕ) → Option (List TraceId × List ℕ)
with_front front read = read >>= λ x. Some (front ++ x.0, x.1)

-- one trace that was read, with those behind it
abbrev paired : ℕ → List TraceId × List ℕ → Option ((ℕ × List TraceId) × List ℕ)
paired trace b = Some ((trace, b.0), b.1)

abbrev listed : (ℕ × List TraceId) × List ℕ → Option (List TraceId × List ℕ)
listed a = Some (record { 0 = a.0.0 } ∷ a.0.1, a.1)

abbrev with_one : ℕ → Option (List TraceId × List ℕ) → Option (List TraceId × List ℕ)
with_one trace read = (read >>= paired trace) >>= listed

regroup : (front : List TraceId) (trace : ℕ) (read : Option (List TraceId × List ℕ)) → with_front front (with_one trace read) ≡ with_front (front ++ record { 0 = trace } ∷ []) read
regroup front trace (Some x) = ap (λ (traces : List TraceId). Some (traces, x.1)) (sym (append_assoc front (record { 0 = trace } ∷ []) x.0))
regroup front trace None = refl

-- the first of so many, where it was read and where it was not
one_more : (n : ℕ) (bytes after : List ℕ) (trace : ℕ) → number_at w128 bytes ≡ Some (trace, after) → traces_at (suc n) bytes ≡ with_one trace (traces_at n after)
unfolding traces_at
one_more n bytes after trace read = ap (λ (o : Option (ℕ × List ℕ)). (o >>= λ (a : ℕ × List ℕ). traces_at n a.1 >>= paired a.0) >>= listed) read

none_more : (n : ℕ) (bytes : List ℕ) → number_at w128 bytes ≡ None → traces_at (suc n) bytes ≡ None
unfolding traces_at
none_more n bytes read = ap (λ (o : Option (ℕ × List ℕ)). (o >>= λ (a : ℕ × List ℕ). traces_at n a.1 >>= paired a.0) >>= listed) read

pub goes_on : (front : List TraceId) (count i : ℕ) (bytes after : List ℕ) (trace : ℕ) (total : Option (List TraceId × List ℕ)) → i < count → number_at w128 bytes ≡ Some (trace, after)
    → total ≡ with_front front (traces_at (count - i) bytes) → total ≡ with_front (front ++ record { 0 = trace } ∷ []) (traces_at (count - (i + 1)) after)
goes_on front count i bytes after trace total lt read so_far =
    let k : count - i ≡ suc (count - (i + 1)) = omega arith in
    so_far ∙ ap (λ n. with_front front (traces_at n bytes)) k ∙ ap (with_front front) (one_more (count - (i + 1)) bytes after trace read) ∙ regroup front trace (traces_at (count - (i + 1)) after)

pub ends : (front : List TraceId) (count i : ℕ) (bytes : List ℕ) (total : Option (List TraceId × List ℕ)) → i < count → number_at w128 bytes ≡ None → total ≡ with_front front (traces_at (count - i) bytes) → total ≡ None
ends front count i bytes total lt read so_far =
    let k : count - i ≡ suc (count - (i + 1)) = omega arith in
    so_far ∙ ap (λ n. with_front front (traces_at n bytes)) k ∙ ap (with_front front) (none_more (count - (i + 1)) bytes read)

pub is_done : (front : List TraceId) (count i : ℕ) (bytes : List ℕ) (total : Option (List TraceId × List ℕ)) → count ≤ i → total ≡ with_front front (traces_at (count - i) bytes) → total ≡ Some (front, bytes)
unfolding traces_at
is_done front count i bytes total le so_far =
    let k : count - i ≡ 0 = omega arith in
    so_far ∙ ap (λ n. with_front front (traces_at n bytes)) k ∙ ap (λ (traces : List TraceId). Some (traces, bytes)) (append-nil front)

pub begins : (total : Option (List TraceId × List ℕ)) → total ≡ with_front [] total
begins (Some x) = refl
begins None = refl

-- ---- writing

pub wrote_more : (traces : List TraceId) (place : ℕ) (trace : TraceId) → slice_get traces place ≡ Some trace → flat_map trace_bytes (take place traces) ++ trace_bytes trace ≡ flat_map trace_bytes (take (suc place) traces)
wrote_more [] place trace at = absurd cc
wrote_more (first ∷ traces) zero trace at = let same : first ≡ trace = cc in ap (λ (t : TraceId). trace_bytes t) (sym same) ∙ sym (append-nil (trace_bytes first))
wrote_more (first ∷ traces) (suc place) trace at =
    append_assoc (trace_bytes first) (flat_map trace_bytes (take place traces)) (trace_bytes trace) ∙ ap (λ (text : List ℕ). trace_bytes first ++ text) (wrote_more traces place trace at)

pub fits_more : (traces : List TraceId) (place : ℕ) (trace : TraceId) → slice_get traces place ≡ Some trace → FitTraces (take place traces) → trace.0 < 2 ^ 128 → FitTraces (take (suc place) traces)
fits_more [] place trace at fits fit = tt
fits_more (first ∷ traces) zero trace at fits fit = let same : trace ≡ first = cc in (subst (λ (t : TraceId). t.0 < 2 ^ 128) same fit, tt)
fits_more (first ∷ traces) (suc place) trace at fits fit = (fits.0, fits_more traces place trace at fits.1 fit)
