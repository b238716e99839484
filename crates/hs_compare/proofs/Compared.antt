-- What was counted is the comparison of the workload.
use Rattle.std.proofs.Common.{◌≡◌, ℕ, ◌==◌, ◌&&◌, cond, List, [], ◌∷◌, length, map, refl, sym, ap, ap₂, ◌∙◌, arith}
use Rattle.hs_compare.proofs.Prelude.{nat_lt, count_by, sum_by, sum_by-cons, count_alike, length_map, TraceId, PlainWorkload, all_comings, named_in, is_of, PlainLine, each_once, is_same, times, is_whole_by, line_by, plain_line}
use Rattle.hs_compare.specs.Coming as samplers
use Rattle.hs_compare.specs.Lines.{is_whole}
use Rattle.hs_compare.proofs.Ringed.{HasNames}

abbrev trace_in : samplers.Coming → TraceId
trace_in c = c.trace

-- where g gives the traces one by one
each_trace : (g : List samplers.Coming → List TraceId) → g [] ≡ [] → ((c : samplers.Coming) (cs : List samplers.Coming) → g (c ∷ cs) ≡ c.trace ∷ g cs) → (cs : List samplers.Coming) → map trace_in cs ≡ g cs
each_trace g none more [] = sym none
each_trace g none more (c ∷ cs) = ap (λ ts. c.trace ∷ ts) (each_trace g none more cs) ∙ sym (more c cs)

times_of : (cs : List samplers.Coming) (t : TraceId) → times (map trace_in cs) t ≡ count_by (is_of t) cs
times_of [] t = refl
times_of (c ∷ cs) t =
    let a = sum_by-cons (λ (x : TraceId). cond (is_same t x) 1 0) c.trace (map trace_in cs) in
    let b = sum_by-cons (λ (x : samplers.Coming). cond (is_of t x) 1 0) c cs in
    let ih = times_of cs t in
    omega (arith, a, b, ih)

abbrev pub the_plain : ℕ → ℕ → ℕ → ℕ → PlainLine
the_plain r t w s = record { records = r; traces = t; whole = w; shipped = s }

module _ (W : PlainWorkload) (all : List samplers.Coming) (named : List TraceId) (are : all ≡ all_comings W) (has : HasNames (named_in W) named) where
  whole_is : (kept : List samplers.Coming) → count_by (is_whole_by (times (map trace_in all)) (times (map trace_in kept))) named ≡ count_by (is_whole (all_comings W) kept) (each_once (named_in W))
  whole_is kept =
      count_alike (is_whole_by (times (map trace_in all)) (times (map trace_in kept))) (is_whole all kept)
      (λ t. ap₂ (λ n k. nat_lt 0 n && (k == n)) (times_of all t) (times_of kept t)) named
      ∙ ap (λ cs. count_by (is_whole cs kept) named) are ∙ has.once (is_whole (all_comings W) kept)

  -- where g gives the traces of records one by one
  pub line_is_plain : (g : List samplers.Coming → List TraceId) → g [] ≡ [] → ((c : samplers.Coming) (cs : List samplers.Coming) → g (c ∷ cs) ≡ c.trace ∷ g cs) → (kept shipped : List samplers.Coming) (kept' : List TraceId)
      (shipped' : ℕ) → kept' ≡ map trace_in kept → shipped' ≡ sum_by (λ (c : samplers.Coming). c.bytes) shipped
      → plain_line (line_by (map trace_in all) named kept' shipped')
      ≡ the_plain (length kept) (length (each_once (g kept))) (count_by (is_whole (all_comings W) kept) (each_once (named_in W))) (sum_by (λ (c : samplers.Coming). c.bytes) shipped)
  line_is_plain g none more kept shipped kept' shipped' keeps ships =
      ap₂ (λ ks s. plain_line (line_by (map trace_in all) named ks s)) keeps ships
      ∙ ap (λ n. the_plain n (length (each_once (map trace_in kept))) (count_by (is_whole_by (times (map trace_in all)) (times (map trace_in kept))) named) (sum_by (λ (c : samplers.Coming). c.bytes) shipped)) (length_map trace_in kept)
      ∙ ap₂ (λ n w. the_plain (length kept) n w (sum_by (λ (c : samplers.Coming). c.bytes) shipped)) (ap (λ ts. length (each_once ts)) (each_trace g none more kept)) (whole_is kept)
