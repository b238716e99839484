-- The lines of a comparison are those of the workload.
use Rattle.std.proofs.Common.{◌≡◌, ℕ, ◌&&◌, cond, Bool, true, false, List, [], ◌∷◌, map, filter, refl, ap, ap₂, ◌∙◌, arith}
use Rattle.hs_compare.proofs.Prelude.{not, count_by, sum_by, zip, sum_by-cons, count_alike, TraceId, is_among, Entry, is_reported, PlainWorkload, all_comings, named_in, tail_keeps, ring_keeps, PlainLine, PlainComparison, is_gap, is_limited, comparison_of, Coming, coming_of, line_by, marked, traces_of, bytes_in, line_of_marked, line_of_sent, marks_of_head, marks_of_named, marks_of_reported, comparison_by, plain_line, plain_comparison}
use Rattle.hs_compare.specs.Coming as samplers
use Rattle.hs_compare.specs.Samplers.{kept_by_rank, chosen, head_keeps, hindsight_keeps}
use Rattle.hs_compare.specs.Lines as lines
use Rattle.hs_compare.specs.Lines.{line_of}
use Rattle.hs_compare.proofs.Compared.{line_is_plain}
use Rattle.hs_compare.proofs.Ringed.{HasNames}

abbrev pub trace_in : samplers.Coming → TraceId
trace_in c = c.trace

abbrev pub bytes_by : List samplers.Coming → ℕ
bytes_by records = sum_by (λ (c : samplers.Coming). c.bytes) records

-- ---- what is kept, of the records in memory and of those of the workload

pub traces_same : (records : List Coming) → traces_of records ≡ map trace_in (map coming_of records)
traces_same [] = refl
traces_same (r ∷ rs) = ap (λ ts. r.trace ∷ ts) (traces_same rs)

pub bytes_same : (records : List Coming) → bytes_in records ≡ bytes_by (map coming_of records)
bytes_same [] = refl
bytes_same (r ∷ rs) =
    let a = sum_by-cons (λ (c : Coming). c.bytes) r rs in
    let b = sum_by-cons (λ (c : samplers.Coming). c.bytes) (coming_of r) (map coming_of rs) in
    let ih = bytes_same rs in
    omega (arith, a, b, ih)

map_same : {X Y : Type 0} (f g : X → Y) → ((x : X) → f x ≡ g x) → (xs : List X) → map f xs ≡ map g xs
map_same f g same [] = refl
map_same f g same (x ∷ xs) = ap₂ (λ y ys. y ∷ ys) (same x) (map_same f g same xs)

marked_passes : (passes : samplers.Coming → Bool) (records : List Coming) → map coming_of (marked (map (λ (c : Coming). passes (coming_of c)) records) records) ≡ filter passes (map coming_of records)
marked_passes passes [] = refl
marked_passes passes (r ∷ rs) = by (passes (coming_of r)) (marked_passes passes rs)
  where
    marks : List Bool
    marks = map (λ (c : Coming). passes (coming_of c)) rs

    by : (b : Bool) → map coming_of (marked marks rs) ≡ filter passes (map coming_of rs)
        → map coming_of (cond b (r ∷ marked marks rs) (marked marks rs)) ≡ cond b (coming_of r ∷ filter passes (map coming_of rs)) (filter passes (map coming_of rs))
    by true ih = ap (λ cs. coming_of r ∷ cs) ih
    by false ih = ih

marked_chosen : (passes : Entry → Bool) (records : List Coming) (entries : List Entry) → map coming_of (marked (map passes entries) records) ≡ chosen passes (map coming_of records) entries
marked_chosen passes [] [] = refl
marked_chosen passes [] (e ∷ es) = refl
marked_chosen passes (r ∷ rs) [] = refl
marked_chosen passes (r ∷ rs) (e ∷ es) = by (passes e) (marked_chosen passes rs es)
  where
    pairs : List (samplers.Coming × Entry)
    pairs = filter (λ (c : samplers.Coming × Entry). passes c.1) (zip (map coming_of rs) es)

    by : (b : Bool) → map coming_of (marked (map passes es) rs) ≡ map (λ (c : samplers.Coming × Entry). c.0) pairs
        → map coming_of (cond b (r ∷ marked (map passes es) rs) (marked (map passes es) rs)) ≡ map (λ (c : samplers.Coming × Entry). c.0) (cond b ((coming_of r, e) ∷ pairs) pairs)
    by true ih = ap (λ cs. coming_of r ∷ cs) ih
    by false ih = ih

-- ---- the lines

abbrev the_comparison : PlainLine → PlainLine → PlainLine → PlainLine → ℕ → ℕ → PlainComparison
the_comparison h t r i g l = record { head = h; tail = t; ring = r; hindsight = i; gap = g; limited = l }

module _ (W : PlainWorkload) (all : List Coming) (named : List TraceId) (are : map coming_of all ≡ all_comings W) (has : HasNames (named_in W) named) where
  one_line : (kept shipped : List samplers.Coming) (kept' : List TraceId) (shipped' : ℕ) → kept' ≡ map trace_in kept → shipped' ≡ bytes_by shipped
      → plain_line (line_by (traces_of all) named kept' shipped') ≡ line_of W kept shipped
  one_line kept shipped kept' shipped' keeps ships =
      ap (λ ts. plain_line (line_by ts named kept' shipped')) (traces_same all)
      ∙ line_is_plain W (map coming_of all) named are has lines.traces_of refl (λ c cs. refl) kept shipped kept' shipped' keeps ships

  -- where these marks keep these
  marked_line : (marks : List Bool) (kept : List samplers.Coming) → map coming_of (marked marks all) ≡ kept → plain_line (line_of_marked all named marks) ≡ line_of W kept kept
  marked_line marks kept keeps =
      one_line kept kept (traces_of (marked marks all)) (bytes_in (marked marks all)) (traces_same (marked marks all) ∙ ap (map trace_in) keeps) (bytes_same (marked marks all) ∙ ap bytes_by keeps)

  sent_line : (kept' : List TraceId) (kept : List samplers.Coming) → kept' ≡ map trace_in kept → plain_line (line_of_sent all named kept') ≡ line_of W kept (all_comings W)
  sent_line kept' kept keeps = one_line kept (all_comings W) kept' (bytes_in all) keeps (bytes_same all ∙ ap bytes_by are)

  passing : (passes : samplers.Coming → Bool) → map coming_of (marked (map (λ (c : Coming). passes (coming_of c)) all) all) ≡ filter passes (all_comings W)
  passing passes = marked_passes passes all ∙ ap (filter passes) are

  head_line : (one_in : ℕ) → plain_line (line_of_marked all named (marks_of_head one_in all)) ≡ line_of W (head_keeps one_in W) (head_keeps one_in W)
  head_line one_in = marked_line (marks_of_head one_in all) (head_keeps one_in W) (passing (λ (c : samplers.Coming). kept_by_rank one_in c.trace))

  tail_kept : map coming_of (marked (marks_of_named named all) all) ≡ tail_keeps W
  tail_kept =
      ap (λ marks. map coming_of (marked marks all)) (map_same (λ (c : Coming). is_among named c.trace) (λ (c : Coming). is_among (named_in W) c.trace) (λ (c : Coming). has.among c.trace) all)
      ∙ passing (λ (c : samplers.Coming). is_among (named_in W) c.trace)

  tail_line : plain_line (line_of_sent all named (traces_of (marked (marks_of_named named all) all))) ≡ line_of W (tail_keeps W) (all_comings W)
  tail_line = sent_line (traces_of (marked (marks_of_named named all) all)) (tail_keeps W) (traces_same (marked (marks_of_named named all) all) ∙ ap (map trace_in) tail_kept)

  hindsight_line : (entries : List Entry) → plain_line (line_of_marked all named (marks_of_reported entries)) ≡ line_of W (hindsight_keeps W entries) (hindsight_keeps W entries)
  hindsight_line entries =
      let reported = λ (e : Entry). is_reported e.fate in
      marked_line (marks_of_reported entries) (hindsight_keeps W entries) (marked_chosen reported all entries ∙ ap (λ cs. chosen reported cs entries) are)

  limited_same : (entries : List Entry) (claimed : List TraceId) → count_by (is_limited named claimed) entries ≡ count_by (is_limited (named_in W) claimed) entries
  limited_same entries claimed =
      count_alike (is_limited named claimed) (is_limited (named_in W) claimed) (λ (e : Entry). ap (λ b. b && not (is_among claimed e.trace)) (has.among e.trace)) entries

  -- where `ring` are the traces of what the ring keeps
  pub lines_are_plain : (one_in room : ℕ) (ring : List TraceId) (entries : List Entry) (claimed : List TraceId) → ring ≡ map (λ (c : samplers.Coming). c.trace) (ring_keeps room W)
      → plain_comparison (comparison_by one_in all named ring entries claimed) ≡ comparison_of W entries claimed one_in room
  lines_are_plain one_in room ring entries claimed rings =
      let gap = count_by (is_gap claimed) entries in
      let limited = count_by (is_limited named claimed) entries in
      ap₂ (λ h t. the_comparison h t (plain_line (line_of_sent all named ring)) (plain_line (line_of_marked all named (marks_of_reported entries))) gap limited) (head_line one_in) tail_line
      ∙ ap₂ (λ r i. the_comparison (line_of W (head_keeps one_in W) (head_keeps one_in W)) (line_of W (tail_keeps W) (all_comings W)) r i gap limited) (sent_line ring (ring_keeps room W) rings) (hindsight_line entries)
      ∙ ap
      (the_comparison (line_of W (head_keeps one_in W) (head_keeps one_in W)) (line_of W (tail_keeps W) (all_comings W)) (line_of W (ring_keeps room W) (all_comings W)) (line_of W (hindsight_keeps W entries) (hindsight_keeps W entries)) gap)
      (limited_same entries claimed)
