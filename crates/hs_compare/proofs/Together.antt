-- Lines that leave out the named traces without a record are the lines of all.
use Rattle.std.proofs.Common.{◌≡◌, ℕ, ◌≤◌, Bool, List, length, filter, ap, ap₂, ◌∙◌, arith}
use Rattle.hs_compare.proofs.Prelude.{count_by, length_map, TraceId, MAX_OPERATIONS, Entry, is_gap, is_limited, Coming, Comparison, Line, line_of_marked, line_of_sent, marks_of_head, marks_of_named, marks_of_reported, comparison_by, AreCounted, is_counted, times, marked, traces_of, bytes_in}
use Rattle.hs_compare.proofs.Counted.{Counts, named_few, line_known}
use Rattle.hs_compare.proofs.Known.{kept, others_have_none}
use Rattle.hs_compare.proofs.Marking.{marked_few}

abbrev the_comparison : Line → Line → Line → Line → ℕ → ℕ → Comparison
the_comparison h t r i g l = record { head = h; tail = t; ring = r; hindsight = i; gap = g; limited = l }

module _ (all : List Coming) (named : List TraceId) (counts : Counts) (are : AreCounted (kept named all) counts) where
  abbrev pub known : List TraceId
  known = filter (is_counted counts) named

  marked_known : (some : List TraceId) (marks : List Bool) → some ≡ known → line_of_marked all some marks ≡ line_of_marked all named marks
  marked_known some marks is = ap (λ ns. line_of_marked all ns marks) is ∙ line_known (traces_of all) named (traces_of (marked marks all)) counts (bytes_in (marked marks all)) (others_have_none named all counts are)

  sent_known : (some sent : List TraceId) → some ≡ known → line_of_sent all some sent ≡ line_of_sent all named sent
  sent_known some sent is = ap (λ ns. line_of_sent all ns sent) is ∙ line_known (traces_of all) named sent counts (bytes_in all) (others_have_none named all counts are)

  pub kept_few : length all ≤ MAX_OPERATIONS → length (kept named all) ≤ MAX_OPERATIONS
  kept_few few =
      let marks = marks_of_named named all in
      omega (arith, length_map (λ (c : Coming). c.trace) (marked marks all), marked_few marks all, few)

  pub known_few : (some : List TraceId) → some ≡ known → ((trace : TraceId) → times named trace ≤ 1) → length all ≤ MAX_OPERATIONS → length some ≤ MAX_OPERATIONS
  known_few some is once few = omega (arith, ap length is, named_few (kept named all) named counts are once, kept_few few)

  -- where these are what is left of the names
  pub together : (one_in : ℕ) (ring : List TraceId) (entries : List Entry) (claimed some : List TraceId) (h t r i : Line) (g l : ℕ) → some ≡ known
      → h ≡ line_of_marked all some (marks_of_head one_in all) → t ≡ line_of_sent all some (kept named all) → r ≡ line_of_sent all some ring
      → i ≡ line_of_marked all some (marks_of_reported entries) → g ≡ count_by (is_gap claimed) entries → l ≡ count_by (is_limited named claimed) entries
      → the_comparison h t r i g l ≡ comparison_by one_in all named ring entries claimed
  together one_in ring entries claimed some h t r i g l is head tail of_ring hindsight gap limited =
      ap₂ (λ a b. the_comparison a b r i g l) (head ∙ marked_known some (marks_of_head one_in all) is) (tail ∙ sent_known some (kept named all) is)
      ∙ ap₂ (λ a b. the_comparison (line_of_marked all named (marks_of_head one_in all)) (line_of_sent all named (kept named all)) a b g l) (of_ring ∙ sent_known some ring is)
      (hindsight ∙ marked_known some (marks_of_reported entries) is)
      ∙ ap₂ (the_comparison (line_of_marked all named (marks_of_head one_in all)) (line_of_sent all named (kept named all)) (line_of_sent all named ring) (line_of_marked all named (marks_of_reported entries))) gap limited
