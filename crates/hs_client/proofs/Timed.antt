-- Each segment of a client that ends its traces meets its end, so no page is left out.
use Rattle.std.proofs.Common.{◌≡◌, ℕ, suc, ◌+◌, ◌≤◌, Bool, true, false, List, [], ◌∷◌, ◌++◌, length, refl, ap, ◌∙◌, Option, None, arith}
use Rattle.hs_client.proofs.Prelude.{flat_map, TraceId, Operation, Begin, Point, Crumb, End, Fire, Sample, PlainPage, segment_pages, AreBracketed, NumberedOperation, Segment, numbered_from, open_behind, segments_from, segments_of, TimedPage, is_end, timed, point_numbers, end_numbers}
use Rattle.std.specs.Prelude.{map, filter, zip}
use Rattle.hs_client.specs.Laws.{TimedPagesAreThePages}

abbrev pub page_in : TimedPage → PlainPage
page_in p = p.page

pub page_each : (points : List ℕ) (end : ℕ) (pages : List PlainPage) → map page_in (timed points end pages) ≡ pages
page_each points end [] = refl
page_each points end (page ∷ pages) = ap (λ pages. page ∷ pages) (page_each points end pages)

both_mapped : (a b : List TimedPage) → map page_in (a ++ b) ≡ map page_in a ++ map page_in b
both_mapped [] b = refl
both_mapped (p ∷ a) b = ap (λ pages. page_in p ∷ pages) (both_mapped a b)

abbrev pages_with : ℕ → List ℕ → ℕ × Segment → List TimedPage
pages_with size points s = timed points s.0 (segment_pages size s.1)

zipped : (size : ℕ) (points ends : List ℕ) (segments : List Segment) → length segments ≤ length ends → map page_in (flat_map (pages_with size points) (zip ends segments)) ≡ flat_map (segment_pages size) segments
zipped size points [] [] h = refl
zipped size points (end ∷ ends) [] h = refl
zipped size points [] (segment ∷ segments) h = let no : suc (length segments) ≤ 0 = h in absurd (omega (arith, no))
zipped size points (end ∷ ends) (segment ∷ segments) h =
    let few : suc (length segments) ≤ suc (length ends) = h in
    both_mapped (timed points end (segment_pages size segment)) (flat_map (pages_with size points) (zip ends segments))
    ∙ ap (λ front. front ++ map page_in (flat_map (pages_with size points) (zip ends segments))) (page_each points end (segment_pages size segment))
    ∙ ap (λ back. segment_pages size segment ++ back) (zipped size points ends segments (omega (arith, few)))

abbrev ends_in : List NumberedOperation → List NumberedOperation
ends_in ops = filter (λ (op : NumberedOperation). is_end op.operation) ops

-- of an open trace the end is still to come
abbrev open_count : Bool → ℕ
open_count true = 1
open_count false = 0

ended : (size number record_number : ℕ) (trace : Option TraceId) (is_open : Bool) (ops : List Operation) → AreBracketed is_open ops → length (segments_from size record_number ops) + open_count is_open ≡ length (ends_in (numbered_from number trace ops))
ended size number r trace true [] h = let no : true ≡ false = h in absurd cc
ended size number r trace false [] h = refl
ended size number r trace true (Begin next ∷ ops) h = let no : true ≡ false = h.0 in absurd cc
ended size number r trace false (Begin next ∷ ops) h =
    let rest : length (segments_from size r ops) + 1 ≡ length (ends_in (numbered_from (number + 1) (open_behind trace (Begin next)) ops)) = ended size (number + 1) r (open_behind trace (Begin next)) true ops h.1 in
    omega (arith, rest)
ended size number r trace true (End ∷ ops) h =
    let rest : length (segments_from size r ops) + 0 ≡ length (ends_in (numbered_from (number + 1) (open_behind trace End) ops)) = ended size (number + 1) r (open_behind trace End) false ops h.1 in
    omega (arith, rest)
ended size number r trace false (End ∷ ops) h = let no : false ≡ true = h.0 in absurd cc
ended size number r trace b (Point moment payload ∷ ops) h = ended size (number + 1) (r + 1) (open_behind trace (Point moment payload)) b ops h.1
ended size number r trace b (Crumb node ∷ ops) h = ended size (number + 1) r (open_behind trace (Crumb node)) b ops h.1
ended size number r trace b (Fire trigger ∷ ops) h = ended size (number + 1) r (open_behind trace (Fire trigger)) b ops h
ended size number r trace b (Sample moment auto value ∷ ops) h = ended size (number + 1) r (open_behind trace (Sample moment auto value)) b ops h.1

mapped_count : (ops : List NumberedOperation) → length (map (λ (op : NumberedOperation). op.number) ops) ≡ length ops
mapped_count [] = refl
mapped_count (op ∷ ops) = ap suc (mapped_count ops)

pub timed_pages_are_the_pages : TimedPagesAreThePages
timed_pages_are_the_pages size ops h =
    let count : length (segments_of size ops) + 0 ≡ length (ends_in (numbered_from 0 None ops)) = ended size 0 0 None false ops h in
    let same : length (end_numbers ops) ≡ length (ends_in (numbered_from 0 None ops)) = mapped_count (ends_in (numbered_from 0 None ops)) in
    zipped size (point_numbers ops) (end_numbers ops) (segments_of size ops) (omega (arith, count, same))
