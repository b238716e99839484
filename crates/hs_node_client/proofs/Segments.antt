-- The pages of a segment.
use Rattle.std.proofs.Common.{◌≡◌, ℕ, ◌+◌, ◌<◌, List, [], ◌∷◌, ◌++◌, length, map, reverse, Option, Some, None, refl, sym, ap, ◌∙◌, subst, flat_map, append-nil, length-append, arith}
use Rattle.std.specs.List.{AllByRecursion}
use Rattle.std.specs.Option.{option_to_list}
use Rattle.std.proofs.lemmas.Grind.{flat_map-append}
use Rattle.std.proofs.lemmas.Option.{same_Some}
use Rattle.hs_base.specs.declared.ids.ClientId.{ClientId}
use Rattle.hs_base.specs.declared.ids.TraceId.{TraceId}
use Rattle.hs_client.specs.Core.{handed}
use Rattle.hs_client.specs.Calls.{segments_of_steps, with_all, pages_of_steps, filled, filled_chunks, sheet_for}
use Rattle.hs_client.specs.OneMore.{open_after}
use Rattle.hs_link.specs.Contents.{sent}
use Rattle.hs_base.proofs.Alls.{all_append, all_each, all_front}
use Rattle.hs_live.proofs.Doing.{Books, book_of}
use Rattle.hs_live.proofs.Steps.{made_renewed}
use Rattle.hs_live.specs.Writing.{buffers_by}
use Rattle.hs_records.specs.Plain.{Crumb}
use Rattle.hs_records.specs.Records.{Piece, Segment, coming, pieces_until_end, segments_from, segments_of}
use Rattle.hs_records.specs.Pages.{PlainPage, pages_of, runs_of, segment_pages}
use Rattle.hs_words.specs.Buffers.{Buffer}
use Rattle.hs_words.specs.Chunks.{header_in}
use Rattle.hs_words.specs.declared.page.Header.{Header}
use Rattle.hs_node_client.proofs.Behind.{pages_ended}
use Rattle.hs_node_client.proofs.Paging.{Sends, pages_drawn, pages_taken}
use Rattle.hs_node_client.proofs.Prelude.{Begin, End, Fire, Leased, Operation, Point, Sample, writing_of}
use Rattle.hs_node_client.specs.Segments.{AreWithin, IsBelow, IsOf, SegmentsHaveTheirPages}

-- ---- chunks of pages with numbers

header_is : (client : ClientId) (number : ℕ) (p : PlainPage) (buffer : Buffer Leased) (header : Header) → header_in (filled client number p buffer).chunk ≡ Some header → (header.page ≡ number) × (header.trace ≡ p.trace)
header_is client number p buffer header is =
    let same : (sheet_for client number p).header ≡ header = same_Some (sheet_for client number p).header header is in
    (sym (ap (λ (h : Header). h.page) same), sym (ap (λ (h : Header). h.trace) same))

below_filled : (core : ℕ) (client : ClientId) (number behind : ℕ) (pages : List PlainPage) (buffers : List (Option (Buffer Leased))) → number + length pages ≡ behind → AllByRecursion (IsBelow core behind) (filled_chunks client number pages buffers)
below_filled core client number behind [] buffers sum = tt
below_filled core client number behind (p ∷ pages) [] sum = tt
below_filled core client number behind (p ∷ pages) (None ∷ buffers) sum = below_filled core client (number + 1) behind pages buffers (omega (arith, sum))
below_filled core client number behind (p ∷ pages) (Some buffer ∷ buffers) sum =
    (λ header is mark. omega (arith, (header_is client number p buffer header is).0, sum), below_filled core client (number + 1) behind pages buffers (omega (arith, sum)))

abbrev AreOf : TraceId → List PlainPage → Type 0
AreOf trace pages = AllByRecursion (λ (p : PlainPage). p.trace ≡ trace) pages

own_filled : (core first behind : ℕ) (trace : TraceId) (client : ClientId) (number : ℕ) (pages : List PlainPage) (buffers : List (Option (Buffer Leased))) → AreOf trace pages → number + length pages ≡ behind
    → AllByRecursion (IsOf core first behind trace) (filled_chunks client number pages buffers)
own_filled core first behind trace client number [] buffers are sum = tt
own_filled core first behind trace client number (p ∷ pages) [] are sum = tt
own_filled core first behind trace client number (p ∷ pages) (None ∷ buffers) are sum = own_filled core first behind trace client (number + 1) pages buffers are.1 (omega (arith, sum))
own_filled core first behind trace client number (p ∷ pages) (Some buffer ∷ buffers) are sum = (
  λ header is mark low. let there = header_is client number p buffer header is in (omega (arith, there.0, sum), there.1 ∙ are.0),
  own_filled core first behind trace client (number + 1) pages buffers are.1 (omega (arith, sum)),
)

all_filled : (core first behind : ℕ) (trace : TraceId) (client : ClientId) (number : ℕ) (front own : List PlainPage) (buffers : List (Option (Buffer Leased))) → AreOf trace own → number + length front ≡ first → first + length own ≡ behind
    → AllByRecursion (IsOf core first behind trace) (filled_chunks client number (front ++ own) buffers)
all_filled core first behind trace client number [] own buffers are sum rest = own_filled core first behind trace client number own buffers are (omega (arith, sum, rest))
all_filled core first behind trace client number (p ∷ front) own [] are sum rest = tt
all_filled core first behind trace client number (p ∷ front) own (None ∷ buffers) are sum rest = all_filled core first behind trace client (number + 1) front own buffers are (omega (arith, sum)) rest
all_filled core first behind trace client number (p ∷ front) own (Some buffer ∷ buffers) are sum rest = (
  λ header is mark low. absurd (omega (arith, (header_is client number p buffer header is).0, sum, low)),
  all_filled core first behind trace client (number + 1) front own buffers are (omega (arith, sum)) rest,
)

-- ---- the pages of a segment's operations

none_begins : (size number : ℕ) (ops : List Operation) → AreWithin ops → segments_from size number (ops ++ End ∷ []) ≡ []
none_begins size number [] within = refl
none_begins size number (Begin trace ∷ ops) within = absurd within
none_begins size number (End ∷ ops) within = absurd within
none_begins size number (Point moment payload ∷ ops) within = none_begins size (number + 1) ops within
none_begins size number (Crumb node ∷ ops) within = none_begins size number ops within
none_begins size number (Fire trigger ∷ ops) within = none_begins size number ops within
none_begins size number (Sample moment auto value ∷ ops) within = none_begins size number ops within

of_trace : (trace : TraceId) (runs : List (List Piece)) → AreOf trace (map (λ (pieces : List Piece). let p : PlainPage = record { trace = trace; pieces = pieces } in p) runs)
of_trace trace [] = tt
of_trace trace (run ∷ runs) = (refl, of_trace trace runs)

no_coming : (size number : ℕ) (trace : Option TraceId) (ops : List Operation) → trace ≡ None → coming size number trace ops ≡ []
no_coming size number None ops none = refl
no_coming size number (Some trace) ops none = absurd cc

-- ---- what was sent

open_within : (trace : Option TraceId) (ops : List Operation) → open_after trace (ops ++ End ∷ []) ≡ None
open_within trace [] = refl
open_within trace (op ∷ ops) = open_within _ ops

open_ended : (found : Option TraceId) (before within : List Operation) (trace : TraceId) → open_after found (before ++ Begin trace ∷ (within ++ End ∷ [])) ≡ None
open_ended found [] within trace = open_within (Some trace) within
open_ended found (op ∷ before) within trace = open_ended _ before within trace

abbrev IsOlder : ℕ → Buffer Leased → Type 0
IsOlder core buffer = buffer.lease.mark < core

pub has_its_pages : Books → Sends → SegmentsHaveTheirPages
has_its_pages books sends made before within trace old new h none are k =
    let rest = Begin trace ∷ (within ++ End ∷ []) in
    let ops = before ++ rest in
    let size = made.size in
    let core = new.core.renewed in
    let is = h.writes rest in
    let steps = is.steps in
    let number = old.core.number in
    let book = book_of books made steps is.comes.may in
    let segment : Segment = record { trace = trace; pieces = pieces_until_end size number (within ++ End ∷ []) } in
    let front = pages_of_steps size steps in
    let own = segment_pages size segment in
    let later : segments_from size number rest ≡ segment ∷ [] = ap (λ (l : List Segment). segment ∷ l) (none_begins size number within are) in
    let segments : reverse (segments_of_steps steps) ++ segment ∷ [] ≡ segments_of size ops =
    ap (λ (l : List Segment). reverse (segments_of_steps steps) ++ l) (sym later)
    ∙ ap (λ (l : List Piece). reverse (with_all l (segments_of_steps steps)) ++ segments_from size number rest) (sym (no_coming size number old.core.trace rest none)) ∙ is.gives in
    let pages : pages_of size ops ≡ front ++ own =
    ap (flat_map (segment_pages size)) (sym segments) ∙ flat_map-append (segment_pages size) (reverse (segments_of_steps steps)) (segment ∷ []) ∙ ap (λ (l : List PlainPage). front ++ l) (append-nil own) in
    let old_sent = sends made before old h in
    let new_sent = sends made ops new k in
    let old_closed = old_sent.closed (sym h.trace ∙ none) in
    let new_closed = new_sent.closed (open_ended None before within trace) in
    let renewed : core ≡ made.renewed = made_renewed made _ _ _ (writing_of new) (k.writes []) in
    let older : AllByRecursion (IsOlder core) made.before = subst (λ (n : ℕ). AllByRecursion (IsOlder n) made.before) (sym renewed) h.before.older in
    let first : length front ≡ length old.core.pages = sym book.each ∙ sym (pages_drawn books made steps old.core is.comes.may is.comes.core) ∙ pages_ended old.core old_closed in
    let behind : length front + length own ≡ length new.core.pages =
    sym (length-append front own) ∙ ap length (sym pages) ∙ sym (pages_taken sends made ops new k) ∙ pages_ended new.core new_closed in
    let begun : length (pages_of size before) ≡ length old.core.pages = sym (pages_taken sends made before old h) ∙ pages_ended old.core old_closed in
    let from : ℕ = length old.core.pages in
    let to : ℕ = length new.core.pages in
    let below =
    all_append (IsBelow core from) made.before _ (all_each (IsOlder core) (IsBelow core from) made.before (λ b is_older header there mark. absurd (omega (arith, is_older, mark))) older)
    (below_filled core made.client 0 from (pages_of size before) (buffers_by old.drawer.pool old.drawer.size made.renewed old_sent.answers) (omega (arith, begun))) in
    let buffers = buffers_by new.drawer.pool new.drawer.size made.renewed new_sent.answers in
    let theirs : AllByRecursion (IsOf core from to trace) (filled_chunks made.client 0 (pages_of size ops) buffers) =
    subst (λ (l : List PlainPage). AllByRecursion (IsOf core from to trace) (filled_chunks made.client 0 l buffers)) (sym pages)
    (all_filled core from to trace made.client 0 front own buffers (of_trace trace (runs_of size segment.pieces)) (omega (arith, first)) (omega (arith, first, behind))) in
    let all =
    all_append (IsOf core from to trace) made.before _ (all_each (IsOlder core) (IsOf core from to trace) made.before (λ b is_older header there mark low. absurd (omega (arith, is_older, mark))) older) theirs in
    record {
      earlier = all_front (IsBelow core from) (sent old.chunks) (option_to_list (handed old.core)) (subst (AllByRecursion (IsBelow core from)) (sym old_sent.chunks) below);
      own = all_front (IsOf core from to trace) (sent new.chunks) (option_to_list (handed new.core)) (subst (AllByRecursion (IsOf core from to trace)) (sym new_sent.chunks) all);
    }
