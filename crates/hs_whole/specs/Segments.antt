-- The pages of each segment of a trace, by name: how many of them were handed out, and what an honest client does.
use Rattle.std.specs.Prelude.{◌≡◌, ℕ, ◌+◌, ◌≤◌, Bool, true, false, not, ◌&&◌, ◌==◌, List, [], ◌∷◌, ◌++◌, Option, Some, None, is_some, if◌then◌else◌, refl}
use Rattle.hs_base.specs.declared.ids.TraceId.{TraceId}
use Rattle.hs_base.specs.Ids.{same_trace}
use Rattle.hs_base.specs.Samples.{t}
use Rattle.hs_whole.specs.declared.page.PageName.{PageName}
use Rattle.hs_whole.specs.Pages.{is_before, p}
use Rattle.hs_whole.specs.Tracks.{begins_next, ends_next}
use Rattle.hs_whole.specs.Kept.{two_pages}
use Rattle.hs_whole.specs.History.{NoteDeed, Opens, Closes, HandsOut, track_after}

-- a page lies from one page on, and before another
abbrev pub lies_in : PageName → PageName → PageName → Bool
lies_in first end page = not (is_before page first) && is_before page end

-- ---- of each segment

-- the first page that a client's segment may have, where it ends behind these deeds
abbrev pub first_of : ℕ → List NoteDeed → PageName
first_of client deeds = (track_after client deeds).end

-- whether a page of the trace is handed out that lies in a stretch of a client's pages, and how many are
abbrev pub is_out_in : TraceId → ℕ → PageName → PageName → NoteDeed → Bool
is_out_in trace client first end (HandsOut other page of) = same_trace trace of && ((client == other) && lies_in first end page)
is_out_in trace client first end deed = false

abbrev pub out_in : TraceId → ℕ → PageName → PageName → List NoteDeed → ℕ
out_in trace client first end [] = 0
out_in trace client first end (deed ∷ deeds) = out_in trace client first end deeds + (if is_out_in trace client first end deed then 1 else 0)

-- how many of its pages are handed out in a part of the deeds, and how many it sent, are so of a segment of the trace that ends
abbrev pub SegmentIs : (ℕ → ℕ → Type 0) → TraceId → List NoteDeed → NoteDeed → List NoteDeed → Type 0
SegmentIs R trace part (Closes client number other end report) deeds = same_trace trace other ≡ true → R (out_in trace client (first_of client deeds) end part) report.pages
SegmentIs R trace part deed deeds = Unit {0}

-- and of each that ends in the later deeds
abbrev pub SegmentsAre : (ℕ → ℕ → Type 0) → TraceId → List NoteDeed → List NoteDeed → List NoteDeed → Type 0
SegmentsAre R trace part [] earlier = Unit {0}
SegmentsAre R trace part (deed ∷ later) earlier = SegmentIs R trace part deed (later ++ earlier) × SegmentsAre R trace part later earlier

-- ---- of each page

-- a page of the trace that is handed out behind these deeds is so
abbrev pub PageIs : (ℕ → PageName → List NoteDeed → Type 0) → TraceId → NoteDeed → List NoteDeed → Type 0
PageIs P trace (HandsOut client page other) deeds = same_trace trace other ≡ true → P client page deeds
PageIs P trace deed deeds = Unit {0}

-- each of the later deeds'
abbrev pub PagesAre : (ℕ → PageName → List NoteDeed → Type 0) → TraceId → List NoteDeed → List NoteDeed → Type 0
PagesAre P trace [] earlier = Unit {0}
PagesAre P trace (deed ∷ later) earlier = PageIs P trace deed (later ++ earlier) × PagesAre P trace later earlier

-- a page of a client does not lie between the end of a segment and the begin of the next one, where no note was missed between them
abbrev pub IsNotBetween : ℕ → PageName → List NoteDeed → Type 0
IsNotBetween client page [] = Unit {0}
IsNotBetween client page (Opens other number of first ∷ deeds) =
    (((other == client) && (begins_next (track_after client deeds) number && is_some (track_after client deeds).from)) ≡ true → lies_in (track_after client deeds).end first page ≡ false) × IsNotBetween client page deeds
IsNotBetween client page (deed ∷ deeds) = IsNotBetween client page deeds

-- the trace of the segment in whose stretch a page of a client lies, of the segments that the client's next note ended
abbrev pub segment_at : ℕ → PageName → List NoteDeed → Option TraceId
segment_at client page [] = None
segment_at client page (Closes other number of end report ∷ deeds) =
    if (other == client) && (ends_next (track_after client deeds) number of end && lies_in (first_of client deeds) end page) then Some of else segment_at client page deeds
segment_at client page (deed ∷ deeds) = segment_at client page deeds

abbrev pub IsOwn : TraceId → ℕ → PageName → List NoteDeed → Type 0
IsOwn trace client page deeds = (other : TraceId) → segment_at client page deeds ≡ Some other → same_trace trace other ≡ true

-- What is assumed of the pages of a trace that are handed out in a later part of the deeds.
pub record IsHonest (trace : TraceId) (later earlier : List NoteDeed) : Type 0 where
  -- a client writes no page between the end of a segment and the begin of the next one
  pub between : PagesAre IsNotBetween trace later earlier
  -- a page that lies in the stretch of a segment is of that segment's trace
  pub own : PagesAre (IsOwn trace) trace later earlier
  -- of each segment at most as many pages are handed out as it sent
  pub few : SegmentsAre (λ out sent. out ≤ sent) trace later later earlier
  -- no page is handed out in that part that is of a segment before it
  pub anew : PagesAre (λ client page deeds. segment_at client page earlier ≡ None) trace later earlier

-- ---- worked examples: trace 9 has pages 0 and 1 of client 0, trace 8 has page 2

abbrev pub nine_and_eight : List NoteDeed
nine_and_eight =
    Closes 0 3 (t 8) (p 0 3) (record two_pages { pages = 1 }) ∷ Opens 0 2 (t 8) (p 0 2)
    ∷ HandsOut 0 (p 0 1) (t 9) ∷ Closes 0 1 (t 9) (p 0 2) two_pages ∷ HandsOut 0 (p 0 0) (t 9) ∷ Opens 0 0 (t 9) (p 0 0) ∷ []

of_segments : (out_in (t 9) 0 (p 0 0) (p 0 2) nine_and_eight ≡ 2) × (out_in (t 9) 0 (p 0 1) (p 0 2) nine_and_eight ≡ 1) × (out_in (t 9) 1 (p 0 0) (p 0 2) nine_and_eight ≡ 0) × (out_in (t 8) 0 (p 0 2) (p 0 3) nine_and_eight ≡ 0)
of_segments = (refl, refl, refl, refl)

each_in_its_own : (segment_at 0 (p 0 1) nine_and_eight ≡ Some (t 9)) × (segment_at 0 (p 0 2) nine_and_eight ≡ Some (t 8)) × (segment_at 0 (p 0 3) nine_and_eight ≡ None) × (segment_at 1 (p 0 1) nine_and_eight ≡ None)
each_in_its_own = (refl, refl, refl, refl)
