-- What becomes of the held pages over any calls, and what pages come of one trace then. Between two times that a trace is given
-- out, the part that waits of it comes of its pages alone, each once and in the order of their keys.
use Rattle.std.specs.Prelude.{◌≡◌, ◌≢◌, ◌⊎◌, ℕ, true, false, List, [], ◌∷◌, length, None, Some, if◌then◌else◌, refl}
use Rattle.hs_base.specs.declared.ids.TraceId.{TraceId}
use Rattle.hs_base.specs.Ids.{same_trace}
use Rattle.hs_base.specs.Samples.{t}
use Rattle.hs_traces.specs.declared.answers.Added.{Added as Answer}
use Rattle.hs_traces.specs.declared.answers.Added.TheVariants.{Added, Repeated, NoPage, Foreign, Full}
use Rattle.hs_traces.specs.declared.answers.Offered.{Offered}
use Rattle.hs_traces.specs.declared.answers.Offered.TheVariants.{Given, Unknown, Unsaved, Busy}
use Rattle.hs_traces.specs.declared.key.PageKey.{PageKey}
use Rattle.hs_traces.specs.Keys.{key_at}
use Rattle.hs_traces.specs.Traces.{PlainTraces, no_traces, part_of, answer_to, with_page_of, answer_of_offer, offered, after_saved}

-- a page that comes: of which trace, under which key, with which bytes
pub record Coming : Type 0 where
  pub trace : TraceId
  pub key : PageKey
  pub bytes : List ℕ

pub data TraceDeed : Type 0 where
  Comes : (page : Coming) → TraceDeed
  Offers : (trace : TraceId) → TraceDeed
  Saves : (trace : TraceId) → TraceDeed

abbrev pub after_answer : PlainTraces → Coming → Answer → PlainTraces
after_answer s page Added = with_page_of s page.trace page.key page.bytes
after_answer s page Repeated = s
after_answer s page NoPage = s
after_answer s page Foreign = s
after_answer s page Full = s

abbrev pub after_offer : PlainTraces → TraceId → Offered → PlainTraces
after_offer s trace Given = offered s trace
after_offer s trace Unknown = s
after_offer s trace Unsaved = s
after_offer s trace Busy = s

-- what is held after a call, and after several
abbrev pub after : PlainTraces → TraceDeed → PlainTraces
after s (Comes page) = after_answer s page (answer_to s page.trace page.key (length page.bytes))
after s (Offers trace) = after_offer s trace (answer_of_offer s trace)
after s (Saves trace) = after_saved s trace

abbrev pub after_all : PlainTraces → List TraceDeed → PlainTraces
after_all s [] = s
after_all s (deed ∷ deeds) = after_all (after s deed) deeds

-- the pages that come of a trace
abbrev pub pages_of : TraceId → List TraceDeed → List Coming
pages_of trace [] = []
pages_of trace (Comes page ∷ deeds) = if same_trace trace page.trace then page ∷ pages_of trace deeds else pages_of trace deeds
pages_of trace (Offers other ∷ deeds) = pages_of trace deeds
pages_of trace (Saves other ∷ deeds) = pages_of trace deeds

-- nothing of a trace is held
pub record HoldsNothing (trace : TraceId) (s : PlainTraces) : Type 0 where
  pub waiting : part_of s.waiting trace ≡ None
  pub out : part_of s.out trace ≡ None

-- a call neither gives the trace out nor finds a page of it too much
abbrev pub Hears : TraceId → PlainTraces → TraceDeed → Type 0
Hears trace s (Comes page) = same_trace trace page.trace ≡ true → answer_to s page.trace page.key (length page.bytes) ≢ Full
Hears trace s (Offers other) = same_trace trace other ≡ false
Hears trace s (Saves other) = Unit {0}

abbrev pub HearsAll : TraceId → PlainTraces → List TraceDeed → Type 0
HearsAll trace s [] = Unit {0}
HearsAll trace s (deed ∷ deeds) = Hears trace s deed × HearsAll trace (after s deed) deeds

-- one of the pages has this key and these bytes
abbrev pub Brings : List Coming → PageKey → List ℕ → Type 0
Brings [] key bytes = ⊥
Brings (page ∷ pages) key bytes = ((page.key ≡ key) × (page.bytes ≡ bytes)) ⊎ Brings pages key bytes

-- the same pages, whatever their order and however often each comes; a page's key says which bytes it has
pub record AreSamePages (pages others : List Coming) : Type 0 where
  pub there : (key : PageKey) (bytes : List ℕ) → Brings pages key bytes → Brings others key bytes
  pub back : (key : PageKey) (bytes : List ℕ) → Brings others key bytes → Brings pages key bytes
  pub alike : (key : PageKey) (one other : List ℕ) → Brings pages key one → Brings pages key other → one ≡ other

-- ---- worked examples

abbrev page_at : (trace page byte : ℕ) → TraceDeed
page_at trace page byte = Comes (record { trace = t trace; key = key_at 3 1 0 0 page; bytes = byte ∷ [] })

abbrev none : PlainTraces
none = no_traces (record { hold = 4; outs = 2; bytes = 100 })

-- trace 9's two pages come in either order, one of them twice, and trace 8 is given out meanwhile
two_orders : (part_of (after_all none (page_at 9 1 5 ∷ page_at 8 0 7 ∷ page_at 9 0 4 ∷ page_at 9 1 5 ∷ [])).waiting (t 9)
    ≡ Some ((key_at 3 1 0 0 0, 4 ∷ []) ∷ (key_at 3 1 0 0 1, 5 ∷ []) ∷ []))
    × (part_of (after_all none (page_at 8 0 7 ∷ page_at 9 0 4 ∷ Offers (t 8) ∷ page_at 9 1 5 ∷ [])).waiting (t 9)
    ≡ Some ((key_at 3 1 0 0 0, 4 ∷ []) ∷ (key_at 3 1 0 0 1, 5 ∷ []) ∷ []))
two_orders = (refl, refl)
