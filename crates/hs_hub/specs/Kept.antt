-- Which messages are kept for the pages that a hub holds. Each page came by a message that is kept: it waits for the page's trace, or the
-- trace is out and was served by it. So a hub that is made anew hears of each of these pages again.
use Rattle.std.specs.Prelude.{◌≡◌, ℕ, true, List, [], ◌∷◌, slice_get, Option, Some, None, unwrap_or, refl}
use Rattle.std.specs.List.{list_any}
use Rattle.hs_base.specs.declared.ids.TraceId.{TraceId}
use Rattle.hs_base.specs.NodeSets.{nodes_of}
use Rattle.hs_base.specs.Samples.{t}
use Rattle.hs_traces.specs.declared.key.PageKey.{PageKey}
use Rattle.hs_traces.specs.Keys.{key_at}
use Rattle.hs_traces.specs.Parts.{page_with}
use Rattle.hs_traces.specs.Traces.{Parts, part_of}
use Rattle.hs_receipts.specs.declared.answers.MessageId.{MessageId}
use Rattle.hs_receipts.specs.Receipts.{PlainReceipts, waits_for, is_message}
use Rattle.hs_hub.specs.Hub.{PlainHub, no_hub}
use Rattle.hs_hub.specs.Life.{HubAct, Reports, Passes, Gives, LetsGo, life}
use Rattle.hs_hub.specs.Examples.{few, m, page}

-- one of these calls reports this page of the trace, in this message
abbrev pub IsReportedIn : List HubAct → MessageId → TraceId → PageKey → List ℕ → Type 0
IsReportedIn acts message trace key bytes = (place : ℕ) × (slice_get acts place ≡ Some (Reports message trace key bytes))

-- the page with this key of a trace, among these parts
abbrev pub page_in : Parts → TraceId → PageKey → Option (List ℕ)
page_in parts trace key = page_with (unwrap_or (part_of parts trace) []) key

-- the message waits for the trace
abbrev pub Waits : PlainReceipts → TraceId → MessageId → Type 0
Waits r trace message = list_any (waits_for trace message) r.waiting ≡ true

-- the trace is out, and was served by the message
abbrev pub Served : PlainReceipts → TraceId → MessageId → Type 0
Served r trace message = (r.out ≡ Some trace) × (list_any (is_message message) r.served ≡ true)

-- a hub after these calls keeps a message for each page that it holds
pub record AreKept (h : PlainHub) (acts : List HubAct) : Type 0 where
  -- a page that waits came by a message that waits for its trace
  pub waiting : (trace : TraceId) (key : PageKey) (bytes : List ℕ) → page_in h.traces.waiting trace key ≡ Some bytes
      → (message : MessageId) × IsReportedIn acts message trace key bytes × Waits h.receipts trace message
  -- a page that is out came by a message that its trace was served by
  pub out : (trace : TraceId) (key : PageKey) (bytes : List ℕ) → page_in h.traces.out trace key ≡ Some bytes
      → (message : MessageId) × IsReportedIn acts message trace key bytes × Served h.receipts trace message

-- ---- worked examples: a page comes, is given out after a pass, and is saved

abbrev pub comes : HubAct
comes = Reports (m 0 2) (t 107) (key_at 0 5 0 0 0) page

abbrev pub after_acts : List HubAct → PlainHub
after_acts acts = life (no_hub 3 true few) acts

-- it waits, and its message waits for its trace
it_waits : (page_in (after_acts (comes ∷ [])).traces.waiting (t 107) (key_at 0 5 0 0 0) ≡ Some page) × IsReportedIn (comes ∷ []) (m 0 2) (t 107) (key_at 0 5 0 0 0) page × Waits (after_acts (comes ∷ [])).receipts (t 107) (m 0 2)
it_waits = (refl, (0, refl), refl)

-- it is out, its trace was served by its message, and nothing may be acknowledged
abbrev pub until_out : List HubAct
until_out = comes ∷ Passes ∷ Gives ∷ []

it_is_out : (page_in (after_acts until_out).traces.out (t 107) (key_at 0 5 0 0 0) ≡ Some page) × Served (after_acts until_out).receipts (t 107) (m 0 2) × ((after_acts until_out).receipts.done ≡ [])
unfolding nodes_of
it_is_out = (refl, (refl, refl), refl)

-- it is saved: the page is held no more, and its message may be acknowledged
abbrev pub until_saved : List HubAct
until_saved = comes ∷ Passes ∷ Gives ∷ LetsGo ∷ []

it_is_saved : (page_in (after_acts until_saved).traces.out (t 107) (key_at 0 5 0 0 0) ≡ None) × ((after_acts until_saved).receipts.served ≡ []) × ((after_acts until_saved).receipts.done ≡ m 0 2 ∷ [])
unfolding nodes_of
it_is_saved = (refl, refl, refl)
