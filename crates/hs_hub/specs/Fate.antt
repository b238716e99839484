-- What becomes of a page that a hub said it holds: it is held, and the message that brought it is kept, until the page is saved. So a
-- message that is kept no more, and may be acknowledged, brought nothing that was not saved.
use Rattle.std.specs.Prelude.{◌≡◌, ◌⊎◌, true, false, List, [], ◌∷◌, ◌++◌, Some, refl}
use Rattle.std.specs.List.{AllByRecursion}
use Rattle.hs_base.specs.declared.ids.TraceId.{TraceId}
use Rattle.hs_base.specs.NodeSets.{nodes_of}
use Rattle.hs_base.specs.Samples.{t}
use Rattle.hs_traces.specs.declared.key.PageKey.{PageKey}
use Rattle.hs_traces.specs.Keys.{key_at}
use Rattle.hs_traces.specs.Traces.{has_page_in}
use Rattle.hs_receipts.specs.declared.answers.MessageId.{MessageId}
use Rattle.hs_receipts.specs.Receipts.{is_message}
use Rattle.hs_hub.specs.Hub.{PlainHub, no_hub}
use Rattle.hs_hub.specs.Life.{HubAct, Hears, Tells, Reports, Says, Asks, Passes, Gives, LetsGo, Names, life}
use Rattle.hs_hub.specs.Examples.{few, m}
use Rattle.hs_hub.specs.Kept.{Waits, Served, comes}

-- a call says nothing else in the message than this page
abbrev pub SaysThis : MessageId → TraceId → PageKey → HubAct → Type 0
SaysThis message trace key (Hears node epoch) = Unit {0}
SaysThis message trace key (Tells other told) = is_message message other ≡ false
SaysThis message trace key (Reports other of_trace with_key bytes) = is_message message other ≡ true → (of_trace ≡ trace) × (with_key ≡ key)
SaysThis message trace key (Says other standing) = is_message message other ≡ false
SaysThis message trace key Asks = Unit {0}
SaysThis message trace key Passes = Unit {0}
SaysThis message trace key Gives = Unit {0}
SaysThis message trace key LetsGo = Unit {0}
SaysThis message trace key Names = Unit {0}

abbrev pub SayThis : MessageId → TraceId → PageKey → List HubAct → Type 0
SayThis message trace key acts = AllByRecursion (SaysThis message trace key) acts

-- the page waits, and the message waits for its trace; or it is out, and its trace was served by the message
abbrev pub IsHeldBy : PlainHub → MessageId → TraceId → PageKey → Type 0
IsHeldBy h message trace key =
    ((has_page_in h.traces.waiting trace key ≡ true) × Waits h.receipts trace message) ⊎ ((has_page_in h.traces.out trace key ≡ true) × Served h.receipts trace message)

-- in one of these calls the trace was saved while the page was out
pub record WasSaved (h : PlainHub) (acts : List HubAct) (trace : TraceId) (key : PageKey) : Type 0 where
  pub before : List HubAct
  pub later : List HubAct
  pub split : acts ≡ before ++ LetsGo ∷ later
  pub is_out : (life h before).receipts.out ≡ Some trace
  pub has_page : has_page_in (life h before).traces.out trace key ≡ true

-- ---- worked example: a page is out before it is saved, and a page of its trace that comes meanwhile waits on

abbrev meanwhile : List HubAct
meanwhile = Passes ∷ Gives ∷ Reports (m 0 4) (t 107) (key_at 0 5 0 0 1) (9 ∷ []) ∷ LetsGo ∷ []

abbrev first : PlainHub
first = life (no_hub 3 true few) (comes ∷ [])

it_was_saved : WasSaved first meanwhile (t 107) (key_at 0 5 0 0 0)
unfolding nodes_of
it_was_saved = record { before = Passes ∷ Gives ∷ Reports (m 0 4) (t 107) (key_at 0 5 0 0 1) (9 ∷ []) ∷ []; later = []; split = refl; is_out = refl; has_page = refl }

the_other_waits : (has_page_in (life first meanwhile).traces.waiting (t 107) (key_at 0 5 0 0 1) ≡ true) × Waits (life first meanwhile).receipts (t 107) (m 0 4) × (has_page_in (life first meanwhile).traces.out (t 107) (key_at 0 5 0 0 0) ≡ false)
unfolding nodes_of
the_other_waits = (refl, refl, refl)
