-- What a hub that is made anew holds. Of each page that the one before held a message is kept; where the new one hears again what was
-- kept, that page waits in it with the same bytes.
use Rattle.std.specs.Prelude.{◌≡◌, ◌⊎◌, ℕ, true, false, List, [], ◌∷◌, Some, refl}
use Rattle.hs_base.specs.declared.ids.TraceId.{TraceId}
use Rattle.hs_base.specs.NodeSets.{nodes_of}
use Rattle.hs_base.specs.Samples.{t}
use Rattle.hs_traces.specs.declared.key.PageKey.{PageKey}
use Rattle.hs_traces.specs.Keys.{key_at}
use Rattle.hs_traces.specs.History.{HoldsNothing, HearsAll, Brings, pages_of}
use Rattle.hs_receipts.specs.declared.answers.MessageId.{MessageId}
use Rattle.hs_receipts.specs.Receipts.{is_known}
use Rattle.hs_hub.specs.Hub.{PlainHub, no_hub}
use Rattle.hs_hub.specs.Life.{HubAct, life, all_deeds}
use Rattle.hs_hub.specs.Examples.{few, page}
use Rattle.hs_hub.specs.Kept.{IsReportedIn, page_in, comes, after_acts, until_out}

-- a page is held: it waits, or it is out
abbrev pub IsHeld : PlainHub → TraceId → PageKey → List ℕ → Type 0
IsHeld h trace key bytes = (page_in h.traces.waiting trace key ≡ Some bytes) ⊎ (page_in h.traces.out trace key ≡ Some bytes)

-- a hub had these calls; in the others a new one hears again of the trace what the first keeps
pub record HearsAgain (trace : TraceId) (h : PlainHub) (acts : List HubAct) (new : PlainHub) (others : List HubAct) : Type 0 where
  -- the new one holds nothing of the trace before, gives nothing of it out, and finds no page of it too much
  pub nothing : HoldsNothing trace new.traces
  pub heard : HearsAll trace new.traces (all_deeds new others)
  -- each page of the trace comes again that came in a message that is kept
  pub again : (message : MessageId) (key : PageKey) (bytes : List ℕ) → IsReportedIn acts message trace key bytes → is_known h.receipts message ≡ true → Brings (pages_of trace (all_deeds new others)) key bytes
  -- a page's key says which bytes it has
  pub alike : (key : PageKey) (one other : List ℕ) → Brings (pages_of trace (all_deeds new others)) key one → Brings (pages_of trace (all_deeds new others)) key other → one ≡ other

-- each page of the trace that was held waits in the new hub
abbrev pub HoldsAgain : TraceId → PlainHub → PlainHub → Type 0
HoldsAgain trace h new = (key : PageKey) (bytes : List ℕ) → IsHeld h trace key bytes → page_in new.traces.waiting trace key ≡ Some bytes

-- ---- worked example: a page is out in a hub, and waits in another that hears its message again

it_waits_again : (page_in (after_acts until_out).traces.out (t 107) (key_at 0 5 0 0 0) ≡ Some page) × (page_in (life (no_hub 4 false few) (comes ∷ [])).traces.waiting (t 107) (key_at 0 5 0 0 0) ≡ Some page)
unfolding nodes_of
it_waits_again = (refl, refl)
