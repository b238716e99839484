-- A hub that is made anew and hears again what was kept holds the same pages.
use Rattle.std.proofs.Common.{◌≡◌, ℕ, inl, inr, Bool, true, false, ◌||◌, List, [], ◌∷◌, ◌&&◌, ap, refl, ◌∙◌}
use Rattle.std.specs.List.{list_any}
use Rattle.std.proofs.lemmas.Bool.{or_left, or_right}
use Rattle.hs_base.specs.declared.ids.TraceId.{TraceId}
use Rattle.hs_traces.specs.declared.key.PageKey.{PageKey}
use Rattle.hs_traces.specs.Traces.{PlainTraces}
use Rattle.hs_traces.specs.History.{Brings, pages_of}
use Rattle.hs_traces.proofs.Deeds.{what_comes_waits}
use Rattle.hs_receipts.specs.declared.answers.MessageId.{MessageId}
use Rattle.hs_receipts.specs.declared.answers.Waiting.{Waiting}
use Rattle.hs_receipts.specs.Receipts.{is_message, is_for, waits_for, waits_elsewhere}
use Rattle.hs_hub.specs.declared.answers.HubLimits.{HubLimits}
use Rattle.hs_hub.specs.Hub.{PlainHub, no_hub}
use Rattle.hs_hub.specs.Life.{HubAct, life, all_deeds}
use Rattle.hs_hub.specs.Kept.{IsReportedIn, page_in, Waits, Served, AreKept}
use Rattle.hs_hub.specs.Restart.{IsHeld, HearsAgain, HoldsAgain}
use Rattle.hs_hub.proofs.Kept.{are_kept}
use Rattle.hs_hub.proofs.Lives.{all_calls}

pub waits_somewhere : (trace : TraceId) (message : MessageId) (waiting : List Waiting) → list_any (waits_for trace message) waiting ≡ true → waits_elsewhere waiting message ≡ true
waits_somewhere trace message [] e = e
waits_somewhere trace message (w ∷ ws) e = at (is_for trace w) (is_message message w.message) e (waits_somewhere trace message ws)
  where
    at : (a b : Bool) → ((a && b) || list_any (waits_for trace message) ws) ≡ true → (list_any (waits_for trace message) ws ≡ true → waits_elsewhere ws message ≡ true) → (b || waits_elsewhere ws message) ≡ true
    at a true e rest = refl
    at true false e rest = rest e
    at false false e rest = rest e

module _ (trace : TraceId) (h : PlainHub) (acts : List HubAct) (new : PlainHub) (others : List HubAct) (kept : AreKept h acts) (hears : HearsAgain trace h acts new others) where
  -- a page that was held came by a message that is kept, and comes again
  comes_again : (key : PageKey) (bytes : List ℕ) → IsHeld h trace key bytes → Brings (pages_of trace (all_deeds new others)) key bytes
  comes_again key bytes (inl waits) = by_waiting (kept.waiting trace key bytes waits)
    where
      by_waiting : (message : MessageId) × IsReportedIn acts message trace key bytes × Waits h.receipts trace message → Brings (pages_of trace (all_deeds new others)) key bytes
      by_waiting (message, reported, is) =
          hears.again message key bytes reported
          (or_left (waits_elsewhere h.receipts.waiting message) (list_any (is_message message) h.receipts.served) (waits_somewhere trace message h.receipts.waiting is))
  comes_again key bytes (inr out) = by_served (kept.out trace key bytes out)
    where
      by_served : (message : MessageId) × IsReportedIn acts message trace key bytes × Served h.receipts trace message → Brings (pages_of trace (all_deeds new others)) key bytes
      by_served (message, reported, is) = hears.again message key bytes reported (or_right (waits_elsewhere h.receipts.waiting message) (list_any (is_message message) h.receipts.served) is.1)

  holds_again : HoldsAgain trace h (life new others)
  holds_again key bytes held =
      let brought = comes_again key bytes held in
      ap (λ (s : PlainTraces). page_in s.waiting trace key) (all_calls new others)
      ∙ what_comes_waits trace new.traces (all_deeds new others) hears.nothing hears.heard key bytes brought (λ other comes. hears.alike key other bytes comes brought)

pub hold_again : (epoch : ℕ) (is_fresh : Bool) (limits : HubLimits) (acts : List HubAct) (trace : TraceId) (new : PlainHub) (others : List HubAct)
    → HearsAgain trace (life (no_hub epoch is_fresh limits) acts) acts new others → HoldsAgain trace (life (no_hub epoch is_fresh limits) acts) (life new others)
hold_again epoch is_fresh limits acts trace new others hears = holds_again trace (life (no_hub epoch is_fresh limits) acts) acts new others (are_kept epoch is_fresh limits acts) hears
