-- What one operation more adds to what a client's operations send, and to what its autotriggers saw.
use Rattle.std.specs.Prelude.{◌≡◌, ℕ, List, [], ◌∷◌, ◌++◌, length, map, reverse, slice_get, Option, Some, None, refl}
use Rattle.hs_base.specs.declared.ids.TraceId.{TraceId}
use Rattle.hs_base.specs.declared.settings.AutoRule.{AutoRule}
use Rattle.hs_auto.specs.Watching.{Watch, HasSampled}
use Rattle.hs_records.specs.Plain.{Operation, Begin, Point, Crumb, End}
use Rattle.hs_records.specs.Records.{NumberedOperation, numbered_of, open_behind}
use Rattle.hs_client.specs.Sending.{Sent, crumb_in, sent_crumbs, trigger_in, sent_triggers, samples_of}

-- the trace that is open behind these operations
abbrev pub open_after : Option TraceId → List Operation → Option TraceId
open_after trace [] = trace
open_after trace (operation ∷ ops) = open_after (open_behind trace operation) ops

-- the items without the numbers of their operations
abbrev pub items_of : {A : Type 0} → List (Sent A) → List A
items_of items = map (λ item. item.item) items

-- the operation that comes behind these
abbrev pub next_behind : List Operation → Operation → NumberedOperation
next_behind ops op = record { number = length ops; trace = open_after None ops; operation = op }

abbrev pub OneMoreOperation : Type 0
OneMoreOperation = (ops : List Operation) (op : Operation) → numbered_of (ops ++ op ∷ []) ≡ numbered_of ops ++ next_behind ops op ∷ []

abbrev pub OneMoreCrumb : Type 0
OneMoreCrumb = (ops : List Operation) (op : Operation) → items_of (sent_crumbs (ops ++ op ∷ [])) ≡ items_of (sent_crumbs ops) ++ crumb_in (open_after None ops) op

abbrev pub OneMoreTrigger : Type 0
OneMoreTrigger =
    (autos : List AutoRule) (ops : List Operation) (op : Operation)
    → items_of (sent_triggers autos (ops ++ op ∷ [])) ≡ items_of (sent_triggers autos ops) ++ trigger_in autos (reverse (numbered_of ops)) (open_after None ops) op

-- Each autotrigger has its rule, and was given its samples among these operations, the latest first.
pub record AreWatching (rules : List AutoRule) (earlier : List NumberedOperation) (autos : List Watch) : Type 0 where
  pub rules_are : map (λ (watch : Watch). watch.rule) autos ≡ rules
  pub each : (auto : ℕ) (watch : Watch) → slice_get autos auto ≡ Some watch → HasSampled watch (samples_of auto earlier)

-- ---- examples

abbrev trace : TraceId
trace = record { 0 = 5 }

-- behind a begin its trace is open, and behind its end none
open_and_closed : (open_after None (Begin trace ∷ Point 1 [] ∷ []) ≡ Some trace) × (open_after None (Begin trace ∷ End ∷ Crumb (record { 0 = 1 }) ∷ []) ≡ None)
open_and_closed = (refl, refl)

-- a trace that is open at the start stays open behind a point
stays_open : open_after (Some trace) (Point 1 [] ∷ []) ≡ Some trace
stays_open = refl

abbrev two_crumbs : List Operation
two_crumbs = Begin trace ∷ Crumb (record { 0 = 1 }) ∷ Crumb (record { 0 = 2 }) ∷ []

third_is_behind : next_behind two_crumbs End ≡ record { number = 3; trace = Some trace; operation = End }
third_is_behind = refl

one_more_crumb : items_of (sent_crumbs two_crumbs) ≡ record { trace = trace; node = record { 0 = 1 } } ∷ record { trace = trace; node = record { 0 = 2 } } ∷ []
one_more_crumb = refl
