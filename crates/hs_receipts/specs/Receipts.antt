-- The messages that wait until the traces that they serve are saved. A message waits once for each trace that it serves. One trace is
-- out at a time: given out and not saved. When it is saved, the messages that it was served by may be acknowledged, but for those that
-- wait for another trace still.
use Rattle.std.specs.Prelude.{◌≡◌, ℕ, ◌+◌, Bool, true, false, not, ◌&&◌, ◌||◌, ◌==◌, List, [], ◌∷◌, ◌++◌, length, map, filter, find, nat_le, Option, Some, None, is_none, option_map, if◌then◌else◌, refl}
use Rattle.std.specs.List.{list_any}
use Rattle.std.specs.Option.{option_map_or}
use Rattle.hs_base.specs.declared.ids.TraceId.{TraceId}
use Rattle.hs_base.specs.Ids.{same_trace}
use Rattle.hs_base.specs.Samples.{t}
use Rattle.hs_receipts.specs.declared.answers.MessageId.{MessageId}
use Rattle.hs_receipts.specs.declared.answers.Waiting.{Waiting}
use Rattle.hs_receipts.specs.declared.answers.ReceiptOutcome.{ReceiptOutcome as Answer}
use Rattle.hs_receipts.specs.declared.answers.ReceiptOutcome.TheVariants.{Noted, Full, NothingOut}
use Rattle.hs_receipts.specs.declared.answers.ReceiptCounts.{ReceiptCounts}

-- what waits for a trace that is not out, in the order of coming; the trace that is out, with the messages that it was served by; and
-- the messages that may be acknowledged
pub record PlainReceipts : Type 0 where
  pub most : ℕ
  pub waiting : List Waiting
  pub out : Option TraceId
  pub served : List MessageId
  pub done : List MessageId

abbrev pub no_receipts : ℕ → PlainReceipts
no_receipts most = record { most = most; waiting = []; out = None; served = []; done = [] }

-- how many messages are kept
abbrev pub kept : PlainReceipts → ℕ
kept s = length s.waiting + length s.served + length s.done

abbrev pub counts_of : PlainReceipts → ReceiptCounts
counts_of s = record { waiting = length s.waiting; served = length s.served; done = length s.done }

-- whether two ids name one message
abbrev pub is_message : MessageId → MessageId → Bool
is_message a b = a.node == b.node && (a.epoch == b.epoch && a.number == b.number)

abbrev pub is_for : TraceId → Waiting → Bool
is_for trace waits = same_trace trace waits.trace

abbrev pub waits_for : TraceId → MessageId → Waiting → Bool
waits_for trace message waits = is_for trace waits && is_message message waits.message

-- whether a trace is the one that is out
abbrev pub is_out : PlainReceipts → TraceId → Bool
is_out s trace = option_map_or (same_trace trace) s.out false

-- whether a message waits for this trace, be it out or not
abbrev pub is_noted : PlainReceipts → TraceId → MessageId → Bool
is_noted s trace message = list_any (waits_for trace message) s.waiting || (is_out s trace && list_any (is_message message) s.served)

-- whether a message waits for a trace that is not out
abbrev pub waits_elsewhere : List Waiting → MessageId → Bool
waits_elsewhere waiting message = list_any (λ waits. is_message message waits.message) waiting

-- whether a message waits for any trace
abbrev pub is_known : PlainReceipts → MessageId → Bool
is_known s message = waits_elsewhere s.waiting message || list_any (is_message message) s.served

-- the pass in which the first of those messages came that wait for a trace that is not out
abbrev pub since_of : PlainReceipts → TraceId → Option ℕ
since_of s trace = option_map (λ (waits : Waiting). waits.since) (find (is_for trace) s.waiting)

-- ---- a message comes

abbrev pub answer_to_wait : PlainReceipts → Answer
answer_to_wait s = if nat_le s.most (kept s) then Full else Noted

abbrev pub after_wait : PlainReceipts → Waiting → PlainReceipts
after_wait s waits = if nat_le s.most (kept s) then s else record s { waiting = s.waiting ++ waits ∷ [] }

abbrev pub answer_to_join : PlainReceipts → Answer
answer_to_join s = if is_none s.out then NothingOut else answer_to_wait s

abbrev pub after_join : PlainReceipts → MessageId → PlainReceipts
after_join s message = if is_none s.out || nat_le s.most (kept s) then s else record s { served = s.served ++ message ∷ [] }

-- ---- a trace is given out, and saved

-- the messages that wait for a trace
abbrev pub messages_for : TraceId → List Waiting → List MessageId
messages_for trace waiting = map (λ (waits : Waiting). waits.message) (filter (is_for trace) waiting)

-- a trace is out, if no other is
abbrev pub after_offer : PlainReceipts → TraceId → PlainReceipts
after_offer s trace =
    if is_none s.out then
    record s {
      waiting = filter (λ waits. not (is_for trace waits)) s.waiting;
      out = Some trace;
      served = s.served ++ messages_for trace s.waiting;
    }
    else s

-- the trace that is out is saved: what it was served by may be acknowledged, if it waits for nothing else
abbrev pub after_saved : PlainReceipts → PlainReceipts
after_saved s = record s {
  out = None;
  served = [];
  done = s.done ++ filter (λ message. not (waits_elsewhere s.waiting message)) s.served;
}

-- ---- worked examples: at most four messages, of life 5 of node 3

abbrev m : ℕ → MessageId
m number = record { node = 3; epoch = 5; number = number }

abbrev waits : (trace number : ℕ) → Waiting
waits trace number = record { trace = t trace; message = m number; since = 20 }

-- message 1 serves traces 8 and 9, message 2 trace 9
abbrev three : PlainReceipts
three = after_wait (after_wait (after_wait (no_receipts 4) (waits 8 1)) (waits 9 1)) (waits 9 2)

waits_twice : (kept three ≡ 3) × (is_noted three (t 9) (m 2) ≡ true) × (is_noted three (t 8) (m 2) ≡ false)
waits_twice = (refl, refl, refl)

-- the first message for trace 9 came in pass 20, and a later one changes nothing of that
since : (since_of (after_wait three (record (waits 9 4) { since = 25 })) (t 9) ≡ Some 20) × (since_of three (t 7) ≡ None)
since = (refl, refl)

-- trace 9 is out: no other may be, and message 3 comes for it meanwhile
abbrev out_9 : PlainReceipts
out_9 = after_wait (after_offer three (t 9)) (waits 9 3)

given_out : (out_9.served ≡ m 1 ∷ m 2 ∷ []) × (out_9.waiting ≡ waits 8 1 ∷ waits 9 3 ∷ []) × (after_offer out_9 (t 8) ≡ out_9) × (out_9.done ≡ [])
given_out = (refl, refl, refl, refl)

-- a fifth has to wait, with the trace or for another
no_fifth : (answer_to_wait out_9 ≡ Full) × (answer_to_join out_9 ≡ Full) × (after_join out_9 (m 4) ≡ out_9) × (answer_to_join three ≡ NothingOut)
no_fifth = (refl, refl, refl, refl)

-- it is saved: message 2 may be acknowledged; message 1 waits for trace 8, and message 3 for what is to come of trace 9
saved_9 : (after_saved out_9).done ≡ m 2 ∷ []
saved_9 = refl

saved_8 : (after_saved (after_offer (after_saved out_9) (t 8))).done ≡ m 2 ∷ m 1 ∷ []
saved_8 = refl
