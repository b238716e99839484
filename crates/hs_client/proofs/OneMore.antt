-- One operation more sends its crumb or its triggers behind what the earlier ones sent.
use Rattle.std.proofs.Common.{◌≡◌, ℕ, suc, ◌+◌, List, [], ◌∷◌, ◌++◌, length, map, reverse, Option, None, refl, sym, ap, ◌∙◌, arith, append_assoc, Bool, true, false, Some, subst}
use Rattle.hs_client.proofs.Prelude.{append-nil, is_some, flat_map, TraceId, Trigger, AutoRule, Operation, Begin, Point, End, Fire, Sample, NumberedOperation, numbered_from, numbered_of, open_behind, AreBracketed, Sent, crumb_in, sent_crumbs, trigger_in, triggers_behind, sent_triggers}
use Rattle.std.proofs.lemmas.List.{map-append, reverse-append}
use Rattle.std.proofs.lemmas.Grind.{flat_map-append}
use Rattle.hs_base.specs.declared.told.Crumb.{Crumb}
use Rattle.hs_client.specs.OneMore.{open_after, items_of, next_behind}
use Rattle.hs_records.specs.Plain as plain

numbered_more : (number : ℕ) (trace : Option TraceId) (ops : List Operation) (op : Operation)
    → numbered_from number trace (ops ++ op ∷ []) ≡ numbered_from number trace ops ++ record { number = number + length ops; trace = open_after trace ops; operation = op } ∷ []
numbered_more number trace [] op =
    let zero_more : number ≡ number + 0 = omega arith in
    ap (λ (n : ℕ). let last : NumberedOperation = record { number = n; trace = trace; operation = op } in last ∷ []) zero_more
numbered_more number trace (first ∷ ops) op =
    let one : NumberedOperation = record { number = number; trace = trace; operation = first } in
    let place : (number + 1) + length ops ≡ number + suc (length ops) = omega arith in
    ap (λ (later : List NumberedOperation). one ∷ later)
    (numbered_more (number + 1) (open_behind trace first) ops op
    ∙ ap (λ (n : ℕ). let last : NumberedOperation = record { number = n; trace = open_after (open_behind trace first) ops; operation = op } in numbered_from (number + 1) (open_behind trace first) ops ++ last ∷ []) place)

pub numbered_last : (ops : List Operation) (op : Operation) → numbered_of (ops ++ op ∷ []) ≡ numbered_of ops ++ next_behind ops op ∷ []
numbered_last ops op =
    let from_zero : 0 + length ops ≡ length ops = omega arith in
    numbered_more 0 None ops op
    ∙ ap (λ (n : ℕ). let last : NumberedOperation = record { number = n; trace = open_after None ops; operation = op } in numbered_of ops ++ last ∷ []) from_zero

abbrev marked : {A : Type 0} → ℕ → A → Sent A
marked number item = record { number = number; item = item }

items_marked : {A : Type 0} (number : ℕ) (items : List A) → items_of (map (marked number) items) ≡ items
items_marked number [] = refl
items_marked number (item ∷ items) = ap (λ items. item ∷ items) (items_marked number items)

-- ---- crumbs

abbrev crumbs_at : NumberedOperation → List (Sent Crumb)
crumbs_at op = map (λ crumb. record { number = op.number; item = crumb }) (crumb_in op.trace op.operation)

pub crumbs_last : (ops : List Operation) (op : Operation) → items_of (sent_crumbs (ops ++ op ∷ [])) ≡ items_of (sent_crumbs ops) ++ crumb_in (open_after None ops) op
crumbs_last ops op =
    let last = next_behind ops op in
    let one : items_of (crumbs_at last ++ []) ≡ crumb_in (open_after None ops) op =
    ap (λ (l : List (Sent Crumb)). items_of l) (append-nil (crumbs_at last)) ∙ items_marked last.number (crumb_in (open_after None ops) op) in
    ap (λ (l : List NumberedOperation). items_of (flat_map crumbs_at l)) (numbered_last ops op) ∙ ap (λ (l : List (Sent Crumb)). items_of l) (flat_map-append crumbs_at (numbered_of ops) (last ∷ []))
    ∙ map-append (λ (item : Sent Crumb). item.item) (flat_map crumbs_at (numbered_of ops)) (crumbs_at last ++ []) ∙ ap (λ (l : List Crumb). items_of (sent_crumbs ops) ++ l) one

-- ---- triggers

abbrev triggers_at : List AutoRule → List NumberedOperation → NumberedOperation → List (Sent Trigger)
triggers_at autos earlier op = map (λ trigger. record { number = op.number; item = trigger }) (trigger_in autos earlier op.trace op.operation)

behind_last : (autos : List AutoRule) (earlier ops : List NumberedOperation) (last : NumberedOperation)
    → items_of (triggers_behind autos earlier (ops ++ last ∷ [])) ≡ items_of (triggers_behind autos earlier ops) ++ trigger_in autos (reverse ops ++ earlier) last.trace last.operation
behind_last autos earlier [] last =
    ap (λ (l : List (Sent Trigger)). items_of l) (append-nil (triggers_at autos earlier last)) ∙ items_marked last.number (trigger_in autos earlier last.trace last.operation)
behind_last autos earlier (op ∷ ops) last =
    let item : Sent Trigger → Trigger = λ s. s.item in
    let at = triggers_at autos earlier op in
    let turned : reverse ops ++ op ∷ earlier ≡ reverse (op ∷ ops) ++ earlier =
    sym (append_assoc (reverse ops) (op ∷ []) earlier) ∙ ap (λ (l : List NumberedOperation). l ++ earlier) (sym (reverse-append (op ∷ []) ops)) in
    map-append item at (triggers_behind autos (op ∷ earlier) (ops ++ last ∷ []))
    ∙ ap (λ (l : List Trigger). items_of at ++ l) (behind_last autos (op ∷ earlier) ops last ∙ ap (λ (l : List NumberedOperation). items_of (triggers_behind autos (op ∷ earlier) ops) ++ trigger_in autos l last.trace last.operation) turned)
    ∙ sym (append_assoc (items_of at) (items_of (triggers_behind autos (op ∷ earlier) ops)) (trigger_in autos (reverse (op ∷ ops) ++ earlier) last.trace last.operation))
    ∙ ap (λ (l : List Trigger). l ++ trigger_in autos (reverse (op ∷ ops) ++ earlier) last.trace last.operation) (sym (map-append item at (triggers_behind autos (op ∷ earlier) ops)))

pub triggers_last : (autos : List AutoRule) (ops : List Operation) (op : Operation)
    → items_of (sent_triggers autos (ops ++ op ∷ [])) ≡ items_of (sent_triggers autos ops) ++ trigger_in autos (reverse (numbered_of ops)) (open_after None ops) op
triggers_last autos ops op =
    ap (λ (l : List NumberedOperation). items_of (triggers_behind autos [] l)) (numbered_last ops op) ∙ behind_last autos [] (numbered_of ops) (next_behind ops op)
    ∙ ap (λ (l : List NumberedOperation). items_of (sent_triggers autos ops) ++ trigger_in autos l (open_after None ops) op) (append-nil (reverse (numbered_of ops)))

pub open_push : (trace : Option TraceId) (ops : List Operation) (op : Operation) → open_after trace (ops ++ op ∷ []) ≡ open_behind (open_after trace ops) op
open_push trace [] op = refl
open_push trace (o ∷ ops) op = open_push (open_behind trace o) ops op

-- at the end of some operations the others are bracketed, from the trace that is open then
pub bracketed_behind : (b : Bool) (trace : Option TraceId) (front rest : List Operation) → b ≡ is_some trace → AreBracketed b (front ++ rest) → AreBracketed (is_some (open_after trace front)) rest
bracketed_behind b trace [] rest same h = subst (λ (b : Bool). AreBracketed b rest) same h
bracketed_behind b trace (Begin next ∷ front) rest same h = bracketed_behind true (Some next) front rest refl h.1
bracketed_behind b trace (Point moment payload ∷ front) rest same h = bracketed_behind b trace front rest same h.1
bracketed_behind b trace (plain.Crumb node ∷ front) rest same h = bracketed_behind b trace front rest same h.1
bracketed_behind b trace (End ∷ front) rest same h = bracketed_behind false None front rest refl h.1
bracketed_behind b trace (Fire trigger ∷ front) rest same h = bracketed_behind b trace front rest same h
bracketed_behind b trace (Sample moment auto value ∷ front) rest same h = bracketed_behind b trace front rest same h.1

pub none_open : (ops : List Operation) → AreBracketed false ops → is_some (open_after None ops) ≡ false
none_open ops h = bracketed_behind false None ops [] refl (subst (λ (l : List Operation). AreBracketed false l) (sym (append-nil ops)) h)
