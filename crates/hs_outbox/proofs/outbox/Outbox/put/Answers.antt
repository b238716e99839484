use Rattle.std.proofs.Common.{◌≡◌, ℕ, ◌+◌, ◌<◌, ◌≤◌, List, [], ◌∷◌, ◌++◌, length, length-append, Result, Err, refl, sym, ap, subst, ◌∙◌, arith}
use Rattle.hs_wire.specs.declared.message.WriteFault.{WriteFault}
use Rattle.hs_wire.specs.declared.message.WriteFault.TheVariants as faults
use Rattle.hs_wire.specs.Messages.{PlainMessage, message_bytes, plain}
use Rattle.hs_wire.specs.Writing.{HasSpelling}
use Rattle.hs_outbox.specs.Slots.{Written}
use Rattle.hs_outbox.specs.Queue.{Pending, Queue, IsOpen, Causes, with, pending_of}
use Rattle.hs_outbox.specs.Lives.{Rises}
use Rattle.hs_outbox.specs.Layout.{entry_of, waiting_in, slots_of, HaveRoom, answer_for, queue_in}
use Rattle.hs_outbox.specs.declared.outbox.Put.{Put}
use Rattle.hs_outbox.specs.declared.outbox.OutboxEntry.{OutboxEntry}
use Rattle.hs_outbox.proofs.Rising.{rises_behind}
use Rattle.hs_outbox.proofs.Layouts.{same_queue, as_many, room_front, room_last, entry_push, waiting_push, put_is}
use Rattle.hs_outbox.proofs.outbox.Outbox.put.Goals as goal

-- a slot goes from those that are free to the entries
moved : (free rest : List Written) (spare : Written) (es : List OutboxEntry) (e : OutboxEntry) → free ≡ rest ++ spare ∷ [] → length rest + length (es ++ e ∷ []) ≡ length free + length es
moved free rest spare es e items = omega (arith, ap length items, length-append rest (spare ∷ []), length-append es (e ∷ []))

-- one was free
one_free : (free rest : List Written) (spare : Written) (es : List OutboxEntry) → free ≡ rest ++ spare ∷ [] → length (waiting_in es) < length free + length es
one_free free rest spare es items = omega (arith, ap length items, length-append rest (spare ∷ []), as_many es)

rising_more : (es : List OutboxEntry) (e : OutboxEntry) (fresh from : ℕ) → Rises 0 fresh (waiting_in es) → fresh ≤ e.number → e.number ≡ from → Rises 0 (from + 1) (waiting_in (es ++ e ∷ []))
rising_more es e fresh from rise above same =
    subst (λ (ps : List Pending). Rises 0 (from + 1) ps) (sym (waiting_push es e))
    (rises_behind (waiting_in es) (entry_of e ∷ []) 0 fresh (from + 1) rise (above, omega (arith, same)))

pub invariant_of-self-in-Ok : goal.invariant_of-self-in-Ok
invariant_of-self-in-Ok c =
    let o = c.self.inside in
    let es = o.entries.items in
    let rest = c.pop.new.self.items in
    let spare = c.in-Some.spare in
    let e : OutboxEntry = record { number = c.args.message.now.head.number; slot = c.write.new.self } in
    let taken : o.free.items ≡ rest ++ spare ∷ [] = c.in-Some.ensures.items in
    let room : spare.room ≡ o.room = room_last o.room rest spare (subst (λ (slots : List Written). HaveRoom o.room slots) taken c.self.invariant.free_room) in
    let many : length rest + length c.push_reserved.new.self.items ≡ length o.free.items + length es =
    ap (λ (xs : List OutboxEntry). length rest + length xs) c.push_reserved.ensures.items ∙ moved o.free.items rest spare es e taken in
    let above : o.fresh ≤ e.number = omega (arith, c.if-from-self.false, c.from.ensures) in
    record {
      rising = subst (λ (xs : List OutboxEntry). Rises 0 (c.from-in-Ok.result + 1) (waiting_in xs)) (sym c.push_reserved.ensures.items)
          (rising_more es e o.fresh c.from-in-Ok.result c.self.invariant.rising above (sym c.from-in-Ok.ensures));
      fresh = omega (arith, c.from-in-Ok.ensures);
      handed = c.self.invariant.handed;
      few = (let few = c.self.invariant.few in omega (arith, few, many));
      free_room = room_front o.room rest (spare ∷ []) (subst (λ (slots : List Written). HaveRoom o.room slots) taken c.self.invariant.free_room);
      entry_room = subst (λ (xs : List OutboxEntry). HaveRoom o.room (slots_of xs)) (sym c.push_reserved.ensures.items) (entry_push o.room es e c.self.invariant.entry_room (c.in-Ok.ensures.room ∙ room));
      free_capacity = (let fits = c.self.invariant.free_capacity in omega (arith, fits, many, c.pop.ensures.capacity));
      entry_capacity = (let fits = c.self.invariant.entry_capacity in omega (arith, fits, many, c.push_reserved.ensures.capacity));
    }

le_along : (n a b : ℕ) → n ≤ a → a ≡ b → n ≤ b
le_along n a b le same = omega (arith, le, same)

longer : (n wanted a b : ℕ) → wanted ≡ n → a < wanted → a ≡ b → b < n
longer n wanted a b is above same = omega (arith, is, above, same)

-- the message stands behind what waited
joined : (es : List OutboxEntry) (e : OutboxEntry) (q : Queue) (m : PlainMessage) → waiting_in es ≡ q.pending → e.slot.bytes ≡ message_bytes m → e.number ≡ m.head.number
    → waiting_in es ++ entry_of e ∷ [] ≡ q.pending ++ pending_of m ∷ []
joined es e q m waiting bytes number = λ k. waiting k ++ record { number = number k; bytes = bytes k } ∷ []

is_open : (q old : Queue) (m : PlainMessage) (free rest : List Written) (spare : Written) (es : List OutboxEntry) → old ≡ q → old.fresh ≤ m.head.number → old.pending ≡ waiting_in es
    → old.places ≡ length free + length es → free ≡ rest ++ spare ∷ [] → IsOpen q m
is_open q old m free rest spare es same above waiting places items =
    subst (λ (r : Queue). IsOpen r m) same
    (record { fresh = above; place = (let one = one_free free rest spare es items in let long = ap length waiting in omega (arith, one, long, places)) })

pub returns-in-Ok-clause-done : goal.returns-in-Ok-clause-done
returns-in-Ok-clause-done c = λ done.
    let o = c.self.inside in
    let es = o.entries.items in
    let q = c.args.self.now in
    let m = plain c.args.message.now in
    let rest = c.pop.new.self.items in
    let spare = c.in-Some.spare in
    let taken : o.free.items ≡ rest ++ spare ∷ [] = c.in-Some.ensures.items in
    let room : spare.room ≡ q.room =
    room_last o.room rest spare (subst (λ (slots : List Written). HaveRoom o.room slots) taken c.self.invariant.free_room) ∙ ap (λ (r : Queue). r.room) c.self.view_is in
    let free : IsOpen q m = is_open q (queue_in o) m o.free.items rest spare es c.self.view_is (omega (arith, c.if-from-self.false, c.from.ensures)) refl refl taken in
    let fits : length (message_bytes m) ≤ q.room = le_along (length (message_bytes m)) spare.room q.room c.in-Ok.ensures.fits room in
    let e : OutboxEntry = record { number = m.head.number; slot = c.write.new.self } in
    let many : length rest + length c.push_reserved.new.self.items ≡ length o.free.items + length es =
    ap (λ (xs : List OutboxEntry). length rest + length xs) c.push_reserved.ensures.items ∙ moved o.free.items rest spare es e taken in
    let waiting : waiting_in c.push_reserved.new.self.items ≡ q.pending ++ pending_of m ∷ [] =
    ap waiting_in c.push_reserved.ensures.items ∙ waiting_push es e ∙ joined es e q m (ap (λ (r : Queue). r.pending) c.self.view_is) c.in-Ok.ensures.bytes refl in
    same_queue _ (with q (pending_of m)) waiting (ap (λ (r : Queue). r.handed) c.self.view_is) (ap (λ n. n + 1) c.from-in-Ok.ensures)
    (many ∙ ap (λ (r : Queue). r.places) c.self.view_is) (ap (λ (r : Queue). r.room) c.self.view_is)
    ∙ sym (put_is q (pending_of m) free.fresh free.place fits)

pub returns-in-Ok-clause-cause : goal.returns-in-Ok-clause-cause
returns-in-Ok-clause-cause c =
    let o = c.self.inside in
    let es = o.entries.items in
    let q = c.args.self.now in
    let m = plain c.args.message.now in
    let rest = c.pop.new.self.items in
    let spare = c.in-Some.spare in
    let taken : o.free.items ≡ rest ++ spare ∷ [] = c.in-Some.ensures.items in
    let room : spare.room ≡ q.room =
    room_last o.room rest spare (subst (λ (slots : List Written). HaveRoom o.room slots) taken c.self.invariant.free_room) ∙ ap (λ (r : Queue). r.room) c.self.view_is in
    let free : IsOpen q m = is_open q (queue_in o) m o.free.items rest spare es c.self.view_is (omega (arith, c.if-from-self.false, c.from.ensures)) refl refl taken in
    let fits : length (message_bytes m) ≤ q.room = le_along (length (message_bytes m)) spare.room q.room c.in-Ok.ensures.fits room in
    (free, (c.in-Ok.ensures.within (λ fault. cc), fits))

abbrev failed : WriteFault → Result (Unit {0}) WriteFault
failed fault = Err fault

-- the cause of a fault of writing
told : (q : Queue) (m : PlainMessage) (fault : WriteFault) (room : ℕ) → IsOpen q m → room ≡ q.room → ((wanted : ℕ) → failed fault ≡ failed (faults.Short wanted) → (wanted ≡ length (message_bytes m)) × (room < wanted))
    → (failed fault ≡ failed faults.NoSpelling → ¬ HasSpelling m) → ((failed fault ≡ failed faults.NoSpelling → ⊥) → HasSpelling m) → Causes q m (answer_for fault)
told q m faults.NoSpelling room free same short none some = (free, none refl)
told q m (faults.Short wanted) room free same short none some =
    (free, (some (λ is. cc), let too = short wanted refl in longer (length (message_bytes m)) wanted room q.room too.0 too.1 same))

pub returns-in-Err-clause-cause : goal.returns-in-Err-clause-cause
returns-in-Err-clause-cause c =
    let o = c.self.inside in
    let es = o.entries.items in
    let q = c.args.self.now in
    let m = plain c.args.message.now in
    let rest = c.pop.new.self.items in
    let spare = c.in-Some.spare in
    let taken : o.free.items ≡ rest ++ spare ∷ [] = c.in-Some.ensures.items in
    let room : spare.room ≡ q.room =
    room_last o.room rest spare (subst (λ (slots : List Written). HaveRoom o.room slots) taken c.self.invariant.free_room) ∙ ap (λ (r : Queue). r.room) c.self.view_is in
    let free : IsOpen q m = is_open q (queue_in o) m o.free.items rest spare es c.self.view_is (omega (arith, c.if-from-self.false, c.from.ensures)) refl refl taken in
    subst (λ (answer : Put). Causes q m answer) (sym c.answer_for.ensures)
    (told q m c.in-Err.fault spare.room free room c.in-Err.ensures.short c.in-Err.ensures.beyond c.in-Err.ensures.within)
