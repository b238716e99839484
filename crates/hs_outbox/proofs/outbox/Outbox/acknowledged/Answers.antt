use Rattle.std.proofs.Common.{◌≡◌, ℕ, ◌+◌, ◌<◌, true, false, not, List, [], ◌∷◌, ◌++◌, length, slice_get, Option, length-append, refl, sym, ap, subst, ◌∙◌, arith}
use Rattle.std.specs.List.{remove}
use Rattle.std.proofs.lemmas.List.Edits.{length-remove}
use Rattle.hs_outbox.specs.Slots.{Written}
use Rattle.hs_outbox.specs.Queue.{Pending, Queue, waits, is_numbered, has_number}
use Rattle.hs_outbox.specs.Lives.{Rises}
use Rattle.hs_outbox.specs.Layout.{waiting_in, slots_of, place_of, HaveRoom}
use Rattle.hs_outbox.specs.declared.outbox.OutboxEntry.{OutboxEntry}
use Rattle.hs_outbox.proofs.Rising.{rises_filter}
use Rattle.hs_outbox.proofs.Places.{stands, others, gone_is, kept_is, waiting_without}
use Rattle.hs_outbox.proofs.Layouts.{same_queue, rising_seen, seen_at, waits_seen, within_by, as_many, room_push, entry_gone, entry_at}
use Rattle.hs_outbox.proofs.outbox.Outbox.acknowledged.Goals as goal

pub place_of-place-requires : goal.place_of-place-requires
place_of-place-requires c = rising_seen c.deref.result.now c.self.inside.entries.items c.self.inside.fresh c.deref.ensures.value c.self.invariant.fresh c.self.invariant.rising

pub returns-then-not-has_at-clause-waited : goal.returns-then-not-has_at-clause-waited
returns-then-not-has_at-clause-waited c =
    c.if-not-has_at.ensures
    ∙ waits_seen c.deref.result.now c.deref-2.result.now c.self.inside.entries.items c.place_of-place.result c.from.result c.args.number c.self.inside.fresh c.deref.ensures.value c.deref-2.ensures.value
    c.place_of-place.ensures c.from.ensures c.self.invariant.rising
    ∙ ap (λ (q : Queue). waits q c.args.number) c.self.view_is

pub returns-then-not-has_at-clause-after : goal.returns-then-not-has_at-clause-after
returns-then-not-has_at-clause-after c =
    let none : false ≡ waits c.args.self.now c.args.number = returns-then-not-has_at-clause-waited c in
    same_queue c.args.self.now _ (sym (kept_is c.args.number c.args.self.now.pending (sym none))) refl refl refl refl

pub remove-slot-requires : goal.remove-slot-requires
remove-slot-requires c =
    let within = within_by (waiting_in c.deref-2.result.now) c.place_of-place.result c.args.number (sym c.if-not-has_at.ensures) in
    omega (arith, within, as_many c.deref-2.result.now, c.deref-2.ensures.len)

-- how many slots there are after one went from the entries to those that are free
as_many_slots : (free : List Written) (es : List OutboxEntry) (i : ℕ) (slot : Written) → i < length es → length (free ++ slot ∷ []) + length (remove es i) ≡ length free + length es
as_many_slots free es i slot within = omega (arith, length-append free (slot ∷ []), length-remove es i within)

there_within : (seen es : List OutboxEntry) (i : ℕ) → seen ≡ es → i < length (waiting_in seen) → i < length es
there_within seen es i same within = omega (arith, within, as_many seen, ap length same)

-- what waits when the entry at a number's place is gone
gone_seen : (seen again es : List OutboxEntry) (place m n fresh : ℕ) → seen ≡ es → again ≡ es → place ≡ place_of m (waiting_in seen) → m ≡ n → Rises 0 fresh (waiting_in es)
    → has_number (slice_get (waiting_in again) place) n ≡ true → waiting_in (remove es place) ≡ others n (waiting_in es)
gone_seen seen again es place m n fresh same also is number rise there =
    let at : place ≡ place_of n (waiting_in es) = is ∙ (λ k. place_of (number k) (waiting_in (same k))) in
    let stood : stands n (waiting_in es) ≡ true = sym (ap (λ (o : Option Pending). has_number o n) (seen_at seen again es place n same also (is ∙ ap (λ k. place_of k (waiting_in seen)) number))) ∙ there in
    waiting_without es place ∙ ap (λ k. remove (waiting_in es) k) at ∙ gone_is n (waiting_in es) 0 fresh rise stood

pub invariant_of-self : goal.invariant_of-self
invariant_of-self c =
    let o = c.self.inside in
    let es = o.entries.items in
    let i = c.place_of-place.result in
    let n = c.args.number in
    let seen = c.deref-2.result.now in
    let within : i < length es = there_within seen es i c.deref-2.ensures.value (within_by (waiting_in seen) i n (sym c.if-not-has_at.ensures)) in
    let gone : waiting_in c.remove-slot.new.self.items ≡ others n (waiting_in es) =
    ap waiting_in c.remove-slot.ensures.items
    ∙ gone_seen c.deref.result.now seen es i c.from.result n o.fresh c.deref.ensures.value c.deref-2.ensures.value c.place_of-place.ensures c.from.ensures c.self.invariant.rising (sym c.if-not-has_at.ensures) in
    let many : length c.push_reserved.new.self.items + length c.remove-slot.new.self.items ≡ length o.free.items + length es =
    ap (λ (slots : List Written). length slots + length c.remove-slot.new.self.items) c.push_reserved.ensures.items
    ∙ ap (λ (xs : List OutboxEntry). length (o.free.items ++ c.remove-slot.result.slot ∷ []) + length xs) c.remove-slot.ensures.items
    ∙ as_many_slots o.free.items es i c.remove-slot.result.slot within in
    let slot : c.remove-slot.result.slot.room ≡ o.room =
    ap (λ (e : OutboxEntry). e.slot.room) c.remove-slot.ensures.value ∙ entry_at o.room es i c.remove-slot.result c.self.invariant.entry_room within in
    record {
      rising = subst (λ (ps : List Pending). Rises 0 o.fresh ps) (sym gone) (rises_filter (λ p. not (is_numbered n p)) (waiting_in es) 0 o.fresh c.self.invariant.rising);
      fresh = c.self.invariant.fresh;
      handed = c.self.invariant.handed;
      few = (let few = c.self.invariant.few in omega (arith, few, many));
      free_room = subst (λ (slots : List Written). HaveRoom o.room slots) (sym c.push_reserved.ensures.items) (room_push o.room o.free.items c.remove-slot.result.slot c.self.invariant.free_room slot);
      entry_room = subst (λ (xs : List OutboxEntry). HaveRoom o.room (slots_of xs)) (sym c.remove-slot.ensures.items) (entry_gone o.room es i c.self.invariant.entry_room);
      free_capacity = (let fits = c.self.invariant.free_capacity in omega (arith, fits, many, c.push_reserved.ensures.capacity));
      entry_capacity = (let fits = c.self.invariant.entry_capacity in omega (arith, fits, many, c.remove-slot.ensures.capacity));
    }

pub returns-clause-waited : goal.returns-clause-waited
returns-clause-waited c =
    c.if-not-has_at.ensures
    ∙ waits_seen c.deref.result.now c.deref-2.result.now c.self.inside.entries.items c.place_of-place.result c.from.result c.args.number c.self.inside.fresh c.deref.ensures.value c.deref-2.ensures.value
    c.place_of-place.ensures c.from.ensures c.self.invariant.rising
    ∙ ap (λ (q : Queue). waits q c.args.number) c.self.view_is

pub returns-clause-after : goal.returns-clause-after
returns-clause-after c =
    let o = c.self.inside in
    let es = o.entries.items in
    let i = c.place_of-place.result in
    let n = c.args.number in
    let seen = c.deref-2.result.now in
    let within : i < length es = there_within seen es i c.deref-2.ensures.value (within_by (waiting_in seen) i n (sym c.if-not-has_at.ensures)) in
    let gone : waiting_in c.remove-slot.new.self.items ≡ others n (waiting_in es) =
    ap waiting_in c.remove-slot.ensures.items
    ∙ gone_seen c.deref.result.now seen es i c.from.result n o.fresh c.deref.ensures.value c.deref-2.ensures.value c.place_of-place.ensures c.from.ensures c.self.invariant.rising (sym c.if-not-has_at.ensures) in
    let many : length c.push_reserved.new.self.items + length c.remove-slot.new.self.items ≡ length o.free.items + length es =
    ap (λ (slots : List Written). length slots + length c.remove-slot.new.self.items) c.push_reserved.ensures.items
    ∙ ap (λ (xs : List OutboxEntry). length (o.free.items ++ c.remove-slot.result.slot ∷ []) + length xs) c.remove-slot.ensures.items
    ∙ as_many_slots o.free.items es i c.remove-slot.result.slot within in
    same_queue _ _ (gone ∙ ap (λ (q : Queue). others n q.pending) c.self.view_is) (ap (λ (q : Queue). q.handed) c.self.view_is) (ap (λ (q : Queue). q.fresh) c.self.view_is)
    (many ∙ ap (λ (q : Queue). q.places) c.self.view_is) (ap (λ (q : Queue). q.room) c.self.view_is)
