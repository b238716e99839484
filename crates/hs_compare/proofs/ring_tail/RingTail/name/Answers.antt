use Rattle.std.proofs.Common.{◌≡◌, ◌++◌, cond, Bool, List, [], ◌∷◌, false, length, map, sym, ap, ◌∙◌, subst, arith, length-append}
use Rattle.hs_compare.proofs.Prelude.{length_map, TraceId, RecordId, alive, names, AreQueued}
use Rattle.std.proofs.lemmas.Bool.{not-true}
use Rattle.hs_compare.specs.Ringing.{is_among}
use Rattle.hs_compare.proofs.Rings.{among_is}
use Rattle.hs_compare.proofs.Tails.{ringing, count_left, queued_left, names_first}
use Rattle.hs_compare.proofs.ring_tail.RingTail.name.Goals as goal

pub overflow_sub-self : goal.overflow_sub-self
overflow_sub-self c =
    let a = c.self.inside in
    omega (arith, count_left a.named.keys c.args.trace a.ring.items a.queues.entries c.self.invariant.queued, c.self.invariant.waiting, c.len.ensures, ap length c.take-queue.ensures.queue)

pub keep_all-requires-clause-kept : goal.keep_all-requires-clause-kept
keep_all-requires-clause-kept c =
    let a = c.self.inside in
    omega (arith, count_left a.named.keys c.args.trace a.ring.items a.queues.entries c.self.invariant.queued, c.self.invariant.waiting, c.self.invariant.kept, ap length c.take-queue.ensures.queue)

pub keep_all-requires-clause-traces : goal.keep_all-requires-clause-traces
keep_all-requires-clause-traces c =
    let a = c.self.inside in
    omega (arith, count_left a.named.keys c.args.trace a.ring.items a.queues.entries c.self.invariant.queued, c.self.invariant.waiting, c.self.invariant.traces, ap length c.take-queue.ensures.queue)

pub invariant_of-self-2 : goal.invariant_of-self-2
invariant_of-self-2 c =
    let a = c.self.inside in
    let named = a.named.keys in
    let trace = c.args.trace in
    let absent = not-true _ (sym c.in_ok-insert.ensures.added ∙ c.if-not-branch.false) in
    let are : c.insert.new.self.keys ≡ named ++ trace ∷ [] = c.in_ok-insert.ensures.keys ∙ ap (λ (b : Bool). cond b named (named ++ trace ∷ [])) absent in
    let left = count_left named trace a.ring.items a.queues.entries c.self.invariant.queued in
    let queue = ap length c.take-queue.ensures.queue in
    record {
      room = c.self.invariant.room;
      capacity = c.self.invariant.capacity;
      within = c.self.invariant.within;
      waiting = omega (arith, ap (λ (ks : List TraceId). length (alive ks a.ring.items)) are, left, c.self.invariant.waiting, c.len.ensures, queue);
      few = omega (arith, c.self.invariant.few);
      queued =
          subst (λ (ks : List TraceId). AreQueued c.take-queue.new.queues.entries (alive ks a.ring.items)) (sym are)
          (queued_left a.queues.entries c.take-queue.new.queues.entries named trace a.ring.items c.self.invariant.queued c.take-queue.ensures.rest);
      kept =
          omega (arith, ap length c.keep_all.ensures.kept, length-append a.kept.items c.take-queue.result, c.keep_all.ensures.room.0, c.self.invariant.kept, c.self.invariant.waiting, left, c.len.ensures, queue);
      traces =
          omega
          (arith, ap length c.keep_all.ensures.traces, length-append a.traces.items (map (λ _. trace) c.take-queue.result), length_map {X = RecordId} (λ _. trace) c.take-queue.result, c.keep_all.ensures.room.1, c.self.invariant.traces, c.self.invariant.waiting, left, c.len.ensures, queue);
    }

pub returns-clause-ok : goal.returns-clause-ok
returns-clause-ok c =
    let a = c.self.inside in
    let named = a.named.keys in
    let trace = c.args.trace in
    let kept = c.keep_all.new.kept.items in
    let traces = c.keep_all.new.traces.items in
    let absent = not-true _ (sym c.in_ok-insert.ensures.added ∙ c.if-not-branch.false) in
    let are : c.insert.new.self.keys ≡ named ++ trace ∷ [] = c.in_ok-insert.ensures.keys ∙ ap (λ (b : Bool). cond b named (named ++ trace ∷ [])) absent in
    let among : is_among named trace ≡ false = sym (among_is named trace) ∙ absent in
    let queue = c.take-queue.ensures.queue ∙ c.self.invariant.queued trace in
    ap (λ (ks : List TraceId). ringing a.room (alive ks a.ring.items) ks kept traces) are
    ∙ names_first a.room a.ring.items named a.kept.items a.traces.items trace kept traces among
    (c.keep_all.ensures.kept ∙ ap (λ (q : List RecordId). a.kept.items ++ q) queue)
    (c.keep_all.ensures.traces ∙ ap (λ (q : List RecordId). a.traces.items ++ map (λ _. trace) q) queue)
    ∙ ap (names trace) c.self.view_is
