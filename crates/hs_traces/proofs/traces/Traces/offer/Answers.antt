use Rattle.std.proofs.Common.{◌≡◌, ◌+◌, [], ◌∷◌, ◌++◌, Option, Some, unwrap_or, sym, ap, ◌∙◌, arith}
use Rattle.std.specs.Map.{remove_entry}
use Rattle.lru.specs.LruCache.{LruCache}
use Rattle.hs_base.specs.declared.ids.TraceId.{TraceId}
use Rattle.hs_base.specs.Ids.{same_trace}
use Rattle.hs_traces.specs.Parts.{Pages, bytes_of}
use Rattle.hs_traces.specs.Traces.{Parts, PlainTraces, part_of, bytes_in, offered}
use Rattle.hs_traces.proofs.Counting.{bytes_in-remove, bytes_in-push, remove-missing}
use Rattle.hs_traces.specs.declared.answers.TraceLimits.{TraceLimits}
use Rattle.hs_traces.proofs.traces.Traces.offer.Goals as goal

abbrev traces_at : TraceLimits → Parts → Parts → PlainTraces
traces_at limits waiting out = record { limits = limits; waiting = waiting; out = out }

pub invariant_of-self : goal.invariant_of-self
invariant_of-self c =
    let found : part_of c.self.inside.waiting.entries c.args.trace ≡ Some c.in-Some.part = sym c.in-Some.ensures.value in
    let left : bytes_in c.pop.new.self.entries ≡ bytes_in (remove_entry (same_trace c.args.trace) c.self.inside.waiting.entries) = ap (λ (k : LruCache TraceId Pages). bytes_in k.entries) c.in-Some.ensures.entries in
    let taken = bytes_in-remove c.args.trace c.self.inside.waiting.entries c.in-Some.part found in
    let last : c.add.new.self.parts ≡ c.self.inside.out.parts ++ (c.args.trace, c.in-Some.part) ∷ [] = c.add.ensures.parts in
    let given : bytes_in c.add.new.self.parts ≡ bytes_in c.self.inside.out.parts + bytes_of c.in-Some.part = ap bytes_in last ∙ bytes_in-push c.self.inside.out.parts c.args.trace c.in-Some.part in
    let held = c.self.invariant.bytes in
    record {
      bytes = omega (arith, left, taken, given, held);
      within = c.self.invariant.within;
      hold = ap (λ (k : LruCache TraceId Pages). k.cap) c.in-Some.ensures.entries ∙ c.self.invariant.hold;
      room = let room = c.self.invariant.room in let kept = c.add.ensures.room in omega (arith, room, kept);
    }

pub invariant_of-self-in-None : goal.invariant_of-self-in-None
invariant_of-self-in-None c =
    let same : c.pop.new.self.entries ≡ c.self.inside.waiting.entries = ap (λ (k : LruCache TraceId Pages). k.entries) c.in-None.ensures.entries ∙ remove-missing c.args.trace c.self.inside.waiting.entries (sym c.in-None.ensures.value) in
    record {
      bytes = c.self.invariant.bytes ∙ sym (ap (λ (es : Parts). bytes_in es + bytes_in c.self.inside.out.parts) same);
      within = c.self.invariant.within;
      hold = ap (λ (k : LruCache TraceId Pages). k.cap) c.in-None.ensures.entries ∙ c.self.invariant.hold;
      room = c.self.invariant.room;
    }

pub returns-in-None-clause-same : goal.returns-in-None-clause-same
returns-in-None-clause-same c = λ _.
    let same : c.pop.new.self.entries ≡ c.self.inside.waiting.entries = ap (λ (k : LruCache TraceId Pages). k.entries) c.in-None.ensures.entries ∙ remove-missing c.args.trace c.self.inside.waiting.entries (sym c.in-None.ensures.value) in
    ap (λ (es : Parts). record { limits = c.self.inside.limits; waiting = es; out = c.self.inside.out.parts }) same ∙ c.self.view_is

pub returns-in-Some-clause-given : goal.returns-in-Some-clause-given
returns-in-Some-clause-given c = λ _.
    let found : part_of c.self.inside.waiting.entries c.args.trace ≡ Some c.in-Some.part = sym c.in-Some.ensures.value in
    let last : c.add.new.self.parts ≡ c.self.inside.out.parts ++ (c.args.trace, c.in-Some.part) ∷ [] = c.add.ensures.parts in
    let given : traces_at c.self.inside.limits c.pop.new.self.entries c.add.new.self.parts ≡ offered c.args.self.now c.args.trace =
    ap (λ (k : LruCache TraceId Pages). traces_at c.self.inside.limits k.entries c.add.new.self.parts) c.in-Some.ensures.entries
    ∙ ap (traces_at c.self.inside.limits (remove_entry (same_trace c.args.trace) c.self.inside.waiting.entries)) (last ∙ ap (λ (o : Option Pages). c.self.inside.out.parts ++ (c.args.trace, unwrap_or o []) ∷ []) (sym found))
    ∙ ap (λ (s : PlainTraces). offered s c.args.trace) c.self.view_is in
    given
