use Rattle.std.proofs.Common.{◌≡◌, ◌+◌, [], ◌∷◌, length, Option, None, sym, ap, ◌∙◌, arith}
use Rattle.lru.specs.LruCache.{LruCache}
use Rattle.hs_base.specs.declared.ids.TraceId.{TraceId}
use Rattle.hs_traces.specs.Parts.{Pages, bytes_of, with_page}
use Rattle.hs_traces.specs.Traces.{Parts, PlainTraces, part_of, bytes_in, held_bytes, with_page_in}
use Rattle.hs_traces.proofs.Counting.{bytes_in-cons, bytes_fit, trace_fits, put-new}
use Rattle.hs_traces.proofs.traces.Traces.put_first.Goals as goal

pub invariant_of-self : goal.invariant_of-self
invariant_of-self c =
    let missing : part_of c.self.inside.waiting.entries c.args.trace ≡ None = ap (λ (s : PlainTraces). part_of s.waiting c.args.trace) c.self.view_is ∙ c.requires.new in
    let fits = trace_fits c.args.self.now c.args.trace (length c.args.page) c.requires.room c.requires.new in
    let long : length c.self.inside.waiting.entries ≡ length c.args.self.now.waiting = ap (λ (s : PlainTraces). length s.waiting) c.self.view_is in
    let wide : c.self.inside.limits.hold ≡ c.args.self.now.limits.hold = ap (λ (s : PlainTraces). s.limits.hold) c.self.view_is in
    let cap = c.self.invariant.hold in
    let first : c.put.new.self.entries ≡ (c.args.trace, c.add.new.self) ∷ c.self.inside.waiting.entries =
    ap (λ (k : LruCache TraceId Pages). k.entries) c.in-Ok.ensures.entries
    ∙ put-new c.args.trace c.self.inside.waiting.entries c.self.inside.waiting.cap c.add.new.self missing (omega (arith, fits, long, wide, cap)) in
    let all : bytes_in c.put.new.self.entries ≡ bytes_of c.add.new.self + bytes_in c.self.inside.waiting.entries = ap bytes_in first ∙ bytes_in-cons c.args.trace c.add.new.self c.self.inside.waiting.entries in
    let count = c.in_ok-add.ensures.count in
    let none : bytes_of c.new-part.result ≡ 0 = ap bytes_of c.new-part.ensures in
    let held = c.self.invariant.bytes in
    let len : length c.as_slice.result.now ≡ length c.args.page = ap length c.as_slice.ensures in
    let room = bytes_fit c.args.self.now c.args.trace (length c.args.page) c.requires.room in
    let seen : bytes_in c.self.inside.waiting.entries + bytes_in c.self.inside.out.parts ≡ held_bytes c.args.self.now = ap held_bytes c.self.view_is in
    let most : c.self.inside.limits.bytes ≡ c.args.self.now.limits.bytes = ap (λ (s : PlainTraces). s.limits.bytes) c.self.view_is in
    record {
      bytes = omega (arith, all, count, none, held, len);
      within = omega (arith, held, len, room, seen, most);
      hold = ap (λ (k : LruCache TraceId Pages). k.cap) c.in-Ok.ensures.entries ∙ c.self.invariant.hold;
      room = c.self.invariant.room;
    }

pub returns-in-Ok-clause-ok : goal.returns-in-Ok-clause-ok
returns-in-Ok-clause-ok c =
    let missing : part_of c.self.inside.waiting.entries c.args.trace ≡ None = ap (λ (s : PlainTraces). part_of s.waiting c.args.trace) c.self.view_is ∙ c.requires.new in
    let fits = trace_fits c.args.self.now c.args.trace (length c.args.page) c.requires.room c.requires.new in
    let long : length c.self.inside.waiting.entries ≡ length c.args.self.now.waiting = ap (λ (s : PlainTraces). length s.waiting) c.self.view_is in
    let wide : c.self.inside.limits.hold ≡ c.args.self.now.limits.hold = ap (λ (s : PlainTraces). s.limits.hold) c.self.view_is in
    let cap = c.self.invariant.hold in
    let first : c.put.new.self.entries ≡ (c.args.trace, c.add.new.self) ∷ c.self.inside.waiting.entries =
    ap (λ (k : LruCache TraceId Pages). k.entries) c.in-Ok.ensures.entries
    ∙ put-new c.args.trace c.self.inside.waiting.entries c.self.inside.waiting.cap c.add.new.self missing (omega (arith, fits, long, wide, cap)) in
    let made : c.add.new.self ≡ (c.args.key, c.args.page) ∷ [] = c.in_ok-add.ensures.ok ∙ ap (λ (p : Pages). with_page p c.args.key c.args.page) c.new-part.ensures in
    ap (λ (es : Parts). record { limits = c.self.inside.limits; waiting = es; out = c.self.inside.out.parts }) (first ∙ ap (λ (p : Pages). (c.args.trace, p) ∷ c.self.inside.waiting.entries) made)
    ∙ ap (λ (s : PlainTraces). record s { waiting = (c.args.trace, (c.args.key, c.args.page) ∷ []) ∷ s.waiting }) c.self.view_is
    ∙ ap (λ (o : Option Pages). record c.args.self.now { waiting = with_page_in c.args.self.now.waiting c.args.trace c.args.key c.args.page o }) (sym c.requires.new)
