use Rattle.std.proofs.Common.{rules, Fits, w64, ◌≡◌, ◌+◌, [], length, Option, Some, unwrap_or, sym, ap, ◌∙◌, arith}
use Rattle.std.specs.Map.{set_value}
use Rattle.std.proofs.lemmas.Map.Steps.{set_value_same}
use Rattle.hs_base.proofs.Bools.{first_false}
use Rattle.hs_base.proofs.Options.{on_err_always}
use Rattle.hs_base.specs.Ids.{same_trace}
use Rattle.hs_traces.specs.Parts.{Pages, has_key}
use Rattle.hs_traces.specs.Traces.{Parts, PlainTraces, part_of, bytes_in, held_bytes, has_page_in}
use Rattle.hs_traces.proofs.Counting.{bytes_in-set, bytes_of-part, bytes_fit}
use Rattle.hs_traces.proofs.traces.Traces.put.Goals as goal

pub add-requires-clause-new : goal.add-requires-clause-new
add-requires-clause-new c =
    let there : part_of c.args.self.now.waiting c.args.trace ≡ Some c.in-Some.part.now = sym (ap (λ (s : PlainTraces). part_of s.waiting c.args.trace) c.self.view_is) ∙ sym c.in-Some.ensures.value in
    sym (ap (λ (o : Option Pages). has_key (unwrap_or o []) c.args.key) there)
    ∙ first_false (has_page_in c.args.self.now.waiting c.args.trace c.args.key) (has_page_in c.args.self.now.out c.args.trace c.args.key) c.requires.new

pub add-requires-clause-fits : goal.add-requires-clause-fits
add-requires-clause-fits c =
    let least = bytes_of-part c.args.trace c.self.inside.waiting.entries c.in-Some.part.now (sym c.in-Some.ensures.value) in
    let room = bytes_fit c.args.self.now c.args.trace (length c.args.page) c.requires.room in
    let seen : bytes_in c.self.inside.waiting.entries + bytes_in c.self.inside.out.parts ≡ held_bytes c.args.self.now = ap held_bytes c.self.view_is in
    let most : c.self.inside.limits.bytes ≡ c.args.self.now.limits.bytes = ap (λ (s : PlainTraces). s.limits.bytes) c.self.view_is in
    let fits : Fits w64 c.self.inside.limits.bytes = search rules in
    omega (arith, least, room, seen, most, fits)

pub invariant_of-self : goal.invariant_of-self
invariant_of-self c =
    let same : set_value (same_trace c.args.trace) c.self.inside.waiting.entries c.add.new.self ≡ c.self.inside.waiting.entries =
    set_value_same (same_trace c.args.trace) c.self.inside.waiting.entries c.add.new.self (sym c.in-Some.ensures.value ∙ ap Some (sym c.in_err-add-in-Some.ensures.err)) in
    record {
      bytes = c.self.invariant.bytes ∙ sym (ap (λ (es : Parts). bytes_in es + bytes_in c.self.inside.out.parts) same);
      within = c.self.invariant.within;
      hold = c.self.invariant.hold;
      room = c.self.invariant.room;
    }

pub returns-in_err-add-in-Some-clause-err : goal.returns-in_err-add-in-Some-clause-err
returns-in_err-add-in-Some-clause-err c =
    let same : set_value (same_trace c.args.trace) c.self.inside.waiting.entries c.add.new.self ≡ c.self.inside.waiting.entries =
    set_value_same (same_trace c.args.trace) c.self.inside.waiting.entries c.add.new.self (sym c.in-Some.ensures.value ∙ ap Some (sym c.in_err-add-in-Some.ensures.err)) in
    on_err_always c.from_residual.result (ap (λ (es : Parts). record { limits = c.self.inside.limits; waiting = es; out = c.self.inside.out.parts }) same ∙ c.self.view_is)

pub invariant_of-self-in-Some : goal.invariant_of-self-in-Some
invariant_of-self-in-Some c =
    let set = bytes_in-set c.args.trace c.self.inside.waiting.entries c.in-Some.part.now c.add.new.self (sym c.in-Some.ensures.value) in
    let count = c.in_ok-add-in-Some.ensures.count in
    let held = c.self.invariant.bytes in
    let len : length c.as_slice.result.now ≡ length c.args.page = ap length c.as_slice.ensures in
    let room = bytes_fit c.args.self.now c.args.trace (length c.args.page) c.requires.room in
    let seen : bytes_in c.self.inside.waiting.entries + bytes_in c.self.inside.out.parts ≡ held_bytes c.args.self.now = ap held_bytes c.self.view_is in
    let most : c.self.inside.limits.bytes ≡ c.args.self.now.limits.bytes = ap (λ (s : PlainTraces). s.limits.bytes) c.self.view_is in
    record {
      bytes = omega (arith, set, count, held, len);
      within = omega (arith, held, len, room, seen, most);
      hold = c.self.invariant.hold;
      room = c.self.invariant.room;
    }
