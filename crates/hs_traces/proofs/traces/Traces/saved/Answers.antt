use Rattle.std.proofs.Common.{◌≡◌, ◌+◌, ap, ◌∙◌, sym, arith, Some}
use Rattle.std.specs.Map.{remove_entry}
use Rattle.hs_base.specs.Ids.{same_trace}
use Rattle.hs_traces.specs.Traces.{Parts, bytes_in, part_of}
use Rattle.hs_traces.specs.Parts.{bytes_of}
use Rattle.hs_traces.proofs.Counting.{bytes_in-remove, remove-missing}
use Rattle.hs_traces.proofs.traces.Traces.saved.Goals as goal

pub overflow_sub-self : goal.overflow_sub-self
overflow_sub-self c =
    let left = bytes_in-remove c.args.trace c.self.inside.out.parts c.in-Some.part (sym c.in-Some.ensures.taken) in
    let held = c.self.invariant.bytes in
    let one : c.bytes.result ≡ bytes_of c.in-Some.part = c.bytes.ensures in
    omega (arith, left, held, one)

pub invariant_of-self : goal.invariant_of-self
invariant_of-self c =
    let found : part_of c.self.inside.out.parts c.args.trace ≡ Some c.in-Some.part = sym c.in-Some.ensures.taken in
    let left = bytes_in-remove c.args.trace c.self.inside.out.parts c.in-Some.part found in
    let held = c.self.invariant.bytes in
    let most = c.self.invariant.within in
    let one : c.bytes.result ≡ bytes_of c.in-Some.part = c.bytes.ensures in
    let here : bytes_in c.take.new.self.parts ≡ bytes_in (remove_entry (same_trace c.args.trace) c.self.inside.out.parts) = ap bytes_in c.in-Some.ensures.parts in
    record {
      bytes = omega (arith, left, held, one, here);
      within = omega (arith, left, held, most, one, here);
      hold = c.self.invariant.hold;
      room = let room = c.self.invariant.room in let kept = c.in-Some.ensures.room in omega (arith, room, kept);
    }

pub invariant_of-self-in-None : goal.invariant_of-self-in-None
invariant_of-self-in-None c =
    let same : c.take.new.self.parts ≡ c.self.inside.out.parts = c.in-None.ensures.parts ∙ remove-missing c.args.trace c.self.inside.out.parts (sym c.in-None.ensures.taken) in
    record {
      bytes = c.self.invariant.bytes ∙ sym (ap (λ (es : Parts). bytes_in c.self.inside.waiting.entries + bytes_in es) same);
      within = c.self.invariant.within;
      hold = c.self.invariant.hold;
      room = let room = c.self.invariant.room in let kept = c.in-None.ensures.room in omega (arith, room, kept);
    }
