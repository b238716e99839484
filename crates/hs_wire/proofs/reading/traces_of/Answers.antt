use Rattle.std.proofs.Common.{◌≡◌, ℕ, ◌+◌, ◌-◌, List, length, sym, ap, ap₂, ◌∙◌, length-append, arith}
use Rattle.hs_wire.proofs.Prelude.{TraceId, traces_at}
use Rattle.hs_wire.proofs.Loops.{with_front, goes_on, ends, is_done, begins}
use Rattle.hs_wire.proofs.reading.traces_of.Goals as goal

pub loop-place-init : goal.loop-place-init
loop-place-init c =
    let whole : c.args.count ≡ c.args.count - 0 = omega arith in
    record {
      many = ap length c.none-laterals.ensures;
      reads =
          begins (traces_at c.args.count c.args.bytes.now)
          ∙ ap₂ (λ (front : List TraceId) (n : ℕ). with_front front (traces_at n c.args.bytes.now)) (sym c.none-laterals.ensures) whole;
    }

pub returns-in_default : goal.returns-in_default
returns-in_default c =
    ends c.loop-place.laterals c.args.count c.loop-place._place c.loop-place.rest.now (traces_at c.args.count c.args.bytes.now) c.loop-place-test.true c.in_default.ensures c.loop-place.invariant.reads

pub loop-place-preserved : goal.loop-place-preserved
loop-place-preserved c =
    let front = c.loop-place.laterals in
    let i = c.loop-place._place in
    let after = c.in-Some.after.now in
    record {
      many = ap length c.push.ensures ∙ length-append front _ ∙ ap (λ n. n + 1) c.loop-place.invariant.many;
      reads =
          goes_on front c.args.count i c.loop-place.rest.now after c.in-Some.trace (traces_at c.args.count c.args.bytes.now) c.loop-place-test.true c.in-Some.ensures c.loop-place.invariant.reads
          ∙ ap (λ (front : List TraceId). with_front front (traces_at (c.args.count - (i + 1)) after)) (sym c.push.ensures);
    }

pub returns : goal.returns
returns c =
    is_done c.loop-place.laterals c.args.count c.loop-place._place c.loop-place.rest.now (traces_at c.args.count c.args.bytes.now) (omega (arith, c.loop-place-test.false)) c.loop-place.invariant.reads
