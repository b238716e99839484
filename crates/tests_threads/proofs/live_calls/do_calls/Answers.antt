use Rattle.std.proofs.Common.{◌≡◌, ℕ, ◌+◌, ◌-◌, ◌*◌, ◌≤◌, length, subst, arith}
use Rattle.hs_base.specs.declared.limits.TheConstants.{MIN_SIZE}
use Rattle.tests_with.specs.Pairs.{CanCall}
use Rattle.tests_with.specs.PairLaws.{keeps_both}
use Rattle.tests_threads.proofs.live_calls.do_calls.Goals as goal
use Rattle.tests_threads.proofs.live_calls.do_calls.Goals.{then-do_call-answer, else-do_call-answer}

pub loop-call-preserved : goal.loop-call-preserved
loop-call-preserved c =
    record {
      left = λ n can.
          let size = length c.args.calls.now in
          let within = c.loop-call-test.true in
          let more : 2 * (length c.args.calls.now - c.loop-call.call-index) + n ≡ (2 * (length c.args.calls.now - (c.loop-call.call-index + 1)) + n) + 2 = omega (arith, within) in
          c.do_call.ensures.left (2 * (length c.args.calls.now - (c.loop-call.call-index + 1)) + n) (subst (λ m. CanCall MIN_SIZE m c.loop-call.client) more (c.loop-call.invariant.left n can));
      same = keeps_both c.args.client.now c.loop-call.client c.do_call.new.client c.loop-call.invariant.same c.do_call.ensures.same;
      few = elim c.if-do_call-answer.branch [ then-do_call-answer w ↦ omega (arith, w.others-is, c.loop-call.invariant.few) | else-do_call-answer w ↦ omega (arith, w.others-is, c.loop-call.invariant.few) ];
    }

pub returns-clause-left : goal.returns-clause-left
returns-clause-left c = λ n can.
    let over : 2 * (length c.args.calls.now - c.loop-call.call-index) + n ≡ n = omega (arith, c.loop-call-test.false) in
    subst (λ m. CanCall MIN_SIZE m c.loop-call.client) over (c.loop-call.invariant.left n can)
