use Rattle.std.proofs.Common.{◌<◌, ◌++◌, List, length, take, drop, ap, ◌∙◌, arith}
use Rattle.hs_compare.proofs.Prelude.{TracedRecord, alive}
use Rattle.hs_compare.proofs.Rings.{pass_more}
use Rattle.hs_compare.proofs.ring.clear_dead.Goals as goal

pub loop-preserved : goal.loop-preserved
loop-preserved c =
    let named = c.args.named.now.keys in
    let within : c.loop.counter < length c.args.ring.now.items = omega arith in (
      c.pass.ensures.passes ∙ ap (λ (ring : List TracedRecord). drop 1 ring ++ alive named (take 1 ring)) c.loop.invariant.0 ∙ pass_more named c.args.ring.now.items c.loop.counter within,
      c.pass.ensures.capacity ∙ c.loop.invariant.1,
      omega (arith, c.pass.ensures.shorter, c.pass.ensures.capacity, c.loop.invariant.2),
    )
