use Rattle.std.proofs.Common.{◌+◌, false, List, sym, subst, arith}
use Rattle.hs_run.proofs.Prelude.{workload_of, ActingNode, AreMade}
use Rattle.hs_run.proofs.Begun.{one_more_made}
use Rattle.hs_run.proofs.making.make_nodes.Goals as goal

pub loop-number-preserved : goal.loop-number-preserved
loop-number-preserved c =
    let W = workload_of c.args.workload.now in
    let node : ActingNode = record { site = c.in_ok-site.site; failed = false } in (
      omega (arith, c.loop-number.invariant.0, c.push.ensures.room),
      subst (λ (l : List ActingNode). AreMade W (c.loop-number.number + 1) l) (sym c.push.ensures.items)
          (one_more_made W c.loop-number.number c.loop-number.nodes.items node c.loop-number.invariant.1 c.in_ok-site.ensures),
    )
