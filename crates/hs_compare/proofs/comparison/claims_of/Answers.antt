use Rattle.std.proofs.Common.{ap, ◌∙◌, sym}
use Rattle.hs_compare.proofs.Claiming.{claims_put, claims_left}
use Rattle.hs_compare.proofs.comparison.claims_of.Goals as goal
use Rattle.hs_compare.proofs.comparison.claims_of.Goals.{then-contains_key+in_ok-insert, else-contains_key}

pub loop-trace-preserved : goal.loop-trace-preserved
loop-trace-preserved c =
    elim c.if-contains_key.branch [
      | then-contains_key+in_ok-insert w ↦
          claims_put c.args.counts.now.entries c.args.claimed.now c.loop-trace.trace-index _ c.loop-trace.claims.keys _ c.loop-trace-test.true c.loop-trace.invariant (sym c.contains_key.ensures ∙ w.if-contains_key.true)
          (ap (λ s. s.keys) w.claims-is ∙ w.in_ok-insert.ensures.keys)
      | else-contains_key w ↦
          rw w.claims-is (claims_left c.args.counts.now.entries c.args.claimed.now c.loop-trace.trace-index _ c.loop-trace.claims.keys c.loop-trace-test.true c.loop-trace.invariant (sym c.contains_key.ensures ∙ w.if-contains_key.false))
    ]
