use Rattle.hs_compare.proofs.Rounded.{rounds_more}
use Rattle.hs_compare.proofs.walk.walk.Goals as goal

pub loop-round-preserved : goal.loop-round-preserved
loop-round-preserved c =
    rounds_more c.args.stride c.args.scripts.now c.args.ring.now c.loop-round.ring c.go_round.new.ring c.loop-round.round c.loop-round.invariant c.in_ok-go_round.ensures
