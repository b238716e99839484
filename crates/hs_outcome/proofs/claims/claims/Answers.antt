use Rattle.std.proofs.Common.{[], arith}
use Rattle.hs_outcome.proofs.Prelude.{all_claimed}
use Rattle.hs_outcome.proofs.Claimed.{all_claimed_join, one_claimed}
use Rattle.hs_base.proofs.Loops.{loop_more}
use Rattle.hs_outcome.proofs.claims.claims.Goals as goal

pub loop-book-preserved : goal.loop-book-preserved
loop-book-preserved c =
    loop_more all_claimed all_claimed_join c.args.agents.now c.loop-book.book-index c.book-item.result [] c.loop-book.traces.items c.push_claims.new.traces.items (omega arith) c.book-item.is c.loop-book.invariant
    (one_claimed c.book-item.result c.as_slice.result.now c.loop-book.traces.items c.push_claims.new.traces.items c.as_slice.ensures c.in_ok-push_claims.ensures)
