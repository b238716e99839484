use Rattle.std.proofs.Common.{arith}
use Rattle.hs_base.proofs.Numbers.{nat_le_past}
use Rattle.hs_node_client.proofs.Ends.{lacked, puts_flushed}
use Rattle.hs_node_client.proofs.places.flush_for_crumb.Goals as goal

pub returns-clause-lacks : goal.returns-clause-lacks
returns-clause-lacks c = λ fails.
    let less = nat_le_past 1 c.crumb_places.result fails in
    let old = c.args.client.now.crumbs in
    let new = c.flush.new.self.crumbs in
    lacked 1 old new (puts_flushed old new c.flush.ensures.crumbs) (λ has. let most = c.crumb_places.ensures.most 1 has in absurd (omega (arith, less, most)))
