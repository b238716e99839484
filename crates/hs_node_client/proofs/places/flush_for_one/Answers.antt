use Rattle.std.proofs.Common.{arith}
use Rattle.hs_base.proofs.Numbers.{nat_le_past}
use Rattle.hs_node_client.proofs.Ends.{lacked}
use Rattle.hs_node_client.proofs.places.flush_for_one.Goals as goal

pub returns-clause-lacks : goal.returns-clause-lacks
returns-clause-lacks g c = λ fails.
    let less = nat_le_past 1 c.places.result fails in
    let old = c.args.link.now in
    let new = c.flush.new.self in
    lacked 1 old new (record { goes = record { same = c.flush.ensures.same; put = c.flush.ensures.put }; items = c.flush.ensures.sent })
    (λ has. let most = c.places.ensures.most 1 has in absurd (omega (arith, less, most)))
