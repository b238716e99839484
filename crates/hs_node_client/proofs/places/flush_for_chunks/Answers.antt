use Rattle.std.proofs.Common.{arith}
use Rattle.hs_base.proofs.Numbers.{nat_le_past}
use Rattle.hs_node_client.proofs.Ends.{lacked, puts_flushed}
use Rattle.hs_node_client.proofs.places.flush_for_chunks.Goals as goal

pub returns-clause-lacks : goal.returns-clause-lacks
returns-clause-lacks c = λ fails.
    let less = nat_le_past c.args.places c.chunk_places.result fails in
    let old = c.args.client.now.chunks in
    let new = c.flush.new.self.chunks in
    lacked c.args.places old new (puts_flushed old new c.flush.ensures.chunks) (λ has. let most = c.chunk_places.ensures.most c.args.places has in absurd (omega (arith, less, most)))
