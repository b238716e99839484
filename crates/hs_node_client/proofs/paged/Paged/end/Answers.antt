use Rattle.hs_node_client.proofs.Behind.{ended_behind}
use Rattle.hs_node_client.proofs.paged.Paged.end.Goals as goal

pub invariant_of-self : goal.invariant_of-self
invariant_of-self c =
    let s = c.self.inside in
    ended_behind c.ends_take_none.ensures c.end.result s.place s.live c.end.new.self c.self.invariant c.end.ensures.does c.end.ensures.trace c.end.ensures.spends
