use Rattle.std.proofs.Common.{map, sym, ◌∙◌, subst, arith}
use Rattle.hs_live.proofs.Prelude.{IfSome_then, buffer_in, Port, incoming, IsEnd, ReceivesAt, IsOf}
use Rattle.hs_live.proofs.Ports.{received_buffers, end_buffers, fact_of_buffers, of_received}
use Rattle.hs_live.proofs.port.AgentPort.chunk.Goals as goal

pub invariant_of-self : goal.invariant_of-self
invariant_of-self c =
    let items = c.self.inside.chunks.items in
    let items' = c.receive_at.new.receivers.items in
    let is = c.self.invariant in
    let seen = received_buffers items items' c.args.client c.receive_at.result c.receive_at.ensures.received in
    let still = of_received c.self.inside.giver (map incoming items) (map incoming items') c.args.client (buffer_in c.receive_at.result) is.of_chunks seen in
    record {
      some = omega (arith, is.some, still.count);
      few = omega (arith, is.few, still.count);
      crumbs = is.crumbs ∙ sym still.count;
      triggers = is.triggers ∙ sym still.count;
      of_chunks = still.are;
      of_crumbs = is.of_crumbs;
      of_triggers = is.of_triggers;
    }

pub returns-clause-received : goal.returns-clause-received
returns-clause-received c =
    let items' = c.receive_at.new.receivers.items in
    subst (λ (l : Port). ReceivesAt c.args.client l.chunks (buffer_in c.receive_at.result) (map incoming items')) c.self.view_is
    (received_buffers c.self.inside.chunks.items items' c.args.client c.receive_at.result c.receive_at.ensures.received)

pub returns-clause-fact : goal.returns-clause-fact
returns-clause-fact c =
    let s = c.self.inside in
    IfSome_then c.receive_at.result c.receive_at.ensures.fact
    (λ held fact. (fact.0.key, subst (λ (l : Port). IsOf l.giver c.args.client fact.0.key) c.self.view_is (fact_of_buffers s.giver s.chunks.items c.args.client fact.0 c.self.invariant.of_chunks fact.1), fact.2))

pub returns-clause-end : goal.returns-clause-end
returns-clause-end c =
    let s = c.self.inside in
    IfSome_then c.receive_at.result c.receive_at.ensures.fact
    (λ held fact. (incoming fact.0, subst (λ (l : Port). IsEnd c.args.client l.chunks (incoming fact.0)) c.self.view_is (end_buffers s.chunks.items c.args.client fact.0 fact.1), fact.2))
