use Rattle.std.proofs.Common.{length, ap, ◌∙◌}
use Rattle.hs_agent.proofs.Prelude.{PlainAgent, point_of}
use Rattle.hs_agent.proofs.Offered.{hand_counts}
use Rattle.hs_agent.proofs.agent.Agent.in_hand.Goals as goal

pub returns : goal.returns
returns g c = λ run follows none.
    c.in_hand.ensures ∙ ap (λ (k : PlainAgent g.row.L.Denot). length k.kept.hand) c.self.view_is ∙ hand_counts c.args.self.now.kept (point_of run) follows.stands.chunks none
