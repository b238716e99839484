use Rattle.std.proofs.Common.{subst, Some, None, sym, ◌∙◌, append-nil}
use Rattle.hs_replay.proofs.Prelude.{replay_node_in, PlainReplayNode, IsReady, run_of}
use Rattle.hs_replay.proofs.Taken.{stood, takable, taken_amid}
use Rattle.hs_replay.proofs.node.ReplayNode.take.Goals as goal

pub step-requires : goal.step-requires
step-requires c =
    let (W, m, n, run, step, ready) = c.requires in
    takable W m n run step c.args.input (replay_node_in c.self.inside) (subst (λ (p : PlainReplayNode). IsReady W m n run step c.args.input p) (sym c.self.view_is) ready) c.machines_fit.ensures

pub returns-in_ok-push_back-in-Some : goal.returns-in_ok-push_back-in-Some
returns-in_ok-push_back-in-Some c = λ W m n run step ready.
    let here : IsReady W m n run step c.args.input (replay_node_in c.self.inside) = subst (λ (p : PlainReplayNode). IsReady W m n run step c.args.input p) (sym c.self.view_is) ready in
    let at = run_of W.settings run (stood W m n run step c.args.input (replay_node_in c.self.inside) here).buffers None in
    let follows = (stood W m n run step c.args.input (replay_node_in c.self.inside) here).follows in
    taken_amid W m n run step c.args.input (replay_node_in c.self.inside) here c.step_by_step.ensures c.events_go_on.ensures c.events_add_this.ensures c.steps_say_what_they_tell.ensures c.step.new.self
    (Some c.in-Some.told) c.push_back.new.self.items (c.in_ok-step.ensures.after at follows) (sym c.in-Some.is ∙ c.in_ok-step.ensures.told at follows) c.in_ok-push_back-in-Some.ensures.items

pub returns-in-None : goal.returns-in-None
returns-in-None c = λ W m n run step ready.
    let here : IsReady W m n run step c.args.input (replay_node_in c.self.inside) = subst (λ (p : PlainReplayNode). IsReady W m n run step c.args.input p) (sym c.self.view_is) ready in
    let at = run_of W.settings run (stood W m n run step c.args.input (replay_node_in c.self.inside) here).buffers None in
    let follows = (stood W m n run step c.args.input (replay_node_in c.self.inside) here).follows in
    taken_amid W m n run step c.args.input (replay_node_in c.self.inside) here c.step_by_step.ensures c.events_go_on.ensures c.events_add_this.ensures c.steps_say_what_they_tell.ensures c.step.new.self
    None c.self.inside.said.items (c.in_ok-step.ensures.after at follows) (sym c.in-None.is ∙ c.in_ok-step.ensures.told at follows) (sym (append-nil c.self.inside.said.items))
