use Rattle.std.proofs.Common.{None, refl, subst, sym, append-nil}
use Rattle.hs_replay.proofs.Prelude.{Input, Follows, ghosts, replay_node_in, PlainReplayNode, IsAmid, IsReady, run_of}
use Rattle.hs_agent.specs.declared.input.Input.TheVariants as inputs
use Rattle.hs_agent.specs.Runs.{after_turn}
use Rattle.hs_records.specs.declared.journal.Step.TheVariants as steps
use Rattle.hs_replay.proofs.TakingOut.{turn_comes}
use Rattle.hs_replay.proofs.Taken.{stood, taken_amid, went_one}
use Rattle.hs_replay.proofs.node.ReplayNode.turn.Goals as goal

pub turn-requires : goal.turn-requires
turn-requires c =
    let (W, m, n, run, amid) = c.requires in
    let stands = (subst (IsAmid W m n run) (sym c.self.view_is) amid).stands.agent in
    λ working. (run_of W.settings run stands.buffers None, stands.follows, tt)

pub returns : goal.returns
returns c = λ W m n run amid.
    let old : PlainReplayNode = replay_node_in c.self.inside in
    let input : Input (Unit {0}) ghosts = inputs.Turn in
    let ready : IsReady {g = ghosts} W m n run steps.Turn input old = turn_comes W m n run old (subst (IsAmid W m n run) (sym c.self.view_is) amid) in
    let stands = stood W m n run steps.Turn input old ready in
    let at = run_of W.settings run stands.buffers None in
    let follows = subst (λ buffers. Follows c.turn.new.self (record (after_turn at) { buffers = buffers })) (sym (append-nil stands.buffers)) (c.in_ok-turn.ensures.after at stands.follows) in
    let new : PlainReplayNode = record old { agent = c.turn.new.self } in
    went_one c.events_add_this.ensures W m n steps.Turn run input old new ready
    (taken_amid W m n run steps.Turn input old ready c.step_by_step.ensures c.events_go_on.ensures c.events_add_this.ensures c.steps_say_what_they_tell.ensures
    c.turn.new.self None old.said follows refl (sym (append-nil old.said)))
