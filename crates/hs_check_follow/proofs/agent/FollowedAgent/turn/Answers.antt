use Rattle.std.proofs.Common.{List, None, refl, sym, subst, append-nil}
use Rattle.hs_check_follow.proofs.Prelude.{Follows, Input, Unleased, agent_run}
use Rattle.hs_agent.specs.Runs.{after_turn}
use Rattle.hs_agent.specs.declared.input.Input.TheVariants as inputs
use Rattle.hs_records.specs.declared.journal.Step.TheVariants as steps
use Rattle.hs_words.specs.contracts.token.UnitToken.TheImpl.{ghosts}
use Rattle.hs_check_follow.proofs.Performing.{performed}
use Rattle.hs_check_follow.proofs.Readying.{turn_readied}
use Rattle.hs_check_follow.proofs.agent.FollowedAgent.turn.Goals as goal

pub turn-requires : goal.turn-requires
turn-requires c =
    let W = c.requires.0 in
    let may = c.requires.1.1 in
    let (J, heard, run, asks, s, next) = may in
    λ working. (agent_run W.settings run s.agent.buffers, s.agent.follows, tt)

pub returns : goal.returns
returns c = λ W all J heard run asks s next.
    let input : Input (Unit {0}) ghosts = inputs.Turn in
    let r = turn_readied W J heard run c.args.self.now s {g = ghosts} in
    let at = agent_run W.settings run r.stands.agent.buffers in
    let follows = subst (λ (buffers : List Unleased). Follows c.turn.new.self (record (after_turn at) { buffers = buffers })) (sym (append-nil r.stands.agent.buffers)) (c.in_ok-turn.ensures.after at r.stands.agent.follows) in
    performed c.events_go_on.ensures c.events_add_this.ensures c.steps_say_what_they_tell.ensures W J run heard steps.Turn input c.args.self.now r _ None follows refl (sym (append-nil c.args.self.now.said.items)) refl refl refl
