use Rattle.std.proofs.Common.{◌≡◌, [], subst, sym, ap, ◌∙◌, Some}
use Rattle.hs_replay.proofs.Prelude.{Follows, offered_next, state_of, after_offer, pool_history, buffer_of, buffer_in, replay_node_in, PlainReplayNode, IsGiving}
use Rattle.std.specs.Prelude.{IfNone}
use Rattle.hs_agent.specs.Runs.{after_answer}
use Rattle.hs_replay.proofs.Giving.{before_offer, is_out, few_events, was_offered, none_offered, one_given, given_so}
use Rattle.hs_replay.proofs.node.ReplayNode.give_next.Goals as goal

pub give-given-requires-clause-out : goal.give-given-requires-clause-out
give-given-requires-clause-out c =
    let (W, m, n, start, given, g) = c.requires in
    let here : IsGiving W m n start given (replay_node_in c.self.inside) = subst (λ (p : PlainReplayNode). IsGiving W m n start given p) (sym c.self.view_is) g in
    let at = before_offer W m n start given (replay_node_in c.self.inside) here in
    let first : Some (buffer_of c.in-Some.held) ≡ offered_next at = ap buffer_in (sym c.in-Some.is) ∙ c.in_ok-offer.ensures.first at here.stands.agent.follows in
    is_out W m n start given (replay_node_in c.self.inside) here c.agents_give_so.ensures (buffer_of c.in-Some.held) first c.what_is_out_may_be_given.ensures

pub give-given-requires-clause-events : goal.give-given-requires-clause-events
give-given-requires-clause-events c =
    let (W, m, n, start, given, g) = c.requires in
    let here : IsGiving W m n start given (replay_node_in c.self.inside) = subst (λ (p : PlainReplayNode). IsGiving W m n start given p) (sym c.self.view_is) g in
    let at = before_offer W m n start given (replay_node_in c.self.inside) here in
    let first : Some (buffer_of c.in-Some.held) ≡ offered_next at = ap buffer_in (sym c.in-Some.is) ∙ c.in_ok-offer.ensures.first at here.stands.agent.follows in
    few_events W m n start given (replay_node_in c.self.inside) here c.agents_give_so.ensures (buffer_of c.in-Some.held) first

pub gave-requires : goal.gave-requires
gave-requires c =
    let (W, m, n, start, given, g) = c.requires in
    let here : IsGiving W m n start given (replay_node_in c.self.inside) = subst (λ (p : PlainReplayNode). IsGiving W m n start given p) (sym c.self.view_is) g in
    let at = before_offer W m n start given (replay_node_in c.self.inside) here in
    let first : Some (buffer_of c.in-Some.held) ≡ offered_next at = ap buffer_in (sym c.in-Some.is) ∙ c.in_ok-offer.ensures.first at here.stands.agent.follows in
    was_offered W m n start given (replay_node_in c.self.inside) here c.agents_give_so.ensures (buffer_of c.in-Some.held) first c.offer.new.self (c.in_ok-offer.ensures.after at here.stands.agent.follows)

pub returns-in-None : goal.returns-in-None
returns-in-None c = λ W m n start given g.
    let here : IsGiving W m n start given (replay_node_in c.self.inside) = subst (λ (p : PlainReplayNode). IsGiving W m n start given p) (sym c.self.view_is) g in
    let at = before_offer W m n start given (replay_node_in c.self.inside) here in
    none_offered W m n start given (replay_node_in c.self.inside) here c.agents_give_so.ensures c.offer.new.self (c.in_ok-offer.ensures.after at here.stands.agent.follows)
    (subst (λ o. IfNone o ((state_of at).hand ≡ [])) c.in-None.is (c.in_ok-offer.ensures.empty at here.stands.agent.follows))

pub returns-in-Some : goal.returns-in-Some
returns-in-Some c = λ W m n start given g.
    let here : IsGiving W m n start given (replay_node_in c.self.inside) = subst (λ (p : PlainReplayNode). IsGiving W m n start given p) (sym c.self.view_is) g in
    let at = before_offer W m n start given (replay_node_in c.self.inside) here in
    let first : Some (buffer_of c.in-Some.held) ≡ offered_next at = ap buffer_in (sym c.in-Some.is) ∙ c.in_ok-offer.ensures.first at here.stands.agent.follows in
    let so = given_so c.give-given.result c.self.inside.pool.events c.give-given.ensures.given in
    let follows = c.gave.ensures.after (after_offer at) (c.in_ok-offer.ensures.after at here.stands.agent.follows) in
    one_given W m n start given (replay_node_in c.self.inside) here c.agents_give_so.ensures (buffer_of c.in-Some.held) first c.step_by_step.ensures c.events_go_on.ensures c.events_add_this.ensures c.steps_say_what_they_tell.ensures
    c.gave.new.self c.give-given.new.self so.stamp_in so.stamped (subst (λ answer. Follows c.gave.new.self (after_answer (after_offer at) answer)) so.is follows)
    (c.give-given.ensures.after (pool_history here.run) here.stands.pool.after) c.give-given.ensures.buffers (c.give-given.ensures.size W.settings.size)
