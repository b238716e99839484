use Rattle.std.proofs.Common.{Some, None, refl, sym, subst, ◌∙◌, append-nil}
use Rattle.hs_check_follow.proofs.Prelude.{MatchOption, IsNotReady, IsReadied}
use Rattle.hs_check_follow.proofs.Performing.{at_run, takable, performed}
use Rattle.hs_check_follow.proofs.agent.FollowedAgent.take.Goals as goal

pub step-requires : goal.step-requires
step-requires c =
    let W = c.requires.may.0 in
    let given = c.requires.may.1 in
    let (J, heard, run, asks, s, may) = given in
    takable c.events_go_on.ensures c.events_add_this.ensures c.steps_say_what_they_tell.ensures W J run heard c.args.step c.in-Some.input c.next_input.new.self (subst (λ o. MatchOption o (IsNotReady W J heard run c.args.step c.next_input.new.self) (λ input. IsReadied W J heard run c.args.step input c.next_input.new.self)) c.in-Some.is (c.next_input.ensures W J heard run asks s)) may

pub returns-in-None-2 : goal.returns-in-None-2
returns-in-None-2 c = λ W J heard run asks s may.
    let r = subst (λ o. MatchOption o (IsNotReady W J heard run c.args.step c.next_input.new.self) (λ input. IsReadied W J heard run c.args.step input c.next_input.new.self)) c.in-Some.is (c.next_input.ensures W J heard run asks s) in
    let at = at_run c.events_go_on.ensures c.events_add_this.ensures c.steps_say_what_they_tell.ensures W J run heard c.args.step c.in-Some.input c.next_input.new.self r in
    let follows = r.stands.agent.follows in
    performed c.events_go_on.ensures c.events_add_this.ensures c.steps_say_what_they_tell.ensures W J run heard c.args.step c.in-Some.input c.next_input.new.self r _ None (c.in_ok-step-in-Some.ensures.after at follows) (sym c.in-None-2.is ∙ c.in_ok-step-in-Some.ensures.told at follows)
    (sym (append-nil c.next_input.new.self.said.items)) refl refl refl

pub returns-in_ok-append-in-Some-2 : goal.returns-in_ok-append-in-Some-2
returns-in_ok-append-in-Some-2 c = λ W J heard run asks s may.
    let r = subst (λ o. MatchOption o (IsNotReady W J heard run c.args.step c.next_input.new.self) (λ input. IsReadied W J heard run c.args.step input c.next_input.new.self)) c.in-Some.is (c.next_input.ensures W J heard run asks s) in
    let at = at_run c.events_go_on.ensures c.events_add_this.ensures c.steps_say_what_they_tell.ensures W J run heard c.args.step c.in-Some.input c.next_input.new.self r in
    let follows = r.stands.agent.follows in
    performed c.events_go_on.ensures c.events_add_this.ensures c.steps_say_what_they_tell.ensures W J run heard c.args.step c.in-Some.input c.next_input.new.self r _ (Some c.in-Some-2.told) (c.in_ok-step-in-Some.ensures.after at follows)
    (sym c.in-Some-2.is ∙ c.in_ok-step-in-Some.ensures.told at follows) c.in_ok-append-in-Some-2.ensures.ok refl refl refl
