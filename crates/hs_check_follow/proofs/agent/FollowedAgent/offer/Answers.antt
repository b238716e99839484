use Rattle.std.proofs.Common.{◌≡◌, List, [], Some, refl, sym, ap, subst, ◌∙◌}
use Rattle.hs_check_follow.proofs.Prelude.{Follows, after_offer, offered_next, state_of, Given, Missed, Unread, Gave, Unleased, buffer_of, buffer_in, agent_run}
use Rattle.hs_law_journal.specs.Following.{event_of}
use Rattle.std.specs.Prelude.{IfNone}
use Rattle.hs_check_follow.proofs.Performing.{before, next, none_offered, offer_none, is_offered, was_offered, has_page, ready, back_is, answered, none_given, one_given, named_so}
use Rattle.hs_check_follow.proofs.agent.FollowedAgent.offer.Goals as goal

pub returns-in-None : goal.returns-in-None
returns-in-None c = λ W J heard run s.
    let at = before c.events_go_on.ensures c.events_add_this.ensures c.steps_say_what_they_tell.ensures W J run c.args.self.now s in
    let empty = subst (λ o. IfNone o ((state_of at).hand ≡ [])) c.in-None.is (c.in_ok-offer.ensures.empty at s.agent.follows) in
    record {
      stands = none_offered c.events_go_on.ensures c.events_add_this.ensures c.steps_say_what_they_tell.ensures W J run c.args.self.now s c.offer.new.self (c.in_ok-offer.ensures.after at s.agent.follows) empty _ refl;
      none = offer_none c.events_go_on.ensures c.events_add_this.ensures c.steps_say_what_they_tell.ensures W J run c.args.self.now s heard c.args.step c.requires.kind empty;
    }

pub page_in-requires : goal.page_in-requires
page_in-requires c =
    let (W, J, run, s) = c.requires.stands in
    let at = before c.events_go_on.ensures c.events_add_this.ensures c.steps_say_what_they_tell.ensures W J run c.args.self.now s in
    let first : Some (buffer_of c.in-Some.held) ≡ offered_next at = ap buffer_in (sym c.in-Some.is) ∙ c.in_ok-offer.ensures.first at s.agent.follows in
    has_page c.events_go_on.ensures c.events_add_this.ensures c.steps_say_what_they_tell.ensures W J run c.args.self.now s (buffer_of c.in-Some.held) (is_offered c.events_go_on.ensures c.events_add_this.ensures c.steps_say_what_they_tell.ensures W J run c.args.self.now s (buffer_of c.in-Some.held) first)

pub gave-requires : goal.gave-requires
gave-requires c =
    let (W, J, run, s) = c.requires.stands in
    let at = before c.events_go_on.ensures c.events_add_this.ensures c.steps_say_what_they_tell.ensures W J run c.args.self.now s in
    let first : Some (buffer_of c.in-Some.held) ≡ offered_next at = ap buffer_in (sym c.in-Some.is) ∙ c.in_ok-offer.ensures.first at s.agent.follows in
    was_offered c.events_go_on.ensures c.events_add_this.ensures c.steps_say_what_they_tell.ensures W J run c.args.self.now s (buffer_of c.in-Some.held) (is_offered c.events_go_on.ensures c.events_add_this.ensures c.steps_say_what_they_tell.ensures W J run c.args.self.now s (buffer_of c.in-Some.held) first) c.offer.new.self (c.in_ok-offer.ensures.after at s.agent.follows)

pub gave-requires-in-Missed : goal.gave-requires-in-Missed
gave-requires-in-Missed c =
    let (W, J, run, s) = c.requires.stands in
    let at = before c.events_go_on.ensures c.events_add_this.ensures c.steps_say_what_they_tell.ensures W J run c.args.self.now s in
    let first : Some (buffer_of c.in-Some.held) ≡ offered_next at = ap buffer_in (sym c.in-Some.is) ∙ c.in_ok-offer.ensures.first at s.agent.follows in
    was_offered c.events_go_on.ensures c.events_add_this.ensures c.steps_say_what_they_tell.ensures W J run c.args.self.now s (buffer_of c.in-Some.held) (is_offered c.events_go_on.ensures c.events_add_this.ensures c.steps_say_what_they_tell.ensures W J run c.args.self.now s (buffer_of c.in-Some.held) first) c.offer.new.self (c.in_ok-offer.ensures.after at s.agent.follows)

pub gave-requires-in-Unread : goal.gave-requires-in-Unread
gave-requires-in-Unread c =
    let (W, J, run, s) = c.requires.stands in
    let at = before c.events_go_on.ensures c.events_add_this.ensures c.steps_say_what_they_tell.ensures W J run c.args.self.now s in
    let first : Some (buffer_of c.in-Some.held) ≡ offered_next at = ap buffer_in (sym c.in-Some.is) ∙ c.in_ok-offer.ensures.first at s.agent.follows in
    was_offered c.events_go_on.ensures c.events_add_this.ensures c.steps_say_what_they_tell.ensures W J run c.args.self.now s (buffer_of c.in-Some.held) (is_offered c.events_go_on.ensures c.events_add_this.ensures c.steps_say_what_they_tell.ensures W J run c.args.self.now s (buffer_of c.in-Some.held) first) c.offer.new.self (c.in_ok-offer.ensures.after at s.agent.follows)

pub returns-in_ok-append-in-Given : goal.returns-in_ok-append-in-Given
returns-in_ok-append-in-Given c = λ W J heard run s.
    let at = before c.events_go_on.ensures c.events_add_this.ensures c.steps_say_what_they_tell.ensures W J run c.args.self.now s in
    let buffer : Unleased = buffer_of c.in-Some.held in
    let first : Some buffer ≡ offered_next at = ap buffer_in (sym c.in-Some.is) ∙ c.in_ok-offer.ensures.first at s.agent.follows in
    let o = is_offered c.events_go_on.ensures c.events_add_this.ensures c.steps_say_what_they_tell.ensures W J run c.args.self.now s buffer first in
    let gave = c.gave.ensures.after (after_offer at) (c.in_ok-offer.ensures.after at s.agent.follows) in
    record {
      event = Gave (Given c.in-Given.stamp);
      ready = ap (event_of run heard) c.in-Given.is ∙ ready c.events_go_on.ensures c.events_add_this.ensures c.steps_say_what_they_tell.ensures W J run c.args.self.now s buffer o (Given c.in-Given.stamp);
      stands = answered c.events_go_on.ensures c.events_add_this.ensures c.steps_say_what_they_tell.ensures W J run c.args.self.now s buffer o (Given c.in-Given.stamp) c.gave.new.self gave _ refl refl refl refl (let n = named_so buffer.chunk.page c.page_in.result (has_page c.events_go_on.ensures c.events_add_this.ensures c.steps_say_what_they_tell.ensures W J run c.args.self.now s buffer o) c.page_in.ensures in one_given c.events_go_on.ensures c.events_add_this.ensures c.steps_say_what_they_tell.ensures W J run c.args.self.now s buffer o c.in-Given.stamp c.page_in.result n.0 n.1 n.2 c.append.new.self.items c.in_ok-append-in-Given.ensures.ok);
    }

pub returns-in-Missed : goal.returns-in-Missed
returns-in-Missed c = λ W J heard run s.
    let at = before c.events_go_on.ensures c.events_add_this.ensures c.steps_say_what_they_tell.ensures W J run c.args.self.now s in
    let buffer : Unleased = buffer_of c.in-Some.held in
    let first : Some buffer ≡ offered_next at = ap buffer_in (sym c.in-Some.is) ∙ c.in_ok-offer.ensures.first at s.agent.follows in
    let o = is_offered c.events_go_on.ensures c.events_add_this.ensures c.steps_say_what_they_tell.ensures W J run c.args.self.now s buffer first in
    let gave = c.gave-in-Missed.ensures.after (after_offer at) (c.in_ok-offer.ensures.after at s.agent.follows) in
    record {
      event = Gave (Missed c.in-Missed.stamp);
      ready = ap (event_of run heard) c.in-Missed.is ∙ ready c.events_go_on.ensures c.events_add_this.ensures c.steps_say_what_they_tell.ensures W J run c.args.self.now s buffer o (Missed c.in-Missed.stamp);
      stands = answered c.events_go_on.ensures c.events_add_this.ensures c.steps_say_what_they_tell.ensures W J run c.args.self.now s buffer o (Missed c.in-Missed.stamp) c.gave-in-Missed.new.self (subst (λ (bs : List Unleased). Follows c.gave-in-Missed.new.self (agent_run W.settings (next c.events_go_on.ensures c.events_add_this.ensures c.steps_say_what_they_tell.ensures W J run (Gave (Missed c.in-Missed.stamp))) bs)) (back_is c.events_go_on.ensures c.events_add_this.ensures c.steps_say_what_they_tell.ensures W J run c.args.self.now s buffer o) gave) _ refl refl refl refl (none_given c.events_go_on.ensures c.events_add_this.ensures c.steps_say_what_they_tell.ensures W J run c.args.self.now s buffer o (Missed c.in-Missed.stamp) refl);
    }

pub returns-in-Unread : goal.returns-in-Unread
returns-in-Unread c = λ W J heard run s.
    let at = before c.events_go_on.ensures c.events_add_this.ensures c.steps_say_what_they_tell.ensures W J run c.args.self.now s in
    let buffer : Unleased = buffer_of c.in-Some.held in
    let first : Some buffer ≡ offered_next at = ap buffer_in (sym c.in-Some.is) ∙ c.in_ok-offer.ensures.first at s.agent.follows in
    let o = is_offered c.events_go_on.ensures c.events_add_this.ensures c.steps_say_what_they_tell.ensures W J run c.args.self.now s buffer first in
    let gave = c.gave-in-Unread.ensures.after (after_offer at) (c.in_ok-offer.ensures.after at s.agent.follows) in
    record {
      event = Gave (Unread);
      ready = ap (event_of run heard) c.in-Unread.is ∙ ready c.events_go_on.ensures c.events_add_this.ensures c.steps_say_what_they_tell.ensures W J run c.args.self.now s buffer o (Unread);
      stands = answered c.events_go_on.ensures c.events_add_this.ensures c.steps_say_what_they_tell.ensures W J run c.args.self.now s buffer o (Unread) c.gave-in-Unread.new.self (subst (λ (bs : List Unleased). Follows c.gave-in-Unread.new.self (agent_run W.settings (next c.events_go_on.ensures c.events_add_this.ensures c.steps_say_what_they_tell.ensures W J run (Gave (Unread))) bs)) (back_is c.events_go_on.ensures c.events_add_this.ensures c.steps_say_what_they_tell.ensures W J run c.args.self.now s buffer o) gave) _ refl refl refl refl (none_given c.events_go_on.ensures c.events_add_this.ensures c.steps_say_what_they_tell.ensures W J run c.args.self.now s buffer o Unread refl);
    }
