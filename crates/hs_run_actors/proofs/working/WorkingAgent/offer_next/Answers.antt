use Rattle.std.proofs.Common.{◌≡◌, [], Some, refl, sym, ap, ◌∙◌, subst}
use Rattle.hs_run_actors.proofs.Prelude.{IfNone, offered_next, state_of, after_offer, buffer_of, buffer_in, plain_working_agent, OffersNext}
use Rattle.hs_run_actors.proofs.Offering.{run, first_is, pooled_first, is_offered, none_offered, offered_so}
use Rattle.hs_run_actors.proofs.working.WorkingAgent.offer_next.Goals as goal

pub give-given-requires-clause-pool : goal.give-given-requires-clause-pool
give-given-requires-clause-pool g c =
    let (W, work, stands) = c.requires in
    let desk = plain_working_agent c.args.self.now in
    let lines = g.E.IntakeEnds.sees c.args.ends.now in
    let at = run W work desk lines stands in
    let e : Some (buffer_of c.in-Some.held) ≡ offered_next at = ap buffer_in (sym c.in-Some.is) ∙ c.in_ok-offer.ensures.first at stands.works.is.follows in
    (pooled_first W work desk lines stands (buffer_of c.in-Some.held) (first_is at (buffer_of c.in-Some.held) e)).pool_is ∙ sym stands.lines_are.pool_is

pub give-given-requires-clause-size : goal.give-given-requires-clause-size
give-given-requires-clause-size g c =
    let (W, work, stands) = c.requires in
    let desk = plain_working_agent c.args.self.now in
    let lines = g.E.IntakeEnds.sees c.args.ends.now in
    let at = run W work desk lines stands in
    let e : Some (buffer_of c.in-Some.held) ≡ offered_next at = ap buffer_in (sym c.in-Some.is) ∙ c.in_ok-offer.ensures.first at stands.works.is.follows in
    (pooled_first W work desk lines stands (buffer_of c.in-Some.held) (first_is at (buffer_of c.in-Some.held) e)).size ∙ sym stands.lines_are.size

pub gave-requires : goal.gave-requires
gave-requires g c =
    let (W, work, stands) = c.requires in
    let desk = plain_working_agent c.args.self.now in
    let lines = g.E.IntakeEnds.sees c.args.ends.now in
    let at = run W work desk lines stands in
    let e : Some (buffer_of c.in-Some.held) ≡ offered_next at = ap buffer_in (sym c.in-Some.is) ∙ c.in_ok-offer.ensures.first at stands.works.is.follows in
    is_offered W work desk lines stands (buffer_of c.in-Some.held) (first_is at (buffer_of c.in-Some.held) e) c.offer.new.self (c.in_ok-offer.ensures.after at stands.works.is.follows)

pub returns-in-None : goal.returns-in-None
returns-in-None g c = λ W work stands.
    let desk = plain_working_agent c.args.self.now in
    let lines = g.E.IntakeEnds.sees c.args.ends.now in
    let at = run W work desk lines stands in
    none_offered W work desk lines stands c.offer.new.self (c.in_ok-offer.ensures.after at stands.works.is.follows) (subst (λ o. IfNone o ((state_of at).hand ≡ [])) c.in-None.is (c.in_ok-offer.ensures.empty at stands.works.is.follows))

pub returns-in-Some : goal.returns-in-Some
returns-in-Some g c = λ W work stands.
    let desk = plain_working_agent c.args.self.now in
    let lines = g.E.IntakeEnds.sees c.args.ends.now in
    let lines' = g.E.IntakeEnds.sees c.give-given.new.self in
    let at = run W work desk lines stands in
    let e : Some (buffer_of c.in-Some.held) ≡ offered_next at = ap buffer_in (sym c.in-Some.is) ∙ c.in_ok-offer.ensures.first at stands.works.is.follows in
    let follows = c.gave.ensures.after (after_offer at) (c.in_ok-offer.ensures.after at stands.works.is.follows) in
    subst (λ b. OffersNext W work lines lines' (record desk { agent = c.gave.new.self }) b) (sym c.is_read-was_read.ensures)
    (offered_so W work desk lines stands (buffer_of c.in-Some.held) (first_is at (buffer_of c.in-Some.held) e) c.events_go_on.ensures c.steps_say_what_they_tell.ensures c.gave.new.self lines' c.give-given.ensures.few c.give-given.ensures.only c.in-Some.held c.give-given.result refl follows
    c.give-given.ensures.given)
