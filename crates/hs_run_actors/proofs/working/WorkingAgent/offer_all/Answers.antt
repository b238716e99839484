use Rattle.hs_run_actors.proofs.Prelude.{plain_working_agent}
use Rattle.hs_run_actors.proofs.Offers.{no_offers, offers_work, offer_more, counts_on, offers_end}
use Rattle.hs_run_actors.proofs.working.WorkingAgent.offer_all.Goals as goal

pub offers-init : goal.offers-init
offers-init g c = λ W work stands. no_offers W work (g.E.IntakeEnds.sees c.args.ends.now) (plain_working_agent c.args.self.now) stands

pub offer_next-requires : goal.offer_next-requires
offer_next-requires g c =
    let (W, work, stands) = c.requires in
    let so_far = c.offers.invariant W work stands in
    (W, offers_work W work (g.E.IntakeEnds.sees c.args.ends.now) (g.E.IntakeEnds.sees c.offers.ends) (plain_working_agent c.offers.self) so_far, so_far.offers.stands)

pub offers-smaller : goal.offers-smaller
offers-smaller g c =
    let (W, work, stands) = c.requires in
    let old = g.E.IntakeEnds.sees c.args.ends.now in
    let lines = g.E.IntakeEnds.sees c.offers.ends in
    let desk = plain_working_agent c.offers.self in
    let so_far = c.offers.invariant W work stands in
    counts_on W work old lines desk so_far (g.E.IntakeEnds.sees c.offer_next.new.ends) (plain_working_agent c.offer_next.new.self) c.in_ok-offer_next.field-0 c.if-branch.true (c.in_ok-offer_next.ensures W (offers_work W work old lines desk so_far) so_far.offers.stands)

pub offers-preserved : goal.offers-preserved
offers-preserved g c = λ W work stands.
    let old = g.E.IntakeEnds.sees c.args.ends.now in
    let lines = g.E.IntakeEnds.sees c.offers.ends in
    let desk = plain_working_agent c.offers.self in
    let so_far = c.offers.invariant W work stands in
    offer_more W work old lines desk so_far (g.E.IntakeEnds.sees c.offer_next.new.ends) (plain_working_agent c.offer_next.new.self) c.in_ok-offer_next.field-0 c.if-branch.true (c.in_ok-offer_next.ensures W (offers_work W work old lines desk so_far) so_far.offers.stands)

pub returns : goal.returns
returns g c = λ W work stands.
    let old = g.E.IntakeEnds.sees c.args.ends.now in
    let lines = g.E.IntakeEnds.sees c.offers.ends in
    let desk = plain_working_agent c.offers.self in
    let so_far = c.offers.invariant W work stands in
    offers_end W work old lines desk so_far (g.E.IntakeEnds.sees c.offer_next.new.ends) (plain_working_agent c.offer_next.new.self) c.in_ok-offer_next.field-0 c.if-branch.false (c.in_ok-offer_next.ensures W (offers_work W work old lines desk so_far) so_far.offers.stands)
