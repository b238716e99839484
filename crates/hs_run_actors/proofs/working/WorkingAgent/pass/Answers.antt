use Rattle.std.proofs.Common.{◌≡◌, [], ◌∷◌, map, rules, subst}
use Rattle.hs_run_actors.proofs.Prelude.{Took, Turn, plain_working_agent, TakesFirst, events_from, chunks_of, with_events, ask_event}
use Rattle.hs_run_actors.proofs.Offers.{pass_made}
use Rattle.hs_run_actors.proofs.working.WorkingAgent.pass.Goals as goal

pub take_asks-requires : goal.take_asks-requires
take_asks-requires g c =
    let (W, work, can) = c.requires in
    let first = c.in_ok-take_all.ensures W work can in
    (search rules, (W, with_events (events_from 0 first.helpings) (chunks_of first.helpings) work, g.E.IntakeEnds.sees c.take_all.new.ends, first.stands))

pub turn-requires : goal.turn-requires
turn-requires g c =
    let (W, work, can) = c.requires in
    let first = c.in_ok-take_all.ensures W work can in
    let work1 = with_events (events_from 0 first.helpings) (chunks_of first.helpings) work in
    let asks = c.in_ok-take_asks.ensures W work1 (g.E.IntakeEnds.sees c.take_all.new.ends) first.stands in
    (search rules, (W, with_events (map ask_event asks.items) [] work1, g.E.IntakeEnds.sees c.take_all.new.ends, asks.stands))

pub offer_all-requires : goal.offer_all-requires
offer_all-requires g c =
    let (W, work, can) = c.requires in
    let first = c.in_ok-take_all.ensures W work can in
    let lines = g.E.IntakeEnds.sees c.take_all.new.ends in
    let work1 = with_events (events_from 0 first.helpings) (chunks_of first.helpings) work in
    let asks = c.in_ok-take_asks.ensures W work1 lines first.stands in
    let work2 = with_events (map ask_event asks.items) [] work1 in
    (W, with_events (Took Turn ∷ []) [] work2, c.in_ok-turn.ensures W work2 lines asks.stands)

pub returns : goal.returns
returns g c = λ W work can.
    let old = g.E.IntakeEnds.sees c.args.ends.now in
    let lines = g.E.IntakeEnds.sees c.take_all.new.ends in
    let all : c.args.clients ≡ W.settings.clients = can.clients_are in
    let first = subst (λ k. TakesFirst W work k old lines (plain_working_agent c.take_all.new.self)) all (c.in_ok-take_all.ensures W work can) in
    let work1 = with_events (events_from 0 first.helpings) (chunks_of first.helpings) work in
    let asks = c.in_ok-take_asks.ensures W work1 lines first.stands in
    let work2 = with_events (map ask_event asks.items) [] work1 in
    let turn = c.in_ok-turn.ensures W work2 lines asks.stands in
    let offers = c.in_ok-offer_all.ensures W (with_events (Took Turn ∷ []) [] work2) turn in
    pass_made W work old lines (g.E.IntakeEnds.sees c.offer_all.new.ends) (plain_working_agent c.take_all.new.self) (plain_working_agent c.take_asks.new.self) (plain_working_agent c.turn.new.self) (plain_working_agent c.offer_all.new.self) first asks turn offers
