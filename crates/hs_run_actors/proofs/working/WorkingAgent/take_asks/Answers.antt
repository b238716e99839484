use Rattle.std.proofs.Common.{◌≡◌, ◌∷◌, List, arith, sym, ap, ◌∙◌}
use Rattle.hs_run_actors.proofs.Prelude.{Ask, plain_working_agent}
use Rattle.hs_run_actors.proofs.Loops.{no_asks, asks_work, may_ask, ask_more, asks_out, asks_full}
use Rattle.hs_run_actors.proofs.working.WorkingAgent.take_asks.Goals as goal

pub loop-count-init : goal.loop-count-init
loop-count-init g c = λ W work lines stands. no_asks W work (plain_working_agent c.args.self.now) lines stands

pub take-requires : goal.take-requires
take-requires g c =
    let (W, work, lines, stands) = c.requires in
    let old = plain_working_agent c.args.self.now in
    let so_far = c.loop-count.invariant W work lines stands in
    let first : c.loop-count.self.asks.items ≡ c.in-Some.ask ∷ c.pop_front.new.self.items = c.in-Some.ensures.items in
    (W, asks_work W work old lines c.loop-count.count (plain_working_agent c.loop-count.self) so_far, so_far.stands.works, may_ask W work old lines c.loop-count.count (plain_working_agent c.loop-count.self) so_far c.in-Some.ask c.pop_front.new.self.items first)

pub loop-count-preserved : goal.loop-count-preserved
loop-count-preserved g c = λ W work lines stands.
    let old = plain_working_agent c.args.self.now in
    let so_far = c.loop-count.invariant W work lines stands in
    let desk = plain_working_agent c.loop-count.self in
    let first : c.loop-count.self.asks.items ≡ c.in-Some.ask ∷ c.pop_front.new.self.items = c.in-Some.ensures.items in
    let works = c.in_ok-take.ensures.works W (asks_work W work old lines c.loop-count.count desk so_far) so_far.stands.works (may_ask W work old lines c.loop-count.count desk so_far c.in-Some.ask c.pop_front.new.self.items first) in
    ask_more W work old lines c.loop-count.count desk so_far c.in-Some.ask (plain_working_agent c.take.new.self) (first ∙ ap (λ (l : List Ask). c.in-Some.ask ∷ l) (sym c.take.ensures.asks)) works

pub returns-in_default : goal.returns-in_default
returns-in_default g c = λ W work lines stands.
    let so_far = c.loop-count.invariant W work lines stands in
    let desk = plain_working_agent c.loop-count.self in
    let rest : c.loop-count.self.asks.items ≡ c.pop_front.new.self.items = c.in_default.ensures.items in
    asks_out W work (plain_working_agent c.args.self.now) lines c.loop-count.count desk so_far (let low = c.loop-count-test.true in omega (arith, low)) _ (ap (λ (l : List Ask). record desk { asks = l }) (sym rest)) (sym c.loop-count.self.asks.ok.0 ∙ c.in_default.ensures.cases.0)

pub returns : goal.returns
returns g c = λ W work lines stands.
    asks_full W work (plain_working_agent c.args.self.now) lines c.loop-count.count (plain_working_agent c.loop-count.self) (c.loop-count.invariant W work lines stands) (let high = c.loop-count-test.false in let low = c.loop-count.auto.count-end in omega (arith, high, low))
