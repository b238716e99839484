use Rattle.std.proofs.Common.{◌≡◌, arith, length, ap, subst}
use Rattle.hs_replay.proofs.Prelude.{PlainReplayNode, WentBy, takes_first}
use Rattle.hs_records.specs.declared.setting.Setting.TheVariants as settings
use Rattle.hs_replay.proofs.Looping.{one_client_more}
use Rattle.hs_replay.proofs.node.ReplayNode.take_all.Goals as goal

pub overflow_cast-client : goal.overflow_cast-client
overflow_cast-client c =
    let (W, m, n, run, amid) = c.requires.amid in
    let count = amid.stands.players.count in
    let view = ap (λ (p : PlainReplayNode). length p.players) c.self.view_is in
    let few = (amid.comes.valid.head settings.Clients).1 in
    let below = c.loop-client-test.true in
    omega (arith, count, view, few, below)

pub take_of-requires-clause-client : goal.take_of-requires-clause-client
take_of-requires-clause-client c =
    let (W, m, n, run, amid) = c.requires.amid in
    let w = c.loop-client.invariant W m n run amid in
    let count = amid.stands.players.count in
    let view = ap (λ (p : PlainReplayNode). length p.players) c.self.view_is in
    let now = w.amid.stands.players.count in
    let below = c.loop-client-test.true in
    omega (arith, count, view, now, below)

pub take_of-requires-clause-amid : goal.take_of-requires-clause-amid
take_of-requires-clause-amid c =
    let (W, m, n, run, amid) = c.requires.amid in
    let w = c.loop-client.invariant W m n run amid in
    (W, m, n, w.next, w.amid)

pub loop-client-preserved : goal.loop-client-preserved
loop-client-preserved c = λ W m n run amid.
    let w = c.loop-client.invariant W m n run amid in
    one_client_more c.step_by_step.ensures W m n c.loop-client.client run c.loop-client.self c.take_of.new.self amid.comes.number w (c.in_ok-take_of.ensures W m n w.next w.amid)

pub returns : goal.returns
returns c = λ W m n run amid.
    let w = c.loop-client.invariant W m n run amid in
    let count = amid.stands.players.count in
    let view = ap (λ (p : PlainReplayNode). length p.players) c.self.view_is in
    let high = c.loop-client-test.false in
    let low = c.loop-client.auto.client-end in
    let all : c.loop-client.client ≡ W.settings.clients = omega (arith, count, view, high, low) in
    subst (λ k. WentBy W m n run (takes_first W m run k) c.loop-client.self) all w
