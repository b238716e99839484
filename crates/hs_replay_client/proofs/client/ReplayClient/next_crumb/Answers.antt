use Rattle.std.proofs.Common.{subst}
use Rattle.hs_replay_client.proofs.Prelude.{PlainReplayClient, replay_client_in, TakesCrumb}
use Rattle.hs_replay_client.proofs.Taking.{takes_crumb}
use Rattle.hs_replay_client.proofs.client.ReplayClient.next_crumb.Goals as goal

pub returns : goal.returns
returns c =
    let s = c.self.inside in
    let new : PlainReplayClient = replay_client_in (record { doing = record { writer = s.doing.writer; autos = s.doing.autos; crumbs = c.pop_front.new.self; triggers = s.doing.triggers }; done = s.done }) in
    subst (λ (old : PlainReplayClient). TakesCrumb old c.pop_front.result new) c.self.view_is
    (takes_crumb (replay_client_in s) c.pop_front.result c.pop_front.new.self.items c.items_are_sent_in_order.ensures.crumbs c.pop_front.ensures.items c.pop_front.ensures.rest)
