use Rattle.std.proofs.Common.{subst}
use Rattle.hs_live.proofs.Prelude.{Fire, Done, PlainClient, Does, live_of}
use Rattle.hs_live.proofs.Doing.{trigger_done}
use Rattle.hs_link.specs.Contents.{TakesPlaces}
use Rattle.hs_live.proofs.Senders.{takes_one}
use Rattle.hs_live.proofs.client.Client.trigger.Goals as goal

pub returns-clause-does : goal.returns-clause-does
returns-clause-does c =
    let s = c.self.inside in
    let new : PlainClient = live_of (record { writer = s.writer; autos = s.autos; crumbs = s.crumbs; triggers = c.send_within.new.self }) in
    subst (λ (old : PlainClient). Does (Fire c.args.trigger) Done old new) c.self.view_is
    (trigger_done (record { numbered = c.one_operation_more.ensures.numbered; crumbs = c.one_operation_more.ensures.crumbs; triggers = c.one_operation_more.ensures.triggers })
    c.args.trigger (live_of s) c.send_within.new.self c.send_within.ensures.sent)

pub returns-clause-places : goal.returns-clause-places
returns-clause-places c =
    let sends = c.send_within.ensures in
    subst (λ (old : PlainClient). TakesPlaces 1 old.triggers c.send_within.new.self) c.self.view_is (takes_one c.args.trigger c.self.inside.triggers c.send_within.new.self sends.same sends.put sends.sent)
