use Rattle.std.proofs.Common.{sym, ◌∙◌, subst}
use Rattle.hs_live.proofs.Prelude.{Done, PlainClient, Does, live_of}
use Rattle.hs_records.specs.Plain.{Crumb as LeaveCrumb}
use Rattle.hs_live.proofs.Doing.{crumb_done}
use Rattle.hs_link.specs.Contents.{TakesPlaces}
use Rattle.hs_live.proofs.Senders.{takes_one}
use Rattle.hs_live.proofs.client.Client.crumb.Goals as goal

pub returns-clause-does : goal.returns-clause-does
returns-clause-does c =
    let s = c.self.inside in
    let new : PlainClient = live_of (record { writer = s.writer; autos = s.autos; crumbs = c.send_within.new.self; triggers = s.triggers }) in
    subst (λ (old : PlainClient). Does (LeaveCrumb c.args.node) Done old new) c.self.view_is
    (crumb_done (record { numbered = c.one_operation_more.ensures.numbered; crumbs = c.one_operation_more.ensures.crumbs; triggers = c.one_operation_more.ensures.triggers })
    c.args.node c.in-Some.trace (live_of s) c.send_within.new.self (sym c.trace.ensures ∙ c.in-Some.is) c.send_within.ensures.sent)

pub returns-clause-places : goal.returns-clause-places
returns-clause-places c =
    let sends = c.send_within.ensures in
    subst (λ (old : PlainClient). TakesPlaces 1 old.crumbs c.send_within.new.self) c.self.view_is (takes_one _ c.self.inside.crumbs c.send_within.new.self sends.same sends.put sends.sent)
