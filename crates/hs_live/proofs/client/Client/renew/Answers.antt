use Rattle.std.proofs.Common.{ap, subst}
use Rattle.hs_live.proofs.Prelude.{Writer, PlainClient, live_of}
use Rattle.hs_live.specs.Calls.{Renews}
use Rattle.hs_live.proofs.Doing.{renews}
use Rattle.hs_live.proofs.client.Client.renew.Goals as goal

pub returns-clause-does : goal.returns-clause-does
returns-clause-does c =
    let s = c.self.inside in
    let with : Writer → PlainClient = λ w. live_of (record { writer = w; autos = s.autos; crumbs = s.crumbs; triggers = s.triggers }) in
    subst (λ (old : PlainClient). Renews c.renew.result old (with c.renew.new.self)) c.self.view_is
    (renews c.what_was_done_was_sent.ensures c.args.calls c.renew.result (live_of s) (with c.renew.new.self) c.renew.ensures.answer (ap with c.renew.ensures.only))
