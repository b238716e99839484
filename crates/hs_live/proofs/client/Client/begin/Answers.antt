use Rattle.std.proofs.Common.{ap, subst}
use Rattle.hs_live.proofs.Prelude.{Begin, Writer, PlainClient, Does, live_of}
use Rattle.hs_live.proofs.Doing.{begins}
use Rattle.hs_live.proofs.client.Client.begin.Goals as goal

pub returns-clause-does : goal.returns-clause-does
returns-clause-does c =
    let s = c.self.inside in
    let with : Writer → PlainClient = λ w. live_of (record { writer = w; autos = s.autos; crumbs = s.crumbs; triggers = s.triggers }) in
    subst (λ (old : PlainClient). Does (Begin c.args.trace) c.begin.result old (with c.begin.new.self)) c.self.view_is
    (begins (record { numbered = c.one_operation_more.ensures.numbered; crumbs = c.one_operation_more.ensures.crumbs; triggers = c.one_operation_more.ensures.triggers })
    c.any_steps_make_the_book.ensures c.args.trace c.begin.result (live_of s) (with c.begin.new.self) c.begin.ensures.answer (ap with c.begin.ensures.after))
