use Rattle.std.proofs.Common.{◌≤◌, refl, ap, subst, arith}
use Rattle.hs_live.proofs.Prelude.{End, Writer, PlainClient, Does, outgoing, live_of}
use Rattle.hs_live.proofs.Doing.{ends}
use Rattle.hs_link.specs.Contents.{TakesPlaces}
use Rattle.hs_live.specs.Calls.{counts}
use Rattle.hs_live.specs.declared.called.Called.{Called}
use Rattle.hs_live.specs.declared.called.Called.TheVariants as called
use Rattle.hs_live.proofs.Senders.{takes_places}
use Rattle.hs_live.proofs.client.Client.end.Goals as goal

pub returns-clause-does : goal.returns-clause-does
returns-clause-does c =
    let s = c.self.inside in
    let e = c.end.ensures in
    let with : Writer → PlainClient = λ w. live_of (record { writer = w; autos = s.autos; crumbs = s.crumbs; triggers = s.triggers }) in
    subst (λ (old : PlainClient). Does End c.end.result old (with c.end.new.self)) c.self.view_is
    (ends (record { numbered = c.one_operation_more.ensures.numbered; crumbs = c.one_operation_more.ensures.crumbs; triggers = c.one_operation_more.ensures.triggers })
    c.end.result (live_of s) (with c.end.new.self) e.answer (λ refused. ap with (e.refused refused)) e.trace e.page e.number e.written (record { autos = refl; crumbs = refl; triggers = refl }))

-- at most one is counted
few : (answer : Called) → counts 1 answer ≤ 1
few called.Done = omega arith
few called.Spent = omega arith
few called.AlreadyOpen = omega arith
few called.NoTrace = omega arith
few called.TooWide = omega arith

pub returns-clause-places : goal.returns-clause-places
returns-clause-places c =
    let spends = c.end.ensures.spends in
    subst (λ (old : PlainClient). TakesPlaces 1 old.chunks (outgoing c.end.new.self.chunks)) c.self.view_is
    (takes_places 1 (outgoing c.self.inside.writer.chunks) (outgoing c.end.new.self.chunks) spends.chunks (omega (arith, spends.items, few c.end.result)))
