use Rattle.std.proofs.Common.{IsSome, length, refl, subst, rules}
use Rattle.hs_live.proofs.Prelude.{Point, Done, Writer, PlainClient, Does, outgoing, live_of}
use Rattle.hs_live.proofs.Doing.{point_done}
use Rattle.hs_link.specs.Contents.{TakesPlaces}
use Rattle.hs_records.specs.Records.{piece_count}
use Rattle.hs_live.proofs.Senders.{takes_places}
use Rattle.hs_live.proofs.client.Client.point_here.Goals as goal

pub returns-clause-does : goal.returns-clause-does
returns-clause-does c =
    let s = c.self.inside in
    let p = c.point_here.ensures in
    let with : Writer → PlainClient = λ w. live_of (record { writer = w; autos = s.autos; crumbs = s.crumbs; triggers = s.triggers }) in
    let some : IsSome s.writer.core.trace = search rules in
    subst (λ (old : PlainClient). Does (Point c.args.moment c.args.payload.now) Done old (with c.point_here.new.self)) c.self.view_is
    (point_done (record { numbered = c.one_operation_more.ensures.numbered; crumbs = c.one_operation_more.ensures.crumbs; triggers = c.one_operation_more.ensures.triggers })
    c.args.moment c.args.payload.now (live_of s) (with c.point_here.new.self) some p.trace p.number p.page p.written (record { autos = refl; crumbs = refl; triggers = refl }))

pub returns-clause-places : goal.returns-clause-places
returns-clause-places c =
    let spends = c.point_here.ensures.spends in
    subst (λ (old : PlainClient). TakesPlaces (piece_count old.core.size (length c.args.payload.now)) old.chunks (outgoing c.point_here.new.self.chunks)) c.self.view_is
    (takes_places _ (outgoing c.self.inside.writer.chunks) (outgoing c.point_here.new.self.chunks) spends.chunks spends.items)
