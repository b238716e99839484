use Rattle.std.proofs.Common.{◌+◌, ◌≤◌, length, IsSome, refl, sym, subst, arith}
use Rattle.hs_live.specs.declared.called.Called.{Called as LiveCalled}
use Rattle.hs_records.specs.Records.{piece_count}
use Rattle.hs_node_client.proofs.Prelude.{Does, NeedsPage, PlainClient, Point, Spends, counts, writing_of}
use Rattle.hs_node_client.proofs.Behind.{pointed_behind}
use Rattle.hs_node_client.proofs.paged.Paged.point.Goals as goal

pub invariant_of-self : goal.invariant_of-self
invariant_of-self c =
    let s = c.self.inside in
    let old = s.live in
    let new = c.point.new.self in
    let payload = c.args.payload.now in
    let pieces = piece_count old.core.size (length payload) in
    let at = sym c.self.view_is in
    let opened : IsSome old.core.trace = subst (λ (p : PlainClient). IsSome p.core.trace) at c.requires.open in
    let needs : NeedsPage old.core (length payload) = subst (λ (p : PlainClient). NeedsPage p.core (length payload)) at c.requires.needs in
    let left : old.core.counted + pieces ≤ old.core.calls = subst (λ (p : PlainClient). p.core.counted + piece_count p.core.size (length payload) ≤ p.core.calls) at c.requires.left in
    let does = subst (λ (answer : LiveCalled). Does (Point c.args.moment payload) answer old new) c.in-Done.is c.point.ensures.does in
    let spends : Spends pieces (writing_of old) (writing_of new) = subst (λ (answer : LiveCalled). Spends (counts pieces answer) (writing_of old) (writing_of new)) c.in-Done.is c.point.ensures.spends in
    pointed_behind c.points_take_pages.ensures c.args.moment payload s.place _ old new c.self.invariant does opened needs c.size.ensures.least left spends refl
    (omega (arith, c.calls_left-left.ensures, c.calls_left.ensures, spends.counted, spends.calls_are))
