use Rattle.std.proofs.Common.{ap, subst}
use Rattle.hs_live.specs.declared.called.Called.{Called as LiveCalled}
use Rattle.hs_node_client.proofs.Prelude.{Does, Point, PlainNodeClient}
use Rattle.hs_node_client.proofs.Living.{lives_done, lives_same}
use Rattle.hs_node_client.proofs.client.NodeClient.point_told.Goals as goal

pub returns-then-has_room-clause-does : goal.returns-then-has_room-clause-does
returns-then-has_room-clause-does c =
    let op = Point c.args.moment c.args.payload.now in
    let old = c.self.inside.live in
    let new = c.point_here.new.self in
    let does = subst (λ (answer : LiveCalled). Does op answer old new) c.point_here.ensures.done c.point_here.ensures.does in
    λ life h. lives_done op old new does life (lives_same c.args.self.now.live old (ap (λ (s : PlainNodeClient). s.live) c.self.view_is) life h)
