use Rattle.std.proofs.Common.{sym, subst, refl}
use Rattle.hs_intake.specs.Intakes.{Stands}
use Rattle.hs_node.specs.Nodes.{PlainNode, GoesOn}
use Rattle.hs_node.specs.Passing.{TakesCrumbs}
use Rattle.hs_node.specs.NodeLayout.{node_in}
use Rattle.hs_node.proofs.Steps.{crumbs_on}
use Rattle.hs_node.proofs.node.Node.take_crumbs.Goals as goal

pub returns-clause-on : goal.returns-clause-on
returns-clause-on c = λ run stands.
    let d = node_in c.self.inside in
    let there : Stands run d.intake = subst (λ (x : PlainNode). Stands run x.intake) (sym c.self.view_is) stands in
    subst (λ (x : PlainNode). GoesOn run x (record d { intake = c.crumbs_of.new.self })) c.self.view_is
    (crumbs_on run c.args.client d c.crumbs_of.result c.crumbs_of.new.self there (c.crumbs_of.ensures run there))

pub returns-clause-does : goal.returns-clause-does
returns-clause-does c = λ run stands.
    let d = node_in c.self.inside in
    let there : Stands run d.intake = subst (λ (x : PlainNode). Stands run x.intake) (sym c.self.view_is) stands in
    subst (λ (x : PlainNode). TakesCrumbs c.args.client run x (record d { intake = c.crumbs_of.new.self })) c.self.view_is
    (c.crumbs_of.result, c.crumbs_of.ensures run there, refl)
