use Rattle.std.proofs.Common.{sym, subst, refl}
use Rattle.hs_intake.specs.Intakes.{Stands}
use Rattle.hs_node.specs.Nodes.{PlainNode, GoesOn}
use Rattle.hs_node.specs.Passing.{TakesChunks}
use Rattle.hs_node.specs.NodeLayout.{node_in}
use Rattle.hs_node.proofs.Steps.{chunks_on}
use Rattle.hs_node.proofs.node.Node.take_chunks.Goals as goal

pub returns-clause-on : goal.returns-clause-on
returns-clause-on c = λ run stands.
    let d = node_in c.self.inside in
    let there : Stands run d.intake = subst (λ (x : PlainNode). Stands run x.intake) (sym c.self.view_is) stands in
    subst (λ (x : PlainNode). GoesOn run x (record d { intake = c.chunks_of.new.self })) c.self.view_is
    (chunks_on run c.args.client d c.chunks_of.result c.chunks_of.new.self there (c.chunks_of.ensures run there))

pub returns-clause-does : goal.returns-clause-does
returns-clause-does c = λ run stands.
    let d = node_in c.self.inside in
    let there : Stands run d.intake = subst (λ (x : PlainNode). Stands run x.intake) (sym c.self.view_is) stands in
    subst (λ (x : PlainNode). TakesChunks c.args.client run x (record d { intake = c.chunks_of.new.self })) c.self.view_is
    (c.chunks_of.result, c.chunks_of.ensures run there, refl)
