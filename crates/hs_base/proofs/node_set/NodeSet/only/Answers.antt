use Rattle.std.proofs.Common.{ℕ, ap, ◌∙◌}
use Rattle.hs_base.specs.NodeSetLaws.{has-one_node}
use Rattle.hs_base.specs.NodeSets.{has_node}
use Rattle.hs_base.proofs.NodeSetLemmas.{shifted}
use Rattle.hs_base.proofs.node_set.NodeSet.only.Goals as goal

pub returns-clause-nodes : goal.returns-clause-nodes
returns-clause-nodes c = λ n. ap (λ (m : ℕ). has_node (record { 0 = m }) n) (shifted c.args.node c.requires) ∙ has-one_node c.args.node n
