use Rattle.std.proofs.Common.{ℕ, ap, ◌∙◌, bit_or}
use Rattle.hs_base.specs.NodeSetLaws.{has-with_node}
use Rattle.hs_base.specs.NodeSets.{has_node}
use Rattle.hs_base.proofs.NodeSetLemmas.{shifted}
use Rattle.hs_base.proofs.node_set.NodeSet.with.Goals as goal

pub returns-clause-nodes : goal.returns-clause-nodes
returns-clause-nodes c = λ n. ap (λ (m : ℕ). has_node (record { 0 = bit_or c.args.self.0 m }) n) (shifted c.args.node c.requires) ∙ has-with_node c.args.self c.args.node n
