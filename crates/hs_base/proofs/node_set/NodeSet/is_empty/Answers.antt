use Rattle.std.proofs.Common.{ℕ, eq-eqb, ap, ◌∙◌}
use Rattle.hs_base.specs.NodeSetLaws.{has-no_nodes, no_nodes-from_has}
use Rattle.hs_base.specs.declared.node_set.NodeSet.{NodeSet}
use Rattle.hs_base.specs.NodeSets.{has_node}
use borrow.Author.Tests.{eqb-true}
use Rattle.hs_base.proofs.node_set.NodeSet.is_empty.Goals as goal

pub returns-clause-nodes : goal.returns-clause-nodes
returns-clause-nodes c = (
  λ e n. ap (λ (m : ℕ). has_node (record { 0 = m }) n) (eqb-true c.args.self.0 0 e) ∙ has-no_nodes n,
  λ none. eq-eqb c.args.self.0 0 (ap (λ (s : NodeSet). s.0) (no_nodes-from_has c.args.self none)),
)
