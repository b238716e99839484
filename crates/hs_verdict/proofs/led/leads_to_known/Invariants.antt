use Rattle.std.proofs.Common.{◌≡◌, length}
use Rattle.std.specs.List.{list_all}
use Rattle.hs_base.specs.NodeSets.{nodes_of}
use Rattle.hs_verdict.specs.Verdict.{is_node_known}
use Rattle.hs_verdict.proofs.led.leads_to_known.Given as goal

abbrev pub decreases-loop-node : goal.decreases-loop-node
decreases-loop-node l = length (nodes_of l.rest)

-- all depends on those that are left
abbrev pub invariant-loop-node : goal.invariant-loop-node
invariant-loop-node l =
    list_all (λ node. is_node_known l.groups l.standings l.trace (record { 0 = node })) (nodes_of l.fn.nodes)
    ≡ list_all (λ node. is_node_known l.groups l.standings l.trace (record { 0 = node })) (nodes_of l.rest)
