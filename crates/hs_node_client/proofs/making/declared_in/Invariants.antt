use Rattle.std.proofs.Common.{take}
use Rattle.hs_node_client.specs.Known.{AreDeclared}
use Rattle.hs_node_client.proofs.making.declared_in.Given as goal

abbrev pub invariant-loop-rule : goal.invariant-loop-rule
invariant-loop-rule l = AreDeclared (take l.rule-index l.rules.items) l.declared
