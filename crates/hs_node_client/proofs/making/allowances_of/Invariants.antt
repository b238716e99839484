use Rattle.std.proofs.Common.{◌≡◌, ◌≤◌, replicate}
use Rattle.hs_node_client.proofs.making.allowances_of.Given as goal

abbrev pub invariant-loop : goal.invariant-loop
invariant-loop l = (l.clients ≤ l.allowances.room) × (l.allowances.items ≡ replicate l.counter l.share)
