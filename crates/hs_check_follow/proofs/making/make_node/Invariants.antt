use Rattle.std.proofs.Common.{[]}
use Rattle.hs_check_follow.proofs.Prelude.{journal_of, workload_of, AreFirst, ClientStands}
use Rattle.hs_check_follow.proofs.making.make_node.Given as goal

abbrev pub invariant-loop-number : goal.invariant-loop-number
invariant-loop-number l = AreFirst (λ number s. ClientStands (workload_of l.workload) (journal_of l.journal) l.node [] number s) l.number l.clients.items
