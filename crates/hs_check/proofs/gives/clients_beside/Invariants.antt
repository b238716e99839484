use Rattle.std.proofs.Common.{◌≡◌, ◌+◌, ◌*◌, drop}
use Rattle.hs_check.proofs.Prelude.{journal_of, drawn_from, clients_beside}
use Rattle.hs_check.proofs.gives.clients_beside.Given as goal

abbrev pub invariant-loop-number : goal.invariant-loop-number
invariant-loop-number l =
    clients_beside l.stride l.stamps l.counts (drawn_from (journal_of l.journal) (l.node * l.each + l.number) (drop l.number l.clients)) (drop l.number l.clients)
    ≡ clients_beside l.stride l.stamps l.counts (drawn_from (journal_of l.journal) (l.node * l.each) l.clients) l.clients
