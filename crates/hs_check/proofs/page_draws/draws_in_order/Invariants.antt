use Rattle.std.proofs.Common.{◌≡◌, ◌*◌, ◌+◌, ◌++◌, drop}
use Rattle.hs_check.proofs.Prelude.{journal_of, drawn_from, all_page_draws}
use Rattle.hs_check.proofs.page_draws.draws_in_order.Given as goal

abbrev pub invariant-loop-number : goal.invariant-loop-number
invariant-loop-number l =
    l.draws.items ++ all_page_draws l.number (drop l.number l.clients) (drawn_from (journal_of l.journal) (l.node * l.each + l.number) (drop l.number l.clients))
    ≡ all_page_draws 0 l.clients (drawn_from (journal_of l.journal) (l.node * l.each) l.clients)
