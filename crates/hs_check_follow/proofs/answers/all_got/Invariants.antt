use Rattle.std.proofs.Common.{◌≡◌, ◌*◌, drop}
use Rattle.hs_check_follow.proofs.Prelude.{list_all, journal_of, is_got, draw_at, drawn_from}
use Rattle.hs_check_follow.proofs.answers.all_got.Given as goal

abbrev pub invariant-loop-page : goal.invariant-loop-page
invariant-loop-page l =
    list_all (λ page. is_got (draw_at (drawn_from (journal_of l.journal) (l.node * l.each) l.clients) page)) (drop l.page-index l.page-items)
    ≡ list_all (λ page. is_got (draw_at (drawn_from (journal_of l.journal) (l.node * l.each) l.clients) page)) l.page-items
