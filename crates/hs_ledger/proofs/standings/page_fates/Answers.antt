use Rattle.std.proofs.Common.{ap, ◌∙◌, arith}
use Rattle.std.specs.HashMap.{get}
use Rattle.hs_ledger.specs.Making.{page_eq, newest}
use Rattle.hs_ledger.proofs.Walks.{newest-book}
use Rattle.hs_ledger.proofs.standings.page_fates.Goals as goal

pub loop-book-preserved : goal.loop-book-preserved
loop-book-preserved c = λ q.
    let fate = get page_eq c.loop-book.fates q in
    newest-book fate _ q.client q.page c.args.agents.now c.loop-book.book-index c.book-item.result (omega arith) c.book-item.is
    (c.in_ok-add_standings.ensures.fates q ∙ ap (newest fate q.client q.page) c.as_slice.ensures)
    ∙ c.loop-book.invariant q
