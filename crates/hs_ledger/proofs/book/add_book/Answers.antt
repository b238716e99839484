use Rattle.std.proofs.Common.{ℕ, ◌++◌, length, ap, ◌∙◌, arith}
use Rattle.std.proofs.lemmas.List.{take_all}
use Rattle.std.specs.HashMap.{get}
use Rattle.hs_records.specs.declared.journal.Draw.{Draw}
use Rattle.hs_ledger.specs.Fates.{fated_by, book_entries}
use Rattle.hs_ledger.specs.Making.{page_eq, drawn_fate}
use Rattle.hs_ledger.proofs.Walks.{no_note, fits_in, rises_in, after_in, length-fated_by}
use Rattle.hs_ledger.proofs.book.add_book.Goals as goal

pub add_page-requires-clause-fits : goal.add_page-requires-clause-fits
add_page-requires-clause-fits c =
    fits_in c.as_slice-note-items.result.now c.args.book.now.pages.items c.loop-page.page _ c.as_slice-note-items.ensures c.requires.numbered c.requires.counted c.loop-page-test.true c.requires.few

pub add_page-requires-clause-rises : goal.add_page-requires-clause-rises
add_page-requires-clause-rises c =
    rises_in c.as_slice-note-items.result.now c.args.book.now.pages.items c.loop-page.page c.loop-page.next _ c.as_slice-note-items.ensures c.requires.numbered c.requires.counted c.loop-page-test.true
    c.loop-page.invariant.next

pub overflow_add-next : goal.overflow_add-next
overflow_add-next c =
    let below = fits_in c.as_slice-note-items.result.now c.args.book.now.pages.items c.loop-page.page no_note c.as_slice-note-items.ensures c.requires.numbered c.requires.counted c.loop-page-test.true c.requires.few in
    omega (arith, below)

pub loop-page-preserved : goal.loop-page-preserved
loop-page-preserved c =
    let book = c.args.book.now in
    let fate = λ (page : ℕ) (draw : Draw). drawn_fate (get page_eq c.args.fates.now (record { client = book.client; page = page })) draw in
    let after =
    after_in fate c.as_slice-draws.result.now book.draws.items c.as_slice-note-items.result.now book.pages.items book.client c.args.entries.now.items c.loop-page.entries.items c.add_page.new.entries.items
    c.loop-page.page c.loop-page.next _ c.page_fate-fate.result _
    c.as_slice-draws.ensures c.as_slice-note-items.ensures c.requires.drawn c.requires.counted c.requires.numbered c.loop-page-test.true
    c.loop-page.invariant.next c.loop-page.invariant.entries c.page_fate-fate.ensures c.in_ok-add_page.ensures.entries in
    record { next = after.next; entries = after.entries }

pub returns-clause-entries : goal.returns-clause-entries
returns-clause-entries c =
    let book = c.args.book.now in
    let fate = λ (page : ℕ) (draw : Draw). drawn_fate (get page_eq c.args.fates.now (record { client = book.client; page = page })) draw in
    let long = length-fated_by fate 0 book.draws.items book.pages.items c.requires.drawn in
    c.loop-page.invariant.entries
    ∙ ap (λ ps. c.args.entries.now.items ++ book_entries book.client ps)
    (take_all c.loop-page.page (fated_by fate 0 book.draws.items book.pages.items) (omega (arith, long, ap length c.as_slice-note-items.ensures)))
