use Rattle.std.proofs.Common.{◌≡◌, ◌+◌, take, drop, map, sym, subst}
use Rattle.hs_outcome.proofs.Prelude.{take_all, Sheets, SpellAll, AreRead, all_sent, noted, note_of}
use Rattle.hs_outcome.proofs.Sent.{split, sent_more, sent_split, none_sent, none_read}
use Rattle.hs_outcome.proofs.pages.reported_pages.Goals as goal

pub push_reported-requires : goal.push_reported-requires
push_reported-requires c =
    let i = c.loop-book.book-index in
    let whole = split (all_sent (take (i + 1) c.args.agents.now)) (all_sent (drop (i + 1) c.args.agents.now)) c.requires.0 (subst (SpellAll c.requires.0) (sent_split c.args.agents.now (i + 1)) c.requires.1) in
    let own = split (all_sent (take i c.args.agents.now)) _ whole.front (subst (SpellAll whole.front) (sent_more c.args.agents.now i c.book-item.result c.loop-book-test.true c.book-item.is) whole.first) in
    (own.back, subst (λ items. SpellAll own.back (map (λ page. page.items) items)) (sym c.as_slice.ensures) own.second)

pub loop-book-preserved : goal.loop-book-preserved
loop-book-preserved c = λ sheets all.
    let i = c.loop-book.book-index in
    let own = split (all_sent (take i c.args.agents.now)) _ sheets (subst (SpellAll sheets) (sent_more c.args.agents.now i c.book-item.result c.loop-book-test.true c.book-item.is) all) in
    subst (λ (s : Sheets). AreRead s c.push_reported.new.traces.keys c.push_reported.new.pages.items) (sym own.both)
    (c.in_ok-push_reported.ensures own.front own.back (c.loop-book.invariant own.front own.first) (subst (λ items. SpellAll own.back (map (λ page. page.items) items)) (sym c.as_slice.ensures) own.second))

pub loop-book-init : goal.loop-book-init
loop-book-init c = λ sheets all. subst (λ (s : Sheets). AreRead s c.new-traces.result.keys c.new-pages.result.items) (sym (none_sent sheets all)) (none_read c.new-traces.result.keys c.new-pages.result.items c.new-traces.ensures.empty c.new-pages.ensures.items)

pub returns : goal.returns
returns c = λ sheets all.
    let read = c.loop-book.invariant sheets (subst (λ books. SpellAll sheets (all_sent books)) (sym (take_all c.loop-book.book-index c.args.agents.now c.loop-book-test.false)) all) in
    record { valid = all.valid; notes = subst (λ traces. map (noted traces) c.loop-book.pages.items ≡ map note_of sheets) read.seen read.notes }
