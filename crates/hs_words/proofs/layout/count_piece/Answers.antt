use Rattle.std.proofs.Common.{arith}
use Rattle.hs_words.proofs.Layouts.{counts, fits_behind, few_pieces, length_counted}
use Rattle.hs_words.proofs.layout.count_piece.Goals as goal

pub counts_after-count-requires-clause-few : goal.counts_after-count-requires-clause-few
counts_after-count-requires-clause-few c = omega (arith, few_pieces c.args.page.now c.args.buffer.now c.requires.holds c.requires.small)

pub counts_after-count-requires-clause-small : goal.counts_after-count-requires-clause-small
counts_after-count-requires-clause-small c =
    omega (arith, fits_behind c.args.page.now c.requires.piece.0 c.args.buffer.now c.requires.holds c.requires.piece.1, c.requires.piece.2, c.requires.small)

pub write_counts-requires : goal.write_counts-requires
write_counts-requires c = omega (arith, c.requires.holds.used, c.requires.holds.room)

pub returns-clause-len : goal.returns-clause-len
returns-clause-len c =
    length_counted c.args.buffer.now c.write_counts.new.buffer c.counts_after-count.result.0 c.counts_after-count.result.1 (omega (arith, c.requires.holds.used, c.requires.holds.room)) c.write_counts.ensures

pub returns-clause-holds : goal.returns-clause-holds
returns-clause-holds c =
    let p = c.requires.piece in
    (counts c.args.page.now p.0 c.args.buffer.now c.write_counts.new.buffer c.args.cost c.counts_after-count.result.0 c.counts_after-count.result.1 c.requires.holds p.1 p.2 c.counts_after-count.ensures.count c.counts_after-count.ensures.used c.write_counts.ensures).0

pub returns-clause-sheet : goal.returns-clause-sheet
returns-clause-sheet c = λ piece behind cost_is.
    (counts c.args.page.now piece c.args.buffer.now c.write_counts.new.buffer c.args.cost c.counts_after-count.result.0 c.counts_after-count.result.1 c.requires.holds behind cost_is c.counts_after-count.ensures.count c.counts_after-count.ensures.used c.write_counts.ensures).1
