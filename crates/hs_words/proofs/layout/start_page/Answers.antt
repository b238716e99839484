use Rattle.std.proofs.Common.{◌≡◌, ◌++◌, List, ℕ, [], length, take, drop, refl, ap, ◌∙◌, arith}
use Rattle.std.proofs.lemmas.List.{take_at, length-append, length-drop}
use Rattle.hs_words.specs.declared.page.Header.{Header}
use Rattle.hs_words.specs.Pages.{FitsHeader, header_bytes, counts_bytes}
use Rattle.hs_words.specs.ChunkLayout.{sheet_in, Holds}
use Rattle.hs_words.proofs.Layouts.{length-header_bytes, empty_page, holds_page, length_counted}
use Rattle.hs_words.proofs.layout.start_page.Goals as goal

starts : (h : Header) (old first last : List ℕ) → FitsHeader h → first ≡ header_bytes h ++ drop 28 old → last ≡ take 28 first ++ (counts_bytes 0 24 ++ drop 32 first)
    → Holds last (record { header = h; count = 0; used = 24 })
    × (sheet_in last (record { header = h; count = 0; used = 24 }) ≡ record { header = h; pieces = [] })
starts h old first last fits first_is last_is =
    let head : take 28 first ≡ header_bytes h = ap (take 28) first_is ∙ take_at (header_bytes h) (drop 28 old) 28 (length-header_bytes h) in
    holds_page h [] 0 24 last (drop 32 first) fits tt refl refl (last_is ∙ ap (λ xs. xs ++ (counts_bytes 0 24 ++ drop 32 first)) head ∙ empty_page h (drop 32 first))

pub returns-clause-holds : goal.returns-clause-holds
returns-clause-holds c =
    (starts c.args.header c.args.buffer.now c.write_header.new.buffer c.write_counts.new.buffer c.write_header.ensures.fits c.write_header.ensures.bytes c.write_counts.ensures).0

pub returns-clause-sheet : goal.returns-clause-sheet
returns-clause-sheet c =
    (starts c.args.header c.args.buffer.now c.write_header.new.buffer c.write_counts.new.buffer c.write_header.ensures.fits c.write_header.ensures.bytes c.write_counts.ensures).1

pub returns-clause-len : goal.returns-clause-len
returns-clause-len c =
    omega (
      arith,
      length_counted c.write_header.new.buffer c.write_counts.new.buffer 0 24 c.write_header.ensures.shows.whole c.write_counts.ensures,
      ap length c.write_header.ensures.bytes,
      length-append (header_bytes c.args.header) (drop 28 c.args.buffer.now),
      length-header_bytes c.args.header,
      length-drop 28 c.args.buffer.now,
      c.requires.whole,
    )
