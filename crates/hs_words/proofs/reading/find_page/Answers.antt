use Rattle.std.proofs.Common.{◌+◌, map, ap, sym, ◌∙◌, arith, true≢false}
use Rattle.std.proofs.lemmas.List.{length-map}
use Rattle.hs_words.specs.Pages.{piece_of}
use Rattle.hs_words.proofs.Readings.{fields_of}
use Rattle.hs_words.proofs.Answering.{found_used, found_zero, found_lack, found_page}
use Rattle.hs_words.proofs.reading.find_page.Goals as goal

pub returns-then-from-bytes : goal.returns-then-from-bytes
returns-then-from-bytes c =
    let front = c.in-Some.front in
    found_used c.args.bytes.now c.in-Some.rest.now front.count front.used
    (fields_of front.header front.count front.used c.args.bytes.now c.in-Some.rest.now c.in-Some.ensures.some c.in-Some.ensures.fits.1 c.in-Some.ensures.fits.2)
    (λ right. c.if-from-bytes.true (ap (λ n. n + 8) c.from.ensures ∙ right))

pub returns-then-front-eq0 : goal.returns-then-front-eq0
returns-then-front-eq0 c =
    let front = c.in-Some.front in
    found_zero c.args.bytes.now c.in-Some.rest.now front.count front.used
    (fields_of front.header front.count front.used c.args.bytes.now c.in-Some.rest.now c.in-Some.ensures.some c.in-Some.ensures.fits.1 c.in-Some.ensures.fits.2)
    (omega (arith, c.from.ensures, c.if-from-bytes.false)) c.if-front-eq0.true

pub returns-then-not-has_pieces : goal.returns-then-not-has_pieces
returns-then-not-has_pieces c =
    let front = c.in-Some.front in
    found_lack c.args.bytes.now c.in-Some.rest.now front.count front.used
    (fields_of front.header front.count front.used c.args.bytes.now c.in-Some.rest.now c.in-Some.ensures.some c.in-Some.ensures.fits.1 c.in-Some.ensures.fits.2)
    (omega (arith, c.from.ensures, c.if-from-bytes.false)) (λ has. true≢false (sym (c.has_pieces.ensures.1 has) ∙ c.if-not-has_pieces.true))

pub returns-in_default-read_pieces : goal.returns-in_default-read_pieces
returns-in_default-read_pieces c =
    let front = c.in-Some.front in
    let has = c.has_pieces.ensures.0 c.if-not-has_pieces.false in (
      record { header = front.header; pieces = has.0 },
      found_page front.header has.0 c.args.bytes.now c.in-Some.rest.now front.count front.used
          (fields_of front.header front.count front.used c.args.bytes.now c.in-Some.rest.now c.in-Some.ensures.some c.in-Some.ensures.fits.1 c.in-Some.ensures.fits.2)
          c.in-Some.ensures.fits.0 c.in-Some.ensures.fits.2 (omega (arith, c.from.ensures, c.if-from-bytes.false)) c.if-front-eq0.false c.in-Some.ensures.some has.1 has.2 has.3,
    )

pub returns : goal.returns
returns c =
    let front = c.in-Some.front in
    let read = c.in-Ok.ensures in
    found_page front.header (map piece_of c.in-Ok.points.items) c.args.bytes.now c.in-Some.rest.now front.count front.used
    (fields_of front.header front.count front.used c.args.bytes.now c.in-Some.rest.now c.in-Some.ensures.some c.in-Some.ensures.fits.1 c.in-Some.ensures.fits.2)
    c.in-Some.ensures.fits.0 c.in-Some.ensures.fits.2 (omega (arith, c.from.ensures, c.if-from-bytes.false)) c.if-front-eq0.false c.in-Some.ensures.some
    read.0 (length-map c.in-Ok.points.items piece_of ∙ read.1) read.2
