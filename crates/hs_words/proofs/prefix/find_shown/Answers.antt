use Rattle.std.proofs.Common.{◌-◌, map, take, ap, sym, subst, ◌∙◌, arith, true≢false}
use Rattle.std.proofs.lemmas.List.{length-map, length-take-le}
use Rattle.hs_words.specs.Pages.{piece_of}
use Rattle.hs_words.specs.Reading.{HasPieces}
use Rattle.hs_words.proofs.Readings.{fields_of}
use Rattle.hs_words.proofs.Showing.{nothing_used, torn_used, torn_pieces, found_shown}
use Rattle.hs_words.proofs.prefix.find_shown.Goals as goal

pub returns-then-used-eq0 : goal.returns-then-used-eq0
returns-then-used-eq0 c =
    let front = c.in-Some.front in
    nothing_used c.args.bytes.now c.in-Some.rest.now front.count front.used
    (fields_of front.header front.count front.used c.args.bytes.now c.in-Some.rest.now c.in-Some.ensures.some c.in-Some.ensures.fits.1 c.in-Some.ensures.fits.2)
    (sym c.from-used.ensures ∙ c.if-used-eq0.true)

pub returns-then-used-lt-HEADER_COST : goal.returns-then-used-lt-HEADER_COST
returns-then-used-lt-HEADER_COST c =
    let front = c.in-Some.front in
    torn_used c.args.bytes.now c.in-Some.rest.now front.count front.used
    (fields_of front.header front.count front.used c.args.bytes.now c.in-Some.rest.now c.in-Some.ensures.some c.in-Some.ensures.fits.1 c.in-Some.ensures.fits.2)
    (λ none. c.if-used-eq0.false (c.from-used.ensures ∙ none)) (λ least room. absurd (omega (arith, c.from-used.ensures, c.if-used-lt-HEADER_COST.true, least)))

pub returns-then-used-bytes : goal.returns-then-used-bytes
returns-then-used-bytes c =
    let front = c.in-Some.front in
    torn_used c.args.bytes.now c.in-Some.rest.now front.count front.used
    (fields_of front.header front.count front.used c.args.bytes.now c.in-Some.rest.now c.in-Some.ensures.some c.in-Some.ensures.fits.1 c.in-Some.ensures.fits.2)
    (λ none. c.if-used-eq0.false (c.from-used.ensures ∙ none)) (λ least room. absurd (omega (arith, c.from-used.ensures, c.if-used-bytes.true, room)))

pub slice_bounds-pieces-length : goal.slice_bounds-pieces-length
slice_bounds-pieces-length c =
    let front = c.in-Some.front in
    let fields = (fields_of front.header front.count front.used c.args.bytes.now c.in-Some.rest.now c.in-Some.ensures.some c.in-Some.ensures.fits.1 c.in-Some.ensures.fits.2) in
    sym (length-take-le (c.from-used.result - 24) c.in-Some.rest.now (omega (arith, fields.long, c.if-used-bytes.false, c.if-used-lt-HEADER_COST.false)))

pub returns-then-not-has_pieces : goal.returns-then-not-has_pieces
returns-then-not-has_pieces c =
    let front = c.in-Some.front in
    torn_pieces c.args.bytes.now c.in-Some.rest.now front.count front.used
    (fields_of front.header front.count front.used c.args.bytes.now c.in-Some.rest.now c.in-Some.ensures.some c.in-Some.ensures.fits.1 c.in-Some.ensures.fits.2)
    (λ none. c.if-used-eq0.false (c.from-used.ensures ∙ none))
    (λ has. true≢false (sym (c.has_pieces.ensures.1 (subst (λ n. HasPieces front.count (take (n - 24) c.in-Some.rest.now)) (sym c.from-used.ensures) has)) ∙ c.if-not-has_pieces.true))

pub returns-in_default-read_pieces : goal.returns-in_default-read_pieces
returns-in_default-read_pieces c =
    let front = c.in-Some.front in
    let has = c.has_pieces.ensures.0 c.if-not-has_pieces.false in (
      record { header = front.header; pieces = has.0 },
      found_shown front.header has.0 c.args.bytes.now c.in-Some.rest.now front.count front.used
          (fields_of front.header front.count front.used c.args.bytes.now c.in-Some.rest.now c.in-Some.ensures.some c.in-Some.ensures.fits.1 c.in-Some.ensures.fits.2)
          c.in-Some.ensures.fits.0 c.in-Some.ensures.fits.2 (omega (arith, c.from-used.ensures, c.if-used-lt-HEADER_COST.false)) (omega (arith, c.from-used.ensures, c.if-used-bytes.false)) c.in-Some.ensures.some has.1 has.2
          (ap (λ n. take (n - 24) c.in-Some.rest.now) (sym c.from-used.ensures) ∙ has.3),
    )

pub returns : goal.returns
returns c =
    let front = c.in-Some.front in
    let read = c.in-Ok.ensures in
    found_shown front.header (map piece_of c.in-Ok.points.items) c.args.bytes.now c.in-Some.rest.now front.count front.used
    (fields_of front.header front.count front.used c.args.bytes.now c.in-Some.rest.now c.in-Some.ensures.some c.in-Some.ensures.fits.1 c.in-Some.ensures.fits.2)
    c.in-Some.ensures.fits.0 c.in-Some.ensures.fits.2 (omega (arith, c.from-used.ensures, c.if-used-lt-HEADER_COST.false)) (omega (arith, c.from-used.ensures, c.if-used-bytes.false)) c.in-Some.ensures.some
    read.0 (length-map c.in-Ok.points.items piece_of ∙ read.1) (ap (λ n. take (n - 24) c.in-Some.rest.now) (sym c.from-used.ensures) ∙ read.2)
