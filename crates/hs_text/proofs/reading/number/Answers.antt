use Rattle.std.proofs.Common.{◌≡◌, ◌<◌, ◌≢◌, ◌||◌, true, not, nat_eq, length, get_or, ◌∙◌, arith}
use Rattle.hs_text.proofs.TextLemmas.{number_parsed, utf8_word, utf8_refused}
use Rattle.hs_text.proofs.reading.number.Goals as goal

pub returns-in_err-ok : goal.returns-in_err-ok
returns-in_err-ok c = c.from_residual-in_err-ok.ensures ∙ utf8_refused _ c.args.word.now c.from_utf8.result c.from_utf8.ensures.cases c.in_err-ok.ensures.value

pub returns : goal.returns
returns c =
    let word = c.args.word.now in
    let item = c.in_ok-first.ensures.item in
    let first : c.in_ok-first.field-0.now ≡ get_or word 0 0 = item.4 (omega arith) 0 in
    let some : 0 < length word = item.3.0 in
    let same = utf8_word _ word c.from_utf8.result c.in_ok-ok.field-0 c.from_utf8.ensures.cases c.in_ok-ok.ensures.value in
    let plain : get_or word 0 0 ≢ 43 = let digit = c.if-not-is_ascii_digit.ensures.cases in λ e. omega (arith, digit.0, first) in
    let lead : (nat_eq (length word) 1 || not (nat_eq (get_or word 0 0) 48)) ≡ true = grind (arith, c.else-first-eq48.either, first) in
    let parsed = c.parse.ensures.value.0 in
    c.ok-2.ensures.value ∙ number_parsed word c.parse.result (rw same at parsed) some plain lead
