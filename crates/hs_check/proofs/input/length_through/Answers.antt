use Rattle.std.proofs.Common.{◌≡◌, ◌-◌, ◌∷◌, length, take, sym, ap, ◌∙◌, arith, length-append}
use Rattle.hs_check.proofs.Prelude.{length_with}
use Rattle.hs_check.proofs.Cuts.{behind_other, with_line, to_the_end, all_of}
use Rattle.hs_check.proofs.input.length_through.Goals as goal

pub returns-then-eq-clause-part : goal.returns-then-eq-clause-part
returns-then-eq-clause-part c =
    let line = c.in-Some.line.now in
    let behind = c.in-Some.behind.now in
    let ends = with_line c.args.word.now line behind c.loop-line.rest.now c.in-Some.ensures.some c.in-Some.ensures.line (sym c.eq.ensures ∙ c.if-eq.true) in
    let cut = ap length c.in-Some.ensures.some ∙ length-append line (_ ∷ behind) in
    let at : length c.args.text.now - length behind ≡ length_with c.args.word.now c.args.text.now = omega (arith, c.loop-line.invariant.within, c.loop-line.invariant.left, ends, cut) in
    ap (λ n. take n c.args.text.now) at

pub loop-line-preserved : goal.loop-line-preserved
loop-line-preserved c =
    let line = c.in-Some.line.now in
    let behind = c.in-Some.behind.now in
    let other = behind_other c.args.word.now line behind c.loop-line.rest.now c.in-Some.ensures.some c.in-Some.ensures.line (sym c.eq.ensures ∙ c.if-eq.false) in
    let cut = ap length c.in-Some.ensures.some ∙ length-append line (_ ∷ behind) in
    record { within = omega (arith, c.loop-line.invariant.within, cut); left = omega (arith, c.loop-line.invariant.left, other, cut) }

pub returns-clause-part : goal.returns-clause-part
returns-clause-part c =
    let least = to_the_end c.args.word.now c.loop-line.rest.now c.in_default.ensures.none in
    all_of c.args.word.now c.args.text.now (omega (arith, c.loop-line.invariant.left, c.loop-line.invariant.within, least))
