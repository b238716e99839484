use Rattle.std.proofs.Common.{◌≡◌, length, ap, ap₂, ◌∙◌, arith}
use Rattle.hs_compare.proofs.Prelude.{IfOk-weaker, length_map, Coming, Line, line_by, line_of_marked, marked, traces_of}
use Rattle.hs_compare.proofs.Marking.{marked_few}
use Rattle.hs_compare.proofs.comparison.marked_line.Goals as goal

pub line_of-requires-clause-kept : goal.line_of-requires-clause-kept
line_of-requires-clause-kept c =
    let marks = c.args.marks.now in
    let all = c.args.all.now in
    omega (arith, ap length c.in_ok-traces.ensures, length_map (λ (x : Coming). x.trace) (marked marks all), marked_few marks all, c.requires.few)

pub returns : goal.returns
returns c = λ has.
    let all = c.args.all.now in
    let named = c.args.named.now in
    let marks = c.args.marks.now in
    IfOk-weaker c.line_of.result (λ (line : Line). line ≡ line_by (traces_of all) named c.deref.result.now c.marked_bytes-bytes.result) (λ (line : Line). line ≡ line_of_marked all named marks)
    (λ line is. is ∙ ap₂ (line_by (traces_of all) named) (c.deref.ensures.value ∙ c.in_ok-traces.ensures) c.marked_bytes-bytes.ensures) (c.line_of.ensures (traces_of all) has)
