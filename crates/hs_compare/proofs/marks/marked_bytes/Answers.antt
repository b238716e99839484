use Rattle.std.proofs.Common.{ℕ, ◌+◌, ◌<◌, length, get_or, false, sym, ap, ◌∙◌, arith}
use Rattle.hs_compare.proofs.Prelude.{bytes_in}
use Rattle.hs_compare.proofs.Marking.{nothing, bytes_fit, bytes_yes, marked_no}
use Rattle.hs_compare.proofs.marks.marked_bytes.Goals as goal
use Rattle.hs_compare.proofs.marks.marked_bytes.Goals.{then-marks-place, else-marks-place}

pub overflow_add-bytes : goal.overflow_add-bytes
overflow_add-bytes c =
    let marks = c.args.marks.now in
    let all = c.args.all.now in
    let place = c.loop-place.place in
    let within : place < length all = omega arith in
    omega (arith, bytes_fit marks all place false nothing c.requires.each within c.if-marks-place.true, c.loop-place.invariant, c.requires.few)

pub loop-place-preserved : goal.loop-place-preserved
loop-place-preserved c =
    let marks = c.args.marks.now in
    let all = c.args.all.now in
    let place = c.loop-place.place in
    let within : place < length all = omega arith in
    elim c.if-marks-place.branch [
      | then-marks-place w ↦
          w.bytes-is ∙ ap (λ (n : ℕ). n + (get_or all place nothing).bytes) c.loop-place.invariant ∙ sym (bytes_yes marks all place false nothing c.requires.each within w.if-marks-place.true)
      | else-marks-place w ↦ w.bytes-is ∙ c.loop-place.invariant ∙ sym (ap bytes_in (marked_no marks all place false c.requires.each within w.if-marks-place.false))
    ]
