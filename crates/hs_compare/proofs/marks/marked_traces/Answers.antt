use Rattle.std.proofs.Common.{◌<◌, List, [], ◌∷◌, ◌++◌, length, get_or, false, sym, ap, ◌∙◌, arith}
use Rattle.hs_compare.proofs.Prelude.{TraceId, traces_of}
use Rattle.hs_compare.proofs.Marking.{nothing, traces_yes, marked_no}
use Rattle.hs_compare.proofs.marks.marked_traces.Goals as goal
use Rattle.hs_compare.proofs.marks.marked_traces.Goals.{then-marks-place+in_ok-push, else-marks-place}

pub loop-place-preserved : goal.loop-place-preserved
loop-place-preserved c =
    let marks = c.args.marks.now in
    let all = c.args.all.now in
    let place = c.loop-place.place in
    let within : place < length all = omega arith in
    elim c.if-marks-place.branch [
      | then-marks-place+in_ok-push w ↦
          rw w.traces-is
          (w.in_ok-push.ensures.items ∙ ap (λ (xs : List TraceId). xs ++ (get_or all place nothing).trace ∷ []) c.loop-place.invariant
          ∙ sym (traces_yes marks all place false nothing c.requires within w.if-marks-place.true))
      | else-marks-place w ↦ rw w.traces-is (c.loop-place.invariant ∙ sym (ap traces_of (marked_no marks all place false c.requires within w.if-marks-place.false)))
    ]
