use Rattle.std.proofs.Common.{◌≡◌, ℕ, ◌+◌, ◌<◌, Bool, true, false, length, drop, get_or, refl, sym, ap, ◌∙◌, arith}
use Rattle.hs_check_follow.proofs.Prelude.{get_or_default, one_if, Step, ends_front, ends_through, may_stand}
use Rattle.hs_records.specs.declared.journal.Step.TheVariants as steps
use Rattle.hs_check_follow.proofs.Offered.{pass_is_there, passes_left, stands_more}
use Rattle.hs_check_follow.proofs.offers.offers_end.Goals as goal
use Rattle.hs_check_follow.proofs.offers.offers_end.Goals.{then-last, else-last}

pub bounds-hands-pass : goal.bounds-hands-pass
bounds-hands-pass c =
    let log = c.args.log.now in
    let i = c.loop-place.place in
    let s = get_or log i steps.Turn in
    pass_is_there log c.args.hands.now i c.loop-place.pass s c.loop-place-test.true (get_or_default log i steps.Turn s c.loop-place-test.true) c.loop-place.invariant.many

pub loop-place-preserved : goal.loop-place-preserved
loop-place-preserved c =
    let log = c.args.log.now in
    let hands = c.args.hands.now in
    let i = c.loop-place.place in
    let b = c.is_last-last.result in
    let s = get_or log i (steps.Chunk 0) in
    let is = get_or_default log i (steps.Chunk 0) s c.loop-place-test.true in
    let few = pass_is_there log hands i c.loop-place.pass s c.loop-place-test.true is c.loop-place.invariant.many in
    let ends = sym c.is_last-last.ensures in
    let more = stands_more log hands i c.loop-place.pass s c.loop-place-test.true is (ends_through log hands) b few ends (sym c.may_stand.ensures ∙ c.if-not-may_stand.false) c.loop-place.invariant.is in
    let left = passes_left log hands i c.loop-place.pass s c.loop-place-test.true is b ends c.loop-place.invariant.many in
    let now : c.if-last.pass ≡ c.loop-place.pass + one_if b =
    elim c.if-last.branch [
      | then-last w ↦ (let one = ap one_if w.if-last.true in w.pass-is ∙ sym (ap (λ n. c.loop-place.pass + n) one))
      | else-last w ↦ (let none = ap one_if w.if-last.false in omega (arith, none, w.pass-is))
    ] in
    record {
      is = ap (λ n. ends_through (drop (i + 1) log) (drop n hands)) now ∙ more;
      many = omega (arith, now, left);
    }
