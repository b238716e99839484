use Rattle.std.proofs.Common.{◌≡◌, ℕ, ◌∷◌, List, length, sum, ap, ◌∙◌, arith}
use Rattle.hs_check.proofs.Prelude.{is_of, behind_each, all_enough}
use Rattle.hs_check.proofs.Passing.{counted_pace}
use Rattle.hs_check.proofs.Tallied.{sent_few}
use Rattle.hs_check.proofs.items.queue_in_pace.Goals as goal

pub take_enough-yes-requires-clause-few : goal.take_enough-yes-requires-clause-few
take_enough-yes-requires-clause-few c =
    let few = sent_few c.args.stride c.args.numbers.now c.in_ok-sent.sent.items c.requires (λ round low. c.in_ok-sent.ensures.each round (omega (arith, low, c.in_ok-sent.ensures.count))) in
    let same = ap sum c.as_slice-2.ensures.value in
    omega (arith, few, same)

pub returns : goal.returns
returns c =
    let test = is_of c.args.kind in
    let log = c.args.log.now in
    let sent = c.in_ok-sent.sent.items in
    let many : length sent ≡ length (0 ∷ behind_each test 0 log) = c.in_ok-sent.ensures.count ∙ omega (arith, c.len.ensures, c.in_ok-taken.taken.ok.0) ∙ ap length c.in_ok-taken.ensures in
    c.take_enough-yes.ensures
    ∙ ap (λ (l : List ℕ). all_enough l c.as_slice-2.result.now) (c.as_slice.ensures.value ∙ c.in_ok-taken.ensures)
    ∙ ap (λ (l : List ℕ). all_enough (0 ∷ behind_each test 0 log) l) c.as_slice-2.ensures.value
    ∙ counted_pace test c.args.stride log c.args.numbers.now sent c.requires many (λ round low. c.in_ok-sent.ensures.each round (omega (arith, low, c.in_ok-sent.ensures.count)))
