use Rattle.std.proofs.Common.{ℕ, ◌+◌, ◌/◌, List, length, get_or, ap, ◌∙◌, arith}
use Rattle.std.proofs.lemmas.List.{length-set}
use Rattle.hs_check.proofs.Tallied.{tallied, tally_few}
use Rattle.hs_check.proofs.items.tally.Goals as goal

pub loop-number-preserved : goal.loop-number-preserved
loop-number-preserved c =
    let numbers = c.args.numbers.now in
    let tally = c.loop-number.tally.items in
    let i = c.loop-number.number-index in
    let r = get_or numbers i 0 / c.args.stride in
    record {
      many = ap length c.count_at.ensures ∙ length-set tally r (get_or tally r 0 + 1) ∙ c.loop-number.invariant.many;
      each = λ round low. ap (λ (l : List ℕ). get_or l round 0) c.count_at.ensures ∙ tallied c.args.stride numbers tally c.args.rounds i c.loop-number-test.true c.loop-number.invariant.many c.loop-number.invariant.each round low;
    }

pub count_at-requires : goal.count_at-requires
count_at-requires c =
    let numbers = c.args.numbers.now in
    let i = c.loop-number.number-index in
    let few = tally_few c.args.stride numbers c.loop-number.tally.items c.args.rounds i c.loop-number-test.true c.loop-number.invariant.many c.loop-number.invariant.each (get_or numbers i 0 / c.args.stride) in
    omega (arith, few)
