use Rattle.std.proofs.Common.{◌≡◌, ℕ, ◌+◌, ◌<◌, ◌≤◌, Bool, true, false, eqb, ltb, length, get_or, take, refl, sym, ap, ◌∙◌, arith, take_all}
use Rattle.hs_check_follow.proofs.Prelude.{count_by, eq-eqb, lt-ltb, get_or_default, length-set, count_by_more_yes, one_if}
use Rattle.hs_base.proofs.Counts.{one_few}
use Rattle.hs_check_follow.proofs.Numbered.{numbered, too_high, twice, marked}
use Rattle.hs_check_follow.proofs.stamps.are_numbered.Goals as goal

pub returns-then-place-len : goal.returns-then-place-len
returns-then-place-len c =
    let xs = c.args.stamps.now in
    let i = c.loop-stamp.stamp-index in
    too_high xs i (get_or xs i 0) c.loop-stamp-test.true refl (omega (arith, c.loop-stamp.seen.ok.0, c.loop-stamp.invariant.many))

pub returns-then-index : goal.returns-then-index
returns-then-index c =
    let xs = c.args.stamps.now in
    let i = c.loop-stamp.stamp-index in
    let s = get_or xs i 0 in
    let seen = c.loop-stamp.seen.items in
    let low : s < length xs = omega (arith, c.loop-stamp.seen.ok.0, c.loop-stamp.invariant.many) in
    let within : s < length seen = omega (arith, c.loop-stamp.invariant.many) in
    let was : get_or seen s false ≡ true = get_or_default seen s false c.index.result.now within ∙ sym c.index.ensures ∙ c.if-index.true in
    let one : one_if (get_or seen s false) ≡ 1 = ap one_if was in
    let more = count_by_more_yes (λ t. eqb t s) xs i 0 c.loop-stamp-test.true (eq-eqb s s refl) in
    twice xs (i + 1) s low (omega (arith, more, one, c.loop-stamp.invariant.counts s low))

pub loop-stamp-preserved : goal.loop-stamp-preserved
loop-stamp-preserved c =
    let xs = c.args.stamps.now in
    let i = c.loop-stamp.stamp-index in
    let s = get_or xs i 0 in
    let seen = c.loop-stamp.seen.items in
    let within : s < length seen = omega (arith, c.loop-stamp.seen.ok.0, c.loop-stamp.invariant.many) in
    let low : s < length xs = omega (arith, c.loop-stamp.invariant.many) in
    let was : get_or seen s false ≡ false = get_or_default seen s false c.index.result.now within ∙ sym c.index.ensures ∙ c.if-index.false in
    let more = count_by_more_yes (λ t. ltb t (length xs)) xs i 0 c.loop-stamp-test.true (lt-ltb s (length xs) low) in
    record {
      many = length-set seen s true ∙ c.loop-stamp.invariant.many;
      low = more ∙ ap (λ k. k + 1) c.loop-stamp.invariant.low;
      counts = marked xs seen i c.loop-stamp-test.true c.loop-stamp.invariant.many within was c.loop-stamp.invariant.counts;
    }

pub returns : goal.returns
returns c =
    let xs = c.args.stamps.now in
    let i = c.loop-stamp.stamp-index in
    let seen = c.loop-stamp.seen.items in
    let all : take i xs ≡ xs = take_all i xs c.loop-stamp-test.false in
    let same : i ≡ length xs = omega arith in
    numbered xs (sym (ap (count_by (λ t. ltb t (length xs))) all) ∙ c.loop-stamp.invariant.low ∙ same)
    (λ s low. let e : count_by (λ t. eqb t s) xs ≡ one_if (get_or seen s false) = sym (ap (count_by (λ t. eqb t s)) all) ∙ c.loop-stamp.invariant.counts s low in omega (arith, e, one_few (get_or seen s false)))
