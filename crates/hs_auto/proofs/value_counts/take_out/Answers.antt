use Rattle.std.proofs.Common.{cond, ◌≡◌, ℕ, ◌+◌, ◌-◌, ◌<◌, ◌≤◌, ◌==◌, Bool, true, false, List, length, get_or, set, sym, ap, ◌∙◌, subst, arith}
use Rattle.std.specs.List.{remove}
use Rattle.std.proofs.lemmas.List.Sums.{sum_by-remove, sum_by-set}
use Rattle.hs_auto.specs.declared.value_counts.ValueCount.{ValueCount}
use Rattle.hs_auto.specs.ValueCounts.{AreValueCounts, IsPlace, times}
use Rattle.hs_auto.proofs.CountLemmas.{counts_remove, stands_there, counted}
use Rattle.hs_auto.proofs.value_counts.take_out.Goals as goal

-- the value stands at its place
abbrev stands : (ts seen : List ValueCount) (v i : ℕ) → seen ≡ ts → AreValueCounts ts → IsPlace seen v i → 0 < times ts v → (i < length ts) × ((d : ValueCount) → (get_or ts i d).value ≡ v)
stands ts seen v i same is place some = stands_there ts v i is (subst (λ (xs : List ValueCount). IsPlace xs v i) same place) some

-- one less of a count, where the test passes
one_less : (b : Bool) (s t n : ℕ) → 1 ≤ n → s + cond b n 0 ≡ t + cond b (n - 1) 0 → t ≡ s + cond b 1 0
one_less true s t n some sums = omega arith
one_less false s t n some sums = omega arith

pub index-requires : goal.index-requires
index-requires c =
    let there = stands c.args.counts.now.items c.deref.result.now c.args.value c.place_of-place.result c.deref.ensures.value c.requires.counts c.place_of-place.ensures c.requires.there in
    omega (arith, there.0, c.deref.ensures.len, ap length c.deref.ensures.value)

pub remove-requires : goal.remove-requires
remove-requires c =
    let there = stands c.args.counts.now.items c.deref.result.now c.args.value c.place_of-place.result c.deref.ensures.value c.requires.counts c.place_of-place.ensures c.requires.there in
    omega (arith, there.0, c.deref.ensures.len, ap length c.deref.ensures.value)

pub index_mut-requires : goal.index_mut-requires
index_mut-requires c =
    let there = stands c.args.counts.now.items c.deref.result.now c.args.value c.place_of-place.result c.deref.ensures.value c.requires.counts c.place_of-place.ensures c.requires.there in
    omega (arith, there.0, c.deref.ensures.len, ap length c.deref.ensures.value)

pub overflow_sub-count : goal.overflow_sub-count
overflow_sub-count c =
    let ts = c.args.counts.now.items in
    let there = stands ts c.deref.result.now c.args.value c.place_of-place.result c.deref.ensures.value c.requires.counts c.place_of-place.ensures c.requires.there in
    let read : c.index.result.now ≡ get_or ts c.place_of-place.result c.index.result.now = c.index.ensures in
    omega (arith, c.requires.counts.positive c.place_of-place.result c.index.result.now there.0, ap (λ (t : ValueCount). t.count) read)

pub returns-then-count-eq1-clause-counts : goal.returns-then-count-eq1-clause-counts
returns-then-count-eq1-clause-counts c =
    let ts = c.args.counts.now.items in
    let there = stands ts c.deref.result.now c.args.value c.place_of-place.result c.deref.ensures.value c.requires.counts c.place_of-place.ensures c.requires.there in
    subst AreValueCounts (sym c.remove.ensures.items) (counts_remove ts c.place_of-place.result c.requires.counts there.0)

pub returns-then-count-eq1-clause-times : goal.returns-then-count-eq1-clause-times
returns-then-count-eq1-clause-times c =
    let ts = c.args.counts.now.items in
    let i = c.place_of-place.result in
    let x = c.index.result.now in
    let there = stands ts c.deref.result.now c.args.value i c.deref.ensures.value c.requires.counts c.place_of-place.ensures c.requires.there in
    let read : x ≡ get_or ts i x = c.index.ensures in
    let own : (get_or ts i x).value ≡ c.args.value = there.1 x in
    let one : (get_or ts i x).count ≡ 1 = ap (λ (t : ValueCount). t.count) (sym read) ∙ c.if-count-eq1.true in
    λ v.
    let left : counted v (get_or ts i x) ≡ cond (c.args.value == v) 1 0 = ap (λ (p : ℕ × ℕ). cond (p.0 == v) p.1 0) (λ k. (own k, one k)) in
    let new : times c.remove.new.self.items v ≡ times (remove ts i) v = ap (λ (xs : List ValueCount). times xs v) c.remove.ensures.items in
    let sums = sum_by-remove (counted v) ts i x there.0 in
    omega (arith, left, new, sums)

pub returns-clause-times : goal.returns-clause-times
returns-clause-times c =
    let ts = c.args.counts.now.items in
    let i = c.place_of-place.result in
    let x = c.index.result.now in
    let there = stands ts c.deref.result.now c.args.value i c.deref.ensures.value c.requires.counts c.place_of-place.ensures c.requires.there in
    let read : x ≡ get_or ts i x = c.index.ensures in
    let own : (get_or ts i x).value ≡ c.args.value = there.1 x in
    let same : (get_or ts i x).count ≡ x.count = ap (λ (t : ValueCount). t.count) (sym read) in
    let some : 1 ≤ x.count = omega (arith, c.requires.counts.positive i x there.0, same) in
    let y : ValueCount = record { value = c.args.value; count = x.count - 1 } in
    λ v.
    let old : counted v (get_or ts i x) ≡ cond (c.args.value == v) x.count 0 = ap (λ (p : ℕ × ℕ). cond (p.0 == v) p.1 0) (λ k. (own k, same k)) in
    let sums : times (set ts i y) v + cond (c.args.value == v) x.count 0 ≡ times ts v + counted v y =
    ap (λ n. times (set ts i y) v + n) (sym old) ∙ sum_by-set (counted v) ts i y x there.0 in
    one_less (c.args.value == v) (times (set ts i y) v) (times ts v) x.count some sums

pub returns-clause-total : goal.returns-clause-total
returns-clause-total c =
    let ts = c.args.counts.now.items in
    let i = c.place_of-place.result in
    let x = c.index.result.now in
    let there = stands ts c.deref.result.now c.args.value i c.deref.ensures.value c.requires.counts c.place_of-place.ensures c.requires.there in
    let read : x ≡ get_or ts i x = c.index.ensures in
    let same : (get_or ts i x).count ≡ x.count = ap (λ (t : ValueCount). t.count) (sym read) in
    let some : 1 ≤ x.count = omega (arith, c.requires.counts.positive i x there.0, same) in
    let y : ValueCount = record { value = c.args.value; count = x.count - 1 } in
    let sums = sum_by-set (λ (t : ValueCount). t.count) ts i y x there.0 in
    omega (arith, same, some, sums)
