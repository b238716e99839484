use Rattle.std.proofs.Common.{◌≡◌, ℕ, ◌==◌, [], ◌∷◌, ◌++◌, length, take, sym, ap, ◌∙◌, arith, length-take}
use Rattle.std.specs.List.{count_by}
use Rattle.std.proofs.lemmas.List.{length_push}
use Rattle.circular_buffer.specs.Buffer.{Buffer}
use Rattle.hs_auto.specs.ValueCounts.{times}
use Rattle.hs_auto.proofs.RankLemmas.{cut, uncut}
use Rattle.hs_auto.proofs.CountLemmas.{few_counts, joined_counts, left_counts, last_counts}
use Rattle.hs_auto.proofs.counted.CountedWindow.push.Goals as goal

pub add-requires-clause-room : goal.add-requires-clause-room
add-requires-clause-room c =
    let is = c.self.invariant in
    omega (arith, few_counts c.self.inside.counts.items is.ordered.positive, is.total, is.within, is.room, c.self.inside.counts.ok.0)

pub take_out-requires-clause-there : goal.take_out-requires-clause-there
take_out-requires-clause-there c =
    let v = c.args.value in
    let size = c.self.inside.arrived.capacity in
    let values = c.self.inside.arrived.items in
    let left : v ∷ values ≡ take size (v ∷ values) ++ c.in-Some.oldest ∷ [] =
    cut size (v ∷ values) c.in-Some.oldest (omega (arith, c.self.invariant.within)) (sym c.in-Some.ensures.value) in
    let joined = joined_counts (times c.self.inside.counts.items) (times c.add.new.counts.items) v values c.add.ensures.times c.self.invariant.counts in
    last_counts (times c.add.new.counts.items) c.in-Some.oldest (take size (v ∷ values)) (λ x. joined x ∙ ap (count_by (λ y. y == x)) left)

pub invariant_of-self : goal.invariant_of-self
invariant_of-self c =
    let v = c.args.value in
    let size = c.self.inside.arrived.capacity in
    let values = c.self.inside.arrived.items in
    let left : v ∷ values ≡ take size (v ∷ values) ++ c.in-Some.oldest ∷ [] =
    cut size (v ∷ values) c.in-Some.oldest (omega (arith, c.self.invariant.within)) (sym c.in-Some.ensures.value) in
    let joined = joined_counts (times c.self.inside.counts.items) (times c.add.new.counts.items) v values c.add.ensures.times c.self.invariant.counts in
    let kept =
    left_counts (times c.add.new.counts.items) (times c.take_out.new.counts.items) c.in-Some.oldest (take size (v ∷ values)) c.take_out.ensures.times
    (λ x. joined x ∙ ap (count_by (λ y. y == x)) left) in
    let items : c.push_front.new.self.items ≡ take size (v ∷ values) = ap (λ (b : Buffer ℕ). b.items) c.push_front.ensures.items in
    let capacity : c.push_front.new.self.capacity ≡ size = ap (λ (b : Buffer ℕ). b.capacity) c.push_front.ensures.items in
    record {
      within = omega (arith, ap length items, capacity, length-take size (v ∷ values));
      small = omega (arith, capacity, c.self.invariant.small);
      ordered = c.take_out.ensures.counts;
      counts = λ x. kept x ∙ ap (count_by (λ y. y == x)) (sym items);
      total =
          omega
          (arith, ap length items, ap length left, length_push (take size (v ∷ values)) c.in-Some.oldest, c.add.ensures.total, c.take_out.ensures.total, c.self.invariant.total);
      room = omega (arith, capacity, c.add.ensures.capacity, c.take_out.ensures.capacity, c.self.invariant.room);
    }

pub invariant_of-self-in_default : goal.invariant_of-self-in_default
invariant_of-self-in_default c =
    let v = c.args.value in
    let size = c.self.inside.arrived.capacity in
    let values = c.self.inside.arrived.items in
    let joined = joined_counts (times c.self.inside.counts.items) (times c.add.new.counts.items) v values c.add.ensures.times c.self.invariant.counts in
    let items : c.push_front.new.self.items ≡ take size (v ∷ values) = ap (λ (b : Buffer ℕ). b.items) c.push_front.ensures.items in
    let whole : c.push_front.new.self.items ≡ v ∷ values = items ∙ uncut size (v ∷ values) (sym c.in_default.ensures.value) in
    let capacity : c.push_front.new.self.capacity ≡ size = ap (λ (b : Buffer ℕ). b.capacity) c.push_front.ensures.items in
    record {
      within = omega (arith, ap length items, capacity, length-take size (v ∷ values));
      small = omega (arith, capacity, c.self.invariant.small);
      ordered = c.add.ensures.counts;
      counts = λ x. joined x ∙ ap (count_by (λ y. y == x)) (sym whole);
      total = omega (arith, ap length whole, c.add.ensures.total, c.self.invariant.total);
      room = omega (arith, capacity, c.add.ensures.capacity, c.self.invariant.room);
    }
