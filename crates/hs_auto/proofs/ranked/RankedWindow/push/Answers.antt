use Rattle.std.proofs.Common.{◌≡◌, ◌++◌, ◌∷◌, [], List, ℕ, ltb, length, take, sym, ap, ◌∙◌, subst, arith, rules, length-take}
use Rattle.std.specs.List.{Contains, count_by}
use Rattle.std.specs.Vec.{with_items}
use Rattle.std.proofs.lemmas.List.{with_items_is, places}
use Rattle.circular_buffer.specs.Buffer.{Buffer}
use Rattle.hs_auto.specs.Windows.{Window}
use Rattle.hs_auto.specs.Ranks.{StandsSorted, IsPlace}
use Rattle.hs_auto.proofs.RankLemmas.{last_is_there, place_of_count, length_sorted, cut_full, uncut}
use Rattle.hs_auto.proofs.ranked.RankedWindow.push.Goals as goal

pub exchange-requires-clause-there : goal.exchange-requires-clause-there
exchange-requires-clause-there c =
    let x = c.in-Some.oldest in
    let values = c.self.inside.arrived.items in
    let full = cut_full c.self.inside.arrived.capacity c.args.value values x (omega arith) c.self.invariant.within (sym c.in-Some.ensures.value) in
    let there : Contains c.self.inside.sorted.items x =
    last_is_there c.self.inside.sorted.items full.0 x (subst (StandsSorted c.self.inside.sorted.items) full.1 c.self.invariant.order) in
    subst (λ (xs : List ℕ). Contains xs x) (sym c.deref_mut.ensures.value) there

-- as many of the sorted values are less as of those that arrived
pub exchange-requires-clause-place : goal.exchange-requires-clause-place
exchange-requires-clause-place c =
    subst (λ (xs : List ℕ). IsPlace xs c.args.value c.args.less) (sym c.deref_mut.ensures.value)
    (place_of_count c.self.inside.sorted.items c.self.inside.arrived.items c.args.value c.args.less c.self.invariant.order
    (c.requires ∙ ap (λ (w : Window). count_by (λ y. ltb y c.args.value) w.values) (sym c.self.view_is)))

pub put-requires-clause-place : goal.put-requires-clause-place
put-requires-clause-place c =
    place_of_count c.self.inside.sorted.items c.self.inside.arrived.items c.args.value c.args.less c.self.invariant.order
    (c.requires ∙ ap (λ (w : Window). count_by (λ y. ltb y c.args.value) w.values) (sym c.self.view_is))

pub invariant_of-self : goal.invariant_of-self
invariant_of-self c =
    let v = c.args.value in
    let x = c.in-Some.oldest in
    let size = c.self.inside.arrived.capacity in
    let values = c.self.inside.arrived.items in
    let full = cut_full size v values x (omega arith) c.self.invariant.within (sym c.in-Some.ensures.value) in
    let order : StandsSorted c.deref_mut.result.now (full.0 ++ x ∷ []) =
    subst (λ (xs : List ℕ). StandsSorted xs (full.0 ++ x ∷ [])) (sym c.deref_mut.ensures.value)
    (subst (StandsSorted c.self.inside.sorted.items) full.1 c.self.invariant.order) in
    let items : c.push_front.new.self.items ≡ take size (v ∷ values) = ap (λ (b : Buffer ℕ). b.items) c.push_front.ensures.items in
    let capacity : c.push_front.new.self.capacity ≡ size = ap (λ (b : Buffer ℕ). b.capacity) c.push_front.ensures.items in
    let sorted : (with_items c.self.inside.sorted c.exchange.new.sorted).items ≡ c.exchange.new.sorted =
    with_items_is c.self.inside.sorted c.exchange.new.sorted (search (rules, places)) in
    record {
      within = omega (arith, ap length items, capacity, length-take size (v ∷ values));
      order =
          subst (StandsSorted (with_items c.self.inside.sorted c.exchange.new.sorted).items) (sym (items ∙ full.2))
          (subst (λ (xs : List ℕ). StandsSorted xs (v ∷ full.0)) (sym sorted) (c.exchange.ensures full.0 order));
      room = omega (arith, capacity, c.self.invariant.room);
    }

pub put-requires-clause-room : goal.put-requires-clause-room
put-requires-clause-room c =
    let size = c.self.inside.arrived.capacity in
    let values = c.self.inside.arrived.items in
    let whole : take size (c.args.value ∷ values) ≡ c.args.value ∷ values = uncut size (c.args.value ∷ values) (sym c.in-None.ensures.value) in
    omega (
      arith,
      ap length whole,
      length-take size (c.args.value ∷ values),
      length_sorted c.self.inside.sorted.items values c.self.invariant.order,
      c.self.invariant.room,
    )

pub invariant_of-self-in-None : goal.invariant_of-self-in-None
invariant_of-self-in-None c =
    let v = c.args.value in
    let size = c.self.inside.arrived.capacity in
    let values = c.self.inside.arrived.items in
    let items : c.push_front.new.self.items ≡ take size (v ∷ values) = ap (λ (b : Buffer ℕ). b.items) c.push_front.ensures.items in
    let capacity : c.push_front.new.self.capacity ≡ size = ap (λ (b : Buffer ℕ). b.capacity) c.push_front.ensures.items in
    let whole : take size (v ∷ values) ≡ v ∷ values = uncut size (v ∷ values) (sym c.in-None.ensures.value) in
    record {
      within = omega (arith, ap length items, capacity, length-take size (v ∷ values));
      order = subst (StandsSorted c.put.new.sorted.items) (sym (items ∙ whole)) (c.put.ensures.joins values c.self.invariant.order);
      room = omega (arith, capacity, c.put.ensures.capacity, c.self.invariant.room);
    }
