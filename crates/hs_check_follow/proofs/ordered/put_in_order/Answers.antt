use Rattle.std.proofs.Common.{◌≡◌, ℕ, ◌+◌, Bool, eqb, ltb, List, map, refl, sym, ap, ◌∙◌, rules}
use Rattle.hs_check_follow.proofs.Prelude.{filter, filter_agree, StampedPoolEvent, StampedEvent, pool_event}
use Rattle.std.specs.List.Sorted.{IsStableByKey, ties}
use Rattle.std.specs.Ordering.{nat_cmp, is_lt}
use Rattle.std.proofs.lemmas.List.Sorted.{IsNonDecreasingBy-from_sort_by_key, answers_always}
use Rattle.hs_base.proofs.Numbers.{nat_cmp_tie}
use Rattle.hs_check_follow.specs.declared.happened.NotedEvent.TheVariants as happenings
use Rattle.hs_check_follow.proofs.Sorting.{put_in_order, buckets-map}
use Rattle.hs_check_follow.proofs.ordered.put_in_order.Goals as goal

-- what ties with an event of a stamp has that stamp
same_stamp : (s : ℕ) (xs ys : List StampedEvent) → IsStableByKey (λ (t : StampedEvent). t.stamp) nat_cmp xs ys → filter (λ (t : StampedEvent). eqb t.stamp s) ys ≡ filter (λ (t : StampedEvent). eqb t.stamp s) xs
same_stamp s xs ys stable =
    let one : StampedEvent = record { stamp = s; event = happenings.Empty } in
    filter_agree (λ (t : StampedEvent). eqb t.stamp s) (λ (t : StampedEvent). ties (λ (x y : StampedEvent). is_lt (nat_cmp x.stamp y.stamp)) one t) (λ t. sym (nat_cmp_tie s t.stamp)) ys
    ∙ stable one
    ∙ filter_agree (λ (t : StampedEvent). ties (λ (x y : StampedEvent). is_lt (nat_cmp x.stamp y.stamp)) one t) (λ (t : StampedEvent). eqb t.stamp s) (λ t. nat_cmp_tie s t.stamp) xs

pub returns-clause-order : goal.returns-clause-order
returns-clause-order c = λ bound.
    let xs = c.args.events.now.items in
    let ys = c.sort_by_key.new.self.items in
    let rises = IsNonDecreasingBy-from_sort_by_key (λ (t : StampedEvent). t.stamp) ys c.in_ok-sort_by_key.ensures.sorted (λ a r q k. search rules) in
    let stable = c.in_ok-sort_by_key.ensures.stable (λ (t : StampedEvent). t.stamp) (answers_always _ _ _ (λ f a r g h. search rules)) in
    buckets-map pool_event (λ (e : StampedPoolEvent). e.stamp) 0 bound xs
    ∙ ap (map pool_event) (put_in_order (λ (t : StampedEvent). t.stamp) bound xs ys rises (λ s. same_stamp s xs ys stable))

pub returns-clause-rises : goal.returns-clause-rises
returns-clause-rises c = IsNonDecreasingBy-from_sort_by_key (λ (t : StampedEvent). t.stamp) c.sort_by_key.new.self.items c.in_ok-sort_by_key.ensures.sorted (λ a r q k. search rules)
