-- A map that is filled by rising rules has them in their order.
use Rattle.std.proofs.Common.{◌≡◌, ℕ, zero, suc, ◌+◌, ◌<◌, List, [], ◌∷◌, ◌++◌, length, map, take, get_or, AllPairs, refl, sym, ap, ◌∙◌, arith, add-one}
use Rattle.hs_pins.proofs.Prelude.{map-append, AllByRecursion, insert_entry, nat_cmp, match_ordering, Ordering, Greater, TriggerId, TriggerRule, values_of, sum_by-cons, Groups, count_of, total_of, fresh_queues}
use Rattle.std.proofs.Math.Seq.{take-suc}
use Rattle.std.specs.Cmp.{nat_cmp_is}

abbrev id_cmp : TriggerId → TriggerId → Ordering
id_cmp a b = nat_cmp a.0 b.0

module _ {V : Type 0} where
  insert-last : (es : List (TriggerId × V)) (k : TriggerId) (v : V) → AllByRecursion (λ (e : TriggerId × V). e.0.0 < k.0) es → insert_entry id_cmp es k v ≡ es ++ (k, v) ∷ []
  insert-last [] k v h = refl
  insert-last (e ∷ es) k v h =
      ap (λ o. match_ordering o ((k, v) ∷ e ∷ es) ((e.0, v) ∷ es) (e ∷ insert_entry id_cmp es k v)) (sym (nat_cmp_is k.0 e.0.0 Greater h.0))
      ∙ ap (λ r. e ∷ r) (insert-last es k v h.1)

  below : (f : TriggerRule → V) (rules : List TriggerRule) (i : ℕ) (d : TriggerRule) → AllPairs (λ (a b : TriggerRule). a.id.0 < b.id.0) rules → i < length rules
      → AllByRecursion (λ (e : TriggerId × V). e.0.0 < (get_or rules i d).id.0) (map (λ rule. (rule.id, f rule)) (take i rules))
  below f [] i d pairs within = absurd (omega arith)
  below f (r ∷ rules) zero d pairs within = tt
  below f (r ∷ rules) (suc i) d pairs within = (
    pairs 0 (suc i) d (omega arith) within,
    below f rules i d (λ a b e first second. pairs (suc a) (suc b) e (omega arith) (omega arith)) (omega arith),
  )

  pub one-rule-more : (f : TriggerRule → V) (rules : List TriggerRule) (i : ℕ) (d : TriggerRule) (old new : List (TriggerId × V)) (v : V)
      → AllPairs (λ (a b : TriggerRule). a.id.0 < b.id.0) rules → i < length rules → v ≡ f (get_or rules i d)
      → old ≡ map (λ rule. (rule.id, f rule)) (take i rules) → new ≡ insert_entry id_cmp old (get_or rules i d).id v → new ≡ map (λ rule. (rule.id, f rule)) (take (i + 1) rules)
  one-rule-more f rules i d old new v pairs within value before inserted =
      let g : TriggerRule → TriggerId × V = λ rule. (rule.id, f rule) in
      inserted
      ∙ ap (λ es. insert_entry id_cmp es (get_or rules i d).id v) before
      ∙ insert-last (map g (take i rules)) (get_or rules i d).id v (below f rules i d pairs within)
      ∙ ap (λ w. map g (take i rules) ++ ((get_or rules i d).id, w) ∷ []) value
      ∙ sym (map-append g (take i rules) (get_or rules i d ∷ []))
      ∙ ap (map g) (sym (take-suc rules i d within))
      ∙ ap (λ n. map g (take n rules)) (sym (add-one i))

pub fresh-total : (L : Type 0) (rules : List TriggerRule) → 0 ≡ total_of {L = L} (fresh_queues rules)
fresh-total L [] = refl
fresh-total L (r ∷ rules) =
    omega (arith, fresh-total L rules, sum_by-cons (λ (groups : Groups L). count_of groups) [] (values_of (fresh_queues {L = L} rules)))
