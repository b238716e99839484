-- The group that is next to go, by the queues: the first of the id for which most is pinned.
use Rattle.std.proofs.Common.{◌≡◌, ℕ, ◌<◌, ◌≤◌, Bool, true, false, cond, List, [], ◌∷◌, length, map, Option, Some, None, IsSome, refl, sym, ap, subst, ◌∙◌, arith, inl, inr, true≢false}
use Rattle.hs_pins.proofs.Prelude.{◌⊎◌, ◌==◌, filter, option_map_or, option_and_then, AllByRecursion, lookup, keys_of, IsTotalOrder, Ordering, Less, Equal, Greater, nat_cmp, ordering_then, ordering_reverse, is_le, nat_cmp_total, on_total, then_total, tied_itself, sorted_head, exact_unsigned, lt-ltb, eqb-true, eq-eqb, all_each, TriggerId, TriggerRule, Group, Buffer, Priority, priority_cmp, priority_of, same_priority, group_at, group_cmp, least, id_cmp, fullest_id, least_of_id, next_to_go, Groups, Queues, groups_of, count_in, IsFullest, Pin, pin_for, pins_for, pins_under, chunks_at, HasLanes, HasQueues}
use Rattle.std.proofs.lemmas.Cmp.{back_total}
use Rattle.hs_base.proofs.Alls.{all_mapped, all_always}
use Rattle.hs_pins.specs.Abandoning as abandoning
use Rattle.hs_pins.specs.Abandoning.{count_of_id}
use Rattle.hs_pins.proofs.Order.{group_total, priority_laws, priority_exact, same_exact, group_exact}
use Rattle.hs_pins.proofs.Lanes.{Under, chunks_at-cons, chunks_of-head}
use Rattle.hs_pins.proofs.Waits.{all_there, lane_there, own_priority, pins_for-lane, less_found, same_le}
use Rattle.hs_pins.proofs.Queued.{under_all, under-for}

-- ---- least elements

-- x is one of these
abbrev pub Among : {X : Type 0} → List X → X → Type 0
Among [] x = ⊥
Among (y ∷ ys) x = (x ≡ y) ⊎ Among ys x

abbrev OnLeast : {X : Type 0} → Option X → (X → Type 0) → Type 0
OnLeast None P = Unit {0}
OnLeast (Some x) P = P x

then_equal : (o p : Ordering) → ordering_then o p ≡ Equal → p ≡ Equal
then_equal Less p e = absurd cc
then_equal Equal p e = e
then_equal Greater p e = absurd cc

module _ {X : Type 0} (cmp : X → X → Ordering) (order : IsTotalOrder cmp) where
  all_least : (P : X → Type 0) (xs : List X) → AllByRecursion P xs → OnLeast (least cmp xs) P
  all_least P [] all = tt
  all_least P (x ∷ xs) all = at (least cmp xs) (all_least P xs all.1)
    where
      at : (o : Option X) → OnLeast o P → P (option_map_or (λ y. cond (is_le (cmp x y)) x y) o x)
      at None p = all.0
      at (Some y) p = go (is_le (cmp x y))
        where
          go : (b : Bool) → P (cond b x y)
          go true = all.0
          go false = p

  both_equal : (x y : X) → is_le (cmp x y) ≡ true → is_le (cmp y x) ≡ true → cmp x y ≡ Equal
  both_equal x y e f = at (cmp x y) e (ap is_le (sym (order.antisymm y x)) ∙ f)
    where
      at : (o : Ordering) → is_le o ≡ true → is_le (ordering_reverse o) ≡ true → o ≡ Equal
      at Less e f = absurd (true≢false (sym f))
      at Equal e f = refl
      at Greater e f = absurd (true≢false (sym e))

  -- one of these that is below all, and is told apart from the others, is the least
  pub least_is : (x : X) (xs : List X) → Among xs x → AllByRecursion (λ y. is_le (cmp x y) ≡ true) xs → AllByRecursion (λ y. cmp x y ≡ Equal → x ≡ y) xs → least cmp xs ≡ Some x
  least_is x [] among below exact = absurd among
  least_is x (y ∷ ys) (inl here) below exact = at (least cmp ys) (all_least (λ z. is_le (cmp x z) ≡ true) ys below.1)
    where
      at : (o : Option X) → OnLeast o (λ z. is_le (cmp x z) ≡ true) → Some (option_map_or (λ z. cond (is_le (cmp y z)) y z) o y) ≡ Some x
      at None p = ap Some (sym here)
      at (Some z) p = ap (λ b. Some (cond b y z)) (subst (λ k. is_le (cmp k z) ≡ true) here p) ∙ ap Some (sym here)
  least_is x (y ∷ ys) (inr there) below exact =
      ap (λ o. Some (option_map_or (λ z. cond (is_le (cmp y z)) y z) o y)) (least_is x ys there below.1 exact.1) ∙ at (is_le (cmp y x)) refl
    where
      at : (b : Bool) → is_le (cmp y x) ≡ b → Some (cond b y x) ≡ Some x
      at true e = ap Some (sym (exact.0 (both_equal x y below.0 e)))
      at false e = refl

-- ---- ids

nat_less : (a b : ℕ) → a < b → nat_cmp a b ≡ Less
nat_less a b h = ap (λ t. cond t Less (cond (a == b) Equal Greater)) (lt-ltb a b h)

nat_same : (a b : ℕ) → a ≡ b → nat_cmp a b ≡ Equal
nat_same a b e = subst (λ k. nat_cmp a k ≡ Equal) e (tied_itself nat_cmp_total a)

nat_up : (a b : ℕ) → a ≤ b → is_le (nat_cmp a b) ≡ true
nat_up a b h = at (nat_cmp a b) refl
  where
    at : (o : Ordering) → nat_cmp a b ≡ o → is_le o ≡ true
    at Less e = refl
    at Equal e = refl
    at Greater e = absurd (go (nat_cmp b a) refl (nat_cmp_total.antisymm b a ∙ ap ordering_reverse e))
      where
        go : (o : Ordering) → nat_cmp b a ≡ o → o ≡ Less → ⊥
        go Less f g = both (a == b) refl
          where
            both : (t : Bool) → (a == b) ≡ t → ⊥
            both true s = let same = eqb-true a b s in let q = nat_same a b same in cc
            both false s = let less : a < b = apart in let q = nat_less a b less in cc
              where
                apart : a < b
                apart = at_most (λ e. true≢false (sym (eq-eqb a b e) ∙ s))
                  where
                    at_most : (a ≡ b → ⊥) → a < b
                    at_most ne = omega (arith, ne)
        go Equal f g = cc
        go Greater f g = cc

pub id_order : (groups : List Group) → IsTotalOrder (id_cmp groups)
id_order groups = then_total (on_total (count_of_id groups) (back_total nat_cmp_total)) nat_cmp_total

module _ {L : Type 0} where
  counted_id : (pins : List (Pin L)) (id : TriggerId) → count_of_id (abandoning.groups_of pins) id.0 ≡ length (pins_under id pins)
  counted_id [] id = refl
  counted_id (pin ∷ pins) id = at (pin.group.trigger.0 == id.0) (counted_id pins id)
    where
      at : (b : Bool) → count_of_id (abandoning.groups_of pins) id.0 ≡ length (pins_under id pins)
          → length (cond b (pin.group ∷ filter (λ (group : Group). group.trigger.0 == id.0) (abandoning.groups_of pins)) (filter (λ (group : Group). group.trigger.0 == id.0) (abandoning.groups_of pins)))
          ≡ length (cond b (pin ∷ pins_under id pins) (pins_under id pins))
      at true e = omega (arith, e)
      at false e = e

  filtered_id : (pins : List (Pin L)) (id : TriggerId) → filter (λ (group : Group). group.trigger.0 == id.0) (abandoning.groups_of pins) ≡ abandoning.groups_of (pins_under id pins)
  filtered_id [] id = refl
  filtered_id (pin ∷ pins) id = at (pin.group.trigger.0 == id.0) (filtered_id pins id)
    where
      at : (b : Bool) → filter (λ (group : Group). group.trigger.0 == id.0) (abandoning.groups_of pins) ≡ abandoning.groups_of (pins_under id pins)
          → cond b (pin.group ∷ filter (λ (group : Group). group.trigger.0 == id.0) (abandoning.groups_of pins)) (filter (λ (group : Group). group.trigger.0 == id.0) (abandoning.groups_of pins))
          ≡ abandoning.groups_of (cond b (pin ∷ pins_under id pins) (pins_under id pins))
      at true e = ap (λ gs. pin.group ∷ gs) e
      at false e = e

  id_among : (pins : List (Pin L)) (id : TriggerId) → 0 < length (pins_under id pins) → Among (map (λ (group : Group). group.trigger.0) (abandoning.groups_of pins)) id.0
  id_among [] id some = absurd (omega arith)
  id_among (pin ∷ pins) id some = at (pin.group.trigger.0 == id.0) refl some (id_among pins id)
    where
      at : (b : Bool) → (pin.group.trigger.0 == id.0) ≡ b → 0 < length (cond b (pin ∷ pins_under id pins) (pins_under id pins))
          → (0 < length (pins_under id pins) → Among (map (λ (group : Group). group.trigger.0) (abandoning.groups_of pins)) id.0)
          → (id.0 ≡ pin.group.trigger.0) ⊎ Among (map (λ (group : Group). group.trigger.0) (abandoning.groups_of pins)) id.0
      at true e some rest = inl (sym (eqb-true pin.group.trigger.0 id.0 e))
      at false e some rest = inr (rest some)

  pub fullest_is_it : (id : TriggerId) (queues : Queues L) (rules : List TriggerRule) (pins : List (Pin L)) → HasQueues queues rules pins → IsFullest queues id → fullest_id (abandoning.groups_of pins) ≡ Some id.0
  fullest_is_it id queues rules pins h full =
      least_is (id_cmp groups) (id_order groups) id.0 (map (λ (group : Group). group.trigger.0) groups)
      (id_among pins id (let s = full.some in let c = (h.lanes id).count in omega arith))
      (all_always (λ other. is_le (id_cmp groups id.0 other) ≡ true) (map (λ (group : Group). group.trigger.0) groups) (λ other. goes_first (record { 0 = other }) (full.most (record { 0 = other }))))
      (all_always (λ other. id_cmp groups id.0 other ≡ Equal → id.0 ≡ other) (map (λ (group : Group). group.trigger.0) groups) (λ other e. exact_unsigned id.0 other (then_equal (nat_cmp (count_of_id groups other) (count_of_id groups id.0)) (nat_cmp id.0 other) e)))
    where
      groups : List Group
      groups = abandoning.groups_of pins

      goes_first : (other : TriggerId) → (count_in queues other < count_in queues id) ⊎ ((count_in queues other ≡ count_in queues id) × (id.0 ≤ other.0)) → is_le (id_cmp (abandoning.groups_of pins) id.0 other.0) ≡ true
      goes_first other (inl less) =
          ap (λ o. is_le (ordering_then o (nat_cmp id.0 other.0)))
          (nat_less (count_of_id (abandoning.groups_of pins) other.0) (count_of_id (abandoning.groups_of pins) id.0)
          (let a = counted_id pins other in let b = counted_id pins id in let c = (h.lanes id).count in let d = (h.lanes other).count in omega arith))
      goes_first other (inr same) =
          ap (λ o. is_le (ordering_then o (nat_cmp id.0 other.0)))
          (nat_same (count_of_id (abandoning.groups_of pins) other.0) (count_of_id (abandoning.groups_of pins) id.0)
          (let a = counted_id pins other in let b = counted_id pins id in let c = (h.lanes id).count in let d = (h.lanes other).count in omega (arith, same.0)))
          ∙ nat_up id.0 other.0 same.1

  -- ---- groups

  group_among : (g : Group) (pins : List (Pin L)) → Under g pins → 0 < length (chunks_at (priority_of g) pins) → Among (abandoning.groups_of pins) g
  group_among g [] all some = absurd (omega arith)
  group_among g (pin ∷ pins) all some = at (same_priority (priority_of g) (priority_of pin.group)) refl (group_among g pins all.1)
    where
      at : (b : Bool) → same_priority (priority_of g) (priority_of pin.group) ≡ b → (0 < length (chunks_at (priority_of g) pins) → Among (abandoning.groups_of pins) g) → (g ≡ pin.group) ⊎ Among (abandoning.groups_of pins) g
      at true e rest = inl (group_exact g pin.group all.0 (same_exact (priority_of g) (priority_of pin.group) e))
      at false e rest = inr (rest (let less = ap length (chunks_at-cons (priority_of g) pin pins false e) in omega arith))

  first_le : (p q : Priority) (chunks : List (Buffer L)) (rest : Groups L) → AllByRecursion (λ r. priority_cmp p r ≡ Less) (keys_of rest) → IsSome (lookup (same_priority q) ((p, chunks) ∷ rest)) → is_le (priority_cmp p q) ≡ true
  first_le p q chunks rest above found = at (same_priority q p) refl found
    where
      at : (b : Bool) → same_priority q p ≡ b → IsSome (cond b (Some chunks) (lookup (same_priority q) rest)) → is_le (priority_cmp p q) ≡ true
      at true e found = same_le p q (priority_laws.symm p q ∙ e)
      at false e found = ap is_le (less_found p q rest above found)

  below_first : (g : Group) (chunks : List (Buffer L)) (rest : Groups L) (pins : List (Pin L)) → AllByRecursion (λ r. priority_cmp (priority_of g) r ≡ Less) (keys_of rest)
      → AllByRecursion (λ (pin : Pin L). IsSome (lookup (same_priority (priority_of pin.group)) ((priority_of g, chunks) ∷ rest))) pins → AllByRecursion (λ (pin : Pin L). is_le (group_cmp g pin.group) ≡ true) pins
  below_first g chunks rest pins above there =
      all_each (λ (pin : Pin L). IsSome (lookup (same_priority (priority_of pin.group)) ((priority_of g, chunks) ∷ rest))) (λ (pin : Pin L). is_le (group_cmp g pin.group) ≡ true) pins
      (λ pin found. first_le (priority_of g) (priority_of pin.group) chunks rest above found) there

  -- The first group of the id for which most is pinned goes, with its chunks.
  pub record IsVictim (id : TriggerId) (p : Priority) (chunks : List (Buffer L)) (pins : List (Pin L)) : Type 0 where
    pub own : priority_of (group_at id p) ≡ p
    pub next : next_to_go (abandoning.groups_of pins) ≡ Some (group_at id p)
    pub chunks_for : pins_for (group_at id p) pins ≡ map (pin_for (group_at id p)) chunks

  pub victim : (id : TriggerId) (p : Priority) (chunks : List (Buffer L)) (rest : Groups L) (queues : Queues L) (rules : List TriggerRule) (pins : List (Pin L)) → HasQueues queues rules pins → IsFullest queues id
      → groups_of queues id ≡ (p, chunks) ∷ rest → IsVictim id p chunks pins
  victim id p chunks rest queues rules pins h full first =
      let g : Group = group_at id p in
      let lanes : HasLanes ((p, chunks) ∷ rest) (pins_under id pins) = subst (λ (gs : Groups L). HasLanes gs (pins_under id pins)) first (h.lanes id) in
      let all : Under g (pins_under id pins) = under_all id pins in
      let at_p : chunks_at p (pins_under id pins) ≡ chunks = sym (lanes.lanes p) ∙ chunks_of-head p chunks rest in
      let some : 0 < length (chunks_at p (pins_under id pins)) = let n = ap length at_p in let s : 0 < length chunks = lanes.some.0 in omega arith in
      let own : priority_of g ≡ p = own_priority id p (pins_under id pins) some in
      let at_g : 0 < length (chunks_at (priority_of g) (pins_under id pins)) = subst (λ q. 0 < length (chunks_at q (pins_under id pins))) (sym own) some in
      let above : AllByRecursion (λ r. priority_cmp (priority_of g) r ≡ Less) (keys_of rest) = subst (λ q. AllByRecursion (λ r. priority_cmp q r ≡ Less) (keys_of rest)) (sym own) (sorted_head priority_cmp p (keys_of rest) lanes.rising) in
      let there = all_there ((p, chunks) ∷ rest) (pins_under id pins) (lane_there ((p, chunks) ∷ rest) (pins_under id pins) lanes) in
      let there_g = subst (λ (q : Priority). AllByRecursion (λ (pin : Pin L). IsSome (lookup (same_priority (priority_of pin.group)) ((q, chunks) ∷ rest))) (pins_under id pins)) (sym own) there in
      let exact = all_each (λ (pin : Pin L). g.trigger.0 ≡ pin.group.trigger.0) (λ (pin : Pin L). group_cmp g pin.group ≡ Equal → g ≡ pin.group) (pins_under id pins)
      (λ pin under e. group_exact g pin.group under (priority_exact (priority_of g) (priority_of pin.group) e)) all in
      record {
        own = own;
        next =
            ap (option_and_then (least_of_id (abandoning.groups_of pins))) (fullest_is_it id queues rules pins h full)
            ∙ ap (least group_cmp) (filtered_id pins id)
            ∙ least_is group_cmp group_total g (abandoning.groups_of (pins_under id pins)) (group_among g (pins_under id pins) all at_g)
            (all_mapped (λ (pin : Pin L). pin.group) (λ other. is_le (group_cmp g other) ≡ true) (pins_under id pins) (below_first g chunks rest (pins_under id pins) above there_g))
            (all_mapped (λ (pin : Pin L). pin.group) (λ other. group_cmp g other ≡ Equal → g ≡ other) (pins_under id pins) exact);
        chunks_for =
            sym (under-for g pins) ∙ pins_for-lane g (pins_under id pins) all ∙ ap (λ q. map (pin_for g) (chunks_at q (pins_under id pins))) own ∙ ap (map (pin_for g)) at_p;
      }
