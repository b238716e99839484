-- What waits for one trigger id: the chunks of its groups from the greatest priority on are what is pinned for it, in order.
use Rattle.std.proofs.Common.{◌≡◌, ℕ, zero, suc, ◌-◌, ◌<◌, Bool, true, false, cond, List, [], ◌∷◌, ◌++◌, length, map, drop, Option, Some, None, IsSome, unwrap_or, refl, sym, ap, subst, ◌∙◌, arith, inl, inr, true≢false}
use Rattle.hs_pins.proofs.Prelude.{◌⊎◌, is_some, slice_get, option_map, option_and_then, AllByRecursion, IsStrictlySortedBy, lookup, set_value, remove_entry, keys_of, Ordering, Less, Equal, Greater, is_eq, is_le, ordering_reverse, sorted_head, sorted_tail, bool_same, all_each, TriggerId, Group, Buffer, Priority, priority_cmp, priority_of, same_priority, group_at, is_no_greater, put_by, ordered_by, Groups, count_of, chunks_of, greatest_of, HaveChunks, IsKept, Pin, pin_for, is_for, pins_for, without_first, goes_behind, chunks_at, HasLanes, in_order}
use Rattle.std.proofs.lemmas.List.{nil_from_length}
use Rattle.hs_pins.specs.Groups.{next_of, without_next, without_first as without_chunk}
use Rattle.hs_pins.specs.Waiting.{used_bytes}
use Rattle.hs_pins.proofs.GroupLemmas.{some-found}
use Rattle.hs_pins.proofs.Order.{priority_total, priority_laws, same_exact, same_group-true}
use Rattle.hs_pins.proofs.Lanes.{Under, lanes-first, chunks_at-cons, for_priority}

-- ---- lists in order

all_put : {X : Type 0} (P : X → Type 0) (behind : X → X → Bool) (x : X) (ys : List X) → P x → AllByRecursion P ys → AllByRecursion P (put_by behind x ys)
all_put P behind x [] p all = (p, tt)
all_put P behind x (y ∷ ys) p all = at (behind y x) (all_put P behind x ys p all.1)
  where
    at : (b : Bool) → AllByRecursion P (put_by behind x ys) → AllByRecursion P (cond b (x ∷ y ∷ ys) (y ∷ put_by behind x ys))
    at true rest = (p, all)
    at false rest = (all.0, rest)

pub all_ordered : {X : Type 0} (P : X → Type 0) (behind : X → X → Bool) (xs : List X) → AllByRecursion P xs → AllByRecursion P (ordered_by behind xs)
all_ordered P behind [] all = tt
all_ordered P behind (x ∷ xs) all = all_put P behind x (ordered_by behind xs) all.0 (all_ordered P behind xs all.1)

put_first : {X : Type 0} (behind : X → X → Bool) (x : X) (ys : List X) → AllByRecursion (λ y. behind y x ≡ true) ys → put_by behind x ys ≡ x ∷ ys
put_first behind x [] all = refl
put_first behind x (y ∷ ys) all = ap (λ b. cond b (x ∷ y ∷ ys) (y ∷ put_by behind x ys)) all.0

pub same_le : (q p : Priority) → same_priority q p ≡ true → is_le (priority_cmp q p) ≡ true
same_le q p e = at (priority_cmp q p) e
  where
    at : (o : Ordering) → is_eq o ≡ true → is_le o ≡ true
    at Less e = refl
    at Equal e = refl
    at Greater e = absurd (true≢false (sym e))

le_both : (a b : Priority) → is_le (priority_cmp a b) ≡ true → is_le (priority_cmp b a) ≡ true → same_priority a b ≡ true
le_both a b e f = at (priority_cmp a b) e (ap is_le (sym (priority_total.antisymm b a)) ∙ f)
  where
    at : (o : Ordering) → is_le o ≡ true → is_le (ordering_reverse o) ≡ true → is_eq o ≡ true
    at Less e f = absurd (true≢false (sym f))
    at Equal e f = refl
    at Greater e f = absurd (true≢false (sym e))

-- ---- the order of pins

-- no pin stands above the group, and those of equal priority are its own
pub record Below {L : Type 0} (g : Group) (pin : Pin L) : Type 0 where
  pub behind : is_no_greater pin.group g ≡ true
  pub own : is_no_greater g pin.group ≡ is_for g pin

module _ {L : Type 0} where
  pub first_is_for : (g : Group) (pins : List (Pin L)) (h : Pin L) → slice_get (pins_for g pins) 0 ≡ Some h → is_for g h ≡ true
  first_is_for g [] h e = absurd cc
  first_is_for g (pin ∷ pins) h e = at (is_for g pin) refl e (first_is_for g pins h)
    where
      at : (b : Bool) → is_for g pin ≡ b → slice_get (cond b (pin ∷ pins_for g pins) (pins_for g pins)) 0 ≡ Some h → (slice_get (pins_for g pins) 0 ≡ Some h → is_for g h ≡ true) → is_for g h ≡ true
      at true own e rest = let same : pin ≡ h = cc in subst (λ (p : Pin L). is_for g p ≡ true) same own
      at false own e rest = rest e

  -- the first pin of the greatest group is the first of the order, and the others stay in order
  pub order_first : (g : Group) (pins : List (Pin L)) (h : Pin L) → AllByRecursion (Below g) pins → slice_get (pins_for g pins) 0 ≡ Some h
      → ordered_by goes_behind pins ≡ h ∷ ordered_by goes_behind (without_first g pins)
  order_first g [] h all e = absurd cc
  order_first g (pin ∷ pins) h all e = at (is_for g pin) refl e (order_first g pins h all.1)
    where
      at : (b : Bool) → is_for g pin ≡ b → slice_get (cond b (pin ∷ pins_for g pins) (pins_for g pins)) 0 ≡ Some h
          → (slice_get (pins_for g pins) 0 ≡ Some h → ordered_by goes_behind pins ≡ h ∷ ordered_by goes_behind (without_first g pins))
          → put_by goes_behind pin (ordered_by goes_behind pins) ≡ h ∷ ordered_by goes_behind (cond b pins (pin ∷ without_first g pins))
      at true own e rest =
          let same : pin ≡ h = cc in
          let group : g ≡ pin.group = same_group-true g pin.group own in
          put_first goes_behind pin (ordered_by goes_behind pins)
          (all_ordered (λ (y : Pin L). goes_behind y pin ≡ true) goes_behind pins
          (all_each (Below g) (λ (y : Pin L). goes_behind y pin ≡ true) pins (λ y below. subst (λ (k : Group). is_no_greater y.group k ≡ true) group below.behind) all.1))
          ∙ ap (λ p. p ∷ ordered_by goes_behind pins) same
      at false own e rest =
          let group : g ≡ h.group = same_group-true g h.group (first_is_for g pins h e) in
          let ahead : goes_behind h pin ≡ false = subst (λ (k : Group). is_no_greater k pin.group ≡ false) group (all.0.own ∙ own) in
          ap (put_by goes_behind pin) (rest e)
          ∙ ap (λ b. cond b (pin ∷ h ∷ ordered_by goes_behind (without_first g pins)) (h ∷ put_by goes_behind pin (ordered_by goes_behind (without_first g pins)))) ahead

  -- ---- the last group

  -- the group of greatest priority, with a chunk and more: what waits begins with that chunk
  pub record IsLast (groups : Groups L) (p : Priority) (b : Buffer L) (bs : List (Buffer L)) : Type 0 where
    pub greatest : greatest_of groups ≡ Some p
    pub found : lookup (same_priority p) groups ≡ Some (b ∷ bs)
    pub top : (q : Priority) → IsSome (lookup (same_priority q) groups) → is_le (priority_cmp q p) ≡ true
    pub flat : (id : TriggerId) → in_order id groups ≡ pin_for (group_at id p) b ∷ in_order id (without_chunk groups p bs)

  pub less_found : (p q : Priority) (es : Groups L) → AllByRecursion (λ r. priority_cmp p r ≡ Less) (keys_of es) → IsSome (lookup (same_priority q) es) → priority_cmp p q ≡ Less
  less_found p q [] all found = absurd (true≢false (sym found))
  less_found p q (x ∷ es) all found = at (same_priority q x.0) refl found (less_found p q es all.1)
    where
      at : (b : Bool) → same_priority q x.0 ≡ b → IsSome (cond b (Some x.1) (lookup (same_priority q) es)) → (IsSome (lookup (same_priority q) es) → priority_cmp p q ≡ Less) → priority_cmp p q ≡ Less
      at true e found rest = subst (λ r. priority_cmp p r ≡ Less) (sym (same_exact q x.0 e)) all.0
      at false e found rest = rest found

  without-here : (p : Priority) (b : Buffer L) (bs : List (Buffer L)) (id : TriggerId)
      → map (pin_for (group_at id p)) bs ≡ in_order id (without_chunk ((p, b ∷ bs) ∷ []) p bs)
  without-here p b [] id = ap (λ t. in_order id (cond t [] ((p, b ∷ []) ∷ []))) (sym (priority_laws.refl p))
  without-here p b (d ∷ ds) id = ap (λ t. in_order id (cond t ((p, d ∷ ds) ∷ []) ((p, b ∷ d ∷ ds) ∷ []))) (sym (priority_laws.refl p))

  without-later : (p : Priority) (x : Priority × List (Buffer L)) (es : Groups L) (bs : List (Buffer L)) → same_priority p x.0 ≡ false → without_chunk (x ∷ es) p bs ≡ x ∷ without_chunk es p bs
  without-later p x es [] e = ap (λ t. cond t es (x ∷ remove_entry (same_priority p) es)) e
  without-later p x es (d ∷ ds) e = ap (λ t. cond t ((x.0, d ∷ ds) ∷ es) (x ∷ set_value (same_priority p) es (d ∷ ds))) e

  last-alone : (p : Priority) (b : Buffer L) (bs : List (Buffer L)) → IsLast ((p, b ∷ bs) ∷ []) p b bs
  last-alone p b bs = record {
    greatest = refl;
    found = ap (λ t. cond t (Some (b ∷ bs)) None) (priority_laws.refl p);
    top = λ q found. same_le q p (at (same_priority q p) found);
    flat = λ id. ap (λ rest. pin_for (group_at id p) b ∷ rest) (without-here p b bs id);
  }
    where
      at : (t : Bool) → IsSome (cond t (Some (b ∷ bs)) None) → t ≡ true
      at true found = refl
      at false found = absurd (true≢false (sym found))

  last-behind : (x : Priority × List (Buffer L)) (y : Priority × List (Buffer L)) (es : Groups L) (p : Priority) (b : Buffer L) (bs : List (Buffer L))
      → AllByRecursion (λ r. priority_cmp x.0 r ≡ Less) (keys_of (y ∷ es)) → IsLast (y ∷ es) p b bs → IsLast (x ∷ y ∷ es) p b bs
  last-behind x y es p b bs above last =
      let less : priority_cmp x.0 p ≡ Less = less_found x.0 p (y ∷ es) above (ap is_some last.found) in
      let apart : same_priority p x.0 ≡ false = ap is_eq (priority_total.antisymm p x.0 ∙ ap ordering_reverse less) in
      record {
        greatest =
            let place : length (x ∷ y ∷ es) - 1 ≡ suc (length (y ∷ es) - 1) = omega arith in
            ap (λ n. option_map (λ (e : Priority × List (Buffer L)). e.0) (slice_get (x ∷ y ∷ es) n)) place ∙ last.greatest;
        found = ap (λ t. cond t (Some x.1) (lookup (same_priority p) (y ∷ es))) apart ∙ last.found;
        top = λ q found. at q (same_priority q x.0) refl less found;
        flat = λ id.
            ap (λ pins. pins ++ map (pin_for (group_at id x.0)) x.1) (last.flat id)
            ∙ ap (λ groups. pin_for (group_at id p) b ∷ in_order id groups) (sym (without-later p x (y ∷ es) bs apart));
      }
    where
      at : (q : Priority) (t : Bool) → same_priority q x.0 ≡ t → priority_cmp x.0 p ≡ Less → IsSome (cond t (Some x.1) (lookup (same_priority q) (y ∷ es))) → is_le (priority_cmp q p) ≡ true
      at q true e less found = subst (λ r. is_le (priority_cmp r p) ≡ true) (sym (same_exact q x.0 e)) (ap is_le less)
      at q false e less found = last.top q found

  -- there is no group, or one of greatest priority
  abbrev pub HasLast : Groups L → Type 0
  HasLast groups = (groups ≡ []) ⊎ ((p : Priority) × (b : Buffer L) × (bs : List (Buffer L)) × IsLast groups p b bs)

  last-step : (x y : Priority × List (Buffer L)) (es : Groups L) → AllByRecursion (λ r. priority_cmp x.0 r ≡ Less) (keys_of (y ∷ es)) → HasLast (y ∷ es) → HasLast (x ∷ y ∷ es)
  last-step x y es above (inl none) = absurd cc
  last-step x y es above (inr last) = inr (last.0, last.1, last.2, last-behind x y es last.0 last.1 last.2 above last.3)

  last-first : (p : Priority) (chunks : List (Buffer L)) → 0 < length chunks → HasLast ((p, chunks) ∷ [])
  last-first p [] some = absurd (omega arith)
  last-first p (b ∷ bs) some = inr (p, b, bs, last-alone p b bs)

  pub has_last : (groups : Groups L) → IsStrictlySortedBy priority_cmp (keys_of groups) → HaveChunks groups → HasLast groups
  has_last [] sorted some = inl refl
  has_last (x ∷ []) sorted some = last-first x.0 x.1 some.0
  has_last (x ∷ y ∷ es) sorted some =
      last-step x y es (sorted_head priority_cmp x.0 (keys_of (y ∷ es)) sorted) (has_last (y ∷ es) (sorted_tail priority_cmp x.0 (keys_of (y ∷ es)) sorted) some.1)

  -- ---- lanes and pins

  -- a pin of a priority that has a chunk
  own_pin : (p : Priority) (pins : List (Pin L)) → 0 < length (chunks_at p pins) → (pin : Pin L) × (priority_of pin.group ≡ p)
  own_pin p [] some = absurd (omega arith)
  own_pin p (pin ∷ pins) some = at (same_priority p (priority_of pin.group)) refl (own_pin p pins)
    where
      at : (b : Bool) → same_priority p (priority_of pin.group) ≡ b → (0 < length (chunks_at p pins) → (pin : Pin L) × (priority_of pin.group ≡ p)) → (pin : Pin L) × (priority_of pin.group ≡ p)
      at true e rest = (pin, sym (same_exact p (priority_of pin.group) e))
      at false e rest = let less = ap length (chunks_at-cons p pin pins false e) in rest (omega arith)

  pub own_priority : (id : TriggerId) (p : Priority) (pins : List (Pin L)) → 0 < length (chunks_at p pins) → priority_of (group_at id p) ≡ p
  own_priority id p pins some = let own = own_pin p pins some in subst (λ (q : Priority). priority_of (group_at id q) ≡ q) own.1 refl

  -- what is pinned for a group of the id
  pub pins_for-lane : (g : Group) (pins : List (Pin L)) → Under g pins → pins_for g pins ≡ map (pin_for g) (chunks_at (priority_of g) pins)
  pins_for-lane g [] all = refl
  pins_for-lane g (pin ∷ pins) all =
      at (is_for g pin) refl (pins_for-lane g pins all.1) ∙ ap (map (pin_for g)) (sym (chunks_at-cons (priority_of g) pin pins (is_for g pin) (sym (for_priority g pin all.0))))
    where
      at : (b : Bool) → is_for g pin ≡ b → pins_for g pins ≡ map (pin_for g) (chunks_at (priority_of g) pins)
          → cond b (pin ∷ pins_for g pins) (pins_for g pins) ≡ map (pin_for g) (cond b (pin.chunk ∷ chunks_at (priority_of g) pins) (chunks_at (priority_of g) pins))
      at true own rest =
          let group : g ≡ pin.group = same_group-true g pin.group own in
          (λ i. record { group = sym group i; chunk = pin.chunk } ∷ pins_for g pins) ∙ ap (λ ps. pin_for g pin.chunk ∷ ps) rest
      at false own rest = rest

  -- each pin has a lane
  pub all_there : (groups : Groups L) (pins : List (Pin L)) → ((q : Priority) → 0 < length (chunks_at q pins) → IsSome (lookup (same_priority q) groups))
      → AllByRecursion (λ (pin : Pin L). IsSome (lookup (same_priority (priority_of pin.group)) groups)) pins
  all_there groups [] there = tt
  all_there groups (pin ∷ pins) there = (
    there (priority_of pin.group) (let long = ap length (chunks_at-cons (priority_of pin.group) pin pins true (priority_laws.refl (priority_of pin.group))) in omega arith),
    all_there groups pins (λ q some. there q (at q (same_priority q (priority_of pin.group)) refl some)),
  )
    where
      at : (q : Priority) (b : Bool) → same_priority q (priority_of pin.group) ≡ b → 0 < length (chunks_at q pins) → 0 < length (chunks_at q (pin ∷ pins))
      at q true e some = let long = ap length (chunks_at-cons q pin pins true e) in omega arith
      at q false e some = let long = ap length (chunks_at-cons q pin pins false e) in omega arith

  pub lane_there : (groups : Groups L) (pins : List (Pin L)) → HasLanes groups pins → (q : Priority) → 0 < length (chunks_at q pins) → IsSome (lookup (same_priority q) groups)
  lane_there groups pins h q some = at (lookup (same_priority q) groups) refl
    where
      at : (o : Option (List (Buffer L))) → lookup (same_priority q) groups ≡ o → IsSome o
      at None e = absurd (let none = ap (λ o. length (unwrap_or o [])) e in let same = ap length (h.lanes q) in omega arith)
      at (Some old) e = refl

  -- with a group of greatest priority
  below_greatest : (g : Group) (groups : Groups L) (pins : List (Pin L)) → Under g pins
      → ((q : Priority) → IsSome (lookup (same_priority q) groups) → is_le (priority_cmp q (priority_of g)) ≡ true)
      → AllByRecursion (λ (pin : Pin L). IsSome (lookup (same_priority (priority_of pin.group)) groups)) pins → AllByRecursion (Below g) pins
  below_greatest g groups [] all top there = tt
  below_greatest g groups (pin ∷ pins) all top there = (
    record {
      behind = top (priority_of pin.group) there.0;
      own = bool_same (is_no_greater g pin.group) (is_for g pin)
          (λ e. for_priority g pin all.0 ∙ le_both (priority_of g) (priority_of pin.group) e (top (priority_of pin.group) there.0))
          (λ e. same_le (priority_of g) (priority_of pin.group) (sym (for_priority g pin all.0) ∙ e));
    },
    below_greatest g groups pins all.1 top there.1,
  )

  -- the next chunk of the id and the pins without it
  pub record IsNext (id : TriggerId) (groups : Groups L) (pins : List (Pin L)) (p : Priority) (b : Buffer L) (bs : List (Buffer L)) : Type 0 where
    pub own : priority_of (group_at id p) ≡ p
    pub order : ordered_by goes_behind pins ≡ pin_for (group_at id p) b ∷ ordered_by goes_behind (without_first (group_at id p) pins)
    pub kept : HasLanes (without_chunk groups p bs) (without_first (group_at id p) pins)

  pub lanes-next : (id : TriggerId) (groups : Groups L) (pins : List (Pin L)) (p : Priority) (b : Buffer L) (bs : List (Buffer L)) → HasLanes groups pins → AllByRecursion (λ (pin : Pin L). id.0 ≡ pin.group.trigger.0) pins
      → IsLast groups p b bs → IsNext id groups pins p b bs
  lanes-next id groups pins p b bs h all last =
      let chunks : chunks_of groups p ≡ b ∷ bs = ap (λ o. unwrap_or o []) last.found in
      let at_p : chunks_at p pins ≡ b ∷ bs = sym (h.lanes p) ∙ chunks in
      let own = own_priority id p pins (let n = ap length at_p in omega arith) in
      let for : pins_for (group_at id p) pins ≡ map (pin_for (group_at id p)) (b ∷ bs) = pins_for-lane (group_at id p) pins all ∙ ap (λ q. map (pin_for (group_at id p)) (chunks_at q pins)) own ∙ ap (map (pin_for (group_at id p))) at_p in
      let there = all_there groups pins (lane_there groups pins h) in
      let found : IsSome (lookup (same_priority (priority_of (group_at id p))) groups) = ap (λ q. is_some (lookup (same_priority q) groups)) own ∙ ap is_some last.found in
      record {
        own = own;
        order = order_first (group_at id p) pins (pin_for (group_at id p) b)
            (below_greatest (group_at id p) groups pins all (λ q some. ap (λ r. is_le (priority_cmp q r)) own ∙ last.top q some) there)
            (ap (λ ps. slice_get ps 0) for);
        kept = subst (λ (rest : List (Buffer L)). HasLanes (without_chunk groups p rest) (without_first (group_at id p) pins)) (ap (drop 1) chunks)
            (subst (λ (q : Priority). HasLanes (without_chunk groups q (drop 1 (chunks_of groups q))) (without_first (group_at id p) pins)) own
            (lanes-first (group_at id p) groups pins h all found));
      }

  under_rest : (id : TriggerId) (g : Group) (pins : List (Pin L)) → AllByRecursion (λ (pin : Pin L). id.0 ≡ pin.group.trigger.0) pins → AllByRecursion (λ (pin : Pin L). id.0 ≡ pin.group.trigger.0) (without_first g pins)
  under_rest id g [] all = tt
  under_rest id g (pin ∷ pins) all = at (is_for g pin) (under_rest id g pins all.1)
    where
      at : (b : Bool) → AllByRecursion (λ (pin : Pin L). id.0 ≡ pin.group.trigger.0) (without_first g pins) → AllByRecursion (λ (pin : Pin L). id.0 ≡ pin.group.trigger.0) (cond b pins (pin ∷ without_first g pins))
      at true rest = all.1
      at false rest = (all.0, rest)

  nothing_counted : (groups : Groups L) (pins : List (Pin L)) → HasLanes groups pins → groups ≡ [] → pins ≡ []
  nothing_counted groups pins h e = nil_from_length pins (let n = ap count_of e in let c = h.count in omega arith)

  -- what waits is what is pinned, in order
  waits_within : (n : ℕ) (id : TriggerId) (groups : Groups L) (pins : List (Pin L)) → count_of groups ≡ n → HasLanes groups pins → AllByRecursion (λ (pin : Pin L). id.0 ≡ pin.group.trigger.0) pins → HasLast groups
      → in_order id groups ≡ ordered_by goes_behind pins
  waits_within n id groups pins e h all (inl none) = ap (in_order id) none ∙ sym (ap (ordered_by goes_behind) (nothing_counted groups pins h none))
  waits_within zero id groups pins e h all (inr last) =
      absurd (let next = lanes-next id groups pins last.0 last.1 last.2 h all last.3 in
      let none : pins ≡ [] = nil_from_length pins (let c = h.count in omega arith) in
      let o : ordered_by goes_behind pins ≡ [] = ap (ordered_by goes_behind) none in
      let f = next.order in cc)
  waits_within (suc n) id groups pins e h all (inr last) =
      let next = lanes-next id groups pins last.0 last.1 last.2 h all last.3 in
      last.3.flat id
      ∙ ap (λ ps. pin_for (group_at id last.0) last.1 ∷ ps)
      (waits_within n id (without_chunk groups last.0 last.2) (without_first (group_at id last.0) pins)
      (fewer n groups pins last.0 last.1 last.2 e h next) next.kept (under_rest id (group_at id last.0) pins all) (has_last (without_chunk groups last.0 last.2) next.kept.rising next.kept.some))
      ∙ sym next.order
    where
      length-put : (x : Pin L) (ys : List (Pin L)) → length (put_by goes_behind x ys) ≡ suc (length ys)
      length-put x [] = refl
      length-put x (y ∷ ys) = go (goes_behind y x) (length-put x ys)
        where
          go : (b : Bool) → length (put_by goes_behind x ys) ≡ suc (length ys) → length (cond b (x ∷ y ∷ ys) (y ∷ put_by goes_behind x ys)) ≡ suc (length (y ∷ ys))
          go true r = refl
          go false r = ap suc r

      length-ordered : (xs : List (Pin L)) → length (ordered_by goes_behind xs) ≡ length xs
      length-ordered [] = refl
      length-ordered (x ∷ xs) = length-put x (ordered_by goes_behind xs) ∙ ap suc (length-ordered xs)

      fewer : (n : ℕ) (groups : Groups L) (pins : List (Pin L)) (p : Priority) (b : Buffer L) (bs : List (Buffer L)) → count_of groups ≡ suc n → HasLanes groups pins → IsNext id groups pins p b bs
          → count_of (without_chunk groups p bs) ≡ n
      fewer n groups pins p b bs e h next =
          let a = length-ordered pins in
          let c = length-ordered (without_first (group_at id p) pins) in
          let o = ap length next.order in
          let d = h.count in let k = next.kept.count in omega arith

  pub lanes-wait : (id : TriggerId) (groups : Groups L) (pins : List (Pin L)) → HasLanes groups pins → AllByRecursion (λ (pin : Pin L). id.0 ≡ pin.group.trigger.0) pins → in_order id groups ≡ ordered_by goes_behind pins
  lanes-wait id groups pins h all = waits_within (count_of groups) id groups pins refl h all (has_last groups h.rising h.some)

  -- the next chunk by the groups alone, and what waits without it
  pub record IsNextOf (groups : Groups L) (id : TriggerId) : Type 0 where
    pub first : option_map (λ (next : Priority × Buffer L). pin_for (group_at id next.0) next.1) (next_of groups) ≡ slice_get (in_order id groups) 0
    pub left : in_order id (without_next groups (greatest_of groups)) ≡ drop 1 (in_order id groups)

  pub next_by_groups : (groups : Groups L) (count : ℕ) (id : TriggerId) → IsKept groups count → IsNextOf groups id
  next_by_groups groups count id h = at (has_last groups h.rising h.counted.some)
    where
      at : HasLast groups → IsNextOf groups id
      at (inl none) = subst (λ (gs : Groups L). IsNextOf gs id) (sym none) (record { first = refl; left = refl })
      at (inr last) =
          let chunks : chunks_of groups last.0 ≡ last.1 ∷ last.2 = ap (λ o. unwrap_or o []) last.3.found in
          let next : next_of groups ≡ Some (last.0, last.1) =
          ap (option_and_then (λ (priority : Priority). option_map (λ (b : Buffer L). (priority, b)) (slice_get (chunks_of groups priority) 0))) last.3.greatest
          ∙ ap (λ cs. option_map (λ (b : Buffer L). (last.0, b)) (slice_get cs 0)) chunks in
          record {
            first = ap (option_map (λ (next : Priority × Buffer L). pin_for (group_at id next.0) next.1)) next ∙ sym (ap (λ ps. slice_get ps 0) (last.3.flat id));
            left = ap (λ o. in_order id (without_next groups o)) last.3.greatest ∙ ap (λ cs. in_order id (without_chunk groups last.0 (drop 1 cs))) chunks ∙ sym (ap (drop 1) (last.3.flat id));
          }

  pub first_taken : (es now : Groups L) (p : Priority) (b : Buffer L) (count : ℕ) (id : TriggerId) → IsKept es count → es ≡ now → Some p ≡ greatest_of es → slice_get (chunks_of es p) 0 ≡ Some b
      → Some (pin_for (group_at id p) b) ≡ slice_get (in_order id now) 0
  first_taken es now p b count id h same greatest first =
      let next : next_of es ≡ Some (p, b) =
      ap (option_and_then (λ (priority : Priority). option_map (λ (b : Buffer L). (priority, b)) (slice_get (chunks_of es priority) 0))) (sym greatest)
      ∙ ap (option_map (λ (b : Buffer L). (p, b))) first in
      ap (option_map (λ (next : Priority × Buffer L). pin_for (group_at id next.0) next.1)) (sym next) ∙ (next_by_groups es count id h).first ∙ ap (λ gs. slice_get (in_order id gs) 0) same

  pub left_taken : (es now new : Groups L) (p : Priority) (count : ℕ) (id : TriggerId) → IsKept es count → es ≡ now → Some p ≡ greatest_of es → new ≡ without_chunk es p (drop 1 (chunks_of es p))
      → in_order id new ≡ drop 1 (in_order id now)
  left_taken es now new p count id h same greatest rest =
      ap (in_order id) (rest ∙ ap (without_next es) greatest) ∙ (next_by_groups es count id h).left ∙ ap (λ gs. drop 1 (in_order id gs)) same

  pub none_left : (es now : Groups L) (count : ℕ) → IsKept es count → es ≡ now → greatest_of es ≡ None → now ≡ []
  none_left es now count h same none = at (has_last es h.rising h.counted.some)
    where
      at : HasLast es → now ≡ []
      at (inl empty) = sym same ∙ empty
      at (inr last) = let g = last.3.greatest in absurd cc

  pub first_used : (es now : Groups L) (p : Priority) (pile : List (Buffer L)) (count : ℕ) (id : TriggerId) → IsKept es count → es ≡ now → slice_get es (length es - 1) ≡ Some (p, pile) → lookup (same_priority p) es ≡ Some pile
      → option_map used_bytes (slice_get pile 0) ≡ option_map (λ (pin : Pin L). used_bytes pin.chunk) (slice_get (in_order id now) 0)
  first_used es now p pile count id h same last found =
      at pile (ap (λ o. option_map (λ (e : Priority × List (Buffer L)). e.0) o) last) (ap (λ o. unwrap_or o []) found) (some-found (same_priority p) es pile h.counted.some found)
    where
      at : (chunks : List (Buffer L)) → greatest_of es ≡ Some p → chunks_of es p ≡ chunks → 0 < length chunks → option_map used_bytes (slice_get chunks 0) ≡ option_map (λ (pin : Pin L). used_bytes pin.chunk) (slice_get (in_order id now) 0)
      at [] greatest is some = absurd (omega arith)
      at (b ∷ bs) greatest is some = ap (option_map (λ (pin : Pin L). used_bytes pin.chunk)) (first_taken es now p b count id h same (sym greatest) (ap (λ cs. slice_get cs 0) is))
