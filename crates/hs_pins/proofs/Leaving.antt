-- Groups go one after another: what is left after the first goes on as it would alone.
use Rattle.std.proofs.Common.{◌≡◌, ℕ, ◌<◌, ◌≤◌, Bool, true, false, cond, ◌||◌, List, [], ◌∷◌, ◌++◌, length, map, drop, Some, refl, sym, ap, subst, ◌∙◌, arith, inl, inr, true≢false, append-nil, append_assoc}
use Rattle.hs_pins.proofs.Prelude.{◌⊎◌, ◌==◌, nat_lt, filter, slice_get, option_map_or, option_and_then, list_any, Ordering, is_le, lt-ltb, ltb-true, ltb-false, eq-eqb, TriggerId, Group, Buffer, Priority, Mark, group_at, mark_of, same_mark, group_cmp, same_group, least, id_cmp, fullest_id, least_of_id, next_to_go, leaving, staying, going, relieved, Groups, Queues, with_groups, total_of, IsFullest, Pin, Remembered, pin_for, is_for, pins_for, without_group, is_abandoned, HasPinned, with_mark}
use Rattle.std.proofs.lemmas.Bool.{le-ltb}
use Rattle.std.proofs.lemmas.List.Folds.{list_any-append}
use Rattle.hs_pins.specs.Abandoning.{groups_of, leaving_within, drops}
use Rattle.hs_pins.specs.Queues as lanes
use Rattle.hs_pins.specs.PinsLayout.{HasMarks, GroupGoes, abandoned_one}
use Rattle.hs_pins.proofs.Order.{same_group-refl, same_group-true, same_mark-group}
use Rattle.hs_pins.proofs.Lanes.{length-without_group}
use Rattle.hs_pins.proofs.Queued.{queues-least}
use Rattle.hs_pins.proofs.Choice.{Among, victim}

-- ---- somebody is next

least_among : {X : Type 0} (cmp : X → X → Ordering) (x : X) (xs : List X) → (y : X) × (least cmp (x ∷ xs) ≡ Some y) × Among (x ∷ xs) y
least_among cmp x [] = (x, refl, inl refl)
least_among cmp x (z ∷ zs) = at (least_among cmp z zs)
  where
    at : (y : _) × (least cmp (z ∷ zs) ≡ Some y) × Among (z ∷ zs) y → (y : _) × (least cmp (x ∷ z ∷ zs) ≡ Some y) × Among (x ∷ z ∷ zs) y
    at l = go (is_le (cmp x l.0)) refl
      where
        go : (b : Bool) → is_le (cmp x l.0) ≡ b → (y : _) × (least cmp (x ∷ z ∷ zs) ≡ Some y) × Among (x ∷ z ∷ zs) y
        go true e = (x, ap (λ o. Some (option_map_or (λ y. cond (is_le (cmp x y)) x y) o x)) l.1 ∙ ap (λ b. Some (cond b x l.0)) e, inl refl)
        go false e = (l.0, ap (λ o. Some (option_map_or (λ y. cond (is_le (cmp x y)) x y) o x)) l.1 ∙ ap (λ b. Some (cond b x l.0)) e, inr l.2)

some_least : {X : Type 0} (cmp : X → X → Ordering) (xs : List X) → 0 < length xs → (y : X) × (least cmp xs ≡ Some y) × Among xs y
some_least cmp [] some = absurd (omega arith)
some_least cmp (x ∷ xs) some = least_among cmp x xs

of_id : (id : ℕ) (groups : List Group) → Among (map (λ (g : Group). g.trigger.0) groups) id → 0 < length (filter (λ (g : Group). g.trigger.0 == id) groups)
of_id id [] among = absurd among
of_id id (g ∷ groups) among = at (g.trigger.0 == id) refl among (of_id id groups)
  where
    at : (b : Bool) → (g.trigger.0 == id) ≡ b → (id ≡ g.trigger.0) ⊎ Among (map (λ (g : Group). g.trigger.0) groups) id → (Among (map (λ (g : Group). g.trigger.0) groups) id → 0 < length (filter (λ (g : Group). g.trigger.0 == id) groups))
        → 0 < length (cond b (g ∷ filter (λ (g : Group). g.trigger.0 == id) groups) (filter (λ (g : Group). g.trigger.0 == id) groups))
    at true e among rest = omega arith
    at false e (inl here) rest = absurd (true≢false (sym (eq-eqb g.trigger.0 id (sym here)) ∙ e))
    at false e (inr there) rest = rest there

among_filtered : (test : Group → Bool) (groups : List Group) (g : Group) → Among (filter test groups) g → Among groups g
among_filtered test [] g among = absurd among
among_filtered test (h ∷ groups) g among = at (test h) among (among_filtered test groups g)
  where
    at : (b : Bool) → Among (cond b (h ∷ filter test groups) (filter test groups)) g → (Among (filter test groups) g → Among groups g) → (g ≡ h) ⊎ Among groups g
    at true (inl here) rest = inl here
    at true (inr there) rest = inr (rest there)
    at false there rest = inr (rest there)

mapped_some : (groups : List Group) → 0 < length groups → 0 < length (map (λ (g : Group). g.trigger.0) groups)
mapped_some [] some = absurd (omega arith)
mapped_some (g ∷ groups) some = omega arith

next_some : (groups : List Group) → 0 < length groups → (g : Group) × (next_to_go groups ≡ Some g) × Among groups g
next_some groups some = at (some_least (id_cmp groups) (map (λ (g : Group). g.trigger.0) groups) (mapped_some groups some))
  where
    at : (id : ℕ) × (fullest_id groups ≡ Some id) × Among (map (λ (g : Group). g.trigger.0) groups) id → (g : Group) × (next_to_go groups ≡ Some g) × Among groups g
    at l = go (some_least group_cmp (filter (λ (g : Group). g.trigger.0 == l.0) groups) (of_id l.0 groups l.2))
      where
        go : (g : Group) × (least_of_id groups l.0 ≡ Some g) × Among (filter (λ (g : Group). g.trigger.0 == l.0) groups) g → (g : Group) × (next_to_go groups ≡ Some g) × Among groups g
        go m = (m.0, ap (option_and_then (least_of_id groups)) l.1 ∙ m.1, among_filtered (λ (g : Group). g.trigger.0 == l.0) groups m.0 m.2)

-- ---- marks

marked : (g other : Group) (marks : List Mark) (groups : List Group) → HasMarks marks groups → (b : Bool) → list_any (same_mark (mark_of g)) marks ≡ b
    → list_any (same_mark (mark_of other)) (cond b marks (marks ++ mark_of g ∷ [])) ≡ is_abandoned (groups ++ g ∷ []) other
marked g other marks groups h true e =
    h other ∙ at (same_group other g) refl (is_abandoned groups other) refl ∙ sym (list_any-append (same_group other) groups (g ∷ []))
  where
    at : (s : Bool) → same_group other g ≡ s → (b : Bool) → is_abandoned groups other ≡ b → b ≡ (b || (s || false))
    at s f true k = refl
    at false f false k = refl
    at true f false k = absurd (true≢false (sym (ap (is_abandoned groups) (same_group-true other g f) ∙ sym (h g) ∙ e) ∙ k))
marked g other marks groups h false e =
    list_any-append (same_mark (mark_of other)) marks (mark_of g ∷ [])
    ∙ ap (λ b. b || (same_mark (mark_of other) (mark_of g) || false)) (h other)
    ∙ ap (λ b. is_abandoned groups other || (b || false)) (same_mark-group other g)
    ∙ sym (list_any-append (same_group other) groups (g ∷ []))

pub marks-more : (g : Group) (marks : List Mark) (groups : List Group) → HasMarks marks groups → HasMarks (with_mark marks (mark_of g)) (groups ++ g ∷ [])
marks-more g marks groups h other = marked g other marks groups h (list_any (same_mark (mark_of g)) marks) refl

module _ {L : Type 0} where
  pins_among : (g : Group) (pins : List (Pin L)) → Among (groups_of pins) g → 0 < length (pins_for g pins)
  pins_among g [] among = absurd among
  pins_among g (pin ∷ pins) among = at (is_for g pin) refl among (pins_among g pins)
    where
      at : (b : Bool) → is_for g pin ≡ b → (g ≡ pin.group) ⊎ Among (groups_of pins) g → (Among (groups_of pins) g → 0 < length (pins_for g pins)) → 0 < length (cond b (pin ∷ pins_for g pins) (pins_for g pins))
      at true e among rest = omega arith
      at false e (inl here) rest = absurd (true≢false (sym (subst (λ (h : Group). same_group g h ≡ true) here (same_group-refl g)) ∙ e))
      at false e (inr there) rest = rest there

  groups_some : (pins : List (Pin L)) → 0 < length pins → 0 < length (groups_of pins)
  groups_some [] some = absurd (omega arith)
  groups_some (pin ∷ pins) some = omega arith

  -- who is next takes a chunk at least
  pub next_takes : (pins : List (Pin L)) → 0 < length pins → (g : Group) × (next_to_go (groups_of pins) ≡ Some g) × (length (without_group g pins) < length pins)
  next_takes pins some = at (next_some (groups_of pins) (groups_some pins some))
    where
      at : (g : Group) × (next_to_go (groups_of pins) ≡ Some g) × Among (groups_of pins) g → (g : Group) × (next_to_go (groups_of pins) ≡ Some g) × (length (without_group g pins) < length pins)
      at l = (l.0, l.1, let n = length-without_group l.0 pins in let s = pins_among l.0 pins l.2 in omega arith)

  fewer_next : (g : Group) (pins : List (Pin L)) → 0 < length pins → next_to_go (groups_of pins) ≡ Some g → length (without_group g pins) < length pins
  fewer_next g pins some e =
      let l = next_takes pins some in
      let f : next_to_go (groups_of pins) ≡ Some l.0 = l.1 in
      let same : l.0 ≡ g = cc in
      subst (λ (h : Group). length (without_group h pins) < length pins) same l.2

  -- ---- as many rounds as are needed

  leaving-few : (most : ℕ) (rounds pins : List (Pin L)) → length pins ≤ most → leaving_within most rounds pins ≡ []
  leaving-few most [] pins few = refl
  leaving-few most (round ∷ rounds) pins few =
      ap (λ b. cond b (option_map_or (λ group. group ∷ leaving_within most rounds (without_group group pins)) (next_to_go (groups_of pins)) []) []) (le-ltb most (length pins) few)

  leaving-over : (most : ℕ) (round : Pin L) (rounds pins : List (Pin L)) (g : Group) → most < length pins → next_to_go (groups_of pins) ≡ Some g
      → leaving_within most (round ∷ rounds) pins ≡ g ∷ leaving_within most rounds (without_group g pins)
  leaving-over most round rounds pins g over e =
      ap (λ b. cond b (option_map_or (λ group. group ∷ leaving_within most rounds (without_group group pins)) (next_to_go (groups_of pins)) []) []) (lt-ltb most (length pins) over)
      ∙ ap (λ o. option_map_or (λ group. group ∷ leaving_within most rounds (without_group group pins)) o []) e

  leaving-rounds : (most : ℕ) (rounds others pins : List (Pin L)) → length pins ≤ length rounds → length pins ≤ length others → leaving_within most rounds pins ≡ leaving_within most others pins
  leaving-rounds most [] others pins few enough = sym (leaving-few most others pins (omega arith))
  leaving-rounds most (round ∷ rounds) [] pins few enough = leaving-few most (round ∷ rounds) pins (omega arith)
  leaving-rounds most (round ∷ rounds) (other ∷ others) pins few enough = at (nat_lt most (length pins)) refl (λ g. leaving-rounds most rounds others (without_group g pins))
    where
      at : (b : Bool) → nat_lt most (length pins) ≡ b → ((g : Group) → length (without_group g pins) ≤ length rounds → length (without_group g pins) ≤ length others → leaving_within most rounds (without_group g pins) ≡ leaving_within most others (without_group g pins))
          → leaving_within most (round ∷ rounds) pins ≡ leaving_within most (other ∷ others) pins
      at true e rest =
          let over : most < length pins = ltb-true most (length pins) e in
          let l = next_takes pins (omega arith) in
          let less = l.2 in
          leaving-over most round rounds pins l.0 over l.1 ∙ ap (λ gs. l.0 ∷ gs) (rest l.0 (omega arith) (omega arith)) ∙ sym (leaving-over most other others pins l.0 over l.1)
      at false e rest = let few_enough = ltb-false most (length pins) e in leaving-few most (round ∷ rounds) pins few_enough ∙ sym (leaving-few most (other ∷ others) pins few_enough)

  pub leaving-step : (most : ℕ) (pins : List (Pin L)) (g : Group) → most < length pins → next_to_go (groups_of pins) ≡ Some g → leaving most pins ≡ g ∷ leaving most (without_group g pins)
  leaving-step most [] g over e = absurd (omega arith)
  leaving-step most (pin ∷ pins) g over e =
      let less = fewer_next g (pin ∷ pins) (omega arith) e in
      leaving-over most pin pins (pin ∷ pins) g over e ∙ ap (λ gs. g ∷ gs) (leaving-rounds most pins (without_group g (pin ∷ pins)) (without_group g (pin ∷ pins)) (omega arith) (omega arith))

  -- ---- the whole of it

  pub relieved-few : (memory : Remembered L) → length memory.pinned ≤ memory.most → relieved memory ≡ memory
  relieved-few memory few =
      let none : leaving memory.most memory.pinned ≡ [] = leaving-few memory.most memory.pinned memory.pinned few in
      ap (λ groups. record memory { pinned = staying groups memory.pinned; abandoned = memory.abandoned ++ groups }) none
      ∙ ap (λ groups. record memory { abandoned = groups }) (append-nil memory.abandoned)

  pub drops-few : (memory : Remembered L) → length memory.pinned ≤ memory.most → drops memory ≡ []
  drops-few memory few = ap (λ groups. going groups memory.pinned) (leaving-few memory.most memory.pinned memory.pinned few)

  pub relieved-step : (memory : Remembered L) (g : Group) → memory.most < length memory.pinned → next_to_go (groups_of memory.pinned) ≡ Some g → relieved (abandoned_one memory g) ≡ relieved memory
  relieved-step memory g over next =
      ap (λ groups. record memory { pinned = staying (leaving memory.most (without_group g memory.pinned)) (without_group g memory.pinned); abandoned = groups })
      (append_assoc memory.abandoned (g ∷ []) (leaving memory.most (without_group g memory.pinned)))
      ∙ ap (λ groups. record memory { pinned = staying groups memory.pinned; abandoned = memory.abandoned ++ groups }) (sym (leaving-step memory.most memory.pinned g over next))

  pub drops-step : (memory : Remembered L) (g : Group) → memory.most < length memory.pinned → next_to_go (groups_of memory.pinned) ≡ Some g → drops memory ≡ pins_for g memory.pinned ++ drops (abandoned_one memory g)
  drops-step memory g over next = ap (λ groups. going groups memory.pinned) (leaving-step memory.most memory.pinned g over next)

  within_few : (most : ℕ) (pins : List (Pin L)) → length pins ≤ most → length (staying (leaving most pins) pins) ≤ most
  within_few most pins few = subst (λ groups. length (staying groups pins) ≤ most) (sym (leaving-few most pins pins few)) few

  within_rounds : (most : ℕ) (rounds pins : List (Pin L)) → length pins ≤ length rounds → length (staying (leaving most pins) pins) ≤ most
  within_rounds most [] pins few = within_few most pins (omega arith)
  within_rounds most (round ∷ rounds) pins few = at (nat_lt most (length pins)) refl (λ g less. within_rounds most rounds (without_group g pins) less)
    where
      at : (b : Bool) → nat_lt most (length pins) ≡ b → ((g : Group) → length (without_group g pins) ≤ length rounds → length (staying (leaving most (without_group g pins)) (without_group g pins)) ≤ most)
          → length (staying (leaving most pins) pins) ≤ most
      at false e rest = within_few most pins (ltb-false most (length pins) e)
      at true e rest =
          let over : most < length pins = ltb-true most (length pins) e in
          let l = next_takes pins (omega arith) in
          let less = l.2 in
          subst (λ groups. length (staying groups pins) ≤ most) (sym (leaving-step most pins l.0 over l.1)) (rest l.0 (omega arith))

  pub relieved-within : (memory : Remembered L) → length (relieved memory).pinned ≤ memory.most
  relieved-within memory = within_rounds memory.most memory.pinned memory.pinned (omega arith)

  -- ---- one group goes

  first_lane : (groups : Groups L) (p : Priority) (chunks : List (Buffer L)) → Some (p, chunks) ≡ slice_get groups 0 → groups ≡ (p, chunks) ∷ drop 1 groups
  first_lane [] p chunks e = absurd cc
  first_lane (x ∷ groups) p chunks e = let same : (p, chunks) ≡ x = cc in ap (λ y. y ∷ groups) (sym same)

  pub group_goes : (id : TriggerId) (p : Priority) (chunks : List (Buffer L)) (queues now : Queues L) (marks after : List Mark) (memory : Remembered L) (before dropped : List (Pin L)) → HasPinned queues marks memory → IsFullest queues id
      → Some (p, chunks) ≡ slice_get (lanes.groups_of queues id) 0 → now ≡ with_groups queues id (drop 1 (lanes.groups_of queues id)) → after ≡ with_mark marks (mark_of (group_at id p))
      → dropped ≡ before ++ map (pin_for (group_at id p)) chunks → GroupGoes memory now after before dropped
  group_goes id p chunks queues now marks after memory before dropped h full first rest mark gone =
      let lane = first_lane (lanes.groups_of queues id) p chunks first in
      let v = victim id p chunks (drop 1 (lanes.groups_of queues id)) queues memory.rules memory.pinned h.chunks full lane in
      record {
        group = group_at id p;
        next = v.next;
        kept = record {
          chunks = queues-least id p chunks (drop 1 (lanes.groups_of queues id)) queues now memory.rules memory.pinned h.chunks lane v.own rest;
          groups = subst (λ (ms : List Mark). HasMarks ms (memory.abandoned ++ group_at id p ∷ [])) (sym mark) (marks-more (group_at id p) marks memory.abandoned h.groups);
        };
        drops = gone ∙ ap (λ ps. before ++ ps) (sym v.chunks_for);
      }

  -- ---- the loop

  -- What was remembered became this by groups that went; the rest goes on as all of it would.
  pub record GoesOn (memory : Remembered L) (queues : Queues L) (marks : List Mark) (before now : List (Pin L)) : Type 0 where
    pub later : Remembered L
    pub most : later.most ≡ memory.most
    pub kept : HasPinned queues marks later
    pub same : relieved later ≡ relieved memory
    pub dropped : now ++ drops later ≡ before ++ drops memory

  pub begins : (memory : Remembered L) (queues : Queues L) (marks : List Mark) (before : List (Pin L)) → HasPinned queues marks memory → GoesOn memory queues marks before before
  begins memory queues marks before h = record { later = memory; most = refl; kept = h; same = refl; dropped = refl }

  pub goes_on : (memory : Remembered L) (queues now : Queues L) (marks after : List Mark) (before dropped more : List (Pin L)) (g : GoesOn memory queues marks before dropped) → memory.most < total_of queues
      → GroupGoes g.later now after dropped more → GoesOn memory now after before more
  goes_on memory queues now marks after before dropped more g over goes =
      let many : g.later.most < length g.later.pinned = let t = g.kept.chunks.total in let m = g.most in omega arith in
      record {
        later = abandoned_one g.later goes.group;
        most = g.most;
        kept = goes.kept;
        same = relieved-step g.later goes.group many goes.next ∙ g.same;
        dropped =
            ap (λ ps. ps ++ drops (abandoned_one g.later goes.group)) goes.drops
            ∙ append_assoc dropped (pins_for goes.group g.later.pinned) (drops (abandoned_one g.later goes.group))
            ∙ ap (λ ps. dropped ++ ps) (sym (drops-step g.later goes.group many goes.next)) ∙ g.dropped;
      }

  pub ends_kept : (memory : Remembered L) (queues : Queues L) (marks : List Mark) (before dropped : List (Pin L)) (g : GoesOn memory queues marks before dropped) → total_of queues ≤ memory.most → HasPinned queues marks (relieved memory)
  ends_kept memory queues marks before dropped g few =
      subst (HasPinned queues marks) (sym (relieved-few g.later (let t = g.kept.chunks.total in let m = g.most in omega arith)) ∙ g.same) g.kept

  pub ends_dropped : (memory : Remembered L) (queues : Queues L) (marks : List Mark) (before dropped : List (Pin L)) (g : GoesOn memory queues marks before dropped) → total_of queues ≤ memory.most → dropped ≡ before ++ drops memory
  ends_dropped memory queues marks before dropped g few =
      sym (append-nil dropped) ∙ ap (λ ps. dropped ++ ps) (sym (drops-few g.later (let t = g.kept.chunks.total in let m = g.most in omega arith))) ∙ g.dropped
