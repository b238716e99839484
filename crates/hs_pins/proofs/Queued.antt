-- The queues of all trigger ids, as what is pinned at the node changes.
use Rattle.std.proofs.Common.{◌≡◌, ◌+◌, ◌<◌, Bool, true, false, not, cond, ◌||◌, List, [], ◌∷◌, ◌++◌, length, map, drop, Option, Some, None, IsSome, unwrap_or, refl, sym, ap, subst, ◌∙◌, arith, inl, inr, length-append, true≢false}
use Rattle.hs_pins.proofs.Prelude.{◌==◌, is_some, slice_get, option_map_or, AllByRecursion, list_any, lookup, lookup-set_value, set_value_same, eqb-true, eq-eqb, append-nil, filter-append, bool_same, TriggerId, TriggerRule, Group, is_declared, Buffer, Priority, priority_of, same_priority, group_at, Groups, count_of, chunks_of, pinned, greatest_of, Queues, same_id, groups_of, with_groups, pinned_in, total_of, Pin, pin_for, is_for, pins_for, pins_under, without_group, without_first, order_of, HasLanes, HasQueues, in_order}
use Rattle.hs_pins.specs.Groups.{without_next as without_next_lane, without_first as without_chunk}
use Rattle.hs_pins.specs.Remembered.{is_under}
use Rattle.hs_pins.specs.Waiting.{without_next}
use Rattle.hs_pins.proofs.Order.{same_group-true}
use Rattle.hs_pins.proofs.Lanes.{lanes-more, lanes-rest, length-without_first, length-without_group, any_found}
use Rattle.hs_pins.proofs.Waits.{HasLast, has_last, lanes-next, lanes-wait}
use Rattle.hs_pins.proofs.QueueLemmas.{total-set, set_value-none}
use Rattle.hs_pins.proofs.Fullest.{id_laws, same_id-true}

-- whether two ids are one, by their numbers
pub same_id-test : (a b : TriggerId) → same_id a b ≡ (a.0 == b.0)
same_id-test a b =
    bool_same (same_id a b) (a.0 == b.0)
    (λ e. eq-eqb a.0 b.0 (ap (λ (t : TriggerId). t.0) (same_id-true a b e)))
    (λ e. let same : a.0 ≡ b.0 = eqb-true a.0 b.0 e in subst (λ (t : TriggerId). same_id a t ≡ true) (λ i. record { 0 = same i }) (id_laws.refl a))

pub one_id : (p x y : TriggerId) → same_id p x ≡ true → same_id p y ≡ same_id x y
one_id p x y e = id_laws.congr p x y e

module _ {L : Type 0} where
  -- ---- what is pinned for an id

  pub under_all : (id : TriggerId) (pins : List (Pin L)) → AllByRecursion (λ (pin : Pin L). id.0 ≡ pin.group.trigger.0) (pins_under id pins)
  under_all id [] = tt
  under_all id (pin ∷ pins) = at (is_under id pin) refl (under_all id pins)
    where
      at : (b : Bool) → is_under id pin ≡ b → AllByRecursion (λ (pin : Pin L). id.0 ≡ pin.group.trigger.0) (pins_under id pins) → AllByRecursion (λ (pin : Pin L). id.0 ≡ pin.group.trigger.0) (cond b (pin ∷ pins_under id pins) (pins_under id pins))
      at true e rest = (sym (eqb-true pin.group.trigger.0 id.0 e), rest)
      at false e rest = rest

  under-new : (id : TriggerId) (g : Group) (bs : List (Buffer L)) (b : Bool) → (g.trigger.0 == id.0) ≡ b → pins_under id (map (pin_for g) bs) ≡ cond b (map (pin_for g) bs) []
  under-new id g [] true e = refl
  under-new id g [] false e = refl
  under-new id g (x ∷ bs) true e = ap (λ t. cond t (pin_for g x ∷ pins_under id (map (pin_for g) bs)) (pins_under id (map (pin_for g) bs))) e ∙ ap (λ ps. pin_for g x ∷ ps) (under-new id g bs true e)
  under-new id g (x ∷ bs) false e = ap (λ t. cond t (pin_for g x ∷ pins_under id (map (pin_for g) bs)) (pins_under id (map (pin_for g) bs))) e ∙ under-new id g bs false e

  under-more : (id : TriggerId) (g : Group) (pins : List (Pin L)) (bs : List (Buffer L)) (b : Bool) → (g.trigger.0 == id.0) ≡ b
      → pins_under id (pins ++ map (pin_for g) bs) ≡ pins_under id pins ++ cond b (map (pin_for g) bs) []
  under-more id g pins bs b e = filter-append (is_under id) pins (map (pin_for g) bs) ∙ ap (λ ps. pins_under id pins ++ ps) (under-new id g bs b e)

  under-same : (id : TriggerId) (g : Group) (pin : Pin L) → is_for g pin ≡ true → is_under id pin ≡ (g.trigger.0 == id.0)
  under-same id g pin e = ap (λ (k : Group). k.trigger.0 == id.0) (sym (same_group-true g pin.group e))

  under-without_first : (id : TriggerId) (g : Group) (pins : List (Pin L)) (b : Bool) → (g.trigger.0 == id.0) ≡ b
      → pins_under id (without_first g pins) ≡ cond b (without_first g (pins_under id pins)) (pins_under id pins)
  under-without_first id g [] true e = refl
  under-without_first id g [] false e = refl
  under-without_first id g (pin ∷ pins) b e = at (is_for g pin) refl (is_under id pin) refl b e (under-without_first id g pins b e)
    where
      at : (f : Bool) → is_for g pin ≡ f → (u : Bool) → is_under id pin ≡ u → (b : Bool) → (g.trigger.0 == id.0) ≡ b
          → pins_under id (without_first g pins) ≡ cond b (without_first g (pins_under id pins)) (pins_under id pins)
          → pins_under id (cond f pins (pin ∷ without_first g pins)) ≡ cond b (without_first g (cond u (pin ∷ pins_under id pins) (pins_under id pins))) (cond u (pin ∷ pins_under id pins) (pins_under id pins))
      at true fe true ue true e ih = sym (ap (λ t. cond t (pins_under id pins) (pin ∷ without_first g (pins_under id pins))) fe)
      at true fe false ue true e ih = absurd (true≢false (sym (under-same id g pin fe ∙ e) ∙ ue))
      at true fe true ue false e ih = absurd (true≢false (sym ue ∙ under-same id g pin fe ∙ e))
      at true fe false ue false e ih = refl
      at false fe true ue true e ih =
          ap (λ t. cond t (pin ∷ pins_under id (without_first g pins)) (pins_under id (without_first g pins))) ue ∙ ap (λ ps. pin ∷ ps) ih
          ∙ sym (ap (λ t. cond t (pins_under id pins) (pin ∷ without_first g (pins_under id pins))) fe)
      at false fe false ue true e ih = ap (λ t. cond t (pin ∷ pins_under id (without_first g pins)) (pins_under id (without_first g pins))) ue ∙ ih
      at false fe true ue false e ih = ap (λ t. cond t (pin ∷ pins_under id (without_first g pins)) (pins_under id (without_first g pins))) ue ∙ ap (λ ps. pin ∷ ps) ih
      at false fe false ue false e ih = ap (λ t. cond t (pin ∷ pins_under id (without_first g pins)) (pins_under id (without_first g pins))) ue ∙ ih

  under-without_group : (id : TriggerId) (g : Group) (pins : List (Pin L)) (b : Bool) → (g.trigger.0 == id.0) ≡ b
      → pins_under id (without_group g pins) ≡ cond b (without_group g (pins_under id pins)) (pins_under id pins)
  under-without_group id g [] true e = refl
  under-without_group id g [] false e = refl
  under-without_group id g (pin ∷ pins) b e = at (is_for g pin) refl (is_under id pin) refl b e (under-without_group id g pins b e)
    where
      at : (f : Bool) → is_for g pin ≡ f → (u : Bool) → is_under id pin ≡ u → (b : Bool) → (g.trigger.0 == id.0) ≡ b
          → pins_under id (without_group g pins) ≡ cond b (without_group g (pins_under id pins)) (pins_under id pins)
          → pins_under id (cond (not f) (pin ∷ without_group g pins) (without_group g pins)) ≡ cond b (without_group g (cond u (pin ∷ pins_under id pins) (pins_under id pins))) (cond u (pin ∷ pins_under id pins) (pins_under id pins))
      at true fe true ue true e ih = ih ∙ sym (ap (λ t. cond (not t) (pin ∷ without_group g (pins_under id pins)) (without_group g (pins_under id pins))) fe)
      at true fe false ue true e ih = absurd (true≢false (sym (under-same id g pin fe ∙ e) ∙ ue))
      at true fe true ue false e ih = absurd (true≢false (sym ue ∙ under-same id g pin fe ∙ e))
      at true fe false ue false e ih = ih
      at false fe true ue true e ih =
          ap (λ t. cond t (pin ∷ pins_under id (without_group g pins)) (pins_under id (without_group g pins))) ue ∙ ap (λ ps. pin ∷ ps) ih
          ∙ sym (ap (λ t. cond (not t) (pin ∷ without_group g (pins_under id pins)) (without_group g (pins_under id pins))) fe)
      at false fe false ue true e ih = ap (λ t. cond t (pin ∷ pins_under id (without_group g pins)) (pins_under id (without_group g pins))) ue ∙ ih
      at false fe true ue false e ih = ap (λ t. cond t (pin ∷ pins_under id (without_group g pins)) (pins_under id (without_group g pins))) ue ∙ ap (λ ps. pin ∷ ps) ih
      at false fe false ue false e ih = ap (λ t. cond t (pin ∷ pins_under id (without_group g pins)) (pins_under id (without_group g pins))) ue ∙ ih

  -- the chunks of a group are among those of its id
  pub under-for : (g : Group) (pins : List (Pin L)) → pins_for g (pins_under g.trigger pins) ≡ pins_for g pins
  under-for g [] = refl
  under-for g (pin ∷ pins) = at (is_for g pin) refl (is_under g.trigger pin) refl (under-for g pins)
    where
      at : (f : Bool) → is_for g pin ≡ f → (u : Bool) → is_under g.trigger pin ≡ u → pins_for g (pins_under g.trigger pins) ≡ pins_for g pins
          → pins_for g (cond u (pin ∷ pins_under g.trigger pins) (pins_under g.trigger pins)) ≡ cond f (pin ∷ pins_for g pins) (pins_for g pins)
      at true fe true ue ih = ap (λ t. cond t (pin ∷ pins_for g (pins_under g.trigger pins)) (pins_for g (pins_under g.trigger pins))) fe ∙ ap (λ ps. pin ∷ ps) ih
      at true fe false ue ih = absurd (true≢false (sym (under-same g.trigger g pin fe ∙ eq-eqb g.trigger.0 g.trigger.0 refl) ∙ ue))
      at false fe true ue ih = ap (λ t. cond t (pin ∷ pins_for g (pins_under g.trigger pins)) (pins_for g (pins_under g.trigger pins))) fe ∙ ih
      at false fe false ue ih = ih

  -- ---- the queues where one id has other groups

  found_cond : (b : Bool) (w : Groups L) (o : Option (Groups L)) → unwrap_or (cond b (Some w) o) [] ≡ cond b w (unwrap_or o [])
  found_cond true w o = refl
  found_cond false w o = refl

  groups_of-with : (id other : TriggerId) (queues : Queues L) (gs : Groups L) → IsSome (lookup (same_id id) queues)
      → groups_of (with_groups queues id gs) other ≡ cond (same_id id other) gs (groups_of queues other)
  groups_of-with id other queues gs found =
      ap (λ o. unwrap_or o []) (lookup-set_value id_laws (same_id id) (one_id id) other gs queues found) ∙ found_cond (same_id id other) gs (lookup (same_id other) queues)

  declared-with : (id other : TriggerId) (queues : Queues L) (gs : Groups L) → IsSome (lookup (same_id id) queues)
      → is_some (lookup (same_id other) (with_groups queues id gs)) ≡ is_some (lookup (same_id other) queues)
  declared-with id other queues gs found = ap is_some (lookup-set_value id_laws (same_id id) (one_id id) other gs queues found) ∙ at (same_id id other) refl
    where
      at : (b : Bool) → same_id id other ≡ b → is_some (cond b (Some gs) (lookup (same_id other) queues)) ≡ is_some (lookup (same_id other) queues)
      at true e = subst (λ (t : TriggerId). true ≡ is_some (lookup (same_id t) queues)) (same_id-true id other e) (sym found)
      at false e = refl

  pub queues-with : (id : TriggerId) (gs : Groups L) (queues : Queues L) (rules : List TriggerRule) (pins after : List (Pin L)) → HasQueues queues rules pins → IsSome (lookup (same_id id) queues)
      → HasLanes gs (pins_under id after) → ((other : TriggerId) → same_id id other ≡ false → pins_under other after ≡ pins_under other pins)
      → length after + length (pins_under id pins) ≡ length pins + length (pins_under id after) → HasQueues (with_groups queues id gs) rules after
  queues-with id gs queues rules pins after h found lanes others size = record {
    declared = λ other. declared-with id other queues gs found ∙ h.declared other;
    lanes = λ other. subst (λ (groups : Groups L). HasLanes groups (pins_under other after)) (sym (groups_of-with id other queues gs found)) (at other (same_id id other) refl);
    total = total (lookup (same_id id) queues) refl found;
  }
    where
      at : (other : TriggerId) (b : Bool) → same_id id other ≡ b → HasLanes (cond b gs (groups_of queues other)) (pins_under other after)
      at other true e = subst (λ (t : TriggerId). HasLanes gs (pins_under t after)) (same_id-true id other e) lanes
      at other false e = subst (HasLanes (groups_of queues other)) (sym (others other e)) (h.lanes other)

      total : (o : Option (Groups L)) → lookup (same_id id) queues ≡ o → IsSome o → total_of (with_groups queues id gs) ≡ length after
      total None e some = absurd (true≢false (sym some))
      total (Some old) e some =
          let set = total-set (same_id id) queues old gs e in
          let own : groups_of queues id ≡ old = ap (λ o. unwrap_or o []) e in
          let before = (h.lanes id).count in
          let now = lanes.count in
          let all = h.total in
          let size_of = ap count_of own in
          omega arith

  -- chunks become pinned
  pub queues-more : (g : Group) (bs : List (Buffer L)) (queues now : Queues L) (rules : List TriggerRule) (pins : List (Pin L)) → HasQueues queues rules pins → is_declared rules g.trigger ≡ true
      → now ≡ pinned_in queues g.trigger (priority_of g) bs → HasQueues now rules (pins ++ map (pin_for g) bs)
  queues-more g bs queues now rules pins h declared e =
      let own : pins_under g.trigger (pins ++ map (pin_for g) bs) ≡ pins_under g.trigger pins ++ map (pin_for g) bs = under-more g.trigger g pins bs true (eq-eqb g.trigger.0 g.trigger.0 refl) in
      subst (λ (q : Queues L). HasQueues q rules (pins ++ map (pin_for g) bs)) (sym e)
      (queues-with g.trigger (pinned (groups_of queues g.trigger) (priority_of g) bs) queues rules pins (pins ++ map (pin_for g) bs) h (h.declared g.trigger ∙ declared)
      (subst (HasLanes (pinned (groups_of queues g.trigger) (priority_of g) bs)) (sym own) (lanes-more g bs (groups_of queues g.trigger) (pins_under g.trigger pins) (h.lanes g.trigger)))
      (λ other apart. under-more other g pins bs false (sym (same_id-test g.trigger other) ∙ apart) ∙ append-nil (pins_under other pins))
      (let a = length-append pins (map (pin_for g) bs) in let b = length-append (pins_under g.trigger pins) (map (pin_for g) bs) in let c = ap length own in omega arith))

  queue_found : (id : TriggerId) (queues : Queues L) → 0 < length (groups_of queues id) → IsSome (lookup (same_id id) queues)
  queue_found id queues some = at (lookup (same_id id) queues) some
    where
      at : (o : Option (Groups L)) → 0 < length (unwrap_or o []) → IsSome o
      at None some = absurd (omega arith)
      at (Some groups) some = refl

  -- what waits is what is pinned, in its order
  pub queues-wait : (id : TriggerId) (queues : Queues L) (rules : List TriggerRule) (pins : List (Pin L)) → HasQueues queues rules pins → in_order id (groups_of queues id) ≡ order_of pins id
  queues-wait id queues rules pins h = lanes-wait id (groups_of queues id) (pins_under id pins) (h.lanes id) (under_all id pins)

  -- the next chunk of an id is taken
  pub queues-first : (id : TriggerId) (queues now : Queues L) (rules : List TriggerRule) (pins : List (Pin L)) → HasQueues queues rules pins
      → now ≡ with_groups queues id (without_next_lane (groups_of queues id) (greatest_of (groups_of queues id))) → HasQueues now rules (without_next pins id)
  queues-first id queues now rules pins h e = at (has_last (groups_of queues id) (h.lanes id).rising (h.lanes id).some)
    where
      unwritten : groups_of queues id ≡ [] → (o : Option (Groups L)) → lookup (same_id id) queues ≡ o → with_groups queues id [] ≡ queues
      unwritten none None f = set_value-none (same_id id) queues [] f
      unwritten none (Some old) f = set_value_same (same_id id) queues [] (f ∙ ap Some (sym (ap (λ o. unwrap_or o []) f) ∙ none))

      at : HasLast (groups_of queues id) → HasQueues now rules (without_next pins id)
      at (inl none) =
          let same : now ≡ queues = e ∙ ap (λ gs. with_groups queues id (without_next_lane gs (greatest_of gs))) none ∙ unwritten none (lookup (same_id id) queues) refl in
          let order : order_of pins id ≡ [] = sym (queues-wait id queues rules pins h) ∙ ap (in_order id) none in
          subst (λ (q : Queues L). HasQueues q rules (without_next pins id)) (sym same)
          (subst (HasQueues queues rules) (sym (ap (λ o. option_map_or (λ (pin : Pin L). without_first pin.group pins) (slice_get o 0) pins) order)) h)
      at (inr last) =
          let g : Group = group_at id last.0 in
          let all = under_all id pins in
          let next = lanes-next id (groups_of queues id) (pins_under id pins) last.0 last.1 last.2 (h.lanes id) all last.3 in
          let chunks : chunks_of (groups_of queues id) last.0 ≡ last.1 ∷ last.2 = ap (λ o. unwrap_or o []) last.3.found in
          let without : without_next pins id ≡ without_first g pins = ap (λ o. option_map_or (λ (pin : Pin L). without_first pin.group pins) (slice_get o 0) pins) next.order in
          let rest : now ≡ with_groups queues id (without_chunk (groups_of queues id) last.0 last.2) =
          e ∙ ap (λ o. with_groups queues id (without_next_lane (groups_of queues id) o)) last.3.greatest ∙ ap (λ cs. with_groups queues id (without_chunk (groups_of queues id) last.0 (drop 1 cs))) chunks in
          let own : pins_under id (without_first g pins) ≡ without_first g (pins_under id pins) = under-without_first id g pins true (eq-eqb id.0 id.0 refl) in
          let found : IsSome (lookup (same_priority (priority_of g)) (groups_of queues id)) = ap (λ q. is_some (lookup (same_priority q) (groups_of queues id))) next.own ∙ ap is_some last.3.found in
          let any : list_any (is_for g) (pins_under id pins) ≡ true = any_found g (groups_of queues id) (pins_under id pins) (h.lanes id) all found in
          subst (λ (q : Queues L). HasQueues q rules (without_next pins id)) (sym rest)
          (subst (HasQueues (with_groups queues id (without_chunk (groups_of queues id) last.0 last.2)) rules) (sym without)
          (queues-with id (without_chunk (groups_of queues id) last.0 last.2) queues rules pins (without_first g pins) h
          (queue_found id queues (some_groups (groups_of queues id) last.0 (ap is_some last.3.found)))
          (subst (HasLanes (without_chunk (groups_of queues id) last.0 last.2)) (sym own) next.kept)
          (λ other apart. under-without_first other g pins false (sym (same_id-test id other) ∙ apart))
          (let a = length-without_first g pins (pins_under_any g pins any) in let b = length-without_first g (pins_under id pins) any in let c = ap length own in omega arith)))
        where
          some_groups : (groups : Groups L) (p : Priority) → IsSome (lookup (same_priority p) groups) → 0 < length groups
          some_groups [] p f = absurd (true≢false (sym f))
          some_groups (x ∷ groups) p f = omega arith

          pins_under_any : (g : Group) (pins : List (Pin L)) → list_any (is_for g) (pins_under id pins) ≡ true → list_any (is_for g) pins ≡ true
          pins_under_any g [] f = f
          pins_under_any g (pin ∷ pins) f = go (is_under id pin) (is_for g pin) refl f (pins_under_any g pins)
            where
              go : (u b : Bool) → is_for g pin ≡ b → list_any (is_for g) (cond u (pin ∷ pins_under id pins) (pins_under id pins)) ≡ true → (list_any (is_for g) (pins_under id pins) ≡ true → list_any (is_for g) pins ≡ true)
                  → (b || list_any (is_for g) pins) ≡ true
              go u true fe f rest = refl
              go true false fe f rest = rest (subst (λ t. (t || list_any (is_for g) (pins_under id pins)) ≡ true) fe f)
              go false false fe f rest = rest f

  -- the group of least priority of an id goes
  pub queues-least : (id : TriggerId) (p : Priority) (chunks : List (Buffer L)) (rest : Groups L) (queues now : Queues L) (rules : List TriggerRule) (pins : List (Pin L)) → HasQueues queues rules pins
      → groups_of queues id ≡ (p, chunks) ∷ rest → priority_of (group_at id p) ≡ p → now ≡ with_groups queues id rest → HasQueues now rules (without_group (group_at id p) pins)
  queues-least id p chunks rest queues now rules pins h first own e =
      let g : Group = group_at id p in
      let same : pins_under id (without_group g pins) ≡ without_group g (pins_under id pins) = under-without_group id g pins true (eq-eqb id.0 id.0 refl) in
      subst (λ (q : Queues L). HasQueues q rules (without_group g pins)) (sym e)
      (queues-with id rest queues rules pins (without_group g pins) h
      (queue_found id queues (let n = ap length first in omega arith))
      (subst (HasLanes rest) (sym same) (lanes-rest g p chunks rest (pins_under id pins) (subst (λ (gs : Groups L). HasLanes gs (pins_under id pins)) first (h.lanes id)) (under_all id pins) own))
      (λ other apart. under-without_group other g pins false (sym (same_id-test id other) ∙ apart))
      (let a = length-without_group g pins in let b = length-without_group g (pins_under id pins) in let c = ap length same in let d = ap length (under-for g pins) in omega arith))
