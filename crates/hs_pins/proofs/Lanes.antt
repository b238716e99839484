-- The groups of one trigger id, as what is pinned for them changes.
use Rattle.std.proofs.Common.{◌≡◌, ℕ, ◌+◌, ◌-◌, ◌<◌, Bool, true, false, not, cond, ◌||◌, List, [], ◌∷◌, ◌++◌, length, map, drop, Option, Some, None, IsSome, unwrap_or, refl, sym, ap, subst, ◌∙◌, arith, length-append, true≢false}
use Rattle.hs_pins.proofs.Prelude.{filter, is_some, AllByRecursion, list_any, IsStrictlySortedBy, lookup, set_value, remove_entry, keys_of, insert_entry, Ordering, Less, Equal, Greater, is_eq, match_ordering, ordering_reverse, lookup-set_value, sorted_head, sorted_tail, append-nil, map-append, length-map, filter-append, Group, Buffer, Priority, priority_cmp, priority_of, same_priority, Groups, chunks_of, pinned, IsCounted, IsKept, Pin, pin_for, is_for, pins_for, without_group, without_first, chunks_at, HasLanes}
use Rattle.std.proofs.lemmas.Map.{lookup-remove_entry, keys-set_value}
use Rattle.std.proofs.lemmas.Map.Keys.{IsDistinct-from_sorted}
use Rattle.std.proofs.lemmas.List.Filters.{length-filter_both}
use Rattle.hs_pins.specs.Groups.{without_first as without_chunk}
use Rattle.hs_pins.proofs.Order.{priority_total, priority_laws, same_exact, same_group-priority}
use Rattle.hs_pins.proofs.GroupLemmas.{counted-pinned, counted-without, counted-rest, counted-added, counted-taken, pinned-some, pinned-none, chunks_of-some, some-found}

-- the chunks of the pins
abbrev pub Under : {L : Type 0} → Group → List (Pin L) → Type 0
Under g pins = AllByRecursion (λ pin. g.trigger.0 ≡ pin.group.trigger.0) pins

sorted_cons : (p : Priority) (ps : List Priority) → AllByRecursion (λ q. priority_cmp p q ≡ Less) ps → IsStrictlySortedBy priority_cmp ps → IsStrictlySortedBy priority_cmp (p ∷ ps)
unfolding IsStrictlySortedBy
sorted_cons p ps all sorted = (all, sorted)

sorted_nil : IsStrictlySortedBy priority_cmp []
unfolding IsStrictlySortedBy
sorted_nil = tt

pub less_all : (p q : Priority) (ps : List Priority) → priority_cmp p q ≡ Less → AllByRecursion (λ r. priority_cmp q r ≡ Less) ps → AllByRecursion (λ r. priority_cmp p r ≡ Less) ps
less_all p q [] e all = tt
less_all p q (r ∷ ps) e all = (priority_total.trans p q r e all.0, less_all p q ps e all.1)

pub one_test : (p x y : Priority) → same_priority p x ≡ true → same_priority p y ≡ same_priority x y
one_test p x y e = priority_laws.congr p x y e

same_either : {X : Type 0} (b : Bool) (x : X) → x ≡ cond b x x
same_either true x = refl
same_either false x = refl

module _ {L : Type 0} where
  -- ---- keys stay in order

  less_insert : (k p : Priority) (w : List (Buffer L)) (es : Groups L) → priority_cmp k p ≡ Less → AllByRecursion (λ q. priority_cmp k q ≡ Less) (keys_of es)
      → AllByRecursion (λ q. priority_cmp k q ≡ Less) (keys_of (insert_entry priority_cmp es p w))
  less_insert k p w [] e all = (e, tt)
  less_insert k p w (x ∷ es) e all = at (priority_cmp p x.0) (less_insert k p w es e all.1)
    where
      at : (o : Ordering) → AllByRecursion (λ q. priority_cmp k q ≡ Less) (keys_of (insert_entry priority_cmp es p w))
          → AllByRecursion (λ q. priority_cmp k q ≡ Less) (keys_of (match_ordering o ((p, w) ∷ x ∷ es) ((x.0, w) ∷ es) (x ∷ insert_entry priority_cmp es p w)))
      at Less rest = (e, all)
      at Equal rest = all
      at Greater rest = (all.0, rest)

  pub sorted_insert : (p : Priority) (w : List (Buffer L)) (es : Groups L) → IsStrictlySortedBy priority_cmp (keys_of es) → IsStrictlySortedBy priority_cmp (keys_of (insert_entry priority_cmp es p w))
  sorted_insert p w [] sorted = sorted_cons p [] tt sorted_nil
  sorted_insert p w (x ∷ es) sorted = at (priority_cmp p x.0) refl (sorted_insert p w es (sorted_tail priority_cmp x.0 (keys_of es) sorted))
    where
      above : AllByRecursion (λ q. priority_cmp x.0 q ≡ Less) (keys_of es)
      above = sorted_head priority_cmp x.0 (keys_of es) sorted

      at : (o : Ordering) → priority_cmp p x.0 ≡ o → IsStrictlySortedBy priority_cmp (keys_of (insert_entry priority_cmp es p w))
          → IsStrictlySortedBy priority_cmp (keys_of (match_ordering o ((p, w) ∷ x ∷ es) ((x.0, w) ∷ es) (x ∷ insert_entry priority_cmp es p w)))
      at Less e rest = sorted_cons p (x.0 ∷ keys_of es) (e, less_all p x.0 (keys_of es) e above) sorted
      at Equal e rest = sorted
      at Greater e rest = sorted_cons x.0 _ (less_insert x.0 p w es (priority_total.antisymm x.0 p ∙ ap ordering_reverse e) above) rest

  pub sorted_set : (test : Priority → Bool) (w : List (Buffer L)) (es : Groups L) → IsStrictlySortedBy priority_cmp (keys_of es) → IsStrictlySortedBy priority_cmp (keys_of (set_value test es w))
  sorted_set test w es sorted = subst (IsStrictlySortedBy priority_cmp) (sym (keys-set_value test es w)) sorted

  less_remove : (k : Priority) (test : Priority → Bool) (es : Groups L) → AllByRecursion (λ q. priority_cmp k q ≡ Less) (keys_of es) → AllByRecursion (λ q. priority_cmp k q ≡ Less) (keys_of (remove_entry test es))
  less_remove k test [] all = tt
  less_remove k test (x ∷ es) all = at (test x.0) (less_remove k test es all.1)
    where
      at : (b : Bool) → AllByRecursion (λ q. priority_cmp k q ≡ Less) (keys_of (remove_entry test es)) → AllByRecursion (λ q. priority_cmp k q ≡ Less) (keys_of (cond b es (x ∷ remove_entry test es)))
      at true rest = all.1
      at false rest = (all.0, rest)

  pub sorted_remove : (test : Priority → Bool) (es : Groups L) → IsStrictlySortedBy priority_cmp (keys_of es) → IsStrictlySortedBy priority_cmp (keys_of (remove_entry test es))
  sorted_remove test [] sorted = sorted
  sorted_remove test (x ∷ es) sorted = at (test x.0) (sorted_remove test es (sorted_tail priority_cmp x.0 (keys_of es) sorted))
    where
      at : (b : Bool) → IsStrictlySortedBy priority_cmp (keys_of (remove_entry test es)) → IsStrictlySortedBy priority_cmp (keys_of (cond b es (x ∷ remove_entry test es)))
      at true rest = sorted_tail priority_cmp x.0 (keys_of es) sorted
      at false rest = sorted_cons x.0 _ (less_remove x.0 test es (sorted_head priority_cmp x.0 (keys_of es) sorted)) rest

  sorted_pinned : (p : Priority) (es : Groups L) (bs : List (Buffer L)) → IsStrictlySortedBy priority_cmp (keys_of es) → IsStrictlySortedBy priority_cmp (keys_of (pinned es p bs))
  sorted_pinned p es [] sorted = sorted
  sorted_pinned p es (b ∷ bs) sorted = at (is_some (lookup (same_priority p) es))
    where
      at : (t : Bool) → IsStrictlySortedBy priority_cmp (keys_of (cond t (set_value (same_priority p) es (chunks_of es p ++ b ∷ bs)) (insert_entry priority_cmp es p (chunks_of es p ++ b ∷ bs))))
      at true = sorted_set (same_priority p) (chunks_of es p ++ b ∷ bs) es sorted
      at false = sorted_insert p (chunks_of es p ++ b ∷ bs) es sorted

  pub sorted_without : (p : Priority) (es : Groups L) (rest : List (Buffer L)) → IsStrictlySortedBy priority_cmp (keys_of es) → IsStrictlySortedBy priority_cmp (keys_of (without_chunk es p rest))
  sorted_without p es [] sorted = sorted_remove (same_priority p) es sorted
  sorted_without p es (b ∷ bs) sorted = sorted_set (same_priority p) (b ∷ bs) es sorted

  -- ---- what the chunks of an id keep

  pub kept-empty : IsKept {L = L} [] 0
  kept-empty = record { counted = record { counted = refl; some = tt }; rising = sorted_nil }

  pub kept-added : (p : Priority) (es new : Groups L) (bs : List (Buffer L)) (count more : ℕ) → IsKept es count → new ≡ pinned es p bs → more ≡ length bs → IsKept new (count + more)
  kept-added p es new bs count more h e n = record {
    counted = counted-added p es new bs count more h.counted e n;
    rising = subst (λ (gs : Groups L). IsStrictlySortedBy priority_cmp (keys_of gs)) (sym e) (sorted_pinned p es bs h.rising);
  }

  pub kept-taken : (p : Priority) (es new : Groups L) (count : ℕ) → IsKept es count → IsSome (lookup (same_priority p) es) → new ≡ without_chunk es p (drop 1 (chunks_of es p)) → IsKept new (count - 1)
  kept-taken p es new count h found e = record {
    counted = counted-taken p es new count h.counted found e;
    rising = subst (λ (gs : Groups L). IsStrictlySortedBy priority_cmp (keys_of gs)) (sym e) (sorted_without p es (drop 1 (chunks_of es p)) h.rising);
  }

  pub kept-rest : (p : Priority) (pile : List (Buffer L)) (old new : Groups L) (count : ℕ) → IsKept old count → old ≡ (p, pile) ∷ new → IsKept new (count - length pile)
  kept-rest p pile old new count h e = record {
    counted = counted-rest p pile old new count h.counted e;
    rising = sorted_tail priority_cmp p (keys_of new) (subst (λ (gs : Groups L). IsStrictlySortedBy priority_cmp (keys_of gs)) e h.rising);
  }

  -- ---- chunks of a group

  found_cond : (b : Bool) (o : Option (List (Buffer L))) (w : Option (List (Buffer L))) → unwrap_or (cond b w o) [] ≡ cond b (unwrap_or w []) (unwrap_or o [])
  found_cond true o w = refl
  found_cond false o w = refl

  chunks_of-set : (p q : Priority) (w : List (Buffer L)) (es : Groups L) → IsSome (lookup (same_priority p) es)
      → chunks_of (set_value (same_priority p) es w) q ≡ cond (same_priority p q) w (chunks_of es q)
  chunks_of-set p q w es found =
      ap (λ o. unwrap_or o []) (lookup-set_value priority_laws (same_priority p) (one_test p) q w es found) ∙ found_cond (same_priority p q) (lookup (same_priority q) es) (Some w)

  chunks_of-remove : (p q : Priority) (es : Groups L) → IsStrictlySortedBy priority_cmp (keys_of es)
      → chunks_of (remove_entry (same_priority p) es) q ≡ cond (same_priority p q) [] (chunks_of es q)
  chunks_of-remove p q es sorted =
      ap (λ o. unwrap_or o []) (lookup-remove_entry priority_laws (same_priority p) (one_test p) q es (IsDistinct-from_sorted priority_cmp (keys_of es) sorted))
      ∙ found_cond (same_priority p q) (lookup (same_priority q) es) None

  pub lookup-insert_entry : (p q : Priority) (w : List (Buffer L)) (es : Groups L) → lookup (same_priority p) es ≡ None
      → lookup (same_priority q) (insert_entry priority_cmp es p w) ≡ cond (same_priority q p) (Some w) (lookup (same_priority q) es)
  lookup-insert_entry p q w [] none = refl
  lookup-insert_entry p q w (x ∷ es) none = at (priority_cmp p x.0) refl none (lookup-insert_entry p q w es)
    where
      apart : priority_cmp p x.0 ≡ Greater → same_priority q x.0 ≡ true → same_priority q p ≡ false
      apart e f = priority_laws.congr q x.0 p f ∙ ap is_eq (priority_total.antisymm x.0 p ∙ ap ordering_reverse e)

      swap : (b d : Bool) → (b ≡ true → d ≡ false) → cond b (Some x.1) (cond d (Some w) (lookup (same_priority q) es)) ≡ cond d (Some w) (cond b (Some x.1) (lookup (same_priority q) es))
      swap true true f = absurd (true≢false (f refl))
      swap true false f = refl
      swap false d f = refl

      at : (o : Ordering) → priority_cmp p x.0 ≡ o → cond (is_eq o) (Some x.1) (lookup (same_priority p) es) ≡ None
          → (lookup (same_priority p) es ≡ None → lookup (same_priority q) (insert_entry priority_cmp es p w) ≡ cond (same_priority q p) (Some w) (lookup (same_priority q) es))
          → lookup (same_priority q) (match_ordering o ((p, w) ∷ x ∷ es) ((x.0, w) ∷ es) (x ∷ insert_entry priority_cmp es p w))
          ≡ cond (same_priority q p) (Some w) (lookup (same_priority q) (x ∷ es))
      at Less e none rest = refl
      at Equal e none rest = absurd cc
      at Greater e none rest = ap (cond (same_priority q x.0) (Some x.1)) (rest none) ∙ swap (same_priority q x.0) (same_priority q p) (apart e)

  chunks_of-insert : (p q : Priority) (w : List (Buffer L)) (es : Groups L) → lookup (same_priority p) es ≡ None
      → chunks_of (insert_entry priority_cmp es p w) q ≡ cond (same_priority p q) w (chunks_of es q)
  chunks_of-insert p q w es none =
      ap (λ o. unwrap_or o []) (lookup-insert_entry p q w es none) ∙ found_cond (same_priority q p) (lookup (same_priority q) es) (Some w)
      ∙ ap (λ b. cond b w (chunks_of es q)) (priority_laws.symm q p)

  -- what is pinned stands behind what was
  more_if : (p q : Priority) (es : Groups L) (bs : List (Buffer L)) (b : Bool) → same_priority p q ≡ b
      → cond b (chunks_of es p ++ bs) (chunks_of es q) ≡ cond b (chunks_of es q ++ bs) (chunks_of es q)
  more_if p q es bs true e = ap (λ r. chunks_of es r ++ bs) (same_exact p q e)
  more_if p q es bs false e = refl

  chunks_of-pinned : (p q : Priority) (es : Groups L) (bs : List (Buffer L)) → chunks_of (pinned es p bs) q ≡ cond (same_priority p q) (chunks_of es q ++ bs) (chunks_of es q)
  chunks_of-pinned p q es [] = at (same_priority p q)
    where
      at : (b : Bool) → chunks_of es q ≡ cond b (chunks_of es q ++ []) (chunks_of es q)
      at true = sym (append-nil (chunks_of es q))
      at false = refl
  chunks_of-pinned p q es (b ∷ bs) = at (lookup (same_priority p) es) refl ∙ more_if p q es (b ∷ bs) (same_priority p q) refl
    where
      at : (o : Option (List (Buffer L))) → lookup (same_priority p) es ≡ o → chunks_of (pinned es p (b ∷ bs)) q ≡ cond (same_priority p q) (chunks_of es p ++ b ∷ bs) (chunks_of es q)
      at None e =
          let none : chunks_of es p ≡ [] = ap (λ o. unwrap_or o []) e in
          ap (λ (s : Groups L). chunks_of s q) (pinned-none p es (b ∷ bs) e (omega arith)) ∙ chunks_of-insert p q (b ∷ bs) es e
          ∙ ap (λ cs. cond (same_priority p q) (cs ++ b ∷ bs) (chunks_of es q)) (sym none)
      at (Some old) e =
          let some : chunks_of es p ≡ old = ap (λ o. unwrap_or o []) e in
          ap (λ (s : Groups L). chunks_of s q) (pinned-some p es old (b ∷ bs) e (omega arith)) ∙ chunks_of-set p q (old ++ b ∷ bs) es (ap is_some e)
          ∙ ap (λ cs. cond (same_priority p q) (cs ++ b ∷ bs) (chunks_of es q)) (sym some)

  -- a group that loses its first chunk
  chunks_of-without : (p q : Priority) (es : Groups L) (rest : List (Buffer L)) → IsStrictlySortedBy priority_cmp (keys_of es) → IsSome (lookup (same_priority p) es)
      → chunks_of (without_chunk es p rest) q ≡ cond (same_priority p q) rest (chunks_of es q)
  chunks_of-without p q es [] sorted found = chunks_of-remove p q es sorted
  chunks_of-without p q es (b ∷ bs) sorted found = chunks_of-set p q (b ∷ bs) es found

  -- ---- chunks of the pins

  pub chunks_at-append : (q : Priority) (pins more : List (Pin L)) → chunks_at q (pins ++ more) ≡ chunks_at q pins ++ chunks_at q more
  chunks_at-append q pins more =
      ap (map (λ (pin : Pin L). pin.chunk)) (filter-append (λ (pin : Pin L). same_priority q (priority_of pin.group)) pins more)
      ∙ map-append (λ (pin : Pin L). pin.chunk) (filter (λ (pin : Pin L). same_priority q (priority_of pin.group)) pins) (filter (λ (pin : Pin L). same_priority q (priority_of pin.group)) more)

  chunks_at-new : (q : Priority) (g : Group) (bs : List (Buffer L)) → chunks_at q (map (pin_for g) bs) ≡ cond (same_priority q (priority_of g)) bs []
  chunks_at-new q g [] = same_either (same_priority q (priority_of g)) []
  chunks_at-new q g (b ∷ bs) = at (same_priority q (priority_of g)) (chunks_at-new q g bs)
    where
      at : (t : Bool) → chunks_at q (map (pin_for g) bs) ≡ cond t bs []
          → map (λ (pin : Pin L). pin.chunk) (cond t (pin_for g b ∷ filter (λ (pin : Pin L). same_priority q (priority_of pin.group)) (map (pin_for g) bs)) (filter (λ (pin : Pin L). same_priority q (priority_of pin.group)) (map (pin_for g) bs)))
          ≡ cond t (b ∷ bs) []
      at true e = ap (λ cs. b ∷ cs) e
      at false e = e

  -- the chunks at a priority, of a pin and others
  pub chunks_at-cons : (q : Priority) (pin : Pin L) (pins : List (Pin L)) (t : Bool) → same_priority q (priority_of pin.group) ≡ t → chunks_at q (pin ∷ pins) ≡ cond t (pin.chunk ∷ chunks_at q pins) (chunks_at q pins)
  chunks_at-cons q pin pins t e = rw e (at t)
    where
      at : (t : Bool) → map (λ (pin : Pin L). pin.chunk) (cond t (pin ∷ filter (λ (pin : Pin L). same_priority q (priority_of pin.group)) pins) (filter (λ (pin : Pin L). same_priority q (priority_of pin.group)) pins))
          ≡ cond t (pin.chunk ∷ chunks_at q pins) (chunks_at q pins)
      at true = refl
      at false = refl

  -- whether a pin is for a group, by the priorities
  pub for_priority : (g : Group) (pin : Pin L) → g.trigger.0 ≡ pin.group.trigger.0 → is_for g pin ≡ same_priority (priority_of g) (priority_of pin.group)
  for_priority g pin e = same_group-priority g pin.group e

  chunks_at-without_first : (g : Group) (q : Priority) (pins : List (Pin L)) → Under g pins
      → chunks_at q (without_first g pins) ≡ cond (same_priority (priority_of g) q) (drop 1 (chunks_at q pins)) (chunks_at q pins)
  chunks_at-without_first g q [] all = same_either (same_priority (priority_of g) q) []
  chunks_at-without_first g q (pin ∷ pins) all =
      at (is_for g pin) refl (same_priority (priority_of g) q) refl (same_priority q (priority_of pin.group)) refl (chunks_at-without_first g q pins all.1)
    where
      P : Priority
      P = priority_of g

      at : (f : Bool) → is_for g pin ≡ f → (b : Bool) → same_priority (priority_of g) q ≡ b → (t : Bool) → same_priority q (priority_of pin.group) ≡ t
          → chunks_at q (without_first g pins) ≡ cond b (drop 1 (chunks_at q pins)) (chunks_at q pins)
          → chunks_at q (cond f pins (pin ∷ without_first g pins)) ≡ cond b (drop 1 (chunks_at q (pin ∷ pins))) (chunks_at q (pin ∷ pins))
      at true fe true be true te ih = sym (ap (drop 1) (chunks_at-cons q pin pins true te))
      at true fe true be false te ih =
          absurd (true≢false (sym fe ∙ for_priority g pin all.0 ∙ priority_laws.congr (priority_of g) q (priority_of pin.group) be ∙ te))
      at true fe false be true te ih =
          absurd (true≢false (sym (priority_laws.congr q (priority_of pin.group) (priority_of g) te ∙ priority_laws.symm (priority_of pin.group) (priority_of g) ∙ sym (for_priority g pin all.0) ∙ fe)
          ∙ priority_laws.symm q (priority_of g) ∙ be))
      at true fe false be false te ih = sym (chunks_at-cons q pin pins false te)
      at false fe true be true te ih =
          absurd (true≢false (sym (priority_laws.congr (priority_of g) q (priority_of pin.group) be ∙ te) ∙ sym (for_priority g pin all.0) ∙ fe))
      at false fe true be false te ih = chunks_at-cons q pin (without_first g pins) false te ∙ ih ∙ sym (ap (drop 1) (chunks_at-cons q pin pins false te))
      at false fe false be true te ih = chunks_at-cons q pin (without_first g pins) true te ∙ ap (λ cs. pin.chunk ∷ cs) ih ∙ sym (chunks_at-cons q pin pins true te)
      at false fe false be false te ih = chunks_at-cons q pin (without_first g pins) false te ∙ ih ∙ sym (chunks_at-cons q pin pins false te)

  chunks_at-without_group : (g : Group) (q : Priority) (pins : List (Pin L)) → Under g pins
      → chunks_at q (without_group g pins) ≡ cond (same_priority (priority_of g) q) [] (chunks_at q pins)
  chunks_at-without_group g q [] all = same_either (same_priority (priority_of g) q) []
  chunks_at-without_group g q (pin ∷ pins) all =
      at (is_for g pin) refl (same_priority (priority_of g) q) refl (same_priority q (priority_of pin.group)) refl (chunks_at-without_group g q pins all.1)
    where
      at : (f : Bool) → is_for g pin ≡ f → (b : Bool) → same_priority (priority_of g) q ≡ b → (t : Bool) → same_priority q (priority_of pin.group) ≡ t
          → chunks_at q (without_group g pins) ≡ cond b [] (chunks_at q pins)
          → chunks_at q (cond (not f) (pin ∷ without_group g pins) (without_group g pins)) ≡ cond b [] (chunks_at q (pin ∷ pins))
      at true fe true be t te ih = ih
      at true fe false be true te ih =
          absurd (true≢false (sym (priority_laws.congr q (priority_of pin.group) (priority_of g) te ∙ priority_laws.symm (priority_of pin.group) (priority_of g) ∙ sym (for_priority g pin all.0) ∙ fe)
          ∙ priority_laws.symm q (priority_of g) ∙ be))
      at true fe false be false te ih = ih ∙ sym (chunks_at-cons q pin pins false te)
      at false fe true be true te ih =
          absurd (true≢false (sym (priority_laws.congr (priority_of g) q (priority_of pin.group) be ∙ te) ∙ sym (for_priority g pin all.0) ∙ fe))
      at false fe true be false te ih = chunks_at-cons q pin (without_group g pins) false te ∙ ih
      at false fe false be true te ih = chunks_at-cons q pin (without_group g pins) true te ∙ ap (λ cs. pin.chunk ∷ cs) ih ∙ sym (chunks_at-cons q pin pins true te)
      at false fe false be false te ih = chunks_at-cons q pin (without_group g pins) false te ∙ ih ∙ sym (chunks_at-cons q pin pins false te)

  -- ---- how many there are

  pub length-without_first : (g : Group) (pins : List (Pin L)) → list_any (is_for g) pins ≡ true → length (without_first g pins) + 1 ≡ length pins
  length-without_first g [] some = absurd (true≢false (sym some))
  length-without_first g (pin ∷ pins) some = at (is_for g pin) some (length-without_first g pins)
    where
      at : (b : Bool) → (b || list_any (is_for g) pins) ≡ true → (list_any (is_for g) pins ≡ true → length (without_first g pins) + 1 ≡ length pins)
          → length (cond b pins (pin ∷ without_first g pins)) + 1 ≡ length (pin ∷ pins)
      at true some rest = omega arith
      at false some rest = let e = rest some in omega arith

  pub length-without_group : (g : Group) (pins : List (Pin L)) → length (without_group g pins) + length (pins_for g pins) ≡ length pins
  length-without_group g pins = let e = length-filter_both (is_for g) (λ (pin : Pin L). not (is_for g pin)) (λ x. refl) pins in omega arith

  -- ---- the calls

  pub lanes-empty : HasLanes {L = L} [] []
  lanes-empty = record { rising = sorted_nil; some = tt; lanes = λ p. refl; count = refl }

  at_new : (g : Group) (q : Priority) (cs bs : List (Buffer L)) (b : Bool) → same_priority (priority_of g) q ≡ b → cond b (cs ++ bs) cs ≡ cs ++ cond b bs []
  at_new g q cs bs true e = refl
  at_new g q cs bs false e = sym (append-nil cs)

  -- chunks become pinned for a group
  pub lanes-more : (g : Group) (bs : List (Buffer L)) (groups : Groups L) (pins : List (Pin L)) → HasLanes groups pins → HasLanes (pinned groups (priority_of g) bs) (pins ++ map (pin_for g) bs)
  lanes-more g bs groups pins h =
      let counted : IsCounted groups (length pins) = record { counted = sym h.count; some = h.some } in
      let more = counted-pinned (priority_of g) groups bs (length pins) counted in
      record {
        rising = sorted_pinned (priority_of g) groups bs h.rising;
        some = more.some;
        lanes = λ q.
            chunks_of-pinned (priority_of g) q groups bs
            ∙ ap (λ cs. cond (same_priority (priority_of g) q) (cs ++ bs) cs) (h.lanes q)
            ∙ at_new g q (chunks_at q pins) bs (same_priority (priority_of g) q) refl
            ∙ ap (λ b. chunks_at q pins ++ cond b bs []) (priority_laws.symm (priority_of g) q)
            ∙ ap (λ cs. chunks_at q pins ++ cs) (sym (chunks_at-new q g bs))
            ∙ sym (chunks_at-append q pins (map (pin_for g) bs));
        count = let a = length-append pins (map (pin_for g) bs) in let b = length-map bs (pin_for g) in let c = more.counted in omega arith;
      }

  pins_any : (g : Group) (pins : List (Pin L)) → Under g pins → 0 < length (chunks_at (priority_of g) pins) → list_any (is_for g) pins ≡ true
  pins_any g [] all some = absurd (omega arith)
  pins_any g (pin ∷ pins) all some = at (is_for g pin) refl (pins_any g pins all.1)
    where
      at : (b : Bool) → is_for g pin ≡ b → (0 < length (chunks_at (priority_of g) pins) → list_any (is_for g) pins ≡ true) → (b || list_any (is_for g) pins) ≡ true
      at true e rest = refl
      at false e rest =
          let less : chunks_at (priority_of g) (pin ∷ pins) ≡ chunks_at (priority_of g) pins = chunks_at-cons (priority_of g) pin pins false (sym (for_priority g pin all.0) ∙ e) in
          let same = ap length less in rest (omega arith)

  -- a group of the id has pins where it has a lane
  pub any_found : (g : Group) (groups : Groups L) (pins : List (Pin L)) → HasLanes groups pins → Under g pins → IsSome (lookup (same_priority (priority_of g)) groups) → list_any (is_for g) pins ≡ true
  any_found g groups pins h all found = pins_any g pins all (at (lookup (same_priority (priority_of g)) groups) refl found)
    where
      at : (o : Option (List (Buffer L))) → lookup (same_priority (priority_of g)) groups ≡ o → IsSome o → 0 < length (chunks_at (priority_of g) pins)
      at None e found = absurd (true≢false (sym found))
      at (Some old) e found =
          let some = some-found (same_priority (priority_of g)) groups old h.some e in
          let same = ap length (sym (chunks_of-some (priority_of g) groups old e) ∙ h.lanes (priority_of g)) in
          omega arith

  -- the first chunk of a group is taken
  pub lanes-first : (g : Group) (groups : Groups L) (pins : List (Pin L)) → HasLanes groups pins → Under g pins → IsSome (lookup (same_priority (priority_of g)) groups)
      → HasLanes (without_chunk groups (priority_of g) (drop 1 (chunks_of groups (priority_of g)))) (without_first g pins)
  lanes-first g groups pins h all found =
      let counted : IsCounted groups (length pins) = record { counted = sym h.count; some = h.some } in
      let less = counted-without (priority_of g) groups (length pins) counted found in
      let fewer = length-without_first g pins (any_found g groups pins h all found) in
      record {
        rising = sorted_without (priority_of g) groups _ h.rising;
        some = less.some;
        lanes = λ q.
            chunks_of-without (priority_of g) q groups (drop 1 (chunks_of groups (priority_of g))) h.rising found
            ∙ at q (same_priority (priority_of g) q) refl
            ∙ sym (chunks_at-without_first g q pins all);
        count = let c = less.counted in omega arith;
      }
    where
      at : (q : Priority) (b : Bool) → same_priority (priority_of g) q ≡ b
          → cond b (drop 1 (chunks_of groups (priority_of g))) (chunks_of groups q) ≡ cond b (drop 1 (chunks_at q pins)) (chunks_at q pins)
      at q true e = ap (λ r. drop 1 (chunks_of groups r)) (same_exact (priority_of g) q e) ∙ ap (drop 1) (h.lanes q)
      at q false e = h.lanes q

  -- the chunks of the first group
  pub chunks_of-head : (p : Priority) (chunks : List (Buffer L)) (rest : Groups L) → chunks_of ((p, chunks) ∷ rest) p ≡ chunks
  chunks_of-head p chunks rest = ap (λ b. unwrap_or (cond b (Some chunks) (lookup (same_priority p) rest)) []) (priority_laws.refl p)

  none_above : (p q : Priority) (rest : Groups L) → AllByRecursion (λ r. priority_cmp p r ≡ Less) (keys_of rest) → same_priority p q ≡ true → lookup (same_priority q) rest ≡ None
  none_above p q [] all e = refl
  none_above p q (x ∷ rest) all e =
      let apart : same_priority q x.0 ≡ false = sym (priority_laws.congr p q x.0 e) ∙ ap is_eq all.0 in
      ap (λ b. cond b (Some x.1) (lookup (same_priority q) rest)) apart ∙ none_above p q rest all.1 e

  chunks_of-rest : (p q : Priority) (chunks : List (Buffer L)) (rest : Groups L) → IsStrictlySortedBy priority_cmp (p ∷ keys_of rest)
      → chunks_of rest q ≡ cond (same_priority p q) [] (chunks_of ((p, chunks) ∷ rest) q)
  chunks_of-rest p q chunks rest sorted = at (same_priority p q) refl
    where
      at : (b : Bool) → same_priority p q ≡ b → chunks_of rest q ≡ cond b [] (chunks_of ((p, chunks) ∷ rest) q)
      at true e = ap (λ o. unwrap_or o []) (none_above p q rest (sorted_head priority_cmp p (keys_of rest) sorted) e)
      at false e = ap (λ b. unwrap_or (cond b (Some chunks) (lookup (same_priority q) rest)) []) (sym (priority_laws.symm q p ∙ e))

  -- the first group goes
  pub lanes-rest : (g : Group) (p : Priority) (chunks : List (Buffer L)) (rest : Groups L) (pins : List (Pin L)) → HasLanes ((p, chunks) ∷ rest) pins → Under g pins → priority_of g ≡ p
      → HasLanes rest (without_group g pins)
  lanes-rest g p chunks rest pins h all own =
      let counted : IsCounted ((p, chunks) ∷ rest) (length pins) = record { counted = sym h.count; some = h.some } in
      let less = counted-rest p chunks ((p, chunks) ∷ rest) rest (length pins) counted refl in
      record {
        rising = sorted_tail priority_cmp p (keys_of rest) h.rising;
        some = less.some;
        lanes = λ q.
            chunks_of-rest p q chunks rest h.rising
            ∙ ap (λ r. cond (same_priority r q) [] (chunks_of ((p, chunks) ∷ rest) q)) (sym own)
            ∙ ap (cond (same_priority (priority_of g) q) []) (h.lanes q)
            ∙ sym (chunks_at-without_group g q pins all);
        count =
            let c = less.counted in let n = length-without_group g pins in let e = lane_length g p chunks rest pins h all own in omega arith;
      }
    where
      chunks_for : (g : Group) (pins : List (Pin L)) → Under g pins → length (pins_for g pins) ≡ length (chunks_at (priority_of g) pins)
      chunks_for g [] all = refl
      chunks_for g (pin ∷ pins) all = go (is_for g pin) refl (chunks_for g pins all.1)
        where
          go : (b : Bool) → is_for g pin ≡ b → length (pins_for g pins) ≡ length (chunks_at (priority_of g) pins) → length (cond b (pin ∷ pins_for g pins) (pins_for g pins)) ≡ length (chunks_at (priority_of g) (pin ∷ pins))
          go b e ih = rw (chunks_at-cons (priority_of g) pin pins b (sym (for_priority g pin all.0) ∙ e)) (both b ih)
            where
              both : (b : Bool) → length (pins_for g pins) ≡ length (chunks_at (priority_of g) pins) → length (cond b (pin ∷ pins_for g pins) (pins_for g pins)) ≡ length (cond b (pin.chunk ∷ chunks_at (priority_of g) pins) (chunks_at (priority_of g) pins))
              both true ih = omega (arith, ih)
              both false ih = ih

      lane_length : (g : Group) (p : Priority) (chunks : List (Buffer L)) (rest : Groups L) (pins : List (Pin L)) → HasLanes ((p, chunks) ∷ rest) pins → Under g pins → priority_of g ≡ p → length (pins_for g pins) ≡ length chunks
      lane_length g p chunks rest pins h all own =
          chunks_for g pins all ∙ ap length (ap (λ r. chunks_at r pins) own ∙ sym (h.lanes p) ∙ chunks_of-head p chunks rest)
