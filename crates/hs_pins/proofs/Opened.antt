-- Groups of which one is open: its chunks put back at its place are as they were, and more of them are as those that are pinned.
use Rattle.std.proofs.Common.{◌≡◌, ◌<◌, Bool, true, false, cond, List, [], ◌∷◌, ◌++◌, length, Some, None, IsSome, refl, sym, ap, ◌∙◌, arith, true≢false}
use Rattle.hs_pins.proofs.Prelude.{AllByRecursion, IsStrictlySortedBy, is_some, lookup, set_value, remove_entry, keys_of, insert_entry, Ordering, Less, Equal, Greater, is_eq, match_ordering, set_value_same, sorted_head, sorted_tail, append-nil, Buffer, Priority, priority_cmp, same_priority, Groups, pinned}
use Rattle.std.proofs.lemmas.Map.{lookup-remove_entry}
use Rattle.std.proofs.lemmas.Map.Keys.{IsDistinct-from_sorted}
use Rattle.hs_pins.specs.Opening.{with_pile}
use Rattle.hs_pins.proofs.Order.{priority_laws, priority_exact}
use Rattle.hs_pins.proofs.Lanes.{less_all, one_test, sorted_remove, sorted_set}
use Rattle.hs_pins.proofs.GroupLemmas.{pinned-none, pinned-some}

module _ {K V : Type 0} where
  pub set_set : (test : K → Bool) (es : List (K × V)) (v w : V) → set_value test (set_value test es v) w ≡ set_value test es w
  set_set test [] v w = refl
  set_set test (x ∷ es) v w = at (test x.0) refl (set_set test es v w)
    where
      at : (b : Bool) → test x.0 ≡ b → set_value test (set_value test es v) w ≡ set_value test es w
          → set_value test (cond b ((x.0, v) ∷ es) (x ∷ set_value test es v)) w ≡ cond b ((x.0, w) ∷ es) (x ∷ set_value test es w)
      at true e rest = ap (λ b. cond b ((x.0, w) ∷ es) ((x.0, v) ∷ set_value test es w)) e
      at false e rest = ap (λ b. cond b ((x.0, w) ∷ set_value test es v) (x ∷ set_value test (set_value test es v) w)) e ∙ ap (λ r. x ∷ r) rest

  pub lookup_set : (test : K → Bool) (es : List (K × V)) (w : V) → IsSome (lookup test es) → lookup test (set_value test es w) ≡ Some w
  lookup_set test [] w found = absurd (true≢false (sym found))
  lookup_set test (x ∷ es) w found = at (test x.0) refl found (lookup_set test es w)
    where
      at : (b : Bool) → test x.0 ≡ b → IsSome (cond b (Some x.1) (lookup test es)) → (IsSome (lookup test es) → lookup test (set_value test es w) ≡ Some w)
          → lookup test (cond b ((x.0, w) ∷ es) (x ∷ set_value test es w)) ≡ Some w
      at true e found rest = ap (λ b. cond b (Some w) (lookup test es)) e
      at false e found rest = ap (λ b. cond b (Some x.1) (lookup test (set_value test es w))) e ∙ rest found

module _ {L : Type 0} where
  remove_inserted : (p : Priority) (es : Groups L) (w : List (Buffer L)) → lookup (same_priority p) es ≡ None → remove_entry (same_priority p) (insert_entry priority_cmp es p w) ≡ es
  remove_inserted p [] w none = ap (λ b. cond b [] ((p, w) ∷ [])) (priority_laws.refl p)
  remove_inserted p (x ∷ es) w none = at (priority_cmp p x.0) refl none (remove_inserted p es w)
    where
      at : (o : Ordering) → priority_cmp p x.0 ≡ o → cond (is_eq o) (Some x.1) (lookup (same_priority p) es) ≡ None
          → (lookup (same_priority p) es ≡ None → remove_entry (same_priority p) (insert_entry priority_cmp es p w) ≡ es)
          → remove_entry (same_priority p) (match_ordering o ((p, w) ∷ x ∷ es) ((x.0, w) ∷ es) (x ∷ insert_entry priority_cmp es p w)) ≡ x ∷ es
      at Less e none rest = ap (λ b. cond b (x ∷ es) ((p, w) ∷ remove_entry (same_priority p) (x ∷ es))) (priority_laws.refl p)
      at Equal e none rest = absurd cc
      at Greater e none rest = ap (λ o. cond (is_eq o) (insert_entry priority_cmp es p w) (x ∷ remove_entry (same_priority p) (insert_entry priority_cmp es p w))) e ∙ ap (λ r. x ∷ r) (rest none)

  pub found_inserted : (p : Priority) (es : Groups L) (w : List (Buffer L)) → IsSome (lookup (same_priority p) (insert_entry priority_cmp es p w))
  found_inserted p [] w = ap (λ b. is_some (cond b (Some w) None)) (priority_laws.refl p)
  found_inserted p (x ∷ es) w = at (priority_cmp p x.0) refl (found_inserted p es w)
    where
      at : (o : Ordering) → priority_cmp p x.0 ≡ o → IsSome (lookup (same_priority p) (insert_entry priority_cmp es p w))
          → IsSome (lookup (same_priority p) (match_ordering o ((p, w) ∷ x ∷ es) ((x.0, w) ∷ es) (x ∷ insert_entry priority_cmp es p w)))
      at Less e rest = ap (λ b. is_some (cond b (Some w) (lookup (same_priority p) (x ∷ es)))) (priority_laws.refl p)
      at Equal e rest = ap (λ o. is_some (cond (is_eq o) (Some w) (lookup (same_priority p) es))) e
      at Greater e rest = ap (λ o. is_some (cond (is_eq o) (Some x.1) (lookup (same_priority p) (insert_entry priority_cmp es p w)))) e ∙ rest

  none_above : (p : Priority) (es : Groups L) → AllByRecursion (λ q. priority_cmp p q ≡ Less) (keys_of es) → lookup (same_priority p) es ≡ None
  none_above p [] all = refl
  none_above p (x ∷ es) all = ap (λ o. cond (is_eq o) (Some x.1) (lookup (same_priority p) es)) all.0 ∙ none_above p es all.1

  insert_below : (p : Priority) (es : Groups L) (w : List (Buffer L)) → AllByRecursion (λ q. priority_cmp p q ≡ Less) (keys_of es) → insert_entry priority_cmp es p w ≡ (p, w) ∷ es
  insert_below p [] w all = refl
  insert_below p (x ∷ es) w all = ap (λ o. match_ordering o ((p, w) ∷ x ∷ es) ((x.0, w) ∷ es) (x ∷ insert_entry priority_cmp es p w)) all.0

  removed_none : (p : Priority) (es : Groups L) → IsStrictlySortedBy priority_cmp (keys_of es) → lookup (same_priority p) (remove_entry (same_priority p) es) ≡ None
  removed_none p es rising =
      lookup-remove_entry priority_laws (same_priority p) (one_test p) p es (IsDistinct-from_sorted priority_cmp (keys_of es) rising)
      ∙ ap (λ b. cond b None (lookup (same_priority p) es)) (priority_laws.refl p)

  -- taken out and put in again is written
  insert_removed : (p : Priority) (es : Groups L) (w : List (Buffer L)) → IsStrictlySortedBy priority_cmp (keys_of es) → IsSome (lookup (same_priority p) es)
      → insert_entry priority_cmp (remove_entry (same_priority p) es) p w ≡ set_value (same_priority p) es w
  insert_removed p [] w rising found = absurd (true≢false (sym found))
  insert_removed p (x ∷ es) w rising found = at (priority_cmp p x.0) refl found (insert_removed p es w (sorted_tail priority_cmp x.0 (keys_of es) rising))
    where
      above : AllByRecursion (λ q. priority_cmp x.0 q ≡ Less) (keys_of es)
      above = sorted_head priority_cmp x.0 (keys_of es) rising

      at : (o : Ordering) → priority_cmp p x.0 ≡ o → IsSome (cond (is_eq o) (Some x.1) (lookup (same_priority p) es))
          → (IsSome (lookup (same_priority p) es) → insert_entry priority_cmp (remove_entry (same_priority p) es) p w ≡ set_value (same_priority p) es w)
          → insert_entry priority_cmp (cond (is_eq o) es (x ∷ remove_entry (same_priority p) es)) p w ≡ cond (is_eq o) ((x.0, w) ∷ es) (x ∷ set_value (same_priority p) es w)
      at Less e found rest = absurd (true≢false (sym found ∙ ap is_some (none_above p es (less_all p x.0 (keys_of es) e above))))
      at Equal e found rest =
          let same = priority_exact p x.0 e in
          ap (λ q. insert_entry priority_cmp es q w) same ∙ insert_below x.0 es w above
      at Greater e found rest = ap (λ o. match_ordering o ((p, w) ∷ x ∷ remove_entry (same_priority p) es) ((x.0, w) ∷ remove_entry (same_priority p) es) (x ∷ insert_entry priority_cmp (remove_entry (same_priority p) es) p w)) e
          ∙ ap (λ r. x ∷ r) (rest found)

  -- ---- a group is opened

  -- the chunks of a group that has a place, put back there
  pub pile_back : (p : Priority) (es new : Groups L) (old pile emptied : List (Buffer L)) → lookup (same_priority p) es ≡ Some old → 0 < length old → new ≡ set_value (same_priority p) es emptied → pile ≡ old
      → with_pile new p pile ≡ es
  pile_back p es new [] pile emptied found some e same = absurd (omega arith)
  pile_back p es new (b ∷ bs) pile emptied found some e same =
      ap (with_pile new p) same ∙ ap (λ (gs : Groups L). set_value (same_priority p) gs (b ∷ bs)) e ∙ set_set (same_priority p) es emptied (b ∷ bs) ∙ set_value_same (same_priority p) es (b ∷ bs) found

  -- a group that has none
  pub pile_new : (p : Priority) (es new : Groups L) (pile w : List (Buffer L)) → lookup (same_priority p) es ≡ None → new ≡ insert_entry priority_cmp es p w → pile ≡ [] → with_pile new p pile ≡ es
  pile_new p es new pile w none e same = ap (with_pile new p) same ∙ ap (remove_entry (same_priority p)) e ∙ remove_inserted p es w none

  pub found_set : (p : Priority) (es new : Groups L) (old w : List (Buffer L)) → lookup (same_priority p) es ≡ Some old → new ≡ set_value (same_priority p) es w → IsSome (lookup (same_priority p) new)
  found_set p es new old w found e = ap (λ (gs : Groups L). is_some (lookup (same_priority p) gs)) e ∙ ap is_some (lookup_set (same_priority p) es w (ap is_some found))

  -- ---- more is pinned for it

  pub pile_more : (p : Priority) (es : Groups L) (pile more : List (Buffer L)) → IsStrictlySortedBy priority_cmp (keys_of es) → IsSome (lookup (same_priority p) es)
      → with_pile es p (pile ++ more) ≡ pinned (with_pile es p pile) p more
  pile_more p es pile [] rising found = ap (with_pile es p) (append-nil pile)
  pile_more p es [] (b ∷ bs) rising found =
      sym (pinned-none p (remove_entry (same_priority p) es) (b ∷ bs) (removed_none p es rising) (omega arith) ∙ insert_removed p es (b ∷ bs) rising found)
  pile_more p es (a ∷ xs) (b ∷ bs) rising found =
      sym (pinned-some p (set_value (same_priority p) es (a ∷ xs)) (a ∷ xs) (b ∷ bs) (lookup_set (same_priority p) es (a ∷ xs) found) (omega arith)
      ∙ set_set (same_priority p) es (a ∷ xs) ((a ∷ xs) ++ b ∷ bs))

  pub rising_pile : (p : Priority) (es : Groups L) (pile : List (Buffer L)) → IsStrictlySortedBy priority_cmp (keys_of es) → IsStrictlySortedBy priority_cmp (keys_of (with_pile es p pile))
  rising_pile p es [] rising = sorted_remove (same_priority p) es rising
  rising_pile p es (b ∷ bs) rising = sorted_set (same_priority p) (b ∷ bs) es rising
