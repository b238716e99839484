-- Lists of what is left of links.
use Rattle.std.proofs.Common.{◌≡◌, ℕ, zero, suc, ◌+◌, ◌<◌, ◌≤◌, Bool, true, false, ◌&&◌, List, [], ◌∷◌, ◌++◌, length, map, get_or, Option, Some, None, ◌⊎◌, inl, inr, refl, sym, ap, ap₂, ◌∙◌, arith}
use Rattle.hs_run_actors.proofs.Prelude.{same_Some, map-append, slice_get, slice_set, IfSome, IfNone, AllByRecursion, lent_is, lent_from, Incoming, Outgoing, Remaining, AreEnds, sent, Key, outgoing, incoming, Leased, Buffer, buffer_of, buffer_in, Held, Intake, closed, HandsAt, IsIntakeAt, AreEndsOf, AreRests, are_given, remaining}
use Rattle.hs_base.proofs.Lent.{lent}
use Rattle.hs_run_actors.specs.Resting.{GivesAt, is_given}
use Rattle.hs_run_actors.proofs.Handing.{set_same}

module _ {T F : Type 0} where
  -- ---- the last ends of two lists

  pub last_ends : (senders : List (Outgoing T F)) (receivers : List (Incoming T F)) (s : Outgoing T F) (r : Incoming T F) → AreEndsOf (senders ++ s ∷ []) (receivers ++ r ∷ []) → AreEndsOf senders receivers × AreEnds s r
  last_ends [] [] s r ends = (tt, ends.0)
  last_ends [] (q ∷ []) s r ends = absurd ends.1
  last_ends [] (q ∷ (p ∷ receivers)) s r ends = absurd ends.1
  last_ends (t ∷ []) [] s r ends = absurd ends.1
  last_ends (t ∷ (u ∷ senders)) [] s r ends = absurd ends.1
  last_ends (t ∷ senders) (q ∷ receivers) s r ends = let rest = last_ends senders receivers s r ends.1 in ((ends.0, rest.0), rest.1)

  -- one list is empty where the other is
  pub no_ends : (receivers : List (Incoming T F)) → AreEndsOf [] receivers → receivers ≡ []
  no_ends [] ends = refl
  no_ends (r ∷ receivers) ends = absurd ends

  pub no_starts : (senders : List (Outgoing T F)) → AreEndsOf senders [] → senders ≡ []
  no_starts [] ends = refl
  no_starts (s ∷ senders) ends = absurd ends

  pub rests_more : (senders : List (Outgoing T F)) (receivers : List (Incoming T F)) (rests : List (Remaining T F)) (s : Outgoing T F) (r : Incoming T F) (x : Remaining T F) → AreRests senders receivers rests → r.received ++ x.items ≡ sent s → x.key ≡ r.key
      → AreRests (senders ++ s ∷ []) (receivers ++ r ∷ []) (rests ++ x ∷ [])
  rests_more [] [] [] s r x are items key = (items, key, tt)
  rests_more [] [] (y ∷ rests) s r x are items key = absurd are
  rests_more [] (q ∷ receivers) rests s r x are items key = absurd are
  rests_more (t ∷ senders) [] rests s r x are items key = absurd are
  rests_more (t ∷ senders) (q ∷ receivers) [] s r x are items key = absurd are
  rests_more (t ∷ senders) (q ∷ receivers) (y ∷ rests) s r x are items key = (are.0, are.1, rests_more senders receivers rests s r x are.2 items key)

  -- ---- the next item

  pub given_at : (rests now : List (Remaining T F)) (place : ℕ) (default q : Remaining T F) (item : Option T) → now ≡ rests → place < length rests → q.key ≡ (get_or now place default).key → IfSome item (λ x. (get_or now place default).items ≡ x ∷ q.items)
      → IfNone item (((get_or now place default).items ≡ []) × (q.items ≡ [])) → GivesAt place rests item (lent rests now place q)
  given_at rests now place default q (Some x) same within key some none =
      (get_or now place default, q, lent_from rests now place default same within, lent_is rests now place q same, key, some)
  given_at rests now place default q None same within key some none =
      let r = get_or now place default in
      let at = lent_from rests now place default same within in
      let unchanged : q ≡ r = ap₂ (λ (k : F) (l : List T). record { key = k; items = l }) key (none.1 ∙ sym none.0) in
      (r, at, lent_is rests now place q same ∙ ap (λ (x : Remaining T F). slice_set rests place x) unchanged ∙ set_same rests place r at, none.0)

  -- ---- whether all were given

  abbrev pub GivenBelow : ℕ → List (Remaining T F) → Type 0
  GivenBelow count rests = (place : ℕ) (r : Remaining T F) → place < count → slice_get rests place ≡ Some r → length r.items ≡ 0

  given_is : (items : List T) (key : F) → length items ≡ 0 → is_given (record { key = key; items = items }) ≡ true
  given_is [] key e = refl
  given_is (x ∷ items) key e = absurd (omega (arith, e))

  not_given : (items : List T) (key : F) → 0 < length items → is_given (record { key = key; items = items }) ≡ false
  not_given [] key e = absurd (omega (arith, e))
  not_given (x ∷ items) key e = refl

  pub all_were : (rests : List (Remaining T F)) (count : ℕ) → length rests ≤ count → GivenBelow count rests → are_given rests ≡ true
  all_were [] count high each = refl
  all_were (r ∷ rests) count high each =
      let first = given_is r.items r.key (each 0 r (omega (arith, high)) refl) in
      let rest = all_were rests (length rests) (omega arith) (λ place x low at. each (suc place) x (omega (arith, low, high)) at) in
      ap₂ (λ (a b : Bool). a && b) first rest

  pub one_was_not : (rests : List (Remaining T F)) (place : ℕ) (r : Remaining T F) → slice_get rests place ≡ Some r → 0 < length r.items → are_given rests ≡ false
  one_was_not [] place r at e = let none : None ≡ Some r = at in absurd cc
  one_was_not (x ∷ rests) zero r at e = let same : x ≡ r = same_Some x r at in ap (λ (a : Bool). a && are_given rests) (ap is_given same ∙ not_given r.items r.key e)
  one_was_not (x ∷ rests) (suc place) r at e = ap (λ (b : Bool). is_given x && b) (one_was_not rests place r at e) ∙ and_false (is_given x)
    where
      and_false : (b : Bool) → (b && false) ≡ false
      and_false true = refl
      and_false false = refl

  pub given_more : (count : ℕ) (rests : List (Remaining T F)) (r : Remaining T F) → GivenBelow count rests → slice_get rests count ≡ Some r → length r.items ≡ 0 → GivenBelow (count + 1) rests
  given_more count rests r each at e = λ place x low found. here_or place x low found (nat_below place count)
    where
      nat_below : (a b : ℕ) → ((a < b) ⊎ (b ≤ a))
      nat_below zero zero = inr (omega arith)
      nat_below zero (suc b) = inl (omega arith)
      nat_below (suc a) zero = inr (omega arith)
      nat_below (suc a) (suc b) = elim (nat_below a b) [ inl low ↦ inl (omega (arith, low)) | inr high ↦ inr (omega (arith, high)) ]

      here_or : (place : ℕ) (x : Remaining T F) → place < count + 1 → slice_get rests place ≡ Some x → ((place < count) ⊎ (count ≤ place)) → length x.items ≡ 0
      here_or place x low found (inl less) = each place x less found
      here_or place x low found (inr high) =
          let same : count ≡ place = omega (arith, low, high) in
          ap (λ (y : Remaining T F). length y.items) (same_Some x r (sym found ∙ ap (λ n. slice_get rests n) (sym same) ∙ at)) ∙ e

  given_nil : (items : List T) (key : F) (others : Bool) → (is_given (record { key = key; items = items }) && others) ≡ true → (items ≡ []) × (others ≡ true)
  given_nil [] key others e = (refl, e)
  given_nil (x ∷ items) key others e = absurd cc

  -- nothing is left of any
  pub all_empty : (rests : List (Remaining T F)) → are_given rests ≡ true → AllByRecursion (λ (r : Remaining T F). r.items ≡ []) rests
  all_empty [] e = tt
  all_empty (r ∷ rests) e = let both = given_nil r.items r.key (are_given rests) e in (both.0, all_empty rests both.1)

  pub all_are_given : (rests : List (Remaining T F)) → AllByRecursion (λ (r : Remaining T F). r.items ≡ []) rests → are_given rests ≡ true
  all_are_given [] all = refl
  all_are_given (r ∷ rests) all = ap₂ (λ (a b : Bool). a && b) (ap (λ (l : List T). is_given (record { key = r.key; items = l })) all.0) (all_are_given rests all.1)

  pub not_nil : (xs : List (Outgoing T F)) (s : Outgoing T F) → xs ++ s ∷ [] ≡ [] → ⊥
  not_nil [] s e = absurd cc
  not_nil (x ∷ xs) s e = absurd cc

-- ---- lines

module _ {T : Type 0} where
  abbrev pub shut_list : List (Remaining T Key) → List (Intake T)
  shut_list rests = map (λ (r : Remaining T Key). closed r) rests

  pub rest_at : (rests : List (Remaining T Key)) (client : ℕ) (r : Remaining T Key) → slice_get rests client ≡ Some r → IsIntakeAt client (shut_list rests) (closed r)
  rest_at [] client r at = let none : None ≡ Some r = at in absurd cc
  rest_at (q ∷ rests) zero r at = ap (λ (x : Remaining T Key). Some (closed x)) (same_Some q r at)
  rest_at (q ∷ rests) (suc client) r at = rest_at rests client r at

  pub left_at : (rests : List (Remaining T Key)) (client : ℕ) (l : Intake T) → IsIntakeAt client (shut_list rests) l → (r : Remaining T Key) × (slice_get rests client ≡ Some r) × (l ≡ closed r)
  left_at [] client l at = let none : None ≡ Some l = at in absurd cc
  left_at (q ∷ rests) zero l at = (q, refl, sym (same_Some (closed q) l at))
  left_at (q ∷ rests) (suc client) l at = left_at rests client l at

  shut_set : (rests : List (Remaining T Key)) (client : ℕ) (r : Remaining T Key) → shut_list (slice_set rests client r) ≡ slice_set (shut_list rests) client (closed r)
  shut_set [] client r = refl
  shut_set (q ∷ rests) zero r = refl
  shut_set (q ∷ rests) (suc client) r = ap (λ (l : List (Intake T)). closed q ∷ l) (shut_set rests client r)

  pub hands_left : (rests rests' : List (Remaining T Key)) (client : ℕ) (item : Option T) → GivesAt client rests item rests' → HandsAt client (shut_list rests) item (shut_list rests')
  hands_left rests rests' client (Some item) h = (closed h.0, closed h.1, rest_at rests client h.0 h.2, ap shut_list h.3 ∙ shut_set rests client h.1, (h.4, h.5))
  hands_left rests rests' client None h = (closed h.0, rest_at rests client h.0 h.1, ap shut_list h.2, ap length h.3)

-- ---- chunks as buffers

module _ {g : _} where
  abbrev pub buffered : List (Remaining (Held Leased g) Key) → List (Remaining (Buffer Leased) Key)
  buffered rests = map remaining rests

  buffered_at : (rests : List (Remaining (Held Leased g) Key)) (client : ℕ) (r : Remaining (Held Leased g) Key) → slice_get rests client ≡ Some r → slice_get (buffered rests) client ≡ Some (remaining r)
  buffered_at [] client r at = let none : None ≡ Some r = at in absurd cc
  buffered_at (q ∷ rests) zero r at = ap (λ (x : Remaining (Held Leased g) Key). Some (remaining x)) (same_Some q r at)
  buffered_at (q ∷ rests) (suc client) r at = buffered_at rests client r at

  buffered_set : (rests : List (Remaining (Held Leased g) Key)) (client : ℕ) (r : Remaining (Held Leased g) Key) → buffered (slice_set rests client r) ≡ slice_set (buffered rests) client (remaining r)
  buffered_set [] client r = refl
  buffered_set (q ∷ rests) zero r = refl
  buffered_set (q ∷ rests) (suc client) r = ap (λ (l : List (Remaining (Buffer Leased) Key)). remaining q ∷ l) (buffered_set rests client r)

  pub gives_buffered : (rests rests' : List (Remaining (Held Leased g) Key)) (client : ℕ) (item : Option (Held Leased g)) → GivesAt client rests item rests' → GivesAt client (buffered rests) (buffer_in item) (buffered rests')
  gives_buffered rests rests' client (Some item) h =
      (remaining h.0, remaining h.1, buffered_at rests client h.0 h.2, ap buffered h.3 ∙ buffered_set rests client h.1, h.4, ap (map buffer_of) h.5)
  gives_buffered rests rests' client None h = (remaining h.0, buffered_at rests client h.0 h.1, ap buffered h.2, ap (map buffer_of) h.3)

  pub buffered_line : (rests : List (Remaining (Held Leased g) Key)) (client : ℕ) (r : Remaining (Held Leased g) Key) → slice_get rests client ≡ Some r → IsIntakeAt client (shut_list (buffered rests)) (closed (remaining r))
  buffered_line rests client r at = rest_at (buffered rests) client (remaining r) (buffered_at rests client r at)

  pub rests_buffered : (senders : List (Outgoing (Held Leased g) Key)) (receivers : List (Incoming (Held Leased g) Key)) (rests : List (Remaining (Held Leased g) Key)) → AreRests senders receivers rests → AreRests (map outgoing senders) (map incoming receivers) (buffered rests)
  rests_buffered [] [] [] are = tt
  rests_buffered [] [] (x ∷ rests) are = absurd are
  rests_buffered [] (r ∷ receivers) rests are = absurd are
  rests_buffered (s ∷ senders) [] rests are = absurd are
  rests_buffered (s ∷ senders) (r ∷ receivers) [] are = absurd are
  rests_buffered (s ∷ senders) (r ∷ receivers) (x ∷ rests) are =
      (sym (map-append buffer_of r.received x.items) ∙ ap (map buffer_of) are.0 ∙ map-append buffer_of s.put s.outbox, are.1, rests_buffered senders receivers rests are.2)

  given_same : (r : Remaining (Held Leased g) Key) → is_given (remaining r) ≡ is_given r
  given_same r = go r.items
    where
      go : (items : List (Held Leased g)) → is_given (record { key = r.key; items = map buffer_of items }) ≡ is_given (record { key = r.key; items = items })
      go [] = refl
      go (x ∷ items) = refl

  pub given_buffered : (rests : List (Remaining (Held Leased g) Key)) → are_given (buffered rests) ≡ are_given rests
  given_buffered [] = refl
  given_buffered (r ∷ rests) = ap₂ (λ (a b : Bool). a && b) (given_same r) (given_buffered rests)

  -- the ends of links of chunks are those of links of buffers
  pub held_ends : (senders : List (Outgoing (Held Leased g) Key)) (receivers : List (Incoming (Held Leased g) Key)) → AreEndsOf (map outgoing senders) (map incoming receivers) → AreEndsOf senders receivers
  held_ends [] [] ends = tt
  held_ends [] (r ∷ receivers) ends = absurd ends
  held_ends (s ∷ senders) [] ends = absurd ends
  held_ends (s ∷ senders) (r ∷ receivers) ends = (ends.0, held_ends senders receivers ends.1)
