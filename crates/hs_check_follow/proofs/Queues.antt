-- What one operation more sends of a kind, and taking it item by item.
use Rattle.std.proofs.Common.{◌≡◌, ℕ, zero, suc, ◌+◌, ◌<◌, ◌≤◌, Bool, true, false, cond, List, [], ◌∷◌, ◌++◌, length, take, Some, None, refl, sym, ap, subst, ◌∙◌, arith}
use Rattle.hs_check_follow.proofs.Prelude.{ltb-true, ltb-false, lt-ltb, map-append, same_Some, slice_get, nat_lt, numbers_of, PlainReplayClient, items_of, AreInOrder, Sent, sent_within, HasItems, AreNumbers, count_within}
use Rattle.hs_base.proofs.Parts.{take_length}
use Rattle.hs_replay_client.proofs.Lists.{later_none}
use Rattle.hs_check_follow.specs.Gathering.{Was, Is}

module _ {A : Type 0} where
  -- what fewer operations send comes first
  pub first_within : (n from : ℕ) (items : List (Sent A)) → AreInOrder from items → take (count_within n items) (sent_within (n + 1) items) ≡ sent_within n items
  first_within n from [] is = refl
  first_within n from (item ∷ items) is = either (nat_lt item.number n) refl (first_within n item.number items is.1)
    where
      either : (b : Bool) → nat_lt item.number n ≡ b → take (count_within n items) (sent_within (n + 1) items) ≡ sent_within n items
          → take (count_within n (item ∷ items)) (sent_within (n + 1) (item ∷ items)) ≡ sent_within n (item ∷ items)
      either true e on =
          let low : item.number < n = ltb-true item.number n e in
          let lower : item.number < n + 1 = omega (arith, low) in
          rw e (rw (lt-ltb item.number (n + 1) lower) (ap (λ (l : List (Sent A)). item ∷ l) on))
      either false e on = let late : n ≤ item.number = ltb-false item.number n e in rw e (rw (later_none n item.number items is.1 late) refl)

  -- and what comes behind it is sent by the last operation
  pub at_is : (n from : ℕ) (items : List (Sent A)) (k : ℕ) (found : Sent A) → AreInOrder from items → slice_get (sent_within (n + 1) items) k ≡ Some found → count_within n items ≤ k → found.number ≡ n
  at_is n from [] k found is at least = let no : None ≡ Some found = at in absurd cc
  at_is n from (item ∷ items) k found is at least = step (nat_lt item.number n) (nat_lt item.number (n + 1)) k refl refl at least (λ k at least. at_is n item.number items k found is.1 at least)
    where
      step : (a b : Bool) (k : ℕ) → nat_lt item.number n ≡ a → nat_lt item.number (n + 1) ≡ b → slice_get (cond b (item ∷ sent_within (n + 1) items) (sent_within (n + 1) items)) k ≡ Some found
          → length (cond a (item ∷ sent_within n items) (sent_within n items)) ≤ k
          → ((k : ℕ) → slice_get (sent_within (n + 1) items) k ≡ Some found → count_within n items ≤ k → found.number ≡ n) → found.number ≡ n
      step true true zero ea eb at least on = absurd (omega (arith, least))
      step true true (suc k) ea eb at least on = on k at (omega (arith, least))
      step true false k ea eb at least on = let low = ltb-true item.number n ea in let high = ltb-false item.number (n + 1) eb in absurd (omega (arith, low, high))
      step false true zero ea eb at least on =
          let low = ltb-true item.number (n + 1) eb in
          let high = ltb-false item.number n ea in
          let same = ap (λ (s : Sent A). s.number) (same_Some item found at) in
          omega (arith, low, high, same)
      step false true (suc k) ea eb at least on =
          let late : n ≤ item.number = ltb-false item.number n ea in
          let none = ap length (later_none n item.number items is.1 late) in
          on k at (omega (arith, none))
      step false false k ea eb at least on = on k at least

  pub take_next : (xs : List (Sent A)) (k : ℕ) (x : Sent A) → slice_get xs k ≡ Some x → take (k + 1) xs ≡ take k xs ++ x ∷ []
  take_next xs k x at = let same : k + 1 ≡ suc k = omega arith in ap (λ n. take n xs) same ∙ go xs k at
    where
      go : (xs : List (Sent A)) (k : ℕ) → slice_get xs k ≡ Some x → take (suc k) xs ≡ take k xs ++ x ∷ []
      go [] k at = let no : None ≡ Some x = at in absurd cc
      go (y ∷ ys) zero at = ap (λ (y : Sent A). y ∷ []) (same_Some y x at)
      go (y ∷ ys) (suc k) at = ap (λ (l : List (Sent A)). y ∷ l) (go ys k at)

  -- ---- amid the items of an operation

  -- So many items were taken, of those that were sent by now; they have all that earlier operations sent.
  pub record Midway (At : ℕ → PlainReplayClient → Type 0) (Holds : List (Sent A) → Type 0) (items : List (Sent A)) (number : ℕ) (player : PlainReplayClient) : Type 0 where
    pub count : ℕ
    pub at : At count player
    pub least : count_within number items ≤ count
    pub holds : Holds (take count (sent_within (number + 1) items))

  pub begins : (At : ℕ → PlainReplayClient → Type 0) (Holds : List (Sent A) → Type 0) (items : List (Sent A)) (number : ℕ) (player : PlainReplayClient) → AreInOrder 0 items → Was At Holds items number player
      → Midway At Holds items number player
  begins At Holds items number player order was =
      record {
        count = count_within number items;
        at = was.at;
        least = omega arith;
        holds = subst Holds (sym (first_within number 0 items order)) was.holds;
      }

  pub goes_on : (At : ℕ → PlainReplayClient → Type 0) (Holds Next : List (Sent A) → Type 0) (items : List (Sent A)) (number : ℕ) (player next : PlainReplayClient) (item : Sent A) → AreInOrder 0 items
      → (m : Midway At Holds items number player) → slice_get (sent_within (number + 1) items) m.count ≡ Some item → At (m.count + 1) next
      → ((front : List (Sent A)) → item.number ≡ number → Holds front → Next (front ++ item ∷ [])) → Midway At Next items number next
  goes_on At Holds Next items number player next item order m found at joins =
      record {
        count = m.count + 1;
        at = at;
        least = omega (arith, m.least);
        holds =
            subst Next (sym (take_next (sent_within (number + 1) items) m.count item found))
            (joins (take m.count (sent_within (number + 1) items)) (at_is number 0 items m.count item order found m.least) m.holds);
      }

  pub ends : (At : ℕ → PlainReplayClient → Type 0) (Holds : List (Sent A) → Type 0) (items : List (Sent A)) (number : ℕ) (player next : PlainReplayClient) (m : Midway At Holds items number player)
      → m.count ≡ count_within (number + 1) items → At m.count next → Is At Holds items number next
  ends At Holds items number player next m all at =
      record {
        at = subst (λ k. At k next) all at;
        holds = subst Holds (ap (λ k. take k (sent_within (number + 1) items)) all ∙ take_length (sent_within (number + 1) items)) m.holds;
      }

  -- the operation sends none
  pub none_more : (At : ℕ → PlainReplayClient → Type 0) (Holds : List (Sent A) → Type 0) (items : List (Sent A)) (number : ℕ) (player : PlainReplayClient) → AreInOrder 0 items → Was At Holds items number player
      → count_within number items ≡ count_within (number + 1) items → Is At Holds items number player
  none_more At Holds items number player order was all =
      record {
        at = subst (λ k. At k player) all was.at;
        holds =
            subst Holds (ap (λ k. take k (sent_within (number + 1) items)) all ∙ take_length (sent_within (number + 1) items))
            (subst Holds (sym (first_within number 0 items order)) was.holds);
      }

  -- ---- one item more

  pub one_number : (front : List (Sent A)) (item : Sent A) (number : ℕ) (numbers numbers' : List ℕ) → numbers' ≡ numbers ++ number ∷ [] → item.number ≡ number → AreNumbers front numbers → AreNumbers (front ++ item ∷ []) numbers'
  one_number front item number numbers numbers' numbers_are own are =
      numbers_are ∙ ap (λ (l : List ℕ). l ++ number ∷ []) are ∙ ap (λ n. numbers_of front ++ n ∷ []) (sym own) ∙ sym (map-append (λ (s : Sent A). s.number) front (item ∷ []))

  pub one_item : (front : List (Sent A)) (item : Sent A) (x : A) (number : ℕ) (queue queue' : List A) (numbers numbers' : List ℕ) → item.item ≡ x → queue' ≡ queue ++ x ∷ [] → numbers' ≡ numbers ++ number ∷ []
      → item.number ≡ number → HasItems front queue numbers → HasItems (front ++ item ∷ []) queue' numbers'
  one_item front item x number queue queue' numbers numbers' is queue_is numbers_are own h =
      record {
        queue_is = queue_is ∙ ap (λ (l : List A). l ++ x ∷ []) h.queue_is ∙ ap (λ y. items_of front ++ y ∷ []) (sym is) ∙ sym (map-append (λ (s : Sent A). s.item) front (item ∷ []));
        numbers_are = one_number front item number numbers numbers' numbers_are own h.numbers_are;
      }
