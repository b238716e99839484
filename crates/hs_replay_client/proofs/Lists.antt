-- Fronts and ends of lists.
use Rattle.std.proofs.Common.{◌≡◌, ℕ, zero, suc, ◌+◌, ◌<◌, ◌≤◌, Bool, true, false, List, [], ◌∷◌, ◌++◌, length, map, take, drop, get_or, Some, refl, sym, ap, ◌∙◌, arith, append_assoc, length-append}
use Rattle.hs_replay_client.proofs.Prelude.{append-nil, map-append, take-append-drop, length-take-le, take_at, drop_at, ltb-false, le-ltb, slice_get, nat_lt, AreInOrder, Sent, sent_within}
use Rattle.std.proofs.lemmas.List.{drop_more, take-map}
use Rattle.hs_base.proofs.Places.{get_mid}

module _ {A : Type 0} where
  take_none : (k : ℕ) → take {A = A} k [] ≡ []
  take_none zero = refl
  take_none (suc k) = refl

  pub take_add : (n k : ℕ) (xs : List A) → take n xs ++ take k (drop n xs) ≡ take (n + k) xs
  take_add zero k xs = let same : k ≡ zero + k = omega arith in ap (λ i. take i xs) same
  take_add (suc n) k [] = take_none k ∙ sym (take_none (suc n + k))
  take_add (suc n) k (x ∷ xs) = let same : suc (n + k) ≡ suc n + k = omega arith in ap (λ (l : List A). x ∷ l) (take_add n k xs) ∙ ap (λ i. take i (x ∷ xs)) same

  -- the next of the items that wait
  pub record IsNext (taken : ℕ) (sent more : List A) (x : A) : Type 0 where
    pub within : taken + 1 ≤ length sent
    pub left : more ≡ drop (taken + 1) sent
    pub gone : take (taken + 1) sent ≡ take taken sent ++ x ∷ []
    pub is : slice_get sent taken ≡ Some x

  pub is_next : (taken : ℕ) (sent more : List A) (x : A) → taken ≤ length sent → x ∷ more ≡ drop taken sent → IsNext taken sent more x
  is_next taken sent more x within waits =
      let front = take taken sent in
      let long : length front ≡ taken = length-take-le taken sent within in
      let whole : front ++ x ∷ more ≡ sent = ap (λ (l : List A). front ++ l) waits ∙ take-append-drop taken sent in
      let split : (front ++ x ∷ []) ++ more ≡ sent = append_assoc front (x ∷ []) more ∙ whole in
      let longer : length (front ++ x ∷ []) ≡ taken + 1 = omega (arith, long, length-append front (x ∷ [])) in
      record {
        within = omega (arith, ap length whole, length-append front (x ∷ more), long);
        left = sym (drop_at (front ++ x ∷ []) more (taken + 1) longer) ∙ ap (drop (taken + 1)) split;
        gone = ap (take (taken + 1)) (sym split) ∙ take_at (front ++ x ∷ []) more (taken + 1) longer;
        is = ap (λ (l : List A). slice_get l taken) (sym whole) ∙ ap (slice_get (front ++ x ∷ more)) (sym long) ∙ get_mid front x more;
      }

  -- all were taken
  pub none_waits : (taken : ℕ) (sent : List A) → taken ≤ length sent → [] ≡ drop taken sent → taken ≡ length sent
  none_waits taken sent within none =
      let whole : take taken sent ++ [] ≡ sent = ap (λ (l : List A). take taken sent ++ l) none ∙ take-append-drop taken sent in
      omega (arith, length-take-le taken sent within, ap length (sym (append-nil (take taken sent)) ∙ whole))

  -- ---- items in their order

  pub later_none : (n from : ℕ) (items : List (Sent A)) → AreInOrder from items → n ≤ from → sent_within n items ≡ []
  later_none n from [] is low = refl
  later_none n from (item ∷ items) is low = let late : n ≤ item.number = omega (arith, is.0, low) in rw (le-ltb item.number n late) (later_none n item.number items is.1 late)

  front_by : (n : ℕ) (item : Sent A) (items : List (Sent A)) → AreInOrder item.number items → (more : List (Sent A)) × (items ≡ sent_within n items ++ more) → (b : Bool) → nat_lt item.number n ≡ b
      → (more : List (Sent A)) × (item ∷ items ≡ sent_within n (item ∷ items) ++ more)
  front_by n item items is rest true e = (rest.0, rw e (ap (λ (l : List (Sent A)). item ∷ l) rest.1))
  front_by n item items is rest false e = (item ∷ items, rw e (sym (ap (λ (l : List (Sent A)). l ++ item ∷ items) (later_none n item.number items is (ltb-false item.number n e)))))

  -- what the first operations send stands first
  pub sent_first : (n from : ℕ) (items : List (Sent A)) → AreInOrder from items → (more : List (Sent A)) × (items ≡ sent_within n items ++ more)
  sent_first n from [] is = ([], refl)
  sent_first n from (item ∷ items) is = front_by n item items is.1 (sent_first n item.number items is.1) (nat_lt item.number n) refl

module _ {A B : Type 0} (f : A → B) where
  -- the item at a place of a part, with what stands before it
  pub next_at : (xs : List A) (n k i : ℕ) (x : A) → i < length (take k (drop n xs)) → x ≡ get_or (take k (drop n xs)) i x
      → (rest : List B) × (map f xs ≡ (take n (map f xs) ++ map f (take i (take k (drop n xs)))) ++ f x ∷ rest)
  next_at xs n k i x within is =
      let part = take k (drop n xs) in
      let behind = drop k (drop n xs) in
      let here : drop i part ≡ x ∷ drop (i + 1) part = drop_more part i x within ∙ ap (λ (y : A). y ∷ drop (i + 1) part) (sym is) in
      let cut : part ≡ take i part ++ x ∷ drop (i + 1) part = sym (take-append-drop i part) ∙ ap (λ (l : List A). take i part ++ l) here in
      let rest = drop (i + 1) part ++ behind in
      let ends : drop n xs ≡ take i part ++ x ∷ rest =
      sym (take-append-drop k (drop n xs)) ∙ ap (λ (l : List A). l ++ behind) cut ∙ append_assoc (take i part) (x ∷ drop (i + 1) part) behind in
      let whole : xs ≡ take n xs ++ (take i part ++ x ∷ rest) = sym (take-append-drop n xs) ∙ ap (λ (l : List A). take n xs ++ l) ends in (
        map f rest,
        ap (map f) whole ∙ map-append f (take n xs) (take i part ++ x ∷ rest) ∙ ap (λ (l : List B). map f (take n xs) ++ l) (map-append f (take i part) (x ∷ rest))
            ∙ sym (append_assoc (map f (take n xs)) (map f (take i part)) (f x ∷ map f rest))
            ∙ ap (λ (l : List B). (l ++ map f (take i part)) ++ f x ∷ map f rest) (sym (take-map f n xs)),
      )

  -- a part behind a front
  pub part_behind : (xs : List A) (n k : ℕ) → take n (map f xs) ++ map f (take k (drop n xs)) ≡ take (n + k) (map f xs)
  part_behind xs n k =
      ap (λ (l : List B). l ++ map f (take k (drop n xs))) (take-map f n xs) ∙ sym (map-append f (take n xs) (take k (drop n xs))) ∙ ap (map f) (take_add n k xs) ∙ sym (take-map f (n + k) xs)
