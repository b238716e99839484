-- The queue of a pool, as it is drawn from and given to.
use Rattle.std.proofs.Common.{◌≡◌, ℕ, zero, suc, ◌+◌, ◌<◌, ◌≤◌, Bool, true, false, ◌||◌, List, [], ◌∷◌, ◌++◌, length, drop, map, reverse, None, refl, sym, ap, ◌∙◌, subst, arith, length-append}
use Rattle.std.proofs.lemmas.List.{length-map, map-append}
use Rattle.std.specs.Prelude.{slice_get, nat_eq}
use Rattle.std.specs.Cmp.{nat_eq_equiv}
use Rattle.std.specs.VecDeque.{deque_capacity}
use Rattle.std.proofs.lemmas.Map.Keys.{IsDistinct-cons}
use borrow.Author.Tests.{eqb-true, ne_eqb}
use Rattle.std.specs.List.{list_any, range_with_len, IsDistinct, AllByRecursion}
use Rattle.std.proofs.lemmas.Map.Keys.{IsDistinct-push, IsDistinct-tail}
use Rattle.std.proofs.lemmas.Map.Steps.{length-le_from_distinct_below}
use Rattle.hs_base.proofs.Alls.{all_push}
use Rattle.hs_words.specs.Chunks.{Contents, clear_chunk, with_page}
use Rattle.hs_words.specs.PoolHistory.{Got, Empty, Given, queue_after}
use Rattle.hs_pool.specs.declared.plain.PlainPool.TheInside.{Inside}
use Rattle.hs_pool.specs.Pool.{Pool, IsAfter, IsOut, Extends, waiting, number_of}
use Rattle.hs_pool.specs.Queue.{pool_of, IsPool}
use Rattle.hs_pool.proofs.History.{is, extended, out_is_given}

-- a draw that got the front
pub got : (old new : Pool) (chunk : Contents) → old.queue ≡ chunk ∷ new.queue → new.buffers ≡ old.buffers → new.events ≡ old.events + 1 → Extends old (Got chunk.number) new
got old new chunk front buffers events history after =
    let numbers : chunk.number ∷ waiting new ≡ queue_after old.buffers (reverse history) = sym (ap (map number_of) front) ∙ after.queue in
    extended old new history (Got chunk.number) after (sym (ap (λ (l : List ℕ). slice_get l 0) numbers)) buffers (ap (drop 1) numbers) events

-- a draw that found none
pub empty : (old new : Pool) → old.queue ≡ [] → new.queue ≡ [] → new.buffers ≡ old.buffers → new.events ≡ old.events + 1 → Extends old Empty new
empty old new none still buffers events history after =
    let nothing : queue_after old.buffers (reverse history) ≡ [] = sym after.queue ∙ ap (map number_of) none in
    extended old new history Empty after nothing buffers (ap (map number_of) still ∙ sym nothing) events

-- a give
pub given : (old new : Pool) (chunk : Contents) → IsOut old chunk.number → new.queue ≡ old.queue ++ with_page chunk None ∷ [] → new.buffers ≡ old.buffers → new.events ≡ old.events + 1
    → Extends old (Given chunk.number) new
given old new chunk out back buffers events history after =
    let numbers : waiting new ≡ waiting old ++ chunk.number ∷ [] = ap (map number_of) back ∙ map-append number_of old.queue (with_page chunk None ∷ []) in
    extended old new history (Given chunk.number) after (out_is_given old history chunk.number after out) buffers
    (numbers ∙ ap (λ (l : List ℕ). l ++ chunk.number ∷ []) after.queue) events

-- ---- what stays in order

-- the chunks behind the front
pub rest_differ : (xs : List Contents) → IsDistinct nat_eq (map number_of xs) → IsDistinct nat_eq (map number_of (drop 1 xs))
rest_differ [] once = once
rest_differ (x ∷ xs) once = IsDistinct-tail nat_eq x.number (map number_of xs) once

pub rest_all : (P : Contents → Type 0) (xs : List Contents) → AllByRecursion P xs → AllByRecursion P (drop 1 xs)
rest_all P [] all = all
rest_all P (x ∷ xs) all = all.1

-- no number is this one, whichever way they are compared
turned : (number : ℕ) (xs : List ℕ) → list_any (is number) xs ≡ false → list_any (nat_eq number) xs ≡ false
turned number [] none = refl
turned number (x ∷ xs) none = step (nat_eq number x) (turned number xs) (subst (λ (b : Bool). (b || list_any (is number) xs) ≡ false) (nat_eq_equiv.symm x number) none)
  where
    step : (b : Bool) → (list_any (is number) xs ≡ false → list_any (nat_eq number) xs ≡ false) → (b || list_any (is number) xs) ≡ false → (b || list_any (nat_eq number) xs) ≡ false
    step true rest none = absurd cc
    step false rest none = rest none

-- one more that did not wait
pub differ_and : (xs : List Contents) (y : Contents) → IsDistinct nat_eq (map number_of xs) → list_any (is y.number) (map number_of xs) ≡ false
    → IsDistinct nat_eq (map number_of (xs ++ y ∷ []))
differ_and xs y once none = subst (IsDistinct nat_eq) (sym (map-append number_of xs (y ∷ []))) (IsDistinct-push nat_eq_equiv (map number_of xs) y.number once (turned y.number (map number_of xs) none))

-- what has a number below another, is below it
member_below : (n q : ℕ) (xs : List Contents) → AllByRecursion (λ (chunk : Contents). chunk.number < n) xs → list_any (nat_eq q) (map number_of xs) ≡ true → q < n
member_below n q [] below any = absurd cc
member_below n q (x ∷ xs) below any = step (nat_eq q x.number) refl any (member_below n q xs below.1)
  where
    step : (b : Bool) → nat_eq q x.number ≡ b → (b || list_any (nat_eq q) (map number_of xs)) ≡ true → (list_any (nat_eq q) (map number_of xs) ≡ true → q < n) → q < n
    step true e any rest = let same = eqb-true q x.number e in omega (arith, below.0)
    step false e any rest = rest any

-- chunks that differ are no more than there are numbers
pub few : (n : ℕ) (xs : List Contents) → IsDistinct nat_eq (map number_of xs) → AllByRecursion (λ (chunk : Contents). chunk.number < n) xs → length xs ≤ n
few n xs once below = subst (λ (k : ℕ). k ≤ n) (length-map xs number_of) (length-le_from_distinct_below (map number_of xs) n once (λ q any. member_below n q xs below any))

-- where one is out, there is room
pub has_room : (n : ℕ) (xs : List Contents) (chunk : Contents) → IsDistinct nat_eq (map number_of xs) → AllByRecursion (λ (c : Contents). c.number < n) xs
    → chunk.number < n → list_any (is chunk.number) (map number_of xs) ≡ false → length xs < n
has_room n xs chunk once below less none =
    omega (arith, few n (xs ++ chunk ∷ []) (differ_and xs chunk once none) (all_push (λ (c : Contents). c.number < n) xs chunk below less), length-append xs (chunk ∷ []))

-- ---- a new queue
abbrev new_from : ℕ → ℕ → ℕ → List Contents
new_from size a n = map (clear_chunk size) (range_with_len a n)

pub new_numbers : (size a n : ℕ) → map number_of (new_from size a n) ≡ range_with_len a n
new_numbers size a zero = refl
new_numbers size a (suc n) = ap (λ (l : List ℕ). a ∷ l) (new_numbers size (a + 1) n)

others_above : (b a n : ℕ) → b < a → AllByRecursion (λ (y : ℕ). nat_eq b y ≡ false) (range_with_len a n)
others_above b a zero less = tt
others_above b a (suc n) less = (ne_eqb b a (λ e. omega arith), others_above b (a + 1) n (omega arith))

range_differs : (a n : ℕ) → IsDistinct nat_eq (range_with_len a n)
unfolding IsDistinct
range_differs a zero = tt
range_differs a (suc n) = IsDistinct-cons nat_eq a (range_with_len (a + 1) n) (others_above a (a + 1) n (omega arith)) (range_differs (a + 1) n)

pub new_differ : (size n : ℕ) → IsDistinct nat_eq (map number_of (new_from size 0 n))
new_differ size n = subst (IsDistinct nat_eq) (sym (new_numbers size 0 n)) (range_differs 0 n)

new_below_from : (size a n most : ℕ) → a + n ≤ most → AllByRecursion (λ (chunk : Contents). chunk.number < most) (new_from size a n)
new_below_from size a zero most le = tt
new_below_from size a (suc n) most le = (omega arith, new_below_from size (a + 1) n most (omega arith))

pub new_below : (size n : ℕ) → AllByRecursion (λ (chunk : Contents). chunk.number < n) (new_from size 0 n)
new_below size n = new_below_from size 0 n n (omega arith)

pub new_clear : (size a n : ℕ) → AllByRecursion (λ (chunk : Contents). chunk.page ≡ None) (new_from size a n)
new_clear size a zero = tt
new_clear size a (suc n) = (refl, new_clear size (a + 1) n)

-- The invariant, from what the queue holds.
pub in_order_by : (a : Inside) (xs : List Contents) (n : ℕ) → a.queue.items ≡ xs → deque_capacity a.queue ≡ n → IsDistinct nat_eq (map number_of xs)
    → AllByRecursion (λ (chunk : Contents). chunk.number < n) xs → AllByRecursion (λ (chunk : Contents). chunk.page ≡ None) xs → IsPool a
in_order_by a xs n items room once below clear =
    record {
      once = subst (λ (xs : List Contents). IsDistinct nat_eq (map number_of xs)) (sym items) once;
      below = subst (λ (k : ℕ). AllByRecursion (λ (chunk : Contents). chunk.number < k) a.queue.items) (sym room) (subst (λ (xs : List Contents). AllByRecursion (λ (chunk : Contents). chunk.number < n) xs) (sym items) below);
      clear = subst (λ (xs : List Contents). AllByRecursion (λ (chunk : Contents). chunk.page ≡ None) xs) (sym items) clear;
    }

pub in_order : (a : Inside) (size n : ℕ) → a.queue.items ≡ new_from size 0 n → deque_capacity a.queue ≡ n → IsPool a
in_order a size n items room = in_order_by a (new_from size 0 n) n items room (new_differ size n) (new_below size n) (new_clear size 0 n)

-- what a draw leaves, and a give
pub drawn_from : (a b : Inside) → IsPool a → b.queue.items ≡ drop 1 a.queue.items → deque_capacity b.queue ≡ deque_capacity a.queue → IsPool b
drawn_from a b is items room =
    in_order_by b (drop 1 a.queue.items) (deque_capacity a.queue) items room (rest_differ a.queue.items is.once) (rest_all (λ (chunk : Contents). chunk.number < deque_capacity a.queue) a.queue.items is.below)
    (rest_all (λ (chunk : Contents). chunk.page ≡ None) a.queue.items is.clear)

pub given_to : (a b : Inside) (chunk : Contents) → IsPool a → IsOut (pool_of a) chunk.number → b.queue.items ≡ a.queue.items ++ with_page chunk None ∷ []
    → deque_capacity b.queue ≡ deque_capacity a.queue → IsPool b
given_to a b chunk is out items room =
    in_order_by b (a.queue.items ++ with_page chunk None ∷ []) (deque_capacity a.queue) items room (differ_and a.queue.items (with_page chunk None) is.once out.1)
    (all_push (λ (chunk : Contents). chunk.number < deque_capacity a.queue) a.queue.items (with_page chunk None) is.below out.0)
    (all_push (λ (chunk : Contents). chunk.page ≡ None) a.queue.items (with_page chunk None) is.clear refl)

-- a new pool is after no event
pub new_after : (a : Inside) (size n : ℕ) → a.queue.items ≡ new_from size 0 n → deque_capacity a.queue ≡ n → a.events ≡ 0 → IsAfter [] (pool_of a)
new_after a size n items room none =
    record {
      lawful = tt;
      queue = ap (map number_of) items ∙ new_numbers size 0 n ∙ ap (range_with_len 0) (sym room);
      events = none;
    }
