-- A pass is whole exactly where its items stand in the order of the queues, at most 64 of each, and a turn and offers behind them.
use Rattle.std.proofs.Common.{◌≡◌, ℕ, zero, suc, ◌+◌, ◌*◌, ◌<◌, ◌≤◌, Bool, true, false, cond, eqb, leb, List, [], ◌∷◌, ◌++◌, refl, sym, ap, ◌∙◌, subst, inl, inr, ◌⊎◌, arith}
use Rattle.hs_check_follow.proofs.Prelude.{filter, count_by, not, ◌&&◌, range_with_len, flat_map, list_all, AllByRecursion, and_parts, and_from, and_left, and_right, eqb-true, eq-eqb, ne_eqb, le-leb, lt-leb, leb-true, cases_eq, false_from_ne_true, true≢false, filter-append, one_if, count_append, count_cons, list_all_range, all_each, filter_none, MAX_TAKEN, Step, Queue, takes, taken, is_turn, is_offer, is_whole_pass, IsTake}
use Rattle.hs_base.proofs.Filters.{filter_all}
use Rattle.hs_records.specs.declared.journal.Step.TheVariants as steps
use Rattle.hs_law_journal.specs.Passes.{same_step, same_steps}
use Rattle.hs_law_journal.proofs.Logs.{same_steps_refl}
use Rattle.hs_check_follow.proofs.QueuePlaces.{queue_count, place, Match, taken_in_order, few_of_each}
use Rattle.hs_check_follow.proofs.Ranges.{one_fails, each_holds}
use Rattle.hs_check_follow.proofs.Sorting.{buckets, Sorted, Sorted-append, before_is_low, same_sorted, sorted_stays, others_add_none, buckets_are_within, buckets_are_sorted}

-- ---- steps that are the same

same_is : (a b : Step) → same_step a b ≡ true → a ≡ b
same_is (steps.Chunk a) (steps.Chunk b) h = ap steps.Chunk (eqb-true a b h)
same_is (steps.Crumb a) (steps.Crumb b) h = ap steps.Crumb (eqb-true a b h)
same_is (steps.Trigger a) (steps.Trigger b) h = ap steps.Trigger (eqb-true a b h)
same_is steps.Ask steps.Ask h = refl
same_is steps.Turn steps.Turn h = refl
same_is (steps.Given a) (steps.Given b) h = ap steps.Given (eqb-true a b h)
same_is (steps.Missed a) (steps.Missed b) h = ap steps.Missed (eqb-true a b h)
same_is steps.Unread steps.Unread h = refl
same_is a b h = let differ : false ≡ true = h in absurd (true≢false (sym differ))

same_all : (xs ys : List Step) → same_steps xs ys ≡ true → xs ≡ ys
same_all [] [] h = refl
same_all [] (y ∷ ys) h = let differ : false ≡ true = h in absurd (true≢false (sym differ))
same_all (x ∷ xs) [] h = let differ : false ≡ true = h in absurd (true≢false (sym differ))
same_all (x ∷ xs) (y ∷ ys) h = let both = and_parts (same_step x y) (same_steps xs ys) h in ap (λ z. z ∷ xs) (same_is x y both.0) ∙ ap (λ (l : List Step). y ∷ l) (same_all xs ys both.1)

-- ---- counts of steps

pub count_none : (p : Step → Bool) (xs : List Step) → AllByRecursion (λ x. p x ≡ false) xs → count_by p xs ≡ 0
count_none p [] all = refl
count_none p (x ∷ xs) all = let e = count_cons p x xs in let no_one = ap one_if all.0 in let rest = count_none p xs all.1 in omega (arith, e, no_one, rest)

pub filter_passes : (p : Step → Bool) (xs : List Step) → AllByRecursion (λ x. p x ≡ true) (filter p xs)
filter_passes p [] = tt
filter_passes p (x ∷ xs) = at (p x) refl (filter_passes p xs)
  where
    at : (b : Bool) → p x ≡ b → AllByRecursion (λ y. p y ≡ true) (filter p xs) → AllByRecursion (λ y. p y ≡ true) (cond b (x ∷ filter p xs) (filter p xs))
    at true e later = (e, later)
    at false e later = later

-- ---- the places of turns and offers

module _ (clients : ℕ) where
  offer_place : (step : Step) → is_offer step ≡ true → place clients step ≡ queue_count clients
  offer_place (steps.Given s) e = refl
  offer_place (steps.Missed s) e = refl
  offer_place steps.Unread e = refl
  offer_place steps.Turn e = absurd (true≢false (sym e))
  offer_place (steps.Chunk c) e = absurd (true≢false (sym e))
  offer_place (steps.Crumb c) e = absurd (true≢false (sym e))
  offer_place (steps.Trigger c) e = absurd (true≢false (sym e))
  offer_place steps.Ask e = absurd (true≢false (sym e))

  abbrev at_place : ℕ → Step → Bool
  at_place s step = eqb (place clients step) s

  -- ---- a whole pass by places

  abbrev pub in_places : List Step → List Step
  in_places pass = buckets (place clients) 0 (queue_count clients) pass ++ steps.Turn ∷ filter is_offer pass

  abbrev pub few_in_places : List Step → Bool
  few_in_places pass = list_all (λ s. leb (count_by (λ step. eqb (place clients step) s) pass) MAX_TAKEN) (range_with_len 0 (queue_count clients))

  module _ (queues : List Queue) (match : Match clients queues (range_with_len 0 (queue_count clients))) where
    whole_is : (pass : List Step) → is_whole_pass queues pass ≡ (same_steps pass (in_places pass) && few_in_places pass)
    whole_is pass =
        ap (λ (l : List Step). same_steps pass (l ++ steps.Turn ∷ filter is_offer pass) && list_all (λ queue. leb (taken queue pass) MAX_TAKEN) queues) (taken_in_order clients pass queues (range_with_len 0 (queue_count clients)) match)
        ∙ ap (λ b. same_steps pass (in_places pass) && b) (few_of_each clients pass queues (range_with_len 0 (queue_count clients)) match)

    whole_parts : (pass : List Step) → is_whole_pass queues pass ≡ true → (pass ≡ in_places pass) × (few_in_places pass ≡ true)
    whole_parts pass h =
        let both = and_parts (same_steps pass (in_places pass)) (few_in_places pass) (sym (whole_is pass) ∙ h) in
        (same_all pass (in_places pass) both.0, both.1)

    offers_high : (os : List Step) → AllByRecursion (λ step. is_offer step ≡ true) os → AllByRecursion (λ step. 0 + queue_count clients ≤ place clients step) os
    offers_high os offers = all_each (λ step. is_offer step ≡ true) (λ step. 0 + queue_count clients ≤ place clients step) os (λ step h. let e = offer_place step h in omega (arith, e)) offers

    -- items in order, a turn and offers
    pub is_whole : (its os : List Step) → AllByRecursion IsTake its → AllByRecursion (λ step. place clients step < queue_count clients) its → Sorted (place clients) its
        → ((s : ℕ) → count_by (λ step. eqb (place clients step) s) its ≤ MAX_TAKEN) → AllByRecursion (λ step. is_offer step ≡ true) os → is_whole_pass queues (its ++ steps.Turn ∷ os) ≡ true
    is_whole its os items low sorted few offers =
        let pass : List Step = its ++ steps.Turn ∷ os in
        let high = offers_high os offers in
        let tail : AllByRecursion (λ step. 0 + queue_count clients ≤ place clients step) (steps.Turn ∷ os) = (omega arith, high) in
        let front : buckets (place clients) 0 (queue_count clients) pass ≡ its =
        others_add_none (place clients) 0 (queue_count clients) its (steps.Turn ∷ os) tail ∙ sorted_stays (place clients) (queue_count clients) its sorted low in
        let none : filter is_offer its ≡ [] = filter_none is_offer its (all_each IsTake (λ step. is_offer step ≡ false) its (λ step h. h.offer) items) in
        let back : filter is_offer pass ≡ os =
        filter-append is_offer its (steps.Turn ∷ os) ∙ ap (λ (l : List Step). l ++ filter is_offer os) none ∙ filter_all is_offer os offers in
        let places : in_places pass ≡ pass = ap (λ (l : List Step). l ++ steps.Turn ∷ filter is_offer pass) front ∙ ap (λ (l : List Step). its ++ steps.Turn ∷ l) back in
        let same : same_steps pass (in_places pass) ≡ true = ap (same_steps pass) places ∙ same_steps_refl pass in
        let each : few_in_places pass ≡ true =
        list_all_range (λ s. leb (count_by (λ step. eqb (place clients step) s) pass) MAX_TAKEN) 0 (queue_count clients)
        (λ s lowest highest.
        let parts = count_append (at_place s) its (steps.Turn ∷ os) in
        let rest = count_none (at_place s) (steps.Turn ∷ os) (all_each (λ step. 0 + queue_count clients ≤ place clients step) (λ step. at_place s step ≡ false) (steps.Turn ∷ os) (λ step h. ne_eqb (place clients step) s (λ e. omega (arith, e, h, highest))) tail) in
        let here = few s in
        le-leb (count_by (at_place s) pass) MAX_TAKEN (omega (arith, parts, rest, here))) in
        whole_is pass ∙ and_from (same_steps pass (in_places pass)) (few_in_places pass) same each

    -- no pass without a turn is whole
    pub no_turn : (pass : List Step) → count_by is_turn pass ≡ 0 → is_whole_pass queues pass ≡ false
    no_turn pass none =
        false_from_ne_true (is_whole_pass queues pass) (λ h.
        let front = buckets (place clients) 0 (queue_count clients) pass in
        let e = ap (count_by is_turn) (whole_parts pass h).0 in
        let parts = count_append is_turn front (steps.Turn ∷ filter is_offer pass) in
        let turn : count_by is_turn (steps.Turn ∷ filter is_offer pass) ≡ 1 + count_by is_turn (filter is_offer pass) = count_cons is_turn steps.Turn (filter is_offer pass) in
        omega (arith, e, parts, turn, none))

    -- an item of no queue
    lost : Step → Bool
    lost step = leb (queue_count clients) (place clients step) && (not (is_turn step) && not (is_offer step))

    pub no_queue : (its : List Step) (x : Step) (tail : List Step) → IsTake x → queue_count clients ≤ place clients x → is_whole_pass queues (its ++ x ∷ tail) ≡ false
    unfolding lost
    no_queue its x tail item high =
        let pass : List Step = its ++ x ∷ tail in
        false_from_ne_true (is_whole_pass queues pass) (λ h.
        let front = buckets (place clients) 0 (queue_count clients) pass in
        let e = ap (count_by lost) (whole_parts pass h).0 in
        let is_lost : lost x ≡ true =
        and_from (leb (queue_count clients) (place clients x)) (not (is_turn x) && not (is_offer x)) (le-leb (queue_count clients) (place clients x) high)
        (and_from (not (is_turn x)) (not (is_offer x)) (ap not item.turn) (ap not item.offer)) in
        let one = ap one_if is_lost in
        let a = count_append lost its (x ∷ tail) in
        let b = count_cons lost x tail in
        let within = buckets_are_within (place clients) 0 (queue_count clients) pass in
        let c = count_append lost front (steps.Turn ∷ filter is_offer pass) in
        let d = count_none lost front (all_each (λ step. (0 ≤ place clients step) × (place clients step < 0 + queue_count clients)) (λ step. lost step ≡ false) front
        (λ step k. let low = k.1 in and_left (leb (queue_count clients) (place clients step)) (not (is_turn step) && not (is_offer step)) (lt-leb (queue_count clients) (place clients step) (omega (arith, low)))) within) in
        let f : count_by lost (steps.Turn ∷ filter is_offer pass) ≡ one_if (lost steps.Turn) + count_by lost (filter is_offer pass) = count_cons lost steps.Turn (filter is_offer pass) in
        let turn : one_if (lost steps.Turn) ≡ 0 = ap one_if (and_right (leb (queue_count clients) (queue_count clients)) false refl) in
        let g = count_none lost (filter is_offer pass) (all_each (λ step. is_offer step ≡ true) (λ step. lost step ≡ false) (filter is_offer pass)
        (λ step k. and_right (leb (queue_count clients) (place clients step)) (not (is_turn step) && not (is_offer step)) (and_right (not (is_turn step)) (not (is_offer step)) (ap not k))) (filter_passes is_offer pass)) in
        omega (arith, e, one, a, b, c, d, f, turn, g))

    -- an item behind one of a later queue
    pub no_order : (its : List Step) (x : Step) (tail : List Step) (q : ℕ) → place clients x < q → 1 ≤ count_by (λ step. eqb (place clients step) q) its → is_whole_pass queues (its ++ x ∷ tail) ≡ false
    no_order its x tail q low some =
        let pass : List Step = its ++ x ∷ tail in
        false_from_ne_true (is_whole_pass queues pass) (λ h.
        let n = queue_count clients in
        let key = place clients in
        let os = filter is_offer pass in
        let at_end : AllByRecursion (λ step. key step ≡ n) (steps.Turn ∷ os) = (refl, all_each (λ step. is_offer step ≡ true) (λ step. key step ≡ n) os (λ step k. offer_place step k) (filter_passes is_offer pass)) in
        let sorted : Sorted key (in_places pass) =
        Sorted-append key n (buckets key 0 n pass) (steps.Turn ∷ os) (buckets_are_sorted key 0 n pass)
        (all_each (λ step. (0 ≤ key step) × (key step < 0 + n)) (λ step. key step ≤ n) (buckets key 0 n pass) (λ step k. let high = k.1 in omega (arith, high)) (buckets_are_within key 0 n pass))
        (same_sorted key n (steps.Turn ∷ os) at_end) (all_each (λ step. key step ≡ n) (λ step. n ≤ key step) (steps.Turn ∷ os) (λ step k. omega (arith, k)) at_end) in
        let before = before_is_low key its x tail (subst (λ (l : List Step). Sorted key l) (sym (whole_parts pass h).0) sorted) in
        let none = count_none (at_place q) its (all_each (λ step. key step ≤ key x) (λ step. at_place q step ≡ false) its (λ step k. ne_eqb (key step) q (λ e. omega (arith, e, k, low))) before) in
        omega (arith, none, some))

    -- more of a queue than a pass takes
    pub too_many : (its : List Step) (x : Step) (tail : List Step) → place clients x < queue_count clients → MAX_TAKEN ≤ count_by (λ step. eqb (place clients step) (place clients x)) its → is_whole_pass queues (its ++ x ∷ tail) ≡ false
    too_many its x tail low many =
        let pass : List Step = its ++ x ∷ tail in
        let s = place clients x in
        let a = count_append (at_place s) its (x ∷ tail) in
        let b = count_cons (at_place s) x tail in
        let one = ap one_if (eq-eqb (place clients x) s refl) in
        let fails : few_in_places pass ≡ false = one_fails (λ s. leb (count_by (λ step. eqb (place clients step) s) pass) MAX_TAKEN) (queue_count clients) s low (lt-leb (count_by (at_place s) pass) MAX_TAKEN (omega (arith, a, b, one, many))) in
        whole_is pass ∙ and_right (same_steps pass (in_places pass)) (few_in_places pass) fails
