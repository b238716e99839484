-- Two outboxes under one count of numbers: what is handed out of either has lower numbers than what is not.
use Rattle.std.proofs.Common.{◌≡◌, ℕ, ◌+◌, ◌<◌, ◌≤◌, Bool, true, false, not, List, [], ◌∷◌, ◌++◌, cond, filter, Option, Some, None, refl, sym, subst, arith, ◌⊎◌, inl, inr, ⊎_elim}
use Rattle.std.specs.Prelude.{nat_lt}
use Rattle.std.specs.List.{AllByRecursion, Contains, find}
use Rattle.std.proofs.lemmas.List.Elements.{All-from_recursion, All-contains, All-contains_itself, recursion_from_All, Contains-append_cases, filter_passes}
use Rattle.std.proofs.lemmas.Bool.{cond_both, ltb-true, ltb-false, eqb-true, eqb-false}
use Rattle.hs_base.proofs.Alls.{all_each, all_each_both, all_push, all_filter, all_always, all_find, all_append}
use Rattle.hs_base.proofs.Filters.{find_passes}
use Rattle.hs_outbox.specs.Queue.{Pending, Queue, Puts, HandsOut, Acknowledges, OffersAgain, with, may_put, is_numbered, is_handed_out, first_offered, has_number}
use Rattle.hs_outbox.specs.Queue as queue
use Rattle.hs_outbox.specs.Lives.{Rises, handed_out, not_handed_out}
use Rattle.hs_outbox.proofs.Rising.{rises_bounds, rises_to, rises_behind, rises_filter}
use Rattle.hs_mail.specs.Letters.{earlier}

-- ---- numbers that rise

below : (ps : List Pending) (from to : ℕ) → Rises from to ps → AllByRecursion (λ (p : Pending). p.number < to) ps
below [] from to rise = tt
below (p ∷ ps) from to rise = let bound = rises_bounds ps (p.number + 1) to rise.1 in (omega (arith, bound), below ps (p.number + 1) to rise.1)

above : (ps : List Pending) (from to low : ℕ) → low ≤ from → Rises from to ps → AllByRecursion (λ (p : Pending). low ≤ p.number) ps
above [] from to low le rise = tt
above (p ∷ ps) from to low le rise = let first = rise.0 in (omega (arith, le, first), above ps (p.number + 1) to low (omega (arith, le, first)) rise.1)

passes_not : (b : Bool) → not b ≡ true → b ≡ false
passes_not true passes = absurd cc
passes_not false passes = refl

-- a message is not before the first
abbrev FromFirst : Option Pending → Pending → Type 0
FromFirst None p = ⊥
FromFirst (Some first) p = first.number ≤ p.number

abbrev at_least : ℕ → Pending → Bool
at_least k p = not (nat_lt p.number k)

first_at : (k : ℕ) (p : Pending) (ps : List Pending) (to : ℕ) (b : Bool) → nat_lt p.number k ≡ b → Rises (p.number + 1) to ps
    → AllByRecursion (λ (q : Pending). k ≤ q.number → FromFirst (find (at_least k) ps) q) ps
    → AllByRecursion (λ (q : Pending). k ≤ q.number → FromFirst (cond (not b) (Some p) (find (at_least k) ps)) q) (p ∷ ps)
first_at k p ps to true low rise rest = ((λ le. absurd (omega (arith, le, ltb-true p.number k low))), rest)
first_at k p ps to false low rise rest = (
  (λ le. omega arith),
  all_each (λ (q : Pending). p.number ≤ q.number) (λ (q : Pending). k ≤ q.number → FromFirst (Some p) q) ps (λ q le first. le) (above ps (p.number + 1) to p.number (omega arith) rise),
)

first_is_least : (k : ℕ) (ps : List Pending) (from to : ℕ) → Rises from to ps → AllByRecursion (λ (q : Pending). k ≤ q.number → FromFirst (find (at_least k) ps) q) ps
first_is_least k [] from to rise = tt
first_is_least k (p ∷ ps) from to rise = first_at k p ps to (nat_lt p.number k) refl rise.1 (first_is_least k ps (p.number + 1) to rise.1)

-- ---- what holds of two outboxes

pub record IsSound (fresh : ℕ) (q : Queue) : Type 0 where
  pub rising : Rises 0 fresh q.pending
  pub handed : q.handed ≤ fresh

-- where a message is not handed out of its own outbox, its number is not handed out of the other either
abbrev pub AtLeast : ℕ → ℕ → Pending → Type 0
AtLeast own other p = own ≤ p.number → other ≤ p.number

abbrev pub Apart : List Pending → List Pending → Type 0
Apart ps qs = (p q : Pending) → Contains ps p → Contains qs q → p.number ≡ q.number → ⊥

pub record IsGood (fresh : ℕ) (a b : Queue) : Type 0 where
  pub first : IsSound fresh a
  pub second : IsSound fresh b
  pub first_order : AllByRecursion (AtLeast a.handed b.handed) a.pending
  pub second_order : AllByRecursion (AtLeast b.handed a.handed) b.pending
  pub apart : Apart a.pending b.pending

pub good_swap : (f : ℕ) (a b : Queue) → IsGood f a b → IsGood f b a
good_swap f a b good =
    record {
      first = good.second;
      second = good.first;
      first_order = good.second_order;
      second_order = good.first_order;
      apart = (λ q p in_b in_a same. good.apart p q in_a in_b (sym same));
    }

-- ---- a message more

sound_more : (f : ℕ) (q : Queue) → IsSound f q → IsSound (f + 1) q
sound_more f q sound = let low = sound.handed in record { rising = rises_to q.pending 0 f (f + 1) (omega arith) sound.rising; handed = omega (arith, low) }

sound_put : (f : ℕ) (q : Queue) (p : Pending) → p.number ≡ f → IsSound f q → IsSound (f + 1) (with q p)
sound_put f q p is sound =
    let low = sound.handed in
    record { rising = rises_behind q.pending (p ∷ []) 0 f (f + 1) sound.rising (omega (arith, is), omega (arith, is)); handed = omega (arith, low) }

pub good_more : (f : ℕ) (a b : Queue) → IsGood f a b → IsGood (f + 1) a b
good_more f a b good =
    record {
      first = sound_more f a good.first;
      second = sound_more f b good.second;
      first_order = good.first_order;
      second_order = good.second_order;
      apart = good.apart;
    }

not_yet : (f : ℕ) (qs : List Pending) (q : Pending) → Rises 0 f qs → Contains qs q → q.number < f
not_yet f qs q rise there = All-contains (λ (r : Pending). r.number < f) qs q (All-from_recursion (λ (r : Pending). r.number < f) qs (below qs 0 f rise)) there

only_one : (p q : Pending) → Contains (p ∷ []) q → q ≡ p
only_one p q there = All-contains (λ (r : Pending). r ≡ p) (p ∷ []) q (All-from_recursion (λ (r : Pending). r ≡ p) (p ∷ []) (refl, tt)) there

apart_put : (f : ℕ) (ps qs : List Pending) (p : Pending) → p.number ≡ f → Rises 0 f qs → Apart ps qs → Apart (ps ++ p ∷ []) qs
apart_put f ps qs p is rise apart one other in_first in_second same =
    ⊎_elim (λ (old : Contains ps one). apart one other old in_second same)
    (λ (new : Contains (p ∷ []) one).
    let low = not_yet f qs other rise in_second in
    let one_is : one.number ≡ p.number = subst (λ (r : Pending). one.number ≡ r.number) (only_one p one new) refl in
    absurd (omega (arith, low, one_is, same, is)))
    (Contains-append_cases ps (p ∷ []) one in_first)

good_put : (f : ℕ) (a b : Queue) (p : Pending) → p.number ≡ f → IsGood f a b → IsGood (f + 1) (with a p) b
good_put f a b p is good =
    let low = good.second.handed in
    record {
      first = sound_put f a p is good.first;
      second = sound_more f b good.second;
      first_order = all_push (AtLeast a.handed b.handed) a.pending p good.first_order (λ le. omega (arith, low, is));
      second_order = good.second_order;
      apart = apart_put f a.pending b.pending p is good.second.rising good.apart;
    }

pub good_puts : (f : ℕ) (a b : Queue) (p : Pending) → p.number ≡ f → IsGood f a b → IsGood (f + 1) (queue.after a (Puts p)) b
good_puts f a b p is good = cond_both (may_put a p) (with a p) a (λ (r : Queue). IsGood (f + 1) r b) (λ may. good_put f a b p is good) (λ no. good_more f a b good)

-- ---- a message is handed out

abbrev LeastFrom : ℕ → Option Pending → Type 0
LeastFrom n None = Unit {0}
LeastFrom n (Some first) = n ≤ first.number

earlier_of : (n : ℕ) (p q : Pending) (b : Bool) → nat_lt q.number p.number ≡ b → has_number (cond b (Some q) (Some p)) n ≡ true → (n ≤ p.number) × (n ≤ q.number)
earlier_of n p q true low is =
    let same = eqb-true q.number n is in
    let less = ltb-true q.number p.number low in
    (omega (arith, same, less), omega (arith, same))
earlier_of n p q false low is =
    let same = eqb-true p.number n is in
    let less = ltb-false q.number p.number low in
    (omega (arith, same), omega (arith, same, less))

earlier_is_least : (n : ℕ) (page word : Option Pending) → has_number (earlier page word) n ≡ true → LeastFrom n page × LeastFrom n word
earlier_is_least n None None is = absurd cc
earlier_is_least n None (Some q) is = (tt, let same = eqb-true q.number n is in omega (arith, same))
earlier_is_least n (Some p) None is = (let same = eqb-true p.number n is in omega (arith, same), tt)
earlier_is_least n (Some p) (Some q) is = earlier_of n p q (nat_lt q.number p.number) refl is

-- the number that is handed out is between what was handed out and the next number
at_first : (f n k : ℕ) (ps : List Pending) (first : Option Pending) → find (at_least k) ps ≡ first → Rises 0 f ps → has_number first n ≡ true → (k ≤ n) × (n < f)
at_first f n k ps None is rise has = absurd cc
at_first f n k ps (Some p) is rise has =
    let same = eqb-true p.number n has in
    let high = ltb-false p.number k (passes_not (nat_lt p.number k) (find_passes (at_least k) ps p is)) in
    let low = all_find (λ (r : Pending). r.number < f) (at_least k) ps p (below ps 0 f rise) is in
    (omega (arith, same, high), omega (arith, same, low))

beyond : (n k : ℕ) (first : Option Pending) (q : Pending) → LeastFrom n first → has_number first n ≡ false → (k ≤ q.number → FromFirst first q) → k ≤ q.number → n + 1 ≤ q.number
beyond n k None q least other from le = absurd (from le)
beyond n k (Some first) q least other from le =
    let apart = eqb-false first.number n other in
    let behind = from le in
    omega (arith, least, apart, behind)

-- of one alone
only_first : (f n : ℕ) (a b : Queue) → IsGood f a b → has_number (first_offered a) n ≡ true → LeastFrom n (first_offered b) → has_number (first_offered b) n ≡ false
    → IsGood f (record a { handed = n + 1 }) b
only_first f n a b good is least other =
    let bounds = at_first f n a.handed a.pending (first_offered a) refl good.first.rising is in
    let low = bounds.0 in
    let high = bounds.1 in
    record {
      first = record { rising = good.first.rising; handed = omega (arith, high) };
      second = good.second;
      first_order = all_each (AtLeast a.handed b.handed) (AtLeast (n + 1) b.handed) a.pending (λ p order le. order (omega (arith, low, le))) good.first_order;
      second_order =
          all_each (λ (q : Pending). b.handed ≤ q.number → FromFirst (first_offered b) q) (AtLeast b.handed (n + 1)) b.pending (λ q from le. beyond n b.handed (first_offered b) q least other from le)
          (first_is_least b.handed b.pending 0 f good.second.rising);
      apart = good.apart;
    }

-- of both
of_both : (f n : ℕ) (a b : Queue) → IsGood f a b → has_number (first_offered a) n ≡ true → IsGood f (record a { handed = n + 1 }) (record b { handed = n + 1 })
of_both f n a b good is =
    let high = (at_first f n a.handed a.pending (first_offered a) refl good.first.rising is).1 in
    record {
      first = record { rising = good.first.rising; handed = omega (arith, high) };
      second = record { rising = good.second.rising; handed = omega (arith, high) };
      first_order = all_always (AtLeast (n + 1) (n + 1)) a.pending (λ p le. le);
      second_order = all_always (AtLeast (n + 1) (n + 1)) b.pending (λ p le. le);
      apart = good.apart;
    }

pub good_hands : (f n : ℕ) (a b : Queue) → IsGood f a b → has_number (earlier (first_offered a) (first_offered b)) n ≡ true → IsGood f (queue.after a (HandsOut n)) (queue.after b (HandsOut n))
good_hands f n a b good is =
    let least = earlier_is_least n (first_offered a) (first_offered b) is in
    cond_both (has_number (first_offered a) n) (record a { handed = n + 1 }) a (λ (r : Queue). IsGood f r (queue.after b (HandsOut n)))
    (λ first.
    cond_both (has_number (first_offered b) n) (record b { handed = n + 1 }) b (λ (r : Queue). IsGood f (record a { handed = n + 1 }) r) (λ second. of_both f n a b good first)
    (λ other. only_first f n a b good first least.1 other))
    (λ other.
    cond_both (has_number (first_offered b) n) (record b { handed = n + 1 }) b (λ (r : Queue). IsGood f a r)
    (λ second. good_swap f (record b { handed = n + 1 }) a (only_first f n b a (good_swap f a b good) second least.0 other)) (λ none. good))

-- ---- a message leaves, and all are offered again

in_filter : (test : Pending → Bool) (ps : List Pending) (p : Pending) → Contains (filter test ps) p → Contains ps p
in_filter test ps p there =
    All-contains (λ (r : Pending). Contains ps r) (filter test ps) p
    (All-from_recursion (λ (r : Pending). Contains ps r) (filter test ps)
    (all_filter (λ (r : Pending). Contains ps r) test ps (recursion_from_All (λ (r : Pending). Contains ps r) ps (All-contains_itself ps))))
    there

sound_less : (f : ℕ) (test : Pending → Bool) (q : Queue) → IsSound f q → IsSound f (record q { pending = filter test q.pending })
sound_less f test q sound = record { rising = rises_filter test q.pending 0 f sound.rising; handed = sound.handed }

pub good_less : (f n : ℕ) (a b : Queue) → IsGood f a b → IsGood f (queue.after a (Acknowledges n)) (queue.after b (Acknowledges n))
good_less f n a b good =
    let others : Pending → Bool = λ (p : Pending). not (is_numbered n p) in
    record {
      first = sound_less f others a good.first;
      second = sound_less f others b good.second;
      first_order = all_filter (AtLeast a.handed b.handed) others a.pending good.first_order;
      second_order = all_filter (AtLeast b.handed a.handed) others b.pending good.second_order;
      apart = (λ p q in_a in_b same. good.apart p q (in_filter others a.pending p in_a) (in_filter others b.pending q in_b) same);
    }

pub good_again : (f : ℕ) (a b : Queue) → IsGood f a b → IsGood f (queue.after a OffersAgain) (queue.after b OffersAgain)
good_again f a b good =
    record {
      first = record { rising = good.first.rising; handed = omega arith };
      second = record { rising = good.second.rising; handed = omega arith };
      first_order = all_always (AtLeast 0 0) a.pending (λ p le. le);
      second_order = all_always (AtLeast 0 0) b.pending (λ p le. le);
      apart = good.apart;
    }

-- ---- the order over both

abbrev IsOut : Queue → Queue → Pending → Type 0
IsOut a b p = (p.number < a.handed) ⊎ (p.number < b.handed)

abbrev IsIn : Queue → Queue → Pending → Type 0
IsIn a b p = (a.handed ≤ p.number) × (b.handed ≤ p.number)

all_out : (a b : Queue) → AllByRecursion (IsOut a b) (handed_out a ++ handed_out b)
all_out a b =
    all_append (IsOut a b) (handed_out a) (handed_out b)
    (all_each (λ (p : Pending). is_handed_out a p ≡ true) (IsOut a b) (handed_out a) (λ p yes. inl (ltb-true p.number a.handed yes))
    (recursion_from_All (λ (p : Pending). is_handed_out a p ≡ true) (handed_out a) (filter_passes (is_handed_out a) a.pending)))
    (all_each (λ (p : Pending). is_handed_out b p ≡ true) (IsOut a b) (handed_out b) (λ p yes. inr (ltb-true p.number b.handed yes))
    (recursion_from_All (λ (p : Pending). is_handed_out b p ≡ true) (handed_out b) (filter_passes (is_handed_out b) b.pending)))

-- what waits in an outbox and is not handed out is at least both numbers
all_in : (q : Queue) (other : ℕ) → AllByRecursion (AtLeast q.handed other) q.pending → AllByRecursion (λ (p : Pending). (q.handed ≤ p.number) × (other ≤ p.number)) (not_handed_out q)
all_in q other order =
    let stays : Pending → Bool = λ (p : Pending). not (is_handed_out q p) in
    all_each_both (λ (p : Pending). stays p ≡ true) (AtLeast q.handed other) (λ (p : Pending). (q.handed ≤ p.number) × (other ≤ p.number)) (not_handed_out q)
    (λ p passes next.
    let high : q.handed ≤ p.number = ltb-false p.number q.handed (passes_not (nat_lt p.number q.handed) passes) in
    (high, next high))
    (recursion_from_All (λ (p : Pending). stays p ≡ true) (not_handed_out q) (filter_passes stays q.pending)) (all_filter (AtLeast q.handed other) stays q.pending order)

none_out : (f : ℕ) (a b : Queue) → IsGood f a b → AllByRecursion (IsIn a b) (not_handed_out a ++ not_handed_out b)
none_out f a b good =
    all_append (IsIn a b) (not_handed_out a) (not_handed_out b) (all_in a b.handed good.first_order)
    (all_each (λ (p : Pending). (b.handed ≤ p.number) × (a.handed ≤ p.number)) (IsIn a b) (not_handed_out b) (λ p both. (both.1, both.0)) (all_in b a.handed good.second_order))

pub in_order : (f : ℕ) (a b : Queue) → IsGood f a b → (one other : Pending) → Contains (handed_out a ++ handed_out b) one → Contains (not_handed_out a ++ not_handed_out b) other
    → one.number < other.number
in_order f a b good one other out waits =
    let is_out : IsOut a b one = All-contains (IsOut a b) (handed_out a ++ handed_out b) one (All-from_recursion (IsOut a b) (handed_out a ++ handed_out b) (all_out a b)) out in
    let is_in : IsIn a b other =
    All-contains (IsIn a b) (not_handed_out a ++ not_handed_out b) other (All-from_recursion (IsIn a b) (not_handed_out a ++ not_handed_out b) (none_out f a b good)) waits in
    let first = is_in.0 in
    let second = is_in.1 in
    ⊎_elim (λ (low : one.number < a.handed). omega (arith, low, first)) (λ (low : one.number < b.handed). omega (arith, low, second)) is_out
