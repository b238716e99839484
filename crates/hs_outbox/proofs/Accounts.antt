-- The accounts of a life: what was put has left or waits.
use Rattle.std.proofs.Common.{◌≡◌, ℕ, ◌+◌, ◌<◌, ◌≤◌, Bool, true, false, not, ◌&&◌, List, [], ◌∷◌, ◌++◌, length, length-append, cond, filter, refl, sym, ap, subst, append_assoc, arith, ◌⊎◌, inl, inr, ⊎_elim}
use Rattle.std.specs.Prelude.{nat_lt, nat_le, ◌==◌}
use Rattle.std.specs.List.{Contains}
use Rattle.std.specs.List.Sorted.{IsPermutation}
use Rattle.std.proofs.lemmas.List.{append-nil}
use Rattle.std.proofs.lemmas.List.Sorted.{IsPermutation-refl, IsPermutation-trans, IsPermutation-append, IsPermutation-append_left, IsPermutation-filter_both, Contains-permutation}
use Rattle.std.proofs.lemmas.List.Elements.{All-contains, Contains-append_left, Contains-append_cases, filter_passes}
use Rattle.std.proofs.lemmas.Bool.{cond_both, leb-true, ltb-true, eqb-true, and_parts}
use Rattle.hs_base.proofs.Filters.{filter_few}
use Rattle.hs_outbox.specs.Queue.{Pending, Queue, OutboxAct, Puts, HandsOut, Acknowledges, OffersAgain, after, with, may_put, is_numbered, first_offered, has_number}
use Rattle.hs_outbox.specs.Lives.{Rises, put_by, left_by, life, all_put, all_left}
use Rattle.hs_outbox.proofs.Rising.{rises_behind, rises_filter}

-- what every state of a life keeps
pub record IsGood (places room : ℕ) (q : Queue) : Type 0 where
  pub rising : Rises 0 q.fresh q.pending
  pub few : length q.pending ≤ q.places
  pub places_stay : q.places ≡ places
  pub room_stays : q.room ≡ room

-- what a test for a put says
pub may_parts : (q : Queue) (p : Pending) → may_put q p ≡ true → (q.fresh ≤ p.number) × (length q.pending < q.places)
may_parts q p may =
    let parts = and_parts (nat_le q.fresh p.number && nat_lt (length q.pending) q.places) (nat_le (length p.bytes) q.room) may in
    let first = and_parts (nat_le q.fresh p.number) (nat_lt (length q.pending) q.places) parts.0 in
    (leb-true q.fresh p.number first.0, ltb-true (length q.pending) q.places first.1)

good_put : (places room : ℕ) (q : Queue) (p : Pending) → IsGood places room q → may_put q p ≡ true → IsGood places room (with q p)
good_put places room q p good may =
    let parts = may_parts q p may in
    let above = parts.0 in
    let less = parts.1 in
    record {
      rising = rises_behind q.pending (p ∷ []) 0 q.fresh (p.number + 1) good.rising (above, omega arith);
      few = omega (arith, less, length-append q.pending (p ∷ []));
      places_stay = good.places_stay;
      room_stays = good.room_stays;
    }

pub good_after : (places room : ℕ) (q : Queue) (act : OutboxAct) → IsGood places room q → IsGood places room (after q act)
good_after places room q (Puts p) good = cond_both (may_put q p) (with q p) q (λ (r : Queue). IsGood places room r) (good_put places room q p good) (λ no. good)
good_after places room q (HandsOut n) good =
    cond_both (has_number (first_offered q) n) (record q { handed = n + 1 }) q (λ (r : Queue). IsGood places room r)
    (λ yes. record { rising = good.rising; few = good.few; places_stay = good.places_stay; room_stays = good.room_stays }) (λ no. good)
good_after places room q (Acknowledges n) good =
    record {
      rising = rises_filter (λ p. not (is_numbered n p)) q.pending 0 q.fresh good.rising;
      few = (let less = filter_few (λ p. not (is_numbered n p)) q.pending in let few = good.few in omega (arith, less, few));
      places_stay = good.places_stay;
      room_stays = good.room_stays;
    }
good_after places room q OffersAgain good = record { rising = good.rising; few = good.few; places_stay = good.places_stay; room_stays = good.room_stays }

pub good_life : (places room : ℕ) (acts : List OutboxAct) (q : Queue) → IsGood places room q → IsGood places room (life q acts)
good_life places room [] q good = good
good_life places room (act ∷ acts) q good = good_life places room acts (after q act) (good_after places room q act good)

-- ---- what was put rises

abbrev pub PutRises : List OutboxAct → Queue → Type 0
PutRises acts q = Rises q.fresh (life q acts).fresh (all_put q acts)

-- what one call put, and the least number that may be put after it
rises_by : (q : Queue) (act : OutboxAct) → Rises q.fresh (after q act).fresh (put_by q act)
rises_by q (Puts p) = rises_put q p (may_put q p) refl
  where
    rises_put : (q : Queue) (p : Pending) (b : Bool) → may_put q p ≡ b → Rises q.fresh (cond b (with q p) q).fresh (cond b (p ∷ []) [])
    rises_put q p true may = ((may_parts q p may).0, omega arith)
    rises_put q p false may = omega arith
rises_by q (HandsOut n) = cond_both (has_number (first_offered q) n) (record q { handed = n + 1 }) q (λ (r : Queue). q.fresh ≤ r.fresh) (λ yes. omega arith) (λ no. omega arith)
rises_by q (Acknowledges n) = omega arith
rises_by q OffersAgain = omega arith

pub put_rises : (acts : List OutboxAct) (q : Queue) → PutRises acts q
put_rises [] q = omega arith
put_rises (act ∷ acts) q =
    rises_behind (put_by q act) (all_put (after q act) acts) q.fresh (after q act).fresh (life (after q act) acts).fresh (rises_by q act) (put_rises acts (after q act))

-- ---- what was put has left or waits

same_pending : (q : Queue) → IsPermutation (q.pending ++ []) q.pending
same_pending q = subst (λ (ps : List Pending). IsPermutation ps q.pending) (sym (append-nil q.pending)) (IsPermutation-refl q.pending)

once_put : (q : Queue) (p : Pending) (b : Bool) → IsPermutation (q.pending ++ cond b (p ∷ []) []) (cond b (with q p) q).pending
once_put q p true = IsPermutation-refl (q.pending ++ p ∷ [])
once_put q p false = same_pending q

-- one call: what waited and what it put are what it took and what waits then
once_by : (q : Queue) (act : OutboxAct) → IsPermutation (q.pending ++ put_by q act) (left_by q act ++ (after q act).pending)
once_by q (Puts p) = once_put q p (may_put q p)
once_by q (HandsOut n) =
    cond_both (has_number (first_offered q) n) (record q { handed = n + 1 }) q (λ (r : Queue). IsPermutation (q.pending ++ []) r.pending) (λ yes. same_pending q) (λ no. same_pending q)
once_by q (Acknowledges n) =
    subst (λ (ps : List Pending). IsPermutation ps (left_by q (Acknowledges n) ++ (after q (Acknowledges n)).pending)) (sym (append-nil q.pending))
    (IsPermutation-filter_both (is_numbered n) (λ p. not (is_numbered n p)) (λ p. refl) q.pending)
once_by q OffersAgain = same_pending q

pub put_once : (acts : List OutboxAct) (q : Queue) → IsPermutation (q.pending ++ all_put q acts) (all_left q acts ++ (life q acts).pending)
put_once [] q = same_pending q
put_once (act ∷ acts) q =
    let next = after q act in
    let puts = put_by q act in
    let left = left_by q act in
    let later = all_put next acts in
    let gone = all_left next acts in
    let waiting = (life next acts).pending in
    let first : IsPermutation ((q.pending ++ puts) ++ later) ((left ++ next.pending) ++ later) = IsPermutation-append_left later (q.pending ++ puts) (left ++ next.pending) (once_by q act) in
    let second : IsPermutation (left ++ (next.pending ++ later)) (left ++ (gone ++ waiting)) =
    IsPermutation-append left left (next.pending ++ later) (gone ++ waiting) (IsPermutation-refl left) (put_once acts next) in
    let begins : (q.pending ++ puts) ++ later ≡ q.pending ++ (puts ++ later) = append_assoc q.pending puts later in
    let middle : (left ++ next.pending) ++ later ≡ left ++ (next.pending ++ later) = append_assoc left next.pending later in
    let ends : left ++ (gone ++ waiting) ≡ (left ++ gone) ++ waiting = sym (append_assoc left gone waiting) in
    let joined : IsPermutation ((q.pending ++ puts) ++ later) (left ++ (gone ++ waiting)) =
    IsPermutation-trans ((q.pending ++ puts) ++ later) (left ++ (next.pending ++ later)) (left ++ (gone ++ waiting))
    (subst (λ (ps : List Pending). IsPermutation ((q.pending ++ puts) ++ later) ps) middle first) second in
    subst (λ (ps : List Pending). IsPermutation (q.pending ++ (puts ++ later)) ps) ends (subst (λ (ps : List Pending). IsPermutation ps (left ++ (gone ++ waiting))) begins joined)

-- ---- what waited waits on, or was acknowledged

pub stays : (q : Queue) (act : OutboxAct) (p : Pending) → Contains q.pending p → (act ≡ Acknowledges p.number) ⊎ Contains (after q act).pending p
stays q (Puts new) p there = inr (cond_both (may_put q new) (with q new) q (λ (r : Queue). Contains r.pending p) (λ yes. Contains-append_left q.pending (new ∷ []) p there) (λ no. there))
stays q (HandsOut n) p there =
    inr (cond_both (has_number (first_offered q) n) (record q { handed = n + 1 }) q (λ (r : Queue). Contains r.pending p) (λ yes. there) (λ no. there))
stays q (Acknowledges n) p there =
    let gone = filter (is_numbered n) q.pending in
    let left = filter (λ r. not (is_numbered n r)) q.pending in
    let both : Contains (gone ++ left) p =
    Contains-permutation q.pending (gone ++ left) p (IsPermutation-filter_both (is_numbered n) (λ r. not (is_numbered n r)) (λ r. refl) q.pending) there in
    ⊎_elim
    (λ (goes : Contains gone p).
    let same : (p.number == n) ≡ true = All-contains (λ r. is_numbered n r ≡ true) gone p (filter_passes (is_numbered n) q.pending) goes in
    inl (ap Acknowledges (sym (eqb-true p.number n same))))
    (λ (waits : Contains left p). inr waits)
    (Contains-append_cases gone left p both)
stays q OffersAgain p there = inr there
