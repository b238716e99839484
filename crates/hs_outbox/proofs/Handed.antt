-- What counts as handed out was handed out by a call of its own; and all accounts of a life.
use Rattle.std.proofs.Common.{◌≡◌, ℕ, ◌+◌, ◌<◌, ◌≤◌, Bool, true, false, not, List, [], ◌∷◌, ◌++◌, cond, filter, refl, sym, subst, append_assoc, arith}
use Rattle.std.specs.Prelude.{nat_lt, ◌==◌}
use Rattle.std.specs.List.{All, AllByRecursion, Contains, find}
use Rattle.std.proofs.lemmas.List.{append-nil}
use Rattle.std.proofs.lemmas.List.Elements.{All-from_recursion, Contains-append_left, Contains-push}
use Rattle.std.proofs.lemmas.Bool.{cond_both, ltb-true, eqb-true}
use Rattle.hs_base.proofs.Alls.{all_each, all_push, all_filter, all_always}
use Rattle.hs_outbox.specs.Queue.{Pending, Queue, OutboxAct, Puts, HandsOut, Acknowledges, OffersAgain, after, with, may_put, is_numbered, first_offered, has_number, empty}
use Rattle.hs_outbox.specs.Lives.{Rises, life, IsAccounted}
use Rattle.hs_outbox.proofs.Rising.{rises_bounds, parts_of}
use Rattle.hs_outbox.proofs.Accounts.{IsGood, good_after, good_life, may_parts, put_rises, put_once}

-- each message below the number was handed out by one of these calls
abbrev pub WereHanded : List OutboxAct → ℕ → List Pending → Type 0
WereHanded acts k = AllByRecursion (λ (p : Pending). p.number < k → Contains acts (HandsOut p.number))

were_more : (acts : List OutboxAct) (act : OutboxAct) (k : ℕ) (ps : List Pending) → WereHanded acts k ps → WereHanded (acts ++ act ∷ []) k ps
were_more acts act k ps were =
    all_each (λ (p : Pending). p.number < k → Contains acts (HandsOut p.number)) (λ (p : Pending). p.number < k → Contains (acts ++ act ∷ []) (HandsOut p.number)) ps
    (λ p handed low. Contains-append_left acts (act ∷ []) (HandsOut p.number) (handed low)) were

-- none of these is below the number
beyond : (acts : List OutboxAct) (n : ℕ) (ps : List Pending) (from to : ℕ) → Rises from to ps → n < from → WereHanded acts (n + 1) ps
beyond acts n [] from to rise low = tt
beyond acts n (p ∷ ps) from to rise low =
    let above = rise.0 in
    ((λ less. absurd (omega (arith, above, low, less))), beyond acts n ps (p.number + 1) to rise.1 (omega (arith, above, low)))

-- the first from a number on, where this is its number
abbrev IsFirst : ℕ → List Pending → ℕ → Type 0
IsFirst k ps n = has_number (find (λ p. not (nat_lt p.number k)) ps) n ≡ true

one_called : (acts : List OutboxAct) (m n : ℕ) → m ≡ n → Contains (acts ++ HandsOut n ∷ []) (HandsOut m)
one_called acts m n same = subst (λ k. Contains (acts ++ HandsOut n ∷ []) (HandsOut k)) (sym same) (Contains-push acts (HandsOut n))

upto_at : (acts : List OutboxAct) (k n : ℕ) (p : Pending) (ps : List Pending) (to : ℕ) (below : Bool) → nat_lt p.number k ≡ below → Rises (p.number + 1) to ps → IsFirst k (p ∷ ps) n
    → (p.number < k → Contains acts (HandsOut p.number)) → (IsFirst k ps n → WereHanded (acts ++ HandsOut n ∷ []) (n + 1) ps) → WereHanded (acts ++ HandsOut n ∷ []) (n + 1) (p ∷ ps)
upto_at acts k n p ps to true low rise first one rest =
    let later : IsFirst k ps n = rw low at first in
    ((λ less. Contains-append_left acts (HandsOut n ∷ []) (HandsOut p.number) (one (ltb-true p.number k low))), rest later)
upto_at acts k n p ps to false low rise first one rest =
    let here : (p.number == n) ≡ true = rw low at first in
    let same = eqb-true p.number n here in
    ((λ less. one_called acts p.number n same), beyond (acts ++ HandsOut n ∷ []) n ps (p.number + 1) to rise (omega (arith, same)))

-- one more is handed out: the first that was not
were_upto : (acts : List OutboxAct) (k n : ℕ) (ps : List Pending) (from to : ℕ) → Rises from to ps → IsFirst k ps n → WereHanded acts k ps → WereHanded (acts ++ HandsOut n ∷ []) (n + 1) ps
were_upto acts k n [] from to rise first were = tt
were_upto acts k n (p ∷ ps) from to rise first were =
    upto_at acts k n p ps to (nat_lt p.number k) refl rise.1 first were.0 (λ later. were_upto acts k n ps (p.number + 1) to rise.1 later were.1)

bound_at : (k n : ℕ) (p : Pending) (ps : List Pending) (to : ℕ) (below : Bool) → nat_lt p.number k ≡ below → p.number + 1 ≤ to → IsFirst k (p ∷ ps) n → (IsFirst k ps n → n < to) → n < to
bound_at k n p ps to true low le first rest = let later : IsFirst k ps n = rw low at first in rest later
bound_at k n p ps to false low le first rest =
    let here : (p.number == n) ≡ true = rw low at first in
    omega (arith, le, eqb-true p.number n here)

-- the first has a number below the bound
first_below : (k n : ℕ) (ps : List Pending) (from to : ℕ) → Rises from to ps → IsFirst k ps n → n < to
first_below k n [] from to rise first = absurd cc
first_below k n (p ∷ ps) from to rise first =
    bound_at k n p ps to (nat_lt p.number k) refl (rises_bounds ps (p.number + 1) to rise.1) first (λ later. first_below k n ps (p.number + 1) to rise.1 later)

-- ---- what each call keeps

pub record IsHanded (acts : List OutboxAct) (q : Queue) : Type 0 where
  pub bound : q.handed ≤ q.fresh
  pub were : WereHanded acts q.handed q.pending

handed_put : (acts : List OutboxAct) (act : OutboxAct) (q : Queue) (p : Pending) → IsHanded acts q → may_put q p ≡ true → IsHanded (acts ++ act ∷ []) (with q p)
handed_put acts act q p handed may =
    let above = (may_parts q p may).0 in
    let bound = handed.bound in
    record {
      bound = omega (arith, above, bound);
      were = all_push (λ (r : Pending). r.number < q.handed → Contains (acts ++ act ∷ []) (HandsOut r.number)) q.pending p (were_more acts act q.handed q.pending handed.were)
          (λ less. absurd (omega (arith, above, bound, less)));
    }

handed_on : (acts : List OutboxAct) (act : OutboxAct) (q : Queue) → IsHanded acts q → IsHanded (acts ++ act ∷ []) q
handed_on acts act q handed = record { bound = handed.bound; were = were_more acts act q.handed q.pending handed.were }

handed_after : (places room : ℕ) (acts : List OutboxAct) (q : Queue) (act : OutboxAct) → IsGood places room q → IsHanded acts q → IsHanded (acts ++ act ∷ []) (after q act)
handed_after places room acts q (Puts p) good handed =
    cond_both (may_put q p) (with q p) q (λ (r : Queue). IsHanded (acts ++ Puts p ∷ []) r) (handed_put acts (Puts p) q p handed) (λ no. handed_on acts (Puts p) q handed)
handed_after places room acts q (HandsOut n) good handed =
    cond_both (has_number (first_offered q) n) (record q { handed = n + 1 }) q (λ (r : Queue). IsHanded (acts ++ HandsOut n ∷ []) r)
    (λ first.
    record {
      bound = (let low = first_below q.handed n q.pending 0 q.fresh good.rising first in omega (arith, low));
      were = were_upto acts q.handed n q.pending 0 q.fresh good.rising first handed.were;
    })
    (λ no. handed_on acts (HandsOut n) q handed)
handed_after places room acts q (Acknowledges n) good handed =
    record {
      bound = handed.bound;
      were = all_filter (λ (p : Pending). p.number < q.handed → Contains (acts ++ Acknowledges n ∷ []) (HandsOut p.number)) (λ p. not (is_numbered n p)) q.pending
          (were_more acts (Acknowledges n) q.handed q.pending handed.were);
    }
handed_after places room acts q OffersAgain good handed =
    record { bound = omega arith; were = all_always (λ (p : Pending). p.number < 0 → Contains (acts ++ OffersAgain ∷ []) (HandsOut p.number)) q.pending (λ p less. absurd (omega (arith, less))) }

handed_life : (places room : ℕ) (acts done : List OutboxAct) (q : Queue) → IsGood places room q → IsHanded done q → IsHanded (done ++ acts) (life q acts)
handed_life places room [] done q good handed = subst (λ (all : List OutboxAct). IsHanded all q) (sym (append-nil done)) handed
handed_life places room (act ∷ acts) done q good handed =
    subst (λ (all : List OutboxAct). IsHanded all (life (after q act) acts)) (append_assoc done (act ∷ []) acts)
    (handed_life places room acts (done ++ act ∷ []) (after q act) (good_after places room q act good) (handed_after places room done q act good handed))

-- ---- of an outbox that was empty

were_at : (acts : List OutboxAct) (k : ℕ) (p : Pending) (ps : List Pending) (b : Bool) → nat_lt p.number k ≡ b → (p.number < k → Contains acts (HandsOut p.number))
    → AllByRecursion (λ (r : Pending). Contains acts (HandsOut r.number)) ps → AllByRecursion (λ (r : Pending). Contains acts (HandsOut r.number)) (cond b (p ∷ ps) ps)
were_at acts k p ps true low one rest = (one (ltb-true p.number k low), rest)
were_at acts k p ps false low one rest = rest

were_all : (acts : List OutboxAct) (k : ℕ) (ps : List Pending) → WereHanded acts k ps → AllByRecursion (λ (r : Pending). Contains acts (HandsOut r.number)) (filter (λ r. nat_lt r.number k) ps)
were_all acts k [] were = tt
were_all acts k (p ∷ ps) were = were_at acts k p (filter (λ r. nat_lt r.number k) ps) (nat_lt p.number k) refl were.0 (were_all acts k ps were.1)

pub handed_all : (places room : ℕ) (acts : List OutboxAct) (start : Queue) → IsGood places room start → start.handed ≡ 0 → IsHanded [] start
    → All (λ (p : Pending). Contains acts (HandsOut p.number)) (filter (λ r. nat_lt r.number (life start acts).handed) (life start acts).pending)
handed_all places room acts start good none begun =
    All-from_recursion (λ (p : Pending). Contains acts (HandsOut p.number)) (filter (λ r. nat_lt r.number (life start acts).handed) (life start acts).pending)
    (were_all acts (life start acts).handed (life start acts).pending (handed_life places room acts [] start good begun).were)

-- ---- all of it, of an outbox that was empty

pub accounted : (places room : ℕ) (acts : List OutboxAct) → IsAccounted places room acts (life (empty places room) acts)
accounted places room acts =
    let start = empty places room in
    let q = life start acts in
    let begun : IsGood places room start = record { rising = omega arith; few = omega arith; places_stay = refl; room_stays = refl } in
    let good = good_life places room acts start begun in
    record {
      put = put_rises acts start;
      once = put_once acts start;
      waiting = good.rising;
      parts = parts_of q.handed q.pending 0 q.fresh good.rising;
      handed = handed_all places room acts start begun refl (record { bound = omega arith; were = tt });
      few = good.few;
      places_stay = good.places_stay;
      room_stays = good.room_stays;
    }
