-- A turn under way: the ids visited so far, and what that leaves.
use Rattle.std.proofs.Common.{cond, ◌≡◌, ◌≢◌, ℕ, ◌+◌, ◌*◌, ◌^◌, ◌<◌, ◌≤◌, Bool, true, false, List, [], ◌∷◌, ◌++◌, length, take, drop, get_or, set, replicate, map, find, flat_map, All, AllPairs, option_map, Some, None, refl, sym, ap, ◌∙◌, arith, subst, ◌==◌, eq-eqb, ⊎_elim, append-nil}
use Rattle.std.specs.Option.{option_or, option_map_or}
use Rattle.std.proofs.Math.Nat.{mul-le-mul_left}
use Rattle.std.proofs.lemmas.Bool.{cases_eq}
use Rattle.std.proofs.lemmas.List.Elements.{All-head, All-tail, All-from_get_or, All-map}
use Rattle.std.proofs.lemmas.List.{take_more, drop_more, map_more, take_all, drop_all, set_at, length-map, length-take-le, append_assoc, get_or-take, get_or_at, get_or-map, take_at}
use Rattle.std.proofs.lemmas.List.Folds.{find-append}
use Rattle.std.proofs.lemmas.Grind.{flat_map-append}
use borrow.Author.Tests.{ne_eqb, eqb-true}
use Rattle.hs_base.proofs.Options.{option_or_none}
use Rattle.hs_base.specs.declared.limits.TheConstants.{MAX_WEIGHT, MAX_SIZE}
use Rattle.hs_base.specs.declared.settings.TriggerRule.{TriggerRule}
use Rattle.hs_sched.specs.declared.share.Share.{Share}
use Rattle.hs_records.specs.Fronts.{count_within}
use Rattle.hs_sched.specs.Visits.{rest_within, budget_of, count_sent, visited}
use Rattle.hs_sched.specs.Fairness.{IsFairVisit}
use Rattle.hs_sched.specs.Turns.{shares_of, IsId, IsWeight, IsSize, IsSchedule, Schedule, share_of, after_turn, left_after, sent_ids}
use Rattle.hs_base.specs.Rules.{AreRules}
use Rattle.hs_sched.specs.Sending.{SendsEach, CostAtMost}
use Rattle.hs_sched.proofs.FairnessLemmas.{fair_visit}
use Rattle.hs_sched.proofs.VisitLemmas.{IsOver, SendsEach-append}

abbrev has_id : ℕ → Share → Bool
has_id id share = share.trigger.0 == id

-- no share before one with the id has it too
none_before : (xs : List Share) (id : ℕ) → All (λ share. share.trigger.0 ≢ id) xs → find (has_id id) xs ≡ None
none_before [] id apart = refl
none_before (x ∷ xs) id apart = rw (ne_eqb x.trigger.0 id (All-head (λ share. share.trigger.0 ≢ id) x xs apart)) (none_before xs id (All-tail (λ share. share.trigger.0 ≢ id) x xs apart))

abbrev plan : ℕ → List Share → Schedule
plan size shares = record { shares = shares; size = size }

-- the look-up with one more share
share_of-push : (size : ℕ) (ps : List Share) (x : Share) (id : ℕ) → share_of (plan size (ps ++ x ∷ [])) id ≡ option_or (share_of (plan size ps) id) (find (has_id id) (x ∷ []))
share_of-push size ps x id = find-append (has_id id) ps (x ∷ [])

share_of-this : (size : ℕ) (ps : List Share) (x : Share) → All (λ share. share.trigger.0 ≢ x.trigger.0) ps → share_of (plan size (ps ++ x ∷ [])) x.trigger.0 ≡ Some x
share_of-this size ps x apart =
    share_of-push size ps x x.trigger.0 ∙ ap (λ o. option_or o (find (has_id x.trigger.0) (x ∷ []))) (none_before ps x.trigger.0 apart)
    ∙ ap (λ b. cond b (Some x) None) (eq-eqb x.trigger.0 x.trigger.0 refl)

share_of-other : (size : ℕ) (ps : List Share) (x : Share) (id : ℕ) → id ≢ x.trigger.0 → share_of (plan size (ps ++ x ∷ [])) id ≡ share_of (plan size ps) id
share_of-other size ps x id ne =
    share_of-push size ps x id ∙ ap (λ b. option_or (share_of (plan size ps) id) (cond b (Some x) None)) (ne_eqb x.trigger.0 id (λ e. ne (sym e)))
    ∙ option_or_none (share_of (plan size ps) id)

-- how a share is after its visit
abbrev pub served : ℕ → (ℕ → List ℕ) → Share → Share
served size waiting share = visited size share (waiting share.trigger.0)

-- the ids of the items that a share's visit sends
abbrev ids_of : ℕ → (ℕ → List ℕ) → Share → List ℕ
ids_of size waiting share = replicate (count_sent size share (waiting share.trigger.0)) share.trigger.0

module _ {Q : Type 0} (costs : Q → ℕ → List ℕ) (sends : Q → ℕ → Q → Type 0) where
  -- the visits of these shares lead from the old queues to these
  pub record IsServed (size : ℕ) (shares : List Share) (old now : Q) : Type 0 where
    pub left : (id : ℕ) → costs now id ≡ left_after (plan size shares) (costs old) id
    pub order : SendsEach sends old (sent_ids (plan size shares) (costs old)) now

  pub served_none : (size : ℕ) (old : Q) → IsServed size [] old old
  served_none size old = record { left = λ id. refl; order = refl }

  -- what waits for an id that was not visited yet
  waits_still : (size : ℕ) (ps : List Share) (x : Share) (old now : Q) → IsServed size ps old now → All (λ share. share.trigger.0 ≢ x.trigger.0) ps → costs now x.trigger.0 ≡ costs old x.trigger.0
  waits_still size ps x old now s apart =
      s.left x.trigger.0
      ∙ ap (λ o. drop (option_map_or (λ share. count_sent size share (costs old x.trigger.0)) o 0) (costs old x.trigger.0)) (none_before ps x.trigger.0 apart)

  pub served_more :
      (size : ℕ) (ps : List Share) (x : Share) (deficit : ℕ) (old now next : Q) → IsServed size ps old now → All (λ share. share.trigger.0 ≢ x.trigger.0) ps
      → IsOver costs sends x.trigger.0 (budget_of size x) deficit now next → IsServed size (ps ++ x ∷ []) old next × (deficit ≡ (served size (costs old) x).deficit)
  served_more size ps x deficit old now next s apart v =
      let still = waits_still size ps x old now s apart in (
        record {
          left = λ id.
              ⊎_elim
              (λ (e : id ≡ x.trigger.0).
              subst (λ (k : ℕ). costs next k ≡ left_after (plan size (ps ++ x ∷ [])) (costs old) k) (sym e)
              (v.left ∙ ap (λ cs. drop (count_within (budget_of size x) cs) cs) still
              ∙ ap (λ o. drop (option_map_or (λ share. count_sent size share (costs old x.trigger.0)) o 0) (costs old x.trigger.0)) (sym (share_of-this size ps x apart))))
              (λ (ne : id ≢ x.trigger.0).
              v.others id ne ∙ s.left id
              ∙ ap (λ o. drop (option_map_or (λ share. count_sent size share (costs old id)) o 0) (costs old id)) (sym (share_of-other size ps x id ne)))
              (cases_eq id x.trigger.0);
          order =
              subst (λ ids. SendsEach sends old ids next) (sym (flat_map-append (ids_of size (costs old)) ps (x ∷ []) ∙ ap (λ ids. flat_map (ids_of size (costs old)) ps ++ ids) (append-nil (ids_of size (costs old) x))))
              (SendsEach-append sends old now next (sent_ids (plan size ps) (costs old)) (ids_of size (costs old) x) s.order
              (subst (λ cs. SendsEach sends now (replicate (count_within (budget_of size x) cs) x.trigger.0) next) still v.order));
        },
        v.value ∙ ap (rest_within (budget_of size x)) still,
      )

-- one more share is written back
pub served-set :
    (f : Share → Share) (xs ys : List Share) (i : ℕ) (d y : Share) → i < length xs → ys ≡ map f (take i xs) ++ drop i xs → y ≡ f (get_or xs i d)
    → set ys i y ≡ map f (take (i + 1) xs) ++ drop (i + 1) xs
served-set f xs ys i d y within was is =
    let front : length (map f (take i xs)) ≡ i = length-map (take i xs) f ∙ length-take-le i xs (omega arith) in
    ap (λ zs. set zs i y) (was ∙ ap (λ zs. map f (take i xs) ++ zs) (drop_more xs i d within))
    ∙ set_at (map f (take i xs)) (get_or xs i d) (drop (i + 1) xs) y i front
    ∙ ap (λ (z : Share). map f (take i xs) ++ z ∷ drop (i + 1) xs) is
    ∙ sym (append_assoc (map f (take i xs)) (f (get_or xs i d) ∷ []) (drop (i + 1) xs))
    ∙ ap (λ zs. zs ++ drop (i + 1) xs) (sym (map_more f xs i d within))

-- the share that a turn comes to is as it was
pub served-at : (f : Share → Share) (xs ys : List Share) (i : ℕ) (d : Share) → i < length xs → ys ≡ map f (take i xs) ++ drop i xs → get_or ys i d ≡ get_or xs i d
served-at f xs ys i d within was =
    let front : length (map f (take i xs)) ≡ i = length-map (take i xs) f ∙ length-take-le i xs (omega arith) in
    ap (λ zs. get_or zs i d) (was ∙ ap (λ zs. map f (take i xs) ++ zs) (drop_more xs i d within)) ∙ get_or_at (map f (take i xs)) (get_or xs i d) (drop (i + 1) xs) d i front

-- rising ids differ
pub apart_before : (xs : List Share) (i : ℕ) (d : Share) → i < length xs → AllPairs (λ (a b : Share). a.trigger.0 < b.trigger.0) xs → All (λ share. share.trigger.0 ≢ (get_or xs i d).trigger.0) (take i xs)
apart_before xs i d within rising =
    All-from_get_or (λ share. share.trigger.0 ≢ (get_or xs i d).trigger.0) (take i xs) d
    (λ j below.
    let less : j < i = omega (arith, below, length-take-le i xs (omega arith)) in
    let pair : (get_or xs j d).trigger.0 < (get_or xs i d).trigger.0 = rising j i d less within in
    subst (λ (z : Share). z.trigger.0 ≢ (get_or xs i d).trigger.0) (sym (get_or-take i xs j d less)) (λ e. absurd (omega (arith, e, pair))))

module _ {Q : Type 0} (costs : Q → ℕ → List ℕ) (sends : Q → ℕ → Q → Type 0) where
  -- one visit of a turn
  pub served_step :
      (size : ℕ) (xs ys : List Share) (i budget deficit : ℕ) (d : Share) (old now next : Q) → i < length xs
      → AllPairs (λ (a b : Share). a.trigger.0 < b.trigger.0) xs
      → ys ≡ map (served size (costs old)) (take i xs) ++ drop i xs → IsServed costs sends size (take i xs) old now
      → budget ≡ budget_of size (get_or ys i d) → IsOver costs sends (get_or ys i d).trigger.0 budget deficit now next
      → (set ys i (record { trigger = (get_or ys i d).trigger; weight = (get_or ys i d).weight; deficit = deficit }) ≡ map (served size (costs old)) (take (i + 1) xs) ++ drop (i + 1) xs)
      × IsServed costs sends size (take (i + 1) xs) old next
  served_step size xs ys i budget deficit d old now next within rising was s paid v =
      let here : get_or ys i d ≡ get_or xs i d = served-at (served size (costs old)) xs ys i d within was in
      let over : IsOver costs sends (get_or xs i d).trigger.0 (budget_of size (get_or xs i d)) deficit now next =
      subst (λ (y : Share). IsOver costs sends y.trigger.0 (budget_of size y) deficit now next) here
      (subst (λ b. IsOver costs sends (get_or ys i d).trigger.0 b deficit now next) paid v) in
      let more = served_more costs sends size (take i xs) (get_or xs i d) deficit old now next s (apart_before xs i d within rising) over in (
        served-set (served size (costs old)) xs ys i d _ within was
            (λ k. record { trigger = (here k).trigger; weight = (here k).weight; deficit = more.1 k }),
        subst (λ ps. IsServed costs sends size ps old next) (sym (take_more xs i d within)) more.0,
      )

-- the list when each share was written back
pub finished :
    (f : Share → Share) (xs ys old : List Share) (i len : ℕ) → len ≡ length xs → len ≤ i → ys ≡ map f (take i xs) ++ drop i xs
    → take len (ys ++ drop (length ys) old) ≡ map f xs
finished f xs ys old i len whole end was =
    let all : ys ≡ map f xs =
    was ∙ ap (λ zs. map f zs ++ drop i xs) (take_all i xs (omega arith)) ∙ ap (λ zs. map f xs ++ zs) (drop_all i xs (omega arith)) ∙ append-nil (map f xs) in
    let as_long : length ys ≡ len = ap length all ∙ length-map xs f ∙ sym whole in
    take_at ys (drop (length ys) old) len as_long ∙ all

-- each visit of a turn is fair
pub all_fair : (s : Schedule) (waiting : ℕ → List ℕ) → IsSchedule s → CostAtMost s.size waiting → All (λ share. IsFairVisit s.size share (waiting share.trigger.0)) s.shares
all_fair s waiting is cheap =
    λ k d below.
    let x = get_or s.shares k d in
    let id : IsId x.trigger.0 = is.ids k d below in
    fair_visit s.size x (waiting x.trigger.0) (cheap x.trigger.0 (omega (arith, id.1))) (is.deficits k d below)

-- a turn keeps what every scheduler keeps
pub IsSchedule-after : (s : Schedule) (waiting : ℕ → List ℕ) → IsSchedule s → CostAtMost s.size waiting → IsSchedule (after_turn s waiting)
IsSchedule-after s waiting is cheap =
    let f = served s.size waiting in
    record {
      rising =
          λ i j d less below.
          let in' : j < length s.shares = omega (arith, below, length-map s.shares f) in
          subst (λ (y : Share). y.trigger.0 < (get_or (map f s.shares) j d).trigger.0) (sym (get_or-map f s.shares i d d (omega arith)))
          (subst (λ (y : Share). (get_or s.shares i d).trigger.0 < y.trigger.0) (sym (get_or-map f s.shares j d d in')) (is.rising i j d less in'));
      ids = All-map (λ (y : Share). IsId y.trigger.0) f s.shares is.ids;
      weights = All-map (λ (y : Share). IsWeight y.weight) f s.shares is.weights;
      size = is.size;
      deficits = All-map (λ (y : Share). y.deficit < s.size) f s.shares (λ k d below. (all_fair s waiting is cheap k d below).bound);
    }

-- a budget fits its type
pub budget_fits : (deficit weight size : ℕ) → deficit < size → weight ≤ MAX_WEIGHT → size ≤ MAX_SIZE → deficit + weight * size < 2 ^ 64
budget_fits deficit weight size small light page = omega (arith, mul-le-mul_left size light)

-- the scheduler of these rules before the first turn
pub IsSchedule-first : (rules : List TriggerRule) (size : ℕ) → AreRules rules → IsSize size → IsSchedule (plan size (shares_of rules))
IsSchedule-first rules size are is =
    let f : TriggerRule → Share = λ rule. record { trigger = rule.id; weight = rule.weight; deficit = 0 } in
    let no_rule : TriggerRule = record { id = record { 0 = 0 }; weight = 0; burst = 0; rate = 0 } in
    record {
      rising =
          λ i j d less below.
          let in' : j < length rules = omega (arith, below, length-map rules f) in
          subst (λ (y : Share). y.trigger.0 < (get_or (map f rules) j d).trigger.0) (sym (get_or-map f rules i no_rule d (omega arith)))
          (subst (λ (y : Share). (get_or rules i no_rule).id.0 < y.trigger.0) (sym (get_or-map f rules j no_rule d in')) (are.rising i j no_rule less in'));
      ids = All-map (λ (y : Share). IsId y.trigger.0) f rules (λ k d below. (are.each k d below).id);
      weights = All-map (λ (y : Share). IsWeight y.weight) f rules (λ k d below. (are.each k d below).weight);
      size = is;
      deficits = All-map (λ (y : Share). y.deficit < size) f rules (λ k d below. omega (arith, is.0));
    }

-- what is looked up has what all have
pub find_has : (P : Share → Type 0) (p : Share → Bool) (xs : List Share) (x : Share) → All P xs → find p xs ≡ Some x → P x
find_has P p [] x all e = cc
find_has P p (y ∷ ys) x all e = found (p y) (λ rest. find_has P p ys x (All-tail P y ys all) rest) e
  where
    found : (b : Bool) → (find p ys ≡ Some x → P x) → cond b (Some y) (find p ys) ≡ Some x → P x
    found true later e = let same : y ≡ x = cc in subst P same (All-head P y ys all)
    found false later e = later e

-- a look-up after the visits
pub find-served :
    (size : ℕ) (waiting : ℕ → List ℕ) (id : ℕ) (xs : List Share)
    → find (has_id id) (map (served size waiting) xs) ≡ option_map (λ share. visited size share (waiting id)) (find (has_id id) xs)
find-served size waiting id [] = refl
find-served size waiting id (y ∷ ys) = here (has_id id y) refl (find-served size waiting id ys)
  where
    here :
        (b : Bool) → has_id id y ≡ b → find (has_id id) (map (served size waiting) ys) ≡ option_map (λ share. visited size share (waiting id)) (find (has_id id) ys)
        → cond b (Some (served size waiting y)) (find (has_id id) (map (served size waiting) ys)) ≡ option_map (λ share. visited size share (waiting id)) (cond b (Some y) (find (has_id id) ys))
    here true same rest = ap (λ k. Some (visited size y (waiting k))) (eqb-true y.trigger.0 id same)
    here false same rest = rest
