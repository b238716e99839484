-- The items that a run of sends moves: first of one id, then of each share's id in turn.
use Rattle.std.proofs.Common.{◌≡◌, ◌≢◌, ℕ, zero, suc, Bool, true, false, cond, List, [], ◌∷◌, ◌++◌, take, drop, replicate, find, flat_map, All, AllPairs, refl, sym, ap, ◌∙◌, subst, Some, true≢false, ◌==◌, eq-eqb, append-nil, arith}
use Rattle.std.specs.Option.{option_map_or}
use Rattle.std.proofs.lemmas.List.{append_assoc}
use Rattle.std.proofs.lemmas.List.Elements.{All-head, All-tail}
use Rattle.std.proofs.lemmas.Bool.{eqb-true}
use Rattle.hs_sched.specs.declared.share.Share.{Share}
use Rattle.hs_sched.specs.Visits.{count_sent}
use Rattle.hs_sched.specs.Turns.{Schedule, IsSchedule, sent_ids}
use Rattle.hs_sched.specs.Sending.{SendsEach}
use Rattle.hs_sched.specs.Moving.{ItemQueues, costs_in, MovesNext, TurnMoves, TurnsMoveItems}

module _ {Q T : Type 0} (held : ItemQueues Q T) (sends : Q → ℕ → Q → Type 0) (each : (before : Q) (id : ℕ) (after : Q) → sends before id after → MovesNext held before id after) where
  -- so many items of one id were moved
  pub record Moved (id n : ℕ) (old new : Q) : Type 0 where
    pub sent : held.sent new ≡ held.sent old ++ take n (held.waiting old id)
    pub left : held.waiting new id ≡ drop n (held.waiting old id)
    pub others : (other : ℕ) → other ≢ id → held.waiting new other ≡ held.waiting old other

  moved : (id n : ℕ) (old new : Q) → SendsEach sends old (replicate n id) new → Moved id n old new
  moved id zero old new same = record {
    sent = ap held.sent same ∙ sym (append-nil (held.sent old));
    left = ap (λ q. held.waiting q id) same;
    others = λ other ne. ap (λ q. held.waiting q other) same;
  }
  moved id (suc n) old new (next, step, rest) =
      let one = each old id next step in
      let more = moved id n next new rest in
      record {
        sent =
            more.sent ∙ ap (λ l. l ++ take n (held.waiting next id)) one.put
            ∙ append_assoc (held.sent old) (one.item ∷ []) (take n (held.waiting next id))
            ∙ ap (λ l. held.sent old ++ take (suc n) l) (sym one.taken);
        left = more.left ∙ ap (drop (suc n)) (sym one.taken);
        others = λ other ne. more.others other ne ∙ one.others other ne;
      }

  -- sends of two lists come to a point between them
  halves : (old new : Q) (xs ys : List ℕ) → SendsEach sends old (xs ++ ys) new → (mid : Q) × SendsEach sends old xs mid × SendsEach sends mid ys new
  halves old new [] ys all = (old, refl, all)
  halves old new (x ∷ xs) ys (next, step, rest) = let h = halves next new xs ys rest in (h.0, (next, step, h.1), h.2)

  -- ---- shares, one after another, where each sends so many

  module _ (count : Share → ℕ) where
    abbrev ids_for : Share → List ℕ
    ids_for share = replicate (count share) share.trigger.0

    abbrev items_for : Q → Share → List T
    items_for q share = take (count share) (held.waiting q share.trigger.0)

    -- what the id of no share waits for stays
    others_stay : (shares : List Share) (old new : Q) → SendsEach sends old (flat_map ids_for shares) new
        → (id : ℕ) → All (λ share. share.trigger.0 ≢ id) shares → held.waiting new id ≡ held.waiting old id
    others_stay [] old new same id apart = ap (λ q. held.waiting q id) same
    others_stay (x ∷ xs) old new all id apart =
        let h = halves old new (ids_for x) (flat_map ids_for xs) all in
        let first = moved x.trigger.0 (count x) old h.0 h.1 in
        others_stay xs h.0 new h.2 id (All-tail (λ (share : Share). share.trigger.0 ≢ id) x xs apart)
        ∙ first.others id (λ e. All-head (λ (share : Share). share.trigger.0 ≢ id) x xs apart (sym e))

    -- the same items go where the same waits
    same_items : (shares : List Share) (a b : Q) → All (λ share. held.waiting a share.trigger.0 ≡ held.waiting b share.trigger.0) shares
        → flat_map (items_for a) shares ≡ flat_map (items_for b) shares
    same_items [] a b same = refl
    same_items (x ∷ xs) a b same =
        ap (λ l. take (count x) l ++ flat_map (items_for a) xs) (All-head (λ (share : Share). held.waiting a share.trigger.0 ≡ held.waiting b share.trigger.0) x xs same)
        ∙ ap (λ l. items_for b x ++ l) (same_items xs a b (All-tail (λ (share : Share). held.waiting a share.trigger.0 ≡ held.waiting b share.trigger.0) x xs same))

    abbrev AreApart : List Share → Type 0
    AreApart = AllPairs (λ (a b : Share). a.trigger.0 ≢ b.trigger.0)

    all_sent : (shares : List Share) (old new : Q) → AreApart shares → SendsEach sends old (flat_map ids_for shares) new
        → held.sent new ≡ held.sent old ++ flat_map (items_for old) shares
    all_sent [] old new apart same = ap held.sent same ∙ sym (append-nil (held.sent old))
    all_sent (x ∷ xs) old new apart all =
        let h = halves old new (ids_for x) (flat_map ids_for xs) all in
        let first = moved x.trigger.0 (count x) old h.0 h.1 in
        all_sent xs h.0 new (λ i j d less below. apart (suc i) (suc j) d (omega (arith, less)) (omega (arith, below))) h.2
        ∙ ap (λ l. l ++ flat_map (items_for h.0) xs) first.sent
        ∙ append_assoc (held.sent old) (items_for old x) (flat_map (items_for h.0) xs)
        ∙ ap (λ l. held.sent old ++ (items_for old x ++ l))
        (same_items xs h.0 old (λ j d below. first.others _ (λ e. apart 0 (suc j) d (omega arith) (omega (arith, below)) (sym e))))

    -- how many of an id's items go
    abbrev of_id : List Share → ℕ → ℕ
    of_id shares id = option_map_or count (find (λ share. share.trigger.0 == id) shares) 0

    all_left : (shares : List Share) (old new : Q) → AreApart shares → SendsEach sends old (flat_map ids_for shares) new
        → (id : ℕ) → held.waiting new id ≡ drop (of_id shares id) (held.waiting old id)
    all_left [] old new apart same id = ap (λ q. held.waiting q id) same
    all_left (x ∷ xs) old new apart all id =
        let h = halves old new (ids_for x) (flat_map ids_for xs) all in
        let first = moved x.trigger.0 (count x) old h.0 h.1 in
        by h.0 first (others_stay xs h.0 new h.2)
        (all_left xs h.0 new (λ i j d less below. apart (suc i) (suc j) d (omega (arith, less)) (omega (arith, below))) h.2 id)
        (x.trigger.0 == id) refl
      where
        by : (mid : Q) → Moved x.trigger.0 (count x) old mid
            → ((other : ℕ) → All (λ share. share.trigger.0 ≢ other) xs → held.waiting new other ≡ held.waiting mid other)
            → held.waiting new id ≡ drop (of_id xs id) (held.waiting mid id)
            → (same : Bool) → (x.trigger.0 == id) ≡ same
            → held.waiting new id ≡ drop (option_map_or count (cond same (Some x) (find (λ share. share.trigger.0 == id) xs)) 0) (held.waiting old id)
        by mid first stay rest true e =
            let is : x.trigger.0 ≡ id = eqb-true x.trigger.0 id e in
            subst (λ k. held.waiting new k ≡ drop (count x) (held.waiting old k)) is
            (stay x.trigger.0 (λ j d below e'. apart 0 (suc j) d (omega arith) (omega (arith, below)) (sym e')) ∙ first.left)
        by mid first stay rest false e =
            rest ∙ ap (drop (of_id xs id)) (first.others id (λ e'. absurd (true≢false (sym (eq-eqb x.trigger.0 id (sym e')) ∙ e))))

  turn_moves : (s : Schedule) (old new : Q) → IsSchedule s → SendsEach sends old (sent_ids s (costs_in held old)) new → TurnMoves held s old new
  turn_moves s old new is all =
      let count : Share → ℕ = λ share. count_sent s.size share (costs_in held old share.trigger.0) in
      let apart : AllPairs (λ (a b : Share). a.trigger.0 ≢ b.trigger.0) s.shares = λ i j d less below e. absurd (omega (arith, is.rising i j d less below, e)) in
      record {
        sent = all_sent count s.shares old new apart all;
        left = λ id. all_left count s.shares old new apart all id ∙ ap (λ n. drop n (held.waiting old id)) (counts id s.shares);
      }
    where
      counts : (id : ℕ) (shares : List Share)
          → option_map_or (λ share. count_sent s.size share (costs_in held old share.trigger.0)) (find (λ share. share.trigger.0 == id) shares) 0
          ≡ option_map_or (λ share. count_sent s.size share (costs_in held old id)) (find (λ share. share.trigger.0 == id) shares) 0
      counts id [] = refl
      counts id (x ∷ xs) = at (x.trigger.0 == id) refl (counts id xs)
        where
          at : (same : Bool) → (x.trigger.0 == id) ≡ same
              → option_map_or (λ share. count_sent s.size share (costs_in held old share.trigger.0)) (find (λ share. share.trigger.0 == id) xs) 0
              ≡ option_map_or (λ share. count_sent s.size share (costs_in held old id)) (find (λ share. share.trigger.0 == id) xs) 0
              → option_map_or (λ share. count_sent s.size share (costs_in held old share.trigger.0)) (cond same (Some x) (find (λ share. share.trigger.0 == id) xs)) 0
              ≡ option_map_or (λ share. count_sent s.size share (costs_in held old id)) (cond same (Some x) (find (λ share. share.trigger.0 == id) xs)) 0
          at true e rest = ap (λ k. count_sent s.size x (costs_in held old k)) (eqb-true x.trigger.0 id e)
          at false e rest = rest

pub turns_move : {Q T : Type 0} (costs : Q → ℕ → List ℕ) (sends : Q → ℕ → Q → Type 0) → TurnsMoveItems T costs sends
turns_move costs sends held s old new is same each all =
    let costs_are : costs old ≡ costs_in held old = λ i id. same old id i in
    turn_moves held sends each s old new is (subst (λ f. SendsEach sends old (sent_ids s f) new) costs_are all)
