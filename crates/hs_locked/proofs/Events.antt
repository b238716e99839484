-- A turn ends: its event stands behind the history, and the store is in its slot again.
use Rattle.std.proofs.Common.{◌≡◌, ◌≢◌, ℕ, zero, suc, ◌+◌, ◌*◌, ◌%◌, ◌<◌, ◌≤◌, List, [], ◌∷◌, length, drop, set, get_or, refl, sym, ap, ap₂, ◌∙◌, subst, inl, ⊎_elim, le_refl, arith, add-zero, length-set, get_or-set_other, get_or-set_same}
use Rattle.hs_locked.proofs.Prelude.{some, some-injective, some-ne-none, get_elem?, AllByRecursion, step, stepped, Allows, set_here, elem_push_cases, Got, Empty, Given, Deed, Answer, events_of, is_any_got, queue_of, answers_below, are_answers_more, unread_more, total, Plan, AtSeat, Spot, in_queue, with_drawer, leased, with_giver, HasLease, waiting, now_with, still_with, Store, next_draw, GoesOn, DrawerSeat, Hand, nothing, kept, GiverSeat, Palm, bare, holds, Stand, away, queued, inside, closing, View, drawing, giving, drawer_seat_after, hand_after, giver_seat_after, Has, left_in, all_left, having_left, home, out, Facts, gots_in, StoreOk, StandOk, HandOk, PalmOk, InLine, SpotOk, DeskOk, PostOk, Knows, Kept, LockedRule, did_leave}
use mathlib.Core.Option as maybe
use Rattle.atomic_table.specs.Table.{gives}
use Rattle.atomic_table.proofs.Lists.{at_longer, at_last}
use Rattle.hs_base.proofs.Counts.{count_cons}
use Rattle.hs_words.specs.Ends.{answered, got_by, empty_by, given_of, answer_to, Spends}
use Rattle.hs_words.proofs.Deeds.{none_yet, answers_and}
use Rattle.hs_words.proofs.Waiting.{waiting_below}
use Rattle.hs_locked.specs.Views.{given_answer}
use Rattle.hs_locked.proofs.Updates.{put, put_cases, put_here, put_else, left_set}
use Rattle.hs_locked.proofs.Stores.{events_are, line, lawful, goes}
use Rattle.hs_locked.proofs.Spots.{spot_stays}
use Rattle.hs_locked.proofs.Stays.{IsEnd, drawers_end, givers_end, Moves, facts_after, hand_stays, in_palm_stays, knows_stays, reseated}
use Rattle.hs_locked.proofs.Turns.{St, one_more, few_tickets, gone_stays}

at_rest : (xs : List ℕ) (i x : ℕ) → get_elem? (drop 1 xs) i ≡ some x → get_elem? xs (suc i) ≡ some x
at_rest [] i x at = absurd (some-ne-none x (sym at))
at_rest (y ∷ ys) i x at = at

rest_at : (xs : List ℕ) (i x : ℕ) → get_elem? xs (suc i) ≡ some x → get_elem? (drop 1 xs) i ≡ some x
rest_at [] i x at = absurd (some-ne-none x (sym at))
rest_at (y ∷ ys) i x at = at

-- ---- the end whose turn it is leaves

module _ (plan : Plan) (s : St) (f : Facts) (k : Kept plan s f) (id : ℕ) (v w : View) (at : get_elem? s.views id ≡ some v) (end : ℕ) (is_end : IsEnd f id end) (old : Store) (is_inside : f.stands end ≡ inside old)
    (deed : Deed) (by : deed.by ≡ end) (new : Store) (spots : ℕ → Spot) (hands : ℕ → Hand) (palm : Palm) (spot : Spot) (m : Moves f (deed ∷ []) (put f.stands end away) spots hands palm end spot)
    (x : ℕ) (x_is : x ≡ suc (length f.log)) where
  abbrev n : ℕ
  n = plan.buffers

  abbrev log' : List Deed
  log' = deed ∷ f.log

  abbrev pub after_leave : Facts
  after_leave = facts_after f (deed ∷ []) f.tickets f.holder new home (put f.stands end away) spots hands palm

  standing : StandOk f end (inside old)
  standing = subst (StandOk f end) is_inside (k.each_stand end)

  leave_stand : (e : ℕ) → e ≢ end → (st : Stand) → StandOk f e st → StandOk after_leave e st
  leave_stand e other away ok = tt
  leave_stand e other (queued u) ok =
      let later : length f.log ≢ u = λ same. other (sym ok.0 ∙ ap f.holder (sym same) ∙ standing.0) in
      let low = ok.1 in
      (ok.0, (let l : suc (length f.log) ≤ u = omega arith in l), ok.2)
  leave_stand e other (inside st) ok = let both : out e ≡ out end = sym ok.2 ∙ standing.2 in let same : e ≡ end = cc in absurd (other same)
  leave_stand e other (closing st) ok = let both : out e ≡ out end = sym ok.2 ∙ standing.2 in let same : e ≡ end = cc in absurd (other same)

  pub leave_kept : StoreOk plan log' new → Spends f.log deed.event deed.draw
      → ((i buffer : ℕ) → get_elem? (queue_of n log') i ≡ some buffer → spots buffer ≡ in_queue (gots_in log' + i))
      → ((d : ℕ) → HandOk n log' spots d (hands d)) → PalmOk n log' spots palm → ((buffer : ℕ) → buffer < n → SpotOk n log' f.seats f.giver (set s.views id w) buffer (spots buffer)) → left_in w ≤ left_in v → ((j : ℕ) → j ≢ id → leased j ≢ spot) → Knows plan after_leave id w
      → Kept plan (stepped s 1 x id ((0, new) ∷ []) w gives) after_leave
  leave_kept store_ok spends queue_ok in_hand in_palm in_spot fewer apart own =
      record {
        within = k.within;
        homes = length-set s.homes 0 (some new) ∙ k.homes;
        words = length-set s.words 1 x ∙ k.words;
        taken = get_or-set_other s.words 1 0 x 0 (λ e. omega arith) ∙ k.taken;
        turn = get_or-set_same s.words 1 x 0 (let e = k.words in omega arith) ∙ x_is;
        ahead = (let less = standing.1 in let l : suc (length f.log) ≤ f.tickets = omega arith in l);
        store_ok = store_ok;
        slot_ok = set_here s.homes 0 (some new) (let h = k.homes in omega arith);
        out_ok = tt;
        spent = (spends, k.spent);
        each_queued = queue_ok;
        each_hand = in_hand;
        in_palm = in_palm;
        each_spot = in_spot;
        each_stand = λ e. put_cases (StandOk after_leave e) f.stands end away e (λ _. tt) (λ other. leave_stand e other (f.stands e) (k.each_stand e));
        left = (let e = left_set s.views id v w at in let l = k.left in let b : f.tickets + all_left (set s.views id w) ≤ 2 * total plan.allowances = omega arith in b);
        all_made = ((let low = is_end.low in let o = k.still_open in let l : deed.by ≤ f.made = omega arith in l), k.all_made);
        still_open = k.still_open;
        gone = λ d high. gone_stays f end away hands is_end.low m.hands_stay d high (k.gone d high);
        each_seat = reseated plan after_leave s.views id w own
            (λ j v' far seen. knows_stays plan f (deed ∷ []) f.tickets f.holder new home (put f.stands end away) spots hands palm end spot m id is_end j far (apart j far) v' (k.each_seat j v' seen));
      }

-- ---- a drawer leaves

module _ (plan : Plan) (s : St) (f : Facts) (k : Kept plan s f) (id : ℕ) (desk : DrawerSeat) (old new : Store) (at : get_elem? s.views id ≡ some (drawing desk nothing (inside old))) (some_left : 1 ≤ desk.left)
    (x : ℕ) (x_is : x ≡ suc (length f.log)) where
  abbrev d₀ : ℕ
  d₀ = desk.number

  abbrev v₀ : View
  v₀ = drawing desk nothing (inside old)

  pub own : DeskOk plan f id desk nothing (inside old)
  own = k.each_seat id v₀ at

  ender : IsEnd f id (suc d₀)
  ender = drawers_end plan f id desk nothing (inside old) own

  inside_ok : StandOk f (suc d₀) (inside old)
  inside_ok = subst (StandOk f (suc d₀)) own.stand_is (k.each_stand (suc d₀))

  pub is_old : old ≡ f.stored
  is_old = inside_ok.3

  old_ok : StoreOk plan f.log old
  old_ok = subst (StoreOk plan f.log) (sym is_old) k.store_ok

  pub stamp_is : old.pool.events ≡ length f.log
  stamp_is = events_are plan f.log old old_ok

  -- ---- the queue was empty
  module _ (goes_on : GoesOn plan.size old Empty new) where
    abbrev none_got : Deed
    none_got = empty_by (suc d₀)

    empty_moves : Moves f (none_got ∷ []) (put f.stands (suc d₀) away) f.spots f.hands f.palm (suc d₀) (in_queue 0)
    empty_moves =
        record {
          by = (refl, tt);
          names = λ b _. ((λ no. no), tt);
          spots_stay = λ _ _. refl;
          hands_stay = λ _ _. refl;
          stands_stay = λ e other. put_else f.stands (suc d₀) away e other;
          palm_stays = λ _. refl;
        }

    abbrev pub after_empty : Facts
    after_empty = facts_after f (none_got ∷ []) f.tickets f.holder new home (put f.stands (suc d₀) away) f.spots f.hands f.palm

    abbrev w₁ : View
    w₁ = drawing (drawer_seat_after desk (length f.log) Empty) nothing away

    empty_desk : Knows plan after_empty id w₁
    empty_desk =
        record {
          buffers = own.buffers;
          size = own.size;
          active = own.active;
          seat = own.seat;
          hand_is = own.hand_is;
          stand_is = put_here f.stands (suc d₀) away;
          answers = ap (λ (l : List Answer). answer_to none_got (length f.log) ∷ l) own.answers ∙ sym (answers_and none_got f.log (suc d₀) refl);
          floor = le_refl (suc (length f.log));
        }

    empty_spots : (buffer : ℕ) → buffer < plan.buffers → SpotOk plan.buffers (none_got ∷ f.log) f.seats f.giver (set s.views id w₁) buffer (f.spots buffer)
    empty_spots buffer low =
        spot_stays plan.buffers f.log (none_got ∷ f.log) f.seats f.giver s.views (set s.views id w₁) buffer
        (λ number is. (is.0, (let c = count_cons is_any_got Empty (events_of f.log) in let e = is.1 in omega arith), is.2))
        (still_with s.views id v₀ w₁ at (Has buffer) (λ none. none)) (f.spots buffer) (k.each_spot buffer low)

    pub empty_kept : Kept plan (stepped s 1 x id ((0, new) ∷ []) w₁ gives) after_empty
    empty_kept =
        leave_kept plan s f k id v₀ w₁ at (suc d₀) ender old own.stand_is none_got refl new f.spots f.hands f.palm (in_queue 0) empty_moves x x_is
        (goes plan f.log old new none_got old_ok goes_on refl) tt
        (λ i buffer seen. k.each_queued i buffer seen ∙ ap in_queue (let c = count_cons is_any_got Empty (events_of f.log) in let e : gots_in f.log + i ≡ gots_in (none_got ∷ f.log) + i = omega arith in e))
        (λ d. hand_stays plan f (none_got ∷ []) f.tickets f.holder new home (put f.stands (suc d₀) away) f.spots f.hands f.palm (suc d₀) (in_queue 0) empty_moves d (λ e. cc) (f.hands d) (k.each_hand d))
        (in_palm_stays plan f (none_got ∷ []) f.tickets f.holder new home (put f.stands (suc d₀) away) f.spots f.hands f.palm (suc d₀) (in_queue 0) empty_moves (λ e. cc) f.palm k.in_palm)
        empty_spots (omega arith) (λ j _ e. cc) empty_desk

  -- ---- a buffer was got
  module _ (b : ℕ) (rest : List ℕ) (front : waiting old.pool ≡ b ∷ rest) (goes_on : GoesOn plan.size old (Got b) new) where
    abbrev got : Deed
    got = got_by (suc d₀) b

    abbrev stamp : ℕ
    stamp = length f.log

    abbrev spots' : ℕ → Spot
    spots' = put f.spots b (with_drawer d₀)

    abbrev hands' : ℕ → Hand
    hands' = put f.hands d₀ (kept b stamp)

    in_front : get_elem? (queue_of plan.buffers f.log) 0 ≡ some b
    in_front = ap (λ (l : List ℕ). get_elem? l 0) (sym (line plan f.log old old_ok) ∙ front)

    was_waiting : f.spots b ≡ in_queue (gots_in f.log)
    was_waiting = k.each_queued 0 b in_front ∙ ap in_queue (add-zero (gots_in f.log))

    not_b : (b' : ℕ) → f.spots b' ≢ in_queue (gots_in f.log) → b' ≢ b
    not_b b' far same = far (ap f.spots same ∙ was_waiting)

    got_moves : Moves f (got ∷ []) (put f.stands (suc d₀) away) spots' hands' f.palm (suc d₀) (in_queue (gots_in f.log))
    got_moves =
        record {
          by = (refl, tt);
          names = λ b' far. ((λ e. not_b b' far (sym e)), tt);
          spots_stay = λ b' far. put_else f.spots b (with_drawer d₀) b' (not_b b' far);
          hands_stay = λ d other. put_else f.hands d₀ (kept b stamp) d (λ same. other (ap suc same));
          stands_stay = λ e other. put_else f.stands (suc d₀) away e other;
          palm_stays = λ _. refl;
        }

    abbrev pub after_got : Facts
    after_got = facts_after f (got ∷ []) f.tickets f.holder new home (put f.stands (suc d₀) away) spots' hands' f.palm

    abbrev w₂ : View
    w₂ = drawing (drawer_seat_after desk stamp (Got b)) (kept b stamp) away

    got_desk : Knows plan after_got id w₂
    got_desk =
        record {
          buffers = own.buffers;
          size = own.size;
          active = own.active;
          seat = own.seat;
          hand_is = put_here f.hands d₀ (kept b stamp);
          stand_is = put_here f.stands (suc d₀) away;
          answers = ap (λ (l : List Answer). answer_to got stamp ∷ l) own.answers ∙ sym (answers_and got f.log (suc d₀) refl);
          floor = le_refl (suc stamp);
        }

    one_got : gots_in (got ∷ f.log) ≡ suc (gots_in f.log)
    one_got = let c = count_cons is_any_got (Got b) (events_of f.log) in omega arith

    got_queue : (i buffer : ℕ) → get_elem? (queue_of plan.buffers (got ∷ f.log)) i ≡ some buffer → spots' buffer ≡ in_queue (gots_in (got ∷ f.log) + i)
    got_queue i buffer seen =
        let before : f.spots buffer ≡ in_queue (gots_in f.log + suc i) = k.each_queued (suc i) buffer (at_rest (queue_of plan.buffers f.log) i buffer seen) in
        let other : f.spots buffer ≢ in_queue (gots_in f.log) = λ e. let both : in_queue (gots_in f.log + suc i) ≡ in_queue (gots_in f.log) = sym before ∙ e in let ns : gots_in f.log + suc i ≡ gots_in f.log = cc in omega arith in
        got_moves.spots_stay buffer other ∙ before ∙ ap in_queue (let c = one_got in let e : gots_in f.log + suc i ≡ gots_in (got ∷ f.log) + i = omega arith in e)

    -- another buffer that waits is one nearer to the front
    moved_up : (buffer number : ℕ) → buffer ≢ b → InLine plan.buffers f.log buffer number → InLine plan.buffers (got ∷ f.log) buffer number
    moved_up buffer number other (zero, is, seen) = absurd (other (some-injective buffer b (sym seen ∙ in_front)))
    moved_up buffer number other (suc i, is, seen) = (i, (let c = one_got in omega arith), rest_at (queue_of plan.buffers f.log) i buffer seen)

    -- the buffer is with the drawer now, and each other is where it was
    got_spots : (buffer : ℕ) → buffer < plan.buffers → SpotOk plan.buffers (got ∷ f.log) f.seats f.giver (set s.views id w₂) buffer (spots' buffer)
    got_spots buffer low =
        put_cases (SpotOk plan.buffers (got ∷ f.log) f.seats f.giver (set s.views id w₂) buffer) f.spots b (with_drawer d₀) buffer
        (λ same. subst (AtSeat (set s.views id w₂) (Has buffer)) (sym own.seat) (now_with s.views id v₀ w₂ at (Has buffer) (sym same)))
        (λ other. spot_stays plan.buffers f.log (got ∷ f.log) f.seats f.giver s.views (set s.views id w₂) buffer (λ number is. moved_up buffer number other is)
        (still_with s.views id v₀ w₂ at (Has buffer) (λ none. absurd none)) (f.spots buffer) (k.each_spot buffer low))

    got_hands : (d : ℕ) → HandOk plan.buffers (got ∷ f.log) spots' d (hands' d)
    got_hands d =
        put_cases (HandOk plan.buffers (got ∷ f.log) spots' d) f.hands d₀ (kept b stamp) d
        (λ same. subst (λ (c : ℕ). HandOk plan.buffers (got ∷ f.log) spots' c (kept b stamp)) (sym same) (
          put_here f.spots b (with_drawer d₀),
          (suc d₀, inl (refl, refl)),
          none_yet (got ∷ f.log) b stamp (le_refl (suc stamp)),
          waiting_below plan.buffers (events_of f.log) (lawful plan f.log old old_ok) 0 b in_front,
        ))
        (λ _. hand_stays plan f (got ∷ []) f.tickets f.holder new home (put f.stands (suc d₀) away) spots' hands' f.palm (suc d₀) (in_queue (gots_in f.log)) got_moves d (λ e. cc) (f.hands d) (k.each_hand d))

    pub got_kept : Kept plan (stepped s 1 x id ((0, new) ∷ []) w₂ gives) after_got
    got_kept =
        leave_kept plan s f k id v₀ w₂ at (suc d₀) ender old own.stand_is got refl new spots' hands' f.palm (in_queue (gots_in f.log)) got_moves x x_is
        (goes plan f.log old new got old_ok goes_on refl) tt got_queue got_hands
        (in_palm_stays plan f (got ∷ []) f.tickets f.holder new home (put f.stands (suc d₀) away) spots' hands' f.palm (suc d₀) (in_queue (gots_in f.log)) got_moves (λ e. cc) f.palm k.in_palm)
        got_spots (omega arith) (λ j _ e. cc) got_desk

-- the view after a draw, by what waited and the stamp
abbrev drawn_view : DrawerSeat → List ℕ → ℕ → View
drawn_view desk line stamp = drawing (drawer_seat_after desk stamp (next_draw line)) (hand_after (next_draw line) stamp) away

pub drawer_leaves : (plan : Plan) (slots id : ℕ) (desk : DrawerSeat) (old new : Store) → 1 ≤ desk.left → GoesOn desk.size old (next_draw (waiting old.pool)) new
    → Allows (LockedRule plan) slots id (drawing desk nothing (inside old), (0, new) ∷ []) 1 (λ n. (n + 1) % 18446744073709551616)
    (did_leave (step slots 1 1 0 maybe.none) (drawing desk nothing (inside old), (0, new) ∷ []))
drawer_leaves plan slots id desk old new some_left goes_on s (f, k) wide at small =
    let x = (get_or s.words 1 0 + 1) % 18446744073709551616 in
    let x_is : x ≡ suc (length f.log) = one_more (length f.log) (get_or s.words 1 0) (let a = k.ahead in let few = few_tickets plan s f k in omega arith) k.turn in
    let v : View = drawing desk nothing (inside old) in
    let ours = own plan s f k id desk old new at some_left x x_is in
    let stamp = stamp_is plan s f k id desk old new at some_left x x_is in
    let sized : GoesOn plan.size old (next_draw (waiting old.pool)) new = subst (λ (z : ℕ). GoesOn z old (next_draw (waiting old.pool)) new) ours.size goes_on in
    let F : View → Type 0 = λ w. LockedRule plan (stepped s 1 x id ((0, new) ∷ []) w gives) in
    let from : (l : List ℕ) → waiting old.pool ≡ l → F (drawn_view desk l (length f.log)) → F (having_left v) =
    λ l is. subst F (sym (ap₂ (λ (q : List ℕ) (t : ℕ). drawn_view desk q t) is stamp)) in
    let by_line : (l : List ℕ) → waiting old.pool ≡ l → F (having_left v) = go s f k at x x_is sized from in
    (having_left v, gives, tt, by_line (waiting old.pool) refl, refl)
  where
    go : (s : St) (f : Facts) (k : Kept plan s f) (at : get_elem? s.views id ≡ some (drawing desk nothing (inside old))) (x : ℕ) (x_is : x ≡ suc (length f.log)) → GoesOn plan.size old (next_draw (waiting old.pool)) new
        → ((l : List ℕ) → waiting old.pool ≡ l → LockedRule plan (stepped s 1 x id ((0, new) ∷ []) (drawn_view desk l (length f.log)) gives) → LockedRule plan (stepped s 1 x id ((0, new) ∷ []) (having_left (drawing desk nothing (inside old))) gives))
        → (l : List ℕ) → waiting old.pool ≡ l → LockedRule plan (stepped s 1 x id ((0, new) ∷ []) (having_left (drawing desk nothing (inside old))) gives)
    go s f k at x x_is sized from [] is =
        from [] is (_, empty_kept plan s f k id desk old new at some_left x x_is (subst (λ (l : List ℕ). GoesOn plan.size old (next_draw l) new) is sized))
    go s f k at x x_is sized from (b ∷ rest) is =
        from (b ∷ rest) is (_, got_kept plan s f k id desk old new at some_left x x_is b rest is (subst (λ (l : List ℕ). GoesOn plan.size old (next_draw l) new) is sized))

-- ---- the giver leaves

module _ (plan : Plan) (s : St) (f : Facts) (k : Kept plan s f) (id : ℕ) (post : GiverSeat) (b t : ℕ) (old new : Store) (at : get_elem? s.views id ≡ some (giving post (holds b t) (inside old)))
    (x : ℕ) (x_is : x ≡ suc (length f.log)) where
  abbrev v₃ : View
  v₃ = giving post (holds b t) (inside old)

  pub ours : PostOk plan f id post (holds b t) (inside old)
  ours = k.each_seat id v₃ at

  giver_end : IsEnd f id 0
  giver_end = givers_end plan f id post (holds b t) (inside old) ours

  giver_inside : StandOk f 0 (inside old)
  giver_inside = subst (StandOk f 0) ours.stand_is (k.each_stand 0)

  giver_old : StoreOk plan f.log old
  giver_old = subst (StoreOk plan f.log) (sym giver_inside.3) k.store_ok

  pub give_stamp : old.pool.events ≡ length f.log
  give_stamp = events_are plan f.log old giver_old

  has : HasLease plan.buffers f.log f.spots b t with_giver
  has = subst (PalmOk plan.buffers f.log f.spots) ours.palm_is k.in_palm

  module _ (goes_on : GoesOn plan.size old (Given b) new) where
    abbrev deed : Deed
    deed = given_of b t

    abbrev place : ℕ
    place = gots_in f.log + length (queue_of plan.buffers f.log)

    abbrev spots₃ : ℕ → Spot
    spots₃ = put f.spots b (in_queue place)

    not_this : (b' : ℕ) → f.spots b' ≢ with_giver → b' ≢ b
    not_this b' far same = far (ap f.spots same ∙ has.0)

    give_moves : Moves f (deed ∷ []) (put f.stands 0 away) spots₃ f.hands bare 0 with_giver
    give_moves =
        record {
          by = (refl, tt);
          names = λ b' far. ((λ e. not_this b' far (sym e)), tt);
          spots_stay = λ b' far. put_else f.spots b (in_queue place) b' (not_this b' far);
          hands_stay = λ _ _. refl;
          stands_stay = λ e other. put_else f.stands 0 away e other;
          palm_stays = λ other. absurd (other refl);
        }

    abbrev pub after_give : Facts
    after_give = facts_after f (deed ∷ []) f.tickets f.holder new home (put f.stands 0 away) spots₃ f.hands bare

    abbrev answer : Answer
    answer = record { stamp = length f.log; event = Given b; draw = t }

    abbrev w₃ : View
    w₃ = giving (giver_seat_after post (answered answer) (suc (length f.log))) bare away

    give_post : Knows plan after_give id w₃
    give_post =
        record {
          buffers = ours.buffers;
          size = ours.size;
          seat = ours.seat;
          palm_is = refl;
          stand_is = put_here f.stands 0 away;
          made = ours.made;
          closed = ours.closed;
          closed_answers = are_answers_more (deed ∷ []) f.log (suc f.opened) post.closed ((let less : 0 < suc f.opened = omega arith in less), tt) ours.closed_answers;
          answers = ap (λ (l : List Answer). answer_to deed (length f.log) ∷ l) ours.answers ∙ sym (answers_and deed f.log 0 refl);
          floor = le_refl (suc (length f.log));
          unread = unread_more plan.buffers (deed ∷ []) f.log post.turns (subst (AllByRecursion (λ (a : Answer). a.stamp < length f.log)) (sym ours.answers) (answers_below f.log 0)) ours.unread;
        }

    give_queue : (i buffer : ℕ) → get_elem? (queue_of plan.buffers (deed ∷ f.log)) i ≡ some buffer → spots₃ buffer ≡ in_queue (gots_in (deed ∷ f.log) + i)
    give_queue i buffer seen =
        let same : (m : ℕ) → gots_in f.log + m ≡ gots_in (deed ∷ f.log) + m = λ m. let c = count_cons is_any_got (Given b) (events_of f.log) in omega arith in
        ⊎_elim
        (λ (before : get_elem? (queue_of plan.buffers f.log) i ≡ some buffer).
        let was = k.each_queued i buffer before in
        give_moves.spots_stay buffer (λ e. let both = sym was ∙ e in absurd cc) ∙ was ∙ ap in_queue (same i))
        (λ (last : (i ≡ length (queue_of plan.buffers f.log)) × (b ≡ buffer)).
        ap spots₃ (sym last.1) ∙ put_here f.spots b (in_queue place) ∙ ap in_queue (ap (λ (m : ℕ). gots_in f.log + m) (sym last.0) ∙ same i))
        (elem_push_cases (queue_of plan.buffers f.log) b buffer i seen)

    -- the buffer is the last that waits now, and each other is where it was
    give_spots : (buffer : ℕ) → buffer < plan.buffers → SpotOk plan.buffers (deed ∷ f.log) f.seats f.giver (set s.views id w₃) buffer (spots₃ buffer)
    give_spots buffer low =
        let queue = queue_of plan.buffers f.log in
        let same : (m : ℕ) → gots_in f.log + m ≡ gots_in (deed ∷ f.log) + m = λ m. let c = count_cons is_any_got (Given b) (events_of f.log) in omega arith in
        put_cases (SpotOk plan.buffers (deed ∷ f.log) f.seats f.giver (set s.views id w₃) buffer) f.spots b (in_queue place) buffer
        (λ here. (length queue, same (length queue), at_last queue b (length queue) refl ∙ ap some (sym here)))
        (λ other. spot_stays plan.buffers f.log (deed ∷ f.log) f.seats f.giver s.views (set s.views id w₃) buffer
        (λ number is. (is.0, is.1 ∙ same is.0, at_longer queue (b ∷ []) is.0 buffer is.2))
        (still_with s.views id v₃ w₃ at (Has buffer) (λ one. absurd (other (sym one)))) (f.spots buffer) (k.each_spot buffer low))

    pub give_kept : Kept plan (stepped s 1 x id ((0, new) ∷ []) w₃ gives) after_give
    give_kept =
        leave_kept plan s f k id v₃ w₃ at 0 giver_end old ours.stand_is deed refl new spots₃ f.hands bare with_giver give_moves x x_is
        (goes plan f.log old new deed giver_old goes_on refl) (has.1, has.2) give_queue
        (λ d. hand_stays plan f (deed ∷ []) f.tickets f.holder new home (put f.stands 0 away) spots₃ f.hands bare 0 with_giver give_moves d (λ e. cc) (f.hands d) (k.each_hand d))
        tt give_spots (omega arith) (λ j _ e. cc) give_post

pub giver_leaves : (plan : Plan) (slots id : ℕ) (post : GiverSeat) (b t : ℕ) (old new : Store) → GoesOn post.size old (Given b) new
    → Allows (LockedRule plan) slots id (giving post (holds b t) (inside old), (0, new) ∷ []) 1 (λ n. (n + 1) % 18446744073709551616)
    (did_leave (step slots 1 1 0 maybe.none) (giving post (holds b t) (inside old), (0, new) ∷ []))
giver_leaves plan slots id post b t old new goes_on s (f, k) wide at small =
    let x = (get_or s.words 1 0 + 1) % 18446744073709551616 in
    let x_is : x ≡ suc (length f.log) = one_more (length f.log) (get_or s.words 1 0) (let a = k.ahead in let few = few_tickets plan s f k in omega arith) k.turn in
    let v : View = giving post (holds b t) (inside old) in
    let mine = ours plan s f k id post b t old new at x x_is in
    let stamp = give_stamp plan s f k id post b t old new at x x_is in
    let sized : GoesOn plan.size old (Given b) new = subst (λ (z : ℕ). GoesOn z old (Given b) new) mine.size goes_on in
    let F : ℕ → Type 0 = λ m. LockedRule plan (stepped s 1 x id ((0, new) ∷ []) (giving (giver_seat_after post (answered (given_answer (holds b t) m)) (suc m)) bare away) gives) in
    (having_left v, gives, tt, subst F (sym stamp) (_, give_kept plan s f k id post b t old new at x x_is sized), refl)
