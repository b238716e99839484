-- A drawer makes a lease of the buffer that it got, and the giver takes a lease back.
use Rattle.std.proofs.Common.{◌≡◌, ◌≢◌, ℕ, suc, ◌+◌, ◌*◌, ◌<◌, ◌≤◌, List, [], ◌∷◌, ◌++◌, length, set, refl, sym, ap, ◌∙◌, subst, ⊎_elim, arith, length-set}
use Rattle.hs_locked.proofs.Prelude.{some, get_elem?, Splits, Joins, at_set, set_else, now_with, still_with, with_more, total, Plan, queue_of, AtSeat, Spot, in_queue, with_drawer, leased, with_giver, HasLease, DrawerSeat, Hand, nothing, kept, GiverSeat, bare, holds, away, View, nobody, drawing, leasing, giving, Has, HasStore, all_left, Facts, gots_in, HandOk, SpotOk, DeskOk, PostOk, Knows, Kept, LockedRule}
use Rattle.hs_ring.proofs.Spots.{else_with, with_last}
use Rattle.hs_locked.proofs.Updates.{put, put_cases, put_here, put_else, left_set, left_and}
use Rattle.hs_locked.proofs.Spots.{spot_stays, out_stays}
use Rattle.hs_locked.proofs.Stays.{IsEnd, drawers_end, givers_end, Moves, facts_after, hand_stays, in_palm_stays, knows_stays, reseated, seated_too}
use Rattle.hs_locked.proofs.Turns.{St}

-- ---- a lease is made

module _ (plan : Plan) (s : St) (f : Facts) (k : Kept plan s f) (id : ℕ) (desk : DrawerSeat) (b t : ℕ) (at : get_elem? s.views id ≡ some (drawing desk (kept b t) away)) where
  abbrev d₀ : ℕ
  d₀ = desk.number

  abbrev new : ℕ
  new = length s.views

  own : DeskOk plan f id desk (kept b t) away
  own = k.each_seat id (drawing desk (kept b t) away) at

  ender : IsEnd f id (suc d₀)
  ender = drawers_end plan f id desk (kept b t) away own

  had : HandOk plan.buffers f.log f.spots d₀ (kept b t)
  had = subst (HandOk plan.buffers f.log f.spots d₀) own.hand_is (k.each_hand d₀)

  abbrev spots' : ℕ → Spot
  spots' = put f.spots b (leased new)

  abbrev hands' : ℕ → Hand
  hands' = put f.hands d₀ nothing

  abbrev after_lease : Facts
  after_lease = facts_after f [] f.tickets f.holder f.stored f.slot f.stands spots' hands' f.palm

  not_b : (b' : ℕ) → f.spots b' ≢ with_drawer d₀ → b' ≢ b
  not_b b' far same = far (ap f.spots same ∙ had.0)

  lease_moves : Moves f [] f.stands spots' hands' f.palm (suc d₀) (with_drawer d₀)
  lease_moves =
      record {
        by = tt;
        names = λ _ _. tt;
        spots_stay = λ b' far. put_else f.spots b (leased new) b' (not_b b' far);
        hands_stay = λ d other. put_else f.hands d₀ nothing d (λ same. other (ap suc same));
        stands_stay = λ _ _. refl;
        palm_stays = λ _. refl;
      }

  lease_desk : DeskOk plan after_lease id desk nothing away
  lease_desk =
      record {
        buffers = own.buffers;
        size = own.size;
        active = own.active;
        seat = own.seat;
        hand_is = put_here f.hands d₀ nothing;
        stand_is = own.stand_is;
        answers = own.answers;
        floor = own.floor;
      }

  lease_hands : (d : ℕ) → HandOk plan.buffers f.log spots' d (hands' d)
  lease_hands d =
      put_cases (HandOk plan.buffers f.log spots' d) f.hands d₀ nothing d
      (λ same. tt)
      (λ other. hand_stays plan f [] f.tickets f.holder f.stored f.slot f.stands spots' hands' f.palm (suc d₀) (with_drawer d₀) lease_moves d (λ e. other cc) (f.hands d) (k.each_hand d))

  lease_seats : (j : ℕ) (v : View) → get_elem? (set s.views id (drawing desk nothing away) ++ leasing b t ∷ []) j ≡ some v → Knows plan after_lease j v
  lease_seats = seated_too plan after_lease (set s.views id (drawing desk nothing away)) (leasing b t)
      (put_here f.spots b (leased new) ∙ ap leased (sym (length-set s.views id (drawing desk nothing away))), had.1, had.2, had.3)
      (reseated plan after_lease s.views id (drawing desk nothing away) lease_desk
      (λ j v far seen. knows_stays plan f [] f.tickets f.holder f.stored f.slot f.stands spots' hands' f.palm (suc d₀) (with_drawer d₀) lease_moves id ender j far (λ e. cc) v (k.each_seat j v seen)))

  lease_queue : (i buffer : ℕ) → get_elem? (queue_of plan.buffers f.log) i ≡ some buffer → spots' buffer ≡ in_queue (gots_in f.log + i)
  lease_queue i buffer seen = let was = k.each_queued i buffer seen in lease_moves.spots_stay buffer (λ e. let both = sym was ∙ e in absurd cc) ∙ was

  abbrev v₀ : View
  v₀ = drawing desk (kept b t) away

  abbrev w₀ : View
  w₀ = drawing desk nothing away

  abbrev views' : List View
  views' = set s.views id w₀ ++ leasing b t ∷ []

  -- the buffer is with the lease now, and each other is where it was
  lease_spots : (buffer : ℕ) → buffer < plan.buffers → SpotOk plan.buffers f.log f.seats f.giver views' buffer (spots' buffer)
  lease_spots buffer low =
      put_cases (SpotOk plan.buffers f.log f.seats f.giver views' buffer) f.spots b (leased new) buffer
      (λ same. with_last (set s.views id w₀) (leasing b t) (Has buffer) new (length-set s.views id w₀) (sym same))
      (λ other. spot_stays plan.buffers f.log f.log f.seats f.giver s.views views' buffer (λ number is. is)
      (λ j had. with_more (set s.views id w₀) (leasing b t) (Has buffer) j (still_with s.views id v₀ w₀ at (Has buffer) (λ one. other (sym one)) j had))
      (f.spots buffer) (k.each_spot buffer low))

  pub lease_kept : Kept plan record { words = s.words; homes = s.homes; views = set s.views id (drawing desk nothing away) ++ leasing b t ∷ [] } after_lease
  lease_kept =
      record {
        within = k.within;
        homes = k.homes;
        words = k.words;
        taken = k.taken;
        turn = k.turn;
        ahead = k.ahead;
        store_ok = k.store_ok;
        slot_ok = k.slot_ok;
        out_ok = out_stays (get_elem? s.homes 0) s.views views' f.stored
            (λ j has. with_more (set s.views id w₀) (leasing b t) (HasStore f.stored) j (still_with s.views id v₀ w₀ at (HasStore f.stored) (λ none. none) j has)) f.slot k.out_ok;
        spent = k.spent;
        each_queued = lease_queue;
        each_hand = lease_hands;
        in_palm = in_palm_stays plan f [] f.tickets f.holder f.stored f.slot f.stands spots' hands' f.palm (suc d₀) (with_drawer d₀) lease_moves (λ e. cc) f.palm k.in_palm;
        each_spot = lease_spots;
        each_stand = k.each_stand;
        left =
            (let e = left_set s.views id (drawing desk (kept b t) away) (drawing desk nothing away) at in
            let a = left_and (set s.views id (drawing desk nothing away)) (leasing b t) in
            let l = k.left in
            let r : f.tickets + all_left (set s.views id (drawing desk nothing away) ++ leasing b t ∷ []) ≤ 2 * total plan.allowances = omega arith in
            r);
        all_made = k.all_made;
        still_open = k.still_open;
        gone = λ d high. (lease_moves.hands_stay d (λ e. let a = own.active in omega arith) ∙ (k.gone d high).0, (k.gone d high).1);
        each_seat = lease_seats;
      }

pub leases : (plan : Plan) (id : ℕ) (desk : DrawerSeat) (b t : ℕ) → Splits (LockedRule plan) id (drawing desk (kept b t) away) (drawing desk nothing away) (leasing b t)
leases plan id desk b t s (f, k) at = (_, lease_kept plan s f k id desk b t at)

-- ---- a lease comes back

module _ (plan : Plan) (s : St) (f : Facts) (k : Kept plan s f) (id : ℕ) (post : GiverSeat) (other b t : ℕ) (at : get_elem? s.views id ≡ some (giving post bare away)) (differ : ¬ (other ≡ id))
    (lease_at : get_elem? (set s.views id (giving post (holds b t) away)) other ≡ some (leasing b t)) where
  abbrev n : ℕ
  n = plan.buffers

  abbrev w : View
  w = giving post (holds b t) away

  ours : PostOk plan f id post bare away
  ours = k.each_seat id (giving post bare away) at

  giver_end : IsEnd f id 0
  giver_end = givers_end plan f id post bare away ours

  has : HasLease n f.log f.spots b t (leased other)
  has = k.each_seat other (leasing b t) (sym (set_else s.views id other w differ) ∙ lease_at)

  abbrev spots₁ : ℕ → Spot
  spots₁ = put f.spots b with_giver

  abbrev after_take : Facts
  after_take = facts_after f [] f.tickets f.holder f.stored f.slot f.stands spots₁ f.hands (holds b t)

  take_moves : Moves f [] f.stands spots₁ f.hands (holds b t) 0 (leased other)
  take_moves =
      record {
        by = tt;
        names = λ _ _. tt;
        spots_stay = λ b' far. put_else f.spots b with_giver b' (λ same. far (ap f.spots same ∙ has.0));
        hands_stay = λ _ _. refl;
        stands_stay = λ _ _. refl;
        palm_stays = λ no. absurd (no refl);
      }

  take_post : PostOk plan after_take id post (holds b t) away
  take_post =
      record {
        buffers = ours.buffers;
        size = ours.size;
        seat = ours.seat;
        palm_is = refl;
        stand_is = ours.stand_is;
        made = ours.made;
        closed = ours.closed;
        closed_answers = ours.closed_answers;
        answers = ours.answers;
        floor = ours.floor;
        unread = ours.unread;
      }

  take_seats : (j : ℕ) (v : View) → get_elem? (set (set s.views id w) other nobody) j ≡ some v → Knows plan after_take j v
  take_seats = reseated plan after_take (set s.views id w) other nobody tt
      (λ j v away_from seen. ⊎_elim
      (λ (here : (j ≡ id) × (w ≡ v)). subst (λ (x : View). Knows plan after_take j x) here.1 (subst (λ (i : ℕ). Knows plan after_take i w) (sym here.0) take_post))
      (λ (else : (j ≢ id) × (get_elem? s.views j ≡ some v)).
      knows_stays plan f [] f.tickets f.holder f.stored f.slot f.stands spots₁ f.hands (holds b t) 0 (leased other) take_moves id giver_end j else.0 (λ e. away_from cc) v (k.each_seat j v else.1))
      (at_set s.views id j w v seen))

  take_queue : (i buffer : ℕ) → get_elem? (queue_of n f.log) i ≡ some buffer → spots₁ buffer ≡ in_queue (gots_in f.log + i)
  take_queue i buffer seen = let was = k.each_queued i buffer seen in take_moves.spots_stay buffer (λ e. let both = sym was ∙ e in absurd cc) ∙ was

  abbrev views₁ : List View
  views₁ = set (set s.views id w) other nobody

  -- the buffer is with the giver now, and each other is where it was
  take_spots : (buffer : ℕ) → buffer < n → SpotOk n f.log f.seats f.giver views₁ buffer (spots₁ buffer)
  take_spots buffer low =
      put_cases (SpotOk n f.log f.seats f.giver views₁ buffer) f.spots b with_giver buffer
      (λ same. subst (AtSeat views₁ (Has buffer)) (sym ours.seat)
      (else_with (set s.views id w) other nobody (Has buffer) id (λ e. differ (sym e)) (now_with s.views id (giving post bare away) w at (Has buffer) (sym same))))
      (λ apart. spot_stays n f.log f.log f.seats f.giver s.views views₁ buffer (λ number is. is)
      (λ j had. still_with (set s.views id w) other (leasing b t) nobody lease_at (Has buffer) (λ one. apart (sym one)) j (still_with s.views id (giving post bare away) w at (Has buffer) (λ none. absurd none) j had))
      (f.spots buffer) (k.each_spot buffer low))

  pub take_kept : Kept plan record { words = s.words; homes = s.homes; views = set (set s.views id w) other nobody } after_take
  take_kept =
      record {
        within = k.within;
        homes = k.homes;
        words = k.words;
        taken = k.taken;
        turn = k.turn;
        ahead = k.ahead;
        store_ok = k.store_ok;
        slot_ok = k.slot_ok;
        out_ok = out_stays (get_elem? s.homes 0) s.views views₁ f.stored
            (λ j has. still_with (set s.views id w) other (leasing b t) nobody lease_at (HasStore f.stored) (λ none. none) j (still_with s.views id (giving post bare away) w at (HasStore f.stored) (λ none. none) j has)) f.slot k.out_ok;
        spent = k.spent;
        each_queued = take_queue;
        each_hand = λ d. hand_stays plan f [] f.tickets f.holder f.stored f.slot f.stands spots₁ f.hands (holds b t) 0 (leased other) take_moves d (λ e. cc) (f.hands d) (k.each_hand d);
        in_palm = (put_here f.spots b with_giver, has.1, has.2, has.3);
        each_spot = take_spots;
        each_stand = k.each_stand;
        left =
            (let e = left_set s.views id (giving post bare away) w at in
            let e' = left_set (set s.views id w) other (leasing b t) nobody lease_at in
            let l = k.left in
            let r : f.tickets + all_left (set (set s.views id w) other nobody) ≤ 2 * total plan.allowances = omega arith in
            r);
        all_made = k.all_made;
        still_open = k.still_open;
        gone = k.gone;
        each_seat = take_seats;
      }

pub takes_lease : (plan : Plan) (id : ℕ) (post : GiverSeat) (other b t : ℕ) → Joins (LockedRule plan) id (giving post bare away) other (leasing b t) (giving post (holds b t) away) nobody
takes_lease plan id post other b t s (f, k) at differ lease_at = (_, take_kept plan s f k id post other b t at differ lease_at)
