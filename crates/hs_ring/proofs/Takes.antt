-- The giver takes a lease back, and makes one of the buffer that it still has.
use Rattle.std.proofs.Common.{◌≡◌, ◌≢◌, ℕ, suc, ◌*◌, ◌<◌, List, [], ◌∷◌, ◌++◌, length, set, get_or, refl, sym, ap, ◌∙◌, subst, inl, ⊎_elim, arith, length-set}
use Rattle.hs_ring.proofs.Prelude.{some, get_elem?, Splits, Joins, at_set, set_else, put, put_cases, put_here, put_else, Deed, Plan, AtSeat, Spot, in_queue, leased, with_giver, HasLease, Hand, GiverSeat, Palm, bare, holds, View, nobody, leasing, giving, Has, Cell, free, Facts, published, IsLaid, CellOk, PalmOk, SpotOk, PostOk, Knows, Kept, RingRule}
use Rattle.hs_ring.proofs.Updates.{allowed_set, allowed_and}
use Rattle.hs_ring.proofs.Spots.{now_with, still_with, else_with, with_more, with_last, spot_stays}
use Rattle.hs_ring.proofs.Stays.{Moves, hand_stays, cell_stays, facts_after, knows_stays}
use Rattle.hs_ring.proofs.Counting.{reseated, seated_too}
use Rattle.hs_ring.proofs.Draws.{St}

module _ (plan : Plan) (s : St) (f : Facts) (k : Kept plan s f) (id : ℕ) (post : GiverSeat) (palm : Palm) (at : get_elem? s.views id ≡ some (giving post palm)) where
  -- what the giver's own seat knows
  abbrev pub ours : PostOk plan f id post palm
  ours = k.each_seat id (giving post palm) at

  pub no_giver : (added : List Deed) (cells : ℕ → Cell) (spots : ℕ → Spot) (hands : ℕ → Hand) (palm' : Palm) (j : ℕ) → j ≢ id → f.giver ≡ j → (post' : GiverSeat) (mine : Palm)
      → PostOk plan f j post' mine → PostOk plan (facts_after f added cells spots hands palm') j post' mine
  no_giver added cells spots hands palm' j other is post' mine ok = absurd (other (sym is ∙ ours.seat))

-- the same seat where nothing but the entries, the places and the palm has changed
pub same_post : (plan : Plan) (f : Facts) (id : ℕ) (post : GiverSeat) (palm palm' : Palm) (cells : ℕ → Cell) (spots : ℕ → Spot) → PostOk plan f id post palm → PostOk plan (facts_after f [] cells spots f.hands palm') id post palm'
same_post plan f id post palm palm' cells spots ok =
    record {
      size = ok.size;
      seat = ok.seat;
      palm_is = refl;
      made = ok.made;
      closed = ok.closed;
      closed_answers = ok.closed_answers;
      answers = ok.answers;
      misses = ok.misses;
      floor = ok.floor;
      unread = ok.unread;
      told = ok.told;
    }

-- ---- a lease comes back

module _ (plan : Plan) (s : St) (f : Facts) (k : Kept plan s f) (id : ℕ) (post : GiverSeat) (other b t : ℕ) (at : get_elem? s.views id ≡ some (giving post bare)) (differ : ¬ (other ≡ id))
    (lease_at : get_elem? (set s.views id (giving post (holds b t))) other ≡ some (leasing b t)) where
  abbrev n : ℕ
  n = plan.buffers

  lease_before : get_elem? s.views other ≡ some (leasing b t)
  lease_before = sym (set_else s.views id other (giving post (holds b t)) differ) ∙ lease_at

  has : HasLease n f.log f.spots b t (leased other)
  has = k.each_seat other (leasing b t) lease_before

  abbrev spots' : ℕ → Spot
  spots' = put f.spots b with_giver

  abbrev after_take : Facts
  after_take = facts_after f [] f.cells spots' f.hands (holds b t)

  take_moves : Moves f.log [] f.cells f.cells f.spots spots' f.hands f.hands 0 (leased other) free
  take_moves =
      record {
        by = tt;
        names = λ _ _. tt;
        spots_stay = λ b' far. put_else f.spots b with_giver b' (λ same. far (ap f.spots same ∙ has.0));
        cells_stay = λ _ _. refl;
        hands_stay = λ _ _. refl;
        fresh = λ d number buffer stamp is. inl is;
      }

  take_cells : (e : ℕ) → e < 2 * n → CellOk n plan.size f.log spots' f.hands (holds b t) e (get_or s.words (suc e) 0) (get_elem? s.homes e) (f.cells e)
  take_cells e low =
      cell_stays n plan.size f.log f.log f.spots spots' f.hands f.hands f.palm (holds b t) e (get_or s.words (suc e) 0) (get_or s.words (suc e) 0) (get_elem? s.homes e) (get_elem? s.homes e) refl refl
      (λ number buffer _ above below is. (above, below, put_else f.spots b with_giver buffer (λ same. let both : in_queue number ≡ leased other = sym is ∙ ap f.spots same ∙ has.0 in absurd cc) ∙ is))
      (λ number buffer drawer stamp _ above below lapped is. (above, below, lapped, is))
      (λ number _ is. subst (IsLaid (published n f.log) number) (ours plan s f k id post bare at).palm_is is)
      (f.cells e) (k.each_cell e low)

  abbrev w : View
  w = giving post (holds b t)

  take_seats : (j : ℕ) (v : View) → get_elem? (set (set s.views id w) other nobody) j ≡ some v → Knows plan after_take j v
  take_seats = reseated plan after_take (set s.views id w) other nobody tt
      (λ j v far seen. ⊎_elim
      (λ (here : (j ≡ id) × (w ≡ v)). subst (λ (x : View). Knows plan after_take j x) here.1 (subst (λ (i : ℕ). Knows plan after_take i w) (sym here.0) (same_post plan f id post bare (holds b t) f.cells spots' (ours plan s f k id post bare at))))
      (λ (else : (j ≢ id) × (get_elem? s.views j ≡ some v)). knows_stays plan f [] f.cells spots' f.hands (holds b t) 0 (leased other) free take_moves j (λ d _ e. omega arith) (λ e. far cc)
      (no_giver plan s f k id post bare at [] f.cells spots' f.hands (holds b t) j else.0) v (k.each_seat j v else.1))
      (at_set s.views id j w v seen))

  abbrev views' : List View
  views' = set (set s.views id w) other nobody

  -- the buffer is with the giver now, and each other is where it was
  take_spots : (buffer : ℕ) → buffer < n → SpotOk n f.cells f.seats f.giver views' buffer (spots' buffer)
  take_spots buffer low =
      put_cases (SpotOk n f.cells f.seats f.giver views' buffer) f.spots b with_giver buffer
      (λ same. subst (AtSeat views' (Has buffer)) (sym (ours plan s f k id post bare at).seat)
      (else_with (set s.views id w) other nobody (Has buffer) id (λ e. differ (sym e)) (now_with s.views id (giving post bare) w at (Has buffer) (sym same))))
      (λ apart. spot_stays n f.cells f.cells f.seats f.giver s.views views' buffer (λ number is. is)
      (λ j had. still_with (set s.views id w) other (leasing b t) nobody lease_at (Has buffer) (λ one. apart (sym one)) j (still_with s.views id (giving post bare) w at (Has buffer) (λ none. absurd none) j had))
      (f.spots buffer) (k.each_spot buffer low))

  pub take_kept : Kept plan record { words = s.words; homes = s.homes; views = set (set s.views id w) other nobody } after_take
  take_kept =
      record {
        within = k.within;
        homes = k.homes;
        words = k.words;
        counts = k.counts;
        lawful = k.lawful;
        spent = k.spent;
        voids = k.voids;
        gives = k.gives;
        each_cell = take_cells;
        each_queued = k.each_queued;
        each_hand = λ d. hand_stays n f.log [] f.cells f.cells f.spots spots' f.hands f.hands 0 (leased other) free take_moves d (λ e. omega arith) (λ e. cc) (λ number buffer e. cc) (f.hands d) (k.each_hand d);
        in_palm = (put_here f.spots b with_giver, has.1, has.2, has.3);
        each_spot = take_spots;
        allowed = allowed_set plan f.log (set s.views id w) other (leasing b t) nobody lease_at refl refl (allowed_set plan f.log s.views id (giving post bare) w at refl refl k.allowed);
        by_giver = k.by_giver;
        all_made = k.all_made;
        still_open = k.still_open;
        unmade = k.unmade;
        each_seat = take_seats;
      }

pub takes_lease : (plan : Plan) (id : ℕ) (post : GiverSeat) (other b t : ℕ) → Joins (RingRule plan) id (giving post bare) other (leasing b t) (giving post (holds b t)) nobody
takes_lease plan id post other b t s (f, k) at differ lease_at = (_, take_kept plan s f k id post other b t at differ lease_at)

-- ---- a lease is made

module _ (plan : Plan) (s : St) (f : Facts) (k : Kept plan s f) (id : ℕ) (post : GiverSeat) (b t : ℕ) (at : get_elem? s.views id ≡ some (giving post (holds b t))) where
  abbrev new : ℕ
  new = length s.views

  abbrev own₁ : PostOk plan f id post (holds b t)
  own₁ = ours plan s f k id post (holds b t) at

  had₁ : HasLease plan.buffers f.log f.spots b t with_giver
  had₁ = subst (PalmOk plan.buffers f.log f.cells f.spots) own₁.palm_is k.in_palm

  abbrev spots₁ : ℕ → Spot
  spots₁ = put f.spots b (leased new)

  abbrev after_lease : Facts
  after_lease = facts_after f [] f.cells spots₁ f.hands bare

  lease_moves : Moves f.log [] f.cells f.cells f.spots spots₁ f.hands f.hands 0 with_giver free
  lease_moves =
      record {
        by = tt;
        names = λ _ _. tt;
        spots_stay = λ b' far. put_else f.spots b (leased new) b' (λ same. far (ap f.spots same ∙ had₁.0));
        cells_stay = λ _ _. refl;
        hands_stay = λ _ _. refl;
        fresh = λ d number buffer stamp is. inl is;
      }

  lease_cells : (e : ℕ) → e < 2 * plan.buffers → CellOk plan.buffers plan.size f.log spots₁ f.hands bare e (get_or s.words (suc e) 0) (get_elem? s.homes e) (f.cells e)
  lease_cells e low =
      cell_stays plan.buffers plan.size f.log f.log f.spots spots₁ f.hands f.hands f.palm bare e (get_or s.words (suc e) 0) (get_or s.words (suc e) 0) (get_elem? s.homes e) (get_elem? s.homes e) refl refl
      (λ number buffer _ above below is. (above, below, put_else f.spots b (leased new) buffer (λ same. let both : in_queue number ≡ with_giver = sym is ∙ ap f.spots same ∙ had₁.0 in absurd cc) ∙ is))
      (λ number buffer drawer stamp _ above below lapped is. (above, below, lapped, is))
      (λ number _ is. subst (IsLaid (published plan.buffers f.log) number) own₁.palm_is is)
      (f.cells e) (k.each_cell e low)

  abbrev w₁ : View
  w₁ = giving post bare

  lease_seats : (j : ℕ) (v : View) → get_elem? (set s.views id w₁ ++ leasing b t ∷ []) j ≡ some v → Knows plan after_lease j v
  lease_seats = seated_too plan after_lease (set s.views id w₁) (leasing b t)
      (put_here f.spots b (leased new) ∙ ap leased (sym (length-set s.views id w₁)), had₁.1, had₁.2, had₁.3)
      (reseated plan after_lease s.views id w₁ (same_post plan f id post (holds b t) bare f.cells spots₁ own₁)
      (λ j v other seen. knows_stays plan f [] f.cells spots₁ f.hands bare 0 with_giver free lease_moves j (λ d _ e. omega arith) (λ e. cc)
      (no_giver plan s f k id post (holds b t) at [] f.cells spots₁ f.hands bare j other) v (k.each_seat j v seen)))

  abbrev views₁ : List View
  views₁ = set s.views id w₁ ++ leasing b t ∷ []

  -- the buffer is with the lease now, and each other is where it was
  lease_spots : (buffer : ℕ) → buffer < plan.buffers → SpotOk plan.buffers f.cells f.seats f.giver views₁ buffer (spots₁ buffer)
  lease_spots buffer low =
      put_cases (SpotOk plan.buffers f.cells f.seats f.giver views₁ buffer) f.spots b (leased new) buffer
      (λ same. with_last (set s.views id w₁) (leasing b t) (Has buffer) new (length-set s.views id w₁) (sym same))
      (λ other. spot_stays plan.buffers f.cells f.cells f.seats f.giver s.views views₁ buffer (λ number is. is)
      (λ j had. with_more (set s.views id w₁) (leasing b t) (Has buffer) j (still_with s.views id (giving post (holds b t)) w₁ at (Has buffer) (λ one. other (sym one)) j had))
      (f.spots buffer) (k.each_spot buffer low))

  pub lease_kept : Kept plan record { words = s.words; homes = s.homes; views = set s.views id w₁ ++ leasing b t ∷ [] } after_lease
  lease_kept =
      record {
        within = k.within;
        homes = k.homes;
        words = k.words;
        counts = k.counts;
        lawful = k.lawful;
        spent = k.spent;
        voids = k.voids;
        gives = k.gives;
        each_cell = lease_cells;
        each_queued = k.each_queued;
        each_hand = λ d. hand_stays plan.buffers f.log [] f.cells f.cells f.spots spots₁ f.hands f.hands 0 with_giver free lease_moves d (λ e. omega arith) (λ e. cc) (λ number buffer e. cc) (f.hands d) (k.each_hand d);
        in_palm = tt;
        each_spot = lease_spots;
        allowed = allowed_and plan f.log (set s.views id w₁) (leasing b t) refl refl (allowed_set plan f.log s.views id (giving post (holds b t)) w₁ at refl refl k.allowed);
        by_giver = k.by_giver;
        all_made = k.all_made;
        still_open = k.still_open;
        unmade = k.unmade;
        each_seat = lease_seats;
      }

pub leases_again : (plan : Plan) (id : ℕ) (post : GiverSeat) (b t : ℕ) → Splits (RingRule plan) id (giving post (holds b t)) (giving post bare) (leasing b t)
leases_again plan id post b t s (f, k) at = (_, lease_kept plan s f k id post b t at)
