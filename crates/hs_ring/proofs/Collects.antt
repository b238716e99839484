-- A drawer collects the buffer of its number, and makes a lease of it.
use Rattle.std.proofs.Common.{◌≡◌, ◌≢◌, ◌⊎◌, ℕ, suc, ◌+◌, ◌*◌, ◌%◌, ◌<◌, ◌≤◌, List, [], ◌∷◌, ◌++◌, length, set, get_or, None, refl, sym, ap, ◌∙◌, subst, inl, arith, length-set, get_or-set_other}
use Rattle.hs_ring.proofs.Prelude.{get_or-set_at, some, get_elem?, step, gives, stepped, Allows, Splits, set_here, set_else, put, put_cases, put_here, put_else, got_by, draw_is_at, Plan, Spot, in_queue, with_drawer, leased, DrawerSeat, Hand, nothing, drew, kept, View, drawing, leasing, Has, Cell, free, drawn, Facts, CellOk, HandOk, SpotOk, DeskOk, Knows, Kept, RingRule, did_collect}
use mathlib.Core.Option as maybe
use Rattle.hs_ring.proofs.Updates.{allowed_set, allowed_and}
use Rattle.hs_ring.proofs.Spots.{still_with, with_more, with_last, spot_stays}
use Rattle.hs_ring.proofs.Stays.{Moves, hand_stays, palm_stays, queued_stays, cell_stays, facts_after, post_stays, knows_stays}
use Rattle.hs_ring.proofs.Counting.{entry_below, reseated, seated_too}
use Rattle.hs_ring.proofs.Draws.{St, Held, mine, another}

-- ---- collect

module _ (plan : Plan) (s : St) (f : Facts) (k : Kept plan s f) (id : ℕ) (desk : DrawerSeat) (h b t : ℕ) (at : get_elem? s.views id ≡ some (drawing desk (drew h b t))) (i : ℕ) (i_is : i ≡ h % (2 * plan.buffers)) (held : Held) where
  abbrev n : ℕ
  n = plan.buffers

  abbrev d : ℕ
  d = desk.number

  abbrev own : DeskOk plan f id desk (drew h b t)
  own = mine plan s f k id desk (drew h b t) at

  had : HandOk n f.log f.cells f.spots d (drew h b t)
  had = subst (HandOk n f.log f.cells f.spots d) own.hand_is (k.each_hand d)

  there : f.cells i ≡ drawn h b d
  there = ap f.cells i_is ∙ had.0

  abbrev cells' : ℕ → Cell
  cells' = put f.cells i free

  abbrev hands' : ℕ → Hand
  hands' = put f.hands d (kept b t)

  abbrev after_collect : Facts
  after_collect = facts_after f [] cells' f.spots hands' f.palm

  collect_moves : Moves f.log [] f.cells cells' f.spots f.spots f.hands hands' (suc d) (in_queue 0) (drawn h b d)
  collect_moves =
      record {
        by = tt;
        names = λ _ _. tt;
        spots_stay = λ _ _. refl;
        cells_stay = λ e far. put_else f.cells i free e (λ same. far (ap f.cells same ∙ there));
        hands_stay = λ d' other. put_else f.hands d (kept b t) d' (λ same. other (ap suc same));
        fresh = λ d' number buffer stamp.
            put_cases (λ (x : Hand). x ≡ drew number buffer stamp → (f.hands d' ≡ drew number buffer stamp) ⊎ (length f.log ≤ stamp)) f.hands d (kept b t) d'
            (λ _ is. absurd cc) (λ _ is. inl is);
      }

  abbrev w : View
  w = drawing desk (kept b t)

  collect_desk : DeskOk plan after_collect id desk (kept b t)
  collect_desk = record { size = own.size; active = own.active; seat = own.seat; hand_is = put_here f.hands d (kept b t); within = own.within; answers = own.answers; floor = own.floor }

  collect_hands : (d' : ℕ) → HandOk n f.log cells' f.spots d' (hands' d')
  collect_hands d' =
      put_cases (HandOk n f.log cells' f.spots d') f.hands d (kept b t) d'
      (λ same. subst (λ (c : ℕ). HandOk n f.log cells' f.spots c (kept b t)) (sym same) (had.1, (suc d, draw_is_at f.log h t (got_by (suc d) b) had.2), had.3, had.5))
      (λ other. hand_stays n f.log [] f.cells cells' f.spots f.spots f.hands hands' (suc d) (in_queue 0) (drawn h b d) collect_moves d' (λ e. other (omega arith)) (λ e. cc) (λ number buffer e. other cc) (f.hands d') (k.each_hand d'))

  i_below : i < length s.homes
  i_below = let e = k.homes in let less = entry_below plan s f k h in omega arith

  collect_cells : (e : ℕ) → e < 2 * n → CellOk n plan.size f.log f.spots hands' f.palm e (get_or (set s.words (i + 1) 0) (suc e) 0) (get_elem? (set s.homes i (some None)) e) (cells' e)
  collect_cells e low =
      put_cases (CellOk n plan.size f.log f.spots hands' f.palm e (get_or (set s.words (i + 1) 0) (suc e) 0) (get_elem? (set s.homes i (some None)) e)) f.cells i free e
      (λ same. (
        get_or-set_at s.words (i + 1) (suc e) 0 0 (omega arith) (let c = k.words in let b = k.homes in let l = i_below in omega arith),
        ap (get_elem? (set s.homes i (some None))) same ∙ set_here s.homes i (some None) i_below,
      ))
      (λ other. cell_stays n plan.size f.log f.log f.spots f.spots f.hands hands' f.palm f.palm e (get_or s.words (suc e) 0) (get_or (set s.words (i + 1) 0) (suc e) 0) (get_elem? s.homes e) (get_elem? (set s.homes i (some None)) e)
      (get_or-set_other s.words (i + 1) (suc e) 0 0 (λ same. other (omega arith))) (set_else s.homes i e (some None) other)
      (λ number buffer _ above below is. (above, below, is))
      (λ number buffer drawer stamp here above below lapped is.
      let apart : drawer ≢ d = λ same.
      let both : drew h b t ≡ drew number buffer stamp = sym (ap f.hands same ∙ own.hand_is) ∙ is in
      let numbers : h ≡ number = cc in
      other (here ∙ ap (λ (m : ℕ). m % (2 * n)) (sym numbers) ∙ sym i_is) in
      (above, below, lapped, put_else f.hands d (kept b t) drawer apart ∙ is))
      (λ number _ is. is)
      (f.cells e) (k.each_cell e low))

  collect_seats : (j : ℕ) (v : View) → get_elem? (set s.views id w) j ≡ some v → Knows plan after_collect j v
  collect_seats = reseated plan after_collect s.views id w collect_desk
      (λ j v other seen. knows_stays plan f [] cells' f.spots hands' f.palm (suc d) (in_queue 0) (drawn h b d) collect_moves j (another plan s f k id desk (drew h b t) at j other) (λ e. cc)
      (λ _ post palm ok. post_stays plan f [] cells' f.spots hands' f.palm (suc d) (in_queue 0) (drawn h b d) collect_moves j post palm refl (omega arith) (let a = own.active in omega arith) refl ok) v (k.each_seat j v seen))

  pub collect_kept : Kept plan (stepped s (i + 1) 0 id ((i, None) ∷ held) w gives) after_collect
  collect_kept =
      record {
        within = k.within;
        homes = length-set s.homes i (some None) ∙ k.homes;
        words = length-set s.words (i + 1) 0 ∙ k.words;
        counts = get_or-set_other s.words (i + 1) 0 0 0 (λ e. omega arith) ∙ k.counts;
        lawful = k.lawful;
        spent = k.spent;
        voids = k.voids;
        gives = k.gives;
        each_cell = collect_cells;
        each_queued = λ a buffer seen. queued_stays n f.log [] f.cells cells' f.spots f.spots f.hands hands' (suc d) (in_queue 0) (drawn h b d) collect_moves (λ number buffer e. cc) _ _ buffer (k.each_queued a buffer seen);
        each_hand = collect_hands;
        in_palm = palm_stays n f.log [] f.cells cells' f.spots f.spots f.hands hands' (suc d) (in_queue 0) (drawn h b d) collect_moves refl (λ e. cc) (λ number e. cc) f.palm k.in_palm;
        each_spot = λ buffer low.
            spot_stays n f.cells cells' f.seats f.giver s.views (set s.views id w) buffer
            (λ number is. queued_stays n f.log [] f.cells cells' f.spots f.spots f.hands hands' (suc d) (in_queue 0) (drawn h b d) collect_moves (λ number buffer e. cc) _ _ buffer is)
            (still_with s.views id (drawing desk (drew h b t)) w at (Has buffer) (λ had. had)) (f.spots buffer) (k.each_spot buffer low);
        allowed = allowed_set plan f.log s.views id (drawing desk (drew h b t)) w at refl refl k.allowed;
        by_giver = k.by_giver;
        all_made = k.all_made;
        still_open = k.still_open;
        unmade = λ d' high. put_else f.hands d (kept b t) d' (λ same. let a = own.active in let o = k.still_open in omega arith) ∙ k.unmade d' high;
        each_seat = collect_seats;
      }

pub collects : (plan : Plan) (slots id : ℕ) (desk : DrawerSeat) (h b t i : ℕ) (held : Held) → i ≡ h % slots
    → Allows (RingRule plan) slots id (drawing desk (drew h b t), (i, None) ∷ held) (i + 1) (λ _. 0) (did_collect (step slots (i + 1) 0 0 maybe.none) (drawing desk (drew h b t), (i, None) ∷ held))
collects plan slots id desk h b t i held is s (f, k) wide at small =
    let entry : i ≡ h % (2 * plan.buffers) = is ∙ ap (λ (m : ℕ). h % m) (sym wide ∙ k.homes) in
    (drawing desk (kept b t), gives, tt, (_, collect_kept plan s f k id desk h b t at i entry held), refl)

-- ---- the lease

module _ (plan : Plan) (s : St) (f : Facts) (k : Kept plan s f) (id : ℕ) (desk : DrawerSeat) (b t : ℕ) (at : get_elem? s.views id ≡ some (drawing desk (kept b t))) where
  abbrev d₁ : ℕ
  d₁ = desk.number

  abbrev new : ℕ
  new = length s.views

  abbrev own₁ : DeskOk plan f id desk (kept b t)
  own₁ = mine plan s f k id desk (kept b t) at

  had₁ : HandOk plan.buffers f.log f.cells f.spots d₁ (kept b t)
  had₁ = subst (HandOk plan.buffers f.log f.cells f.spots d₁) own₁.hand_is (k.each_hand d₁)

  abbrev spots' : ℕ → Spot
  spots' = put f.spots b (leased new)

  abbrev hands₁ : ℕ → Hand
  hands₁ = put f.hands d₁ nothing

  abbrev after_lease : Facts
  after_lease = facts_after f [] f.cells spots' hands₁ f.palm

  not_b : (b' : ℕ) → f.spots b' ≢ with_drawer d₁ → b' ≢ b
  not_b b' far same = far (ap f.spots same ∙ had₁.0)

  lease_moves : Moves f.log [] f.cells f.cells f.spots spots' f.hands hands₁ (suc d₁) (with_drawer d₁) free
  lease_moves =
      record {
        by = tt;
        names = λ _ _. tt;
        spots_stay = λ b' far. put_else f.spots b (leased new) b' (not_b b' far);
        cells_stay = λ _ _. refl;
        hands_stay = λ d' other. put_else f.hands d₁ nothing d' (λ same. other (ap suc same));
        fresh = λ d' number buffer stamp.
            put_cases (λ (x : Hand). x ≡ drew number buffer stamp → (f.hands d' ≡ drew number buffer stamp) ⊎ (length f.log ≤ stamp)) f.hands d₁ nothing d'
            (λ _ is. absurd cc) (λ _ is. inl is);
      }

  lease_desk : DeskOk plan after_lease id desk nothing
  lease_desk = record { size = own₁.size; active = own₁.active; seat = own₁.seat; hand_is = put_here f.hands d₁ nothing; within = own₁.within; answers = own₁.answers; floor = own₁.floor }

  lease_hands : (d' : ℕ) → HandOk plan.buffers f.log f.cells spots' d' (hands₁ d')
  lease_hands d' =
      put_cases (HandOk plan.buffers f.log f.cells spots' d') f.hands d₁ nothing d'
      (λ same. tt)
      (λ other. hand_stays plan.buffers f.log [] f.cells f.cells f.spots spots' f.hands hands₁ (suc d₁) (with_drawer d₁) free lease_moves d' (λ e. other (omega arith)) (λ e. other cc) (λ number buffer e. cc) (f.hands d') (k.each_hand d'))

  lease_seats : (j : ℕ) (v : View) → get_elem? (set s.views id (drawing desk nothing) ++ leasing b t ∷ []) j ≡ some v → Knows plan after_lease j v
  lease_seats = seated_too plan after_lease (set s.views id (drawing desk nothing)) (leasing b t)
      (put_here f.spots b (leased new) ∙ ap leased (sym (length-set s.views id (drawing desk nothing))), had₁.1, had₁.2, had₁.3)
      (reseated plan after_lease s.views id (drawing desk nothing) lease_desk
      (λ j v other seen. knows_stays plan f [] f.cells spots' hands₁ f.palm (suc d₁) (with_drawer d₁) free lease_moves j (another plan s f k id desk (kept b t) at j other) (λ e. cc)
      (λ _ post palm ok. post_stays plan f [] f.cells spots' hands₁ f.palm (suc d₁) (with_drawer d₁) free lease_moves j post palm refl (omega arith) (let a = own₁.active in omega arith) refl ok) v (k.each_seat j v seen)))

  lease_cells : (e : ℕ) → e < 2 * plan.buffers → CellOk plan.buffers plan.size f.log spots' hands₁ f.palm e (get_or s.words (suc e) 0) (get_elem? s.homes e) (f.cells e)
  lease_cells e low =
      cell_stays plan.buffers plan.size f.log f.log f.spots spots' f.hands hands₁ f.palm f.palm e (get_or s.words (suc e) 0) (get_or s.words (suc e) 0) (get_elem? s.homes e) (get_elem? s.homes e) refl refl
      (λ number buffer _ above below is. (above, below, put_else f.spots b (leased new) buffer (λ same. let both : in_queue number ≡ with_drawer d₁ = sym is ∙ ap f.spots same ∙ had₁.0 in absurd cc) ∙ is))
      (λ number buffer drawer stamp _ above below lapped is.
      (above, below, lapped, put_else f.hands d₁ nothing drawer (λ same. let both : kept b t ≡ drew number buffer stamp = sym (ap f.hands same ∙ own₁.hand_is) ∙ is in absurd cc) ∙ is))
      (λ number _ is. is)
      (f.cells e) (k.each_cell e low)

  abbrev views' : List View
  views' = set s.views id (drawing desk nothing) ++ leasing b t ∷ []

  -- the buffer is with the lease now, and each other is where it was
  lease_spots : (buffer : ℕ) → buffer < plan.buffers → SpotOk plan.buffers f.cells f.seats f.giver views' buffer (spots' buffer)
  lease_spots buffer low =
      put_cases (SpotOk plan.buffers f.cells f.seats f.giver views' buffer) f.spots b (leased new) buffer
      (λ same. with_last (set s.views id (drawing desk nothing)) (leasing b t) (Has buffer) new (length-set s.views id (drawing desk nothing)) (sym same))
      (λ other. spot_stays plan.buffers f.cells f.cells f.seats f.giver s.views views' buffer (λ number is. is)
      (λ j had. with_more (set s.views id (drawing desk nothing)) (leasing b t) (Has buffer) j (still_with s.views id (drawing desk (kept b t)) (drawing desk nothing) at (Has buffer) (λ one. other (sym one)) j had))
      (f.spots buffer) (k.each_spot buffer low))

  pub lease_kept : Kept plan record { words = s.words; homes = s.homes; views = set s.views id (drawing desk nothing) ++ leasing b t ∷ [] } after_lease
  lease_kept =
      record {
        within = k.within;
        homes = k.homes;
        words = k.words;
        counts = k.counts;
        lawful = k.lawful;
        spent = k.spent;
        voids = k.voids;
        gives = k.gives;
        each_cell = lease_cells;
        each_queued = k.each_queued;
        each_hand = lease_hands;
        in_palm = palm_stays plan.buffers f.log [] f.cells f.cells f.spots spots' f.hands hands₁ (suc d₁) (with_drawer d₁) free lease_moves refl (λ e. cc) (λ number e. cc) f.palm k.in_palm;
        each_spot = lease_spots;
        allowed = allowed_and plan f.log (set s.views id (drawing desk nothing)) (leasing b t) refl refl (allowed_set plan f.log s.views id (drawing desk (kept b t)) (drawing desk nothing) at refl refl k.allowed);
        by_giver = k.by_giver;
        all_made = k.all_made;
        still_open = k.still_open;
        unmade = λ d' high. put_else f.hands d₁ nothing d' (λ same. let a = own₁.active in let o = k.still_open in omega arith) ∙ k.unmade d' high;
        each_seat = lease_seats;
      }

pub leases : (plan : Plan) (id : ℕ) (desk : DrawerSeat) (b t : ℕ) → Splits (RingRule plan) id (drawing desk (kept b t)) (drawing desk nothing) (leasing b t)
leases plan id desk b t s (f, k) at = (_, lease_kept plan s f k id desk b t at)
