-- A draw keeps the rule: a number is drawn, its chunk is collected, and a lease is made of it.
use Rattle.std.proofs.Common.{◌≡◌, ◌≢◌, ◌⊎◌, ℕ, suc, ◌+◌, ◌*◌, ◌%◌, ◌<◌, ◌≤◌, List, [], ◌∷◌, length, set, get_or, Some, refl, sym, ap, ap₂, ◌∙◌, subst, inl, inr, le_refl, arith, add-zero, length-set, get_or-set_other, get_or-set_same}
use Rattle.hs_ring.proofs.Prelude.{some, dite, ℕ_discrete, dec_le, get_elem?, Option, nil_from_length, State, Me, step, Act, keeps, takes, stepped, Allows, set_here, set_else, count_cons, ONE_DRAW, put, put_cases, put_here, put_else, Contents, clear_chunk, is_missed, is_empty, Deed, Answer, got_by, events_of, drawn_in, given_in, answer_to, queue_of, answers_and, Plan, AtSeat, Spot, in_queue, with_drawer, DrawerSeat, Hand, nothing, drew, View, drawing, InHand, Has, Cell, free, waits, drawn, Facts, published, IsLaid, CellOk, IsLastOf, HandOk, SpotOk, DeskOk, Knows, Kept, RingRule, packed, drawn_of, did_draw}
use mathlib.Core.Option as maybe
use Rattle.hs_words.specs.PoolHistory.{Got, Empty}
use Rattle.hs_words.specs.Ends.{empty_by}
use Rattle.hs_words.proofs.Deeds.{none_yet}
use Rattle.hs_words.proofs.Waiting.{waiting_below}
use Rattle.hs_ring.specs.Views.{drawer_seat_after}
use Rattle.hs_ring.proofs.Updates.{ap₃, left_set, most_set}
use Rattle.hs_ring.proofs.Spots.{now_with, still_with, spot_stays}
use Rattle.hs_ring.proofs.Stays.{Moves, answers_stay, hand_stays, palm_stays, cell_stays, facts_after, post_stays, knows_stays}
use Rattle.hs_ring.proofs.Counting.{at_length, first_there, at_rest, front_got, line, lap, found_drawn, found_published, found_stamp, one_more_drawn, entry_below, reseated}

abbrev pub St : Type 0
St = State (Option Contents) View

abbrev pub Held : Type 0
Held = List (ℕ × Option Contents)

pub last_yet : (log : List Deed) (end stamp : ℕ) → length log ≤ suc stamp → IsLastOf end stamp log
last_yet [] end stamp high = tt
last_yet (x ∷ xs) end stamp high = ((λ _. omega arith), last_yet xs end stamp (omega arith))

-- a drawer's seat makes a step of another drawer's number impossible
module _ (plan : Plan) (s : St) (f : Facts) (k : Kept plan s f) (id : ℕ) (desk : DrawerSeat) (hand : Hand) (at : get_elem? s.views id ≡ some (drawing desk hand)) where
  abbrev pub mine : DeskOk plan f id desk hand
  mine = k.each_seat id (drawing desk hand) at

  abbrev d : ℕ
  d = desk.number

  abbrev n : ℕ
  n = plan.buffers

  pub another : (j : ℕ) → j ≢ id → (d' : ℕ) → f.seats d' ≡ j → suc d' ≢ suc d
  another j other d' is e = let same : d' ≡ d = omega arith in other (sym is ∙ ap f.seats same ∙ mine.seat)

  -- ---- an empty draw
  module _ (idle : hand ≡ nothing) (some_left : 1 ≤ desk.left) (void : published n f.log ≤ drawn_in f.log) (x : ℕ) (x_is : x ≡ packed (published n f.log) (suc (drawn_in f.log))) (held : Held) where
    abbrev deed : Deed
    deed = empty_by (suc d)

    abbrev after_empty : Facts
    after_empty = facts_after f (deed ∷ []) f.cells f.spots f.hands f.palm

    empty_moves : Moves f.log (deed ∷ []) f.cells f.cells f.spots f.spots f.hands f.hands (suc d) (in_queue 0) free
    empty_moves =
        record {
          by = (refl, tt);
          names = λ b _. ((λ no. no), tt);
          spots_stay = λ b _. refl;
          cells_stay = λ e _. refl;
          hands_stay = λ d' _. refl;
          fresh = λ d' number buffer stamp is. inl is;
        }

    nothing_waits : queue_of n f.log ≡ []
    nothing_waits = nil_from_length (queue_of n f.log) (let l = line plan s f k in omega arith)

    abbrev w : View
    w = drawing (drawer_seat_after desk (length f.log) Empty) nothing

    empty_desk : DeskOk plan after_empty id (drawer_seat_after desk (length f.log) Empty) nothing
    empty_desk =
        record {
          size = mine.size;
          active = mine.active;
          seat = mine.seat;
          hand_is = mine.hand_is ∙ idle;
          within = omega (arith, mine.within);
          answers = ap (λ (l : List Answer). answer_to deed (length f.log) ∷ l) mine.answers ∙ sym (answers_and deed f.log (suc d) refl);
          floor = le_refl (suc (length f.log));
        }

    empty_hands : (d' : ℕ) → HandOk n (deed ∷ f.log) f.cells f.spots d' (f.hands d')
    empty_hands d' =
        dite (ℕ_discrete d' d)
        (λ same. subst (HandOk n (deed ∷ f.log) f.cells f.spots d') (sym (ap f.hands same ∙ mine.hand_is ∙ idle)) tt)
        (λ other. hand_stays n f.log (deed ∷ []) f.cells f.cells f.spots f.spots f.hands f.hands (suc d) (in_queue 0) free empty_moves d' (λ e. other (omega arith)) (λ e. cc) (λ number buffer e. cc) (f.hands d') (k.each_hand d'))

    empty_seats : (j : ℕ) (v : View) → get_elem? (set s.views id w) j ≡ some v → Knows plan after_empty j v
    empty_seats = reseated plan after_empty s.views id w empty_desk
        (λ j v other seen. knows_stays plan f (deed ∷ []) f.cells f.spots f.hands f.palm (suc d) (in_queue 0) free empty_moves j (another j other) (λ e. cc)
        (λ _ post palm ok. post_stays plan f (deed ∷ []) f.cells f.spots f.hands f.palm (suc d) (in_queue 0) free empty_moves j post palm refl (omega arith) (let a = mine.active in omega arith)
        (let c = count_cons is_missed Empty (events_of f.log) in omega arith) ok) v (k.each_seat j v seen))

    pub empty_kept : Kept plan (stepped s 0 x id held w keeps) after_empty
    empty_kept =
        record {
          within = k.within;
          homes = k.homes;
          words = length-set s.words 0 x ∙ k.words;
          counts = get_or-set_same s.words 0 x 0 (let e = k.words in omega arith) ∙ x_is ∙ (let e : packed (published n f.log) (suc (drawn_in f.log)) ≡ packed (n + (0 + given_in f.log)) (1 + drawn_in f.log) = omega arith in e);
          lawful = (k.lawful, nothing_waits);
          spent = (tt, k.spent);
          voids = (let a = count_cons is_missed Empty (events_of f.log) in let b = count_cons is_empty Empty (events_of f.log) in let v = k.voids in omega arith);
          gives = k.gives;
          each_cell =
              λ e low.
              cell_stays n plan.size f.log (deed ∷ f.log) f.spots f.spots f.hands f.hands f.palm f.palm e (get_or s.words (suc e) 0) (get_or (set s.words 0 x) (suc e) 0) (get_elem? s.homes e) (get_elem? s.homes e)
              (get_or-set_other s.words 0 (suc e) x 0 (λ e. omega arith)) refl
              (λ number buffer _ above below is. absurd (omega arith))
              (λ number buffer drawer stamp _ above below lapped is. (omega arith, omega arith, omega arith, is))
              (λ number _ is. subst (λ (p : ℕ). IsLaid p number f.palm) (let e : published n f.log ≡ n + (0 + given_in f.log) = omega arith in e) is)
              (f.cells e) (k.each_cell e low);
          each_queued = λ i buffer seen. absurd (let less = at_length (queue_of n f.log) i buffer seen in let l = line plan s f k in omega arith);
          each_hand = empty_hands;
          in_palm = palm_stays n f.log (deed ∷ []) f.cells f.cells f.spots f.spots f.hands f.hands (suc d) (in_queue 0) free empty_moves (omega arith) (λ e. cc) (λ number e. cc) f.palm k.in_palm;
          each_spot = λ buffer low.
              spot_stays n f.cells f.cells f.seats f.giver s.views (set s.views id w) buffer (λ number is. is) (still_with s.views id (drawing desk hand) w at (Has buffer) (λ had. subst (InHand buffer) idle had))
              (f.spots buffer) (k.each_spot buffer low);
          allowed =
              (let l = left_set s.views id (drawing desk hand) w at in
              let m = most_set s.views id (drawing desk hand) w at in
              record { ahead = omega (arith, k.allowed.ahead); life = omega (arith, k.allowed.life); most = omega (arith, k.allowed.most) });
          by_giver = ap length (answers_stay n f.log (deed ∷ []) f.cells f.cells f.spots f.spots f.hands f.hands (suc d) (in_queue 0) free empty_moves 0 (λ e. omega arith)) ∙ (let e = k.by_giver in omega arith);
          all_made = ((let a = mine.active in let b = k.still_open in omega arith), k.all_made);
          still_open = k.still_open;
          unmade = k.unmade;
          each_seat = empty_seats;
        }

  -- ---- a draw that gets a buffer
  module _ (idle : hand ≡ nothing) (some_left : 1 ≤ desk.left) (ready : drawn_in f.log < published n f.log) (x : ℕ) (x_is : x ≡ packed (published n f.log) (suc (drawn_in f.log))) (held : Held)
      (b : ℕ) (front : get_elem? (queue_of n f.log) 0 ≡ some b) where
    abbrev number : ℕ
    number = drawn_in f.log

    abbrev e₀ : ℕ
    e₀ = number % (2 * n)

    abbrev got : Deed
    got = got_by (suc d) b

    abbrev stamp : ℕ
    stamp = length f.log

    abbrev cells' : ℕ → Cell
    cells' = put f.cells e₀ (drawn number b d)

    abbrev spots' : ℕ → Spot
    spots' = put f.spots b (with_drawer d)

    abbrev hands' : ℕ → Hand
    hands' = put f.hands d (drew number b stamp)

    abbrev after_got : Facts
    after_got = facts_after f (got ∷ []) cells' spots' hands' f.palm

    abbrev got_view : View
    got_view = drawing (drawer_seat_after desk stamp (Got b)) (drew number b stamp)

    was_waiting : f.cells e₀ ≡ waits number b
    was_waiting = subst (λ (m : ℕ). f.cells (m % (2 * n)) ≡ waits m b) (add-zero number) (k.each_queued 0 b front)

    was_ok : CellOk n plan.size f.log f.spots f.hands f.palm e₀ (get_or s.words (suc e₀) 0) (get_elem? s.homes e₀) (waits number b)
    was_ok = subst (CellOk n plan.size f.log f.spots f.hands f.palm e₀ (get_or s.words (suc e₀) 0) (get_elem? s.homes e₀)) was_waiting (k.each_cell e₀ (entry_below plan s f k number))

    pub full : get_elem? s.homes e₀ ≡ some (some (Some (clear_chunk plan.size b)))
    full = was_ok.2

    was_queued : f.spots b ≡ in_queue number
    was_queued = was_ok.5

    not_b : (b' : ℕ) → f.spots b' ≢ in_queue number → b' ≢ b
    not_b b' far same = far (ap f.spots same ∙ was_queued)

    got_moves : Moves f.log (got ∷ []) f.cells cells' f.spots spots' f.hands hands' (suc d) (in_queue number) (waits number b)
    got_moves =
        record {
          by = (refl, tt);
          names = λ b' far. ((λ e. not_b b' far (sym e)), tt);
          spots_stay = λ b' far. put_else f.spots b (with_drawer d) b' (not_b b' far);
          cells_stay = λ e far. put_else f.cells e₀ (drawn number b d) e (λ same. far (ap f.cells same ∙ was_waiting));
          hands_stay = λ d' other. put_else f.hands d (drew number b stamp) d' (λ same. other (ap suc same));
          fresh = λ d' number' buffer stamp'.
              put_cases (λ (h : Hand). h ≡ drew number' buffer stamp' → (f.hands d' ≡ drew number' buffer stamp') ⊎ (stamp ≤ stamp')) f.hands d (drew number b stamp) d'
              (λ _ is. inr (let same : stamp ≡ stamp' = cc in omega arith)) (λ _ is. inl is);
        }

    got_desk : DeskOk plan after_got id (drawer_seat_after desk stamp (Got b)) (drew number b stamp)
    got_desk =
        record {
          size = mine.size;
          active = mine.active;
          seat = mine.seat;
          hand_is = put_here f.hands d (drew number b stamp);
          within = omega (arith, mine.within);
          answers = ap (λ (l : List Answer). answer_to got stamp ∷ l) mine.answers ∙ sym (answers_and got f.log (suc d) refl);
          floor = le_refl (suc stamp);
        }

    got_hands : (d' : ℕ) → HandOk n (got ∷ f.log) cells' spots' d' (hands' d')
    got_hands d' =
        put_cases (HandOk n (got ∷ f.log) cells' spots' d') f.hands d (drew number b stamp) d'
        (λ same. subst (λ (c : ℕ). HandOk n (got ∷ f.log) cells' spots' c (drew number b stamp)) (sym same) (
          put_here f.cells e₀ (drawn number b d),
          put_here f.spots b (with_drawer d),
          inl (refl, refl, refl, refl),
          none_yet (got ∷ f.log) b stamp (le_refl (suc stamp)),
          last_yet (got ∷ f.log) (suc d) stamp (le_refl (suc stamp)),
          waiting_below n (events_of f.log) k.lawful 0 b front,
        ))
        (λ other. hand_stays n f.log (got ∷ []) f.cells cells' f.spots spots' f.hands hands' (suc d) (in_queue number) (waits number b) got_moves d' (λ e. other (omega arith)) (λ e. cc) (λ number buffer e. cc) (f.hands d') (k.each_hand d'))

    abbrev act : Act (Option Contents)
    act = takes e₀ (Some (clear_chunk plan.size b))

    got_seats : (j : ℕ) (v : View) → get_elem? (set s.views id got_view) j ≡ some v → Knows plan after_got j v
    got_seats = reseated plan after_got s.views id got_view got_desk
        (λ j v other seen. knows_stays plan f (got ∷ []) cells' spots' hands' f.palm (suc d) (in_queue number) (waits number b) got_moves j (another j other) (λ e. cc)
        (λ _ post palm ok. post_stays plan f (got ∷ []) cells' spots' hands' f.palm (suc d) (in_queue number) (waits number b) got_moves j post palm refl (omega arith) (let a = mine.active in omega arith)
        (let c = count_cons is_missed (Got b) (events_of f.log) in omega arith) ok) v (k.each_seat j v seen))

    got_cells : (e : ℕ) → e < 2 * n → CellOk n plan.size (got ∷ f.log) spots' hands' f.palm e (get_or (set s.words 0 x) (suc e) 0) (get_elem? (set s.homes e₀ maybe.none) e) (cells' e)
    got_cells e low =
        let word = get_or-set_other s.words 0 (suc e) x 0 (λ e. omega arith) in
        put_cases (CellOk n plan.size (got ∷ f.log) spots' hands' f.palm e (get_or (set s.words 0 x) (suc e) 0) (get_elem? (set s.homes e₀ maybe.none) e)) f.cells e₀ (drawn number b d) e
        (λ same.
        let lapped = lap plan s f k in (
          same,
          word ∙ ap (λ (i : ℕ). get_or s.words (suc i) 0) same ∙ was_ok.1,
          ap (get_elem? (set s.homes e₀ maybe.none)) same ∙ set_here s.homes e₀ maybe.none (let h = k.homes in let l = entry_below plan s f k number in omega arith),
          omega arith,
          omega arith,
          omega arith,
          (stamp, put_here f.hands d (drew number b stamp)),
        ))
        (λ other. cell_stays n plan.size f.log (got ∷ f.log) f.spots spots' f.hands hands' f.palm f.palm e (get_or s.words (suc e) 0) (get_or (set s.words 0 x) (suc e) 0) (get_elem? s.homes e) (get_elem? (set s.homes e₀ maybe.none) e)
        word (set_else s.homes e₀ e maybe.none other)
        (λ number' buffer there above below is.
        let differ : number' ≢ number = λ same. other (there ∙ ap (λ (m : ℕ). m % (2 * n)) same) in
        let apart : buffer ≢ b = λ same. differ (let both : in_queue number' ≡ in_queue number = sym is ∙ ap f.spots same ∙ was_queued in cc) in
        (omega arith, omega arith, put_else f.spots b (with_drawer d) buffer apart ∙ is))
        (λ number' buffer drawer stamp' there above below lapped is.
        let apart : drawer ≢ d = λ same. let both : nothing ≡ drew number' buffer stamp' = sym (ap f.hands same ∙ mine.hand_is ∙ idle) ∙ is in absurd cc in
        (omega arith, omega arith, omega arith, put_else f.hands d (drew number b stamp) drawer apart ∙ is))
        (λ number' _ is. subst (λ (p : ℕ). IsLaid p number' f.palm) (let e : published n f.log ≡ n + (0 + given_in f.log) = omega arith in e) is)
        (f.cells e) (k.each_cell e low))

    -- the buffer is with the drawer now, and each other is where it was
    got_spots : (buffer : ℕ) → buffer < n → SpotOk n cells' f.seats f.giver (set s.views id got_view) buffer (spots' buffer)
    got_spots buffer low =
        put_cases (SpotOk n cells' f.seats f.giver (set s.views id got_view) buffer) f.spots b (with_drawer d) buffer
        (λ same. subst (AtSeat (set s.views id got_view) (Has buffer)) (sym mine.seat) (now_with s.views id (drawing desk hand) got_view at (Has buffer) (sym same)))
        (λ other. spot_stays n f.cells cells' f.seats f.giver s.views (set s.views id got_view) buffer
        (λ number' is. got_moves.cells_stay (number' % (2 * n)) (λ e. let both : waits number' buffer ≡ waits number b = sym is ∙ e in other cc) ∙ is)
        (still_with s.views id (drawing desk hand) got_view at (Has buffer) (λ had. absurd (subst (InHand buffer) idle had)))
        (f.spots buffer) (k.each_spot buffer low))

    got_queued : (i buffer : ℕ) → get_elem? (queue_of n (got ∷ f.log)) i ≡ some buffer → cells' ((drawn_in (got ∷ f.log) + i) % (2 * n)) ≡ waits (drawn_in (got ∷ f.log) + i) buffer
    got_queued i buffer seen =
        let before = k.each_queued (suc i) buffer (at_rest (queue_of n f.log) i buffer seen) in
        let same : number + suc i ≡ (1 + number) + i = omega arith in
        subst (λ (m : ℕ). cells' (m % (2 * n)) ≡ waits m buffer) same
        (got_moves.cells_stay ((number + suc i) % (2 * n)) (λ e. let both : waits (number + suc i) buffer ≡ waits number b = sym before ∙ e in let ns : number + suc i ≡ number = cc in omega arith) ∙ before)

    pub got_kept : Kept plan (stepped s 0 x id held got_view act) after_got
    got_kept =
        record {
          within = k.within;
          homes = length-set s.homes e₀ maybe.none ∙ k.homes;
          words = length-set s.words 0 x ∙ k.words;
          counts = get_or-set_same s.words 0 x 0 (let e = k.words in omega arith) ∙ x_is ∙ (let e : packed (published n f.log) (suc (drawn_in f.log)) ≡ packed (n + (0 + given_in f.log)) (1 + drawn_in f.log) = omega arith in e);
          lawful = (k.lawful, front_got (queue_of n f.log) b front);
          spent = (tt, k.spent);
          voids = (let a = count_cons is_missed (Got b) (events_of f.log) in let c = count_cons is_empty (Got b) (events_of f.log) in let v = k.voids in omega arith);
          gives = k.gives;
          each_cell = got_cells;
          each_queued = got_queued;
          each_hand = got_hands;
          in_palm = palm_stays n f.log (got ∷ []) f.cells cells' f.spots spots' f.hands hands' (suc d) (in_queue number) (waits number b) got_moves (omega arith) (λ e. cc) (λ number e. cc) f.palm k.in_palm;
          each_spot = got_spots;
          allowed =
              (let l = left_set s.views id (drawing desk hand) got_view at in
              let m = most_set s.views id (drawing desk hand) got_view at in
              record { ahead = omega (arith, k.allowed.ahead); life = omega (arith, k.allowed.life); most = omega (arith, k.allowed.most) });
          by_giver = ap length (answers_stay n f.log (got ∷ []) f.cells cells' f.spots spots' f.hands hands' (suc d) (in_queue number) (waits number b) got_moves 0 (λ e. omega arith)) ∙ (let e = k.by_giver in omega arith);
          all_made = ((let a = mine.active in let b = k.still_open in omega arith), k.all_made);
          still_open = k.still_open;
          unmade = λ d' high. put_else f.hands d (drew number b stamp) d' (λ same. let a = mine.active in let o = k.still_open in omega arith) ∙ k.unmade d' high;
          each_seat = got_seats;
        }

-- the step, whatever it finds
pub draws : (plan : Plan) (slots id : ℕ) (desk : DrawerSeat) (held : Held) → 1 ≤ desk.left
    → Allows (RingRule plan) slots id (drawing desk nothing, held) 0 (λ word. (word + ONE_DRAW) % 18446744073709551616) (did_draw (step slots 0 ONE_DRAW 0 maybe.none) (drawing desk nothing, held))
draws plan slots id desk held some_left s (f, k) wide at small =
    let n = plan.buffers in
    let ok = k.each_seat id (drawing desk nothing) at in
    let size : slots ≡ 2 * n = sym wide ∙ k.homes in
    let D = found_drawn plan s f k in
    let P = found_published plan s f k in
    let stamp = found_stamp plan s f k slots size in
    let more = one_more_drawn plan s f k id (drawing desk nothing) at some_left in
    let word = get_or s.words 0 0 in
    dite (dec_le (published n f.log) (drawn_in f.log))
    (λ none. (
      drawing (drawer_seat_after desk (length f.log) Empty) nothing,
      keeps,
      tt,
      (facts_after f (empty_by (suc desk.number) ∷ []) f.cells f.spots f.hands f.palm, empty_kept plan s f k id desk nothing at refl some_left none ((word + ONE_DRAW) % 18446744073709551616) more held),
      (length f.log, stamp, ok.floor, (λ less. absurd (omega arith)), (λ _. refl)),
    ))
    (λ some_wait.
    let ready : drawn_in f.log < published n f.log = omega arith in
    let first = first_there (queue_of n f.log) (let l = line plan s f k in omega arith) in
    let b = first.0 in
    let entry : drawn_in f.log % (2 * n) ≡ drawn_of word % slots = ap₂ (λ (h : ℕ) (m : ℕ). h % m) (sym D) (sym size) in (
      drawing (drawer_seat_after desk (length f.log) (Got b)) (drew (drawn_in f.log) b (length f.log)),
      takes (drawn_in f.log % (2 * n)) (Some (clear_chunk plan.size b)),
      full plan s f k id desk nothing at refl some_left ready ((word + ONE_DRAW) % 18446744073709551616) more held b first.1,
      (_, got_kept plan s f k id desk nothing at refl some_left ready ((word + ONE_DRAW) % 18446744073709551616) more held b first.1),
      (
        length f.log,
        stamp,
        ok.floor,
        (λ less. (
          b,
          ap₃ (λ (h : ℕ) (e : ℕ) (z : ℕ). let m : Me (Option Contents) View = (drawing (drawer_seat_after desk (length f.log) (Got b)) (drew h b (length f.log)), (e, Some (clear_chunk z b)) ∷ held) in m) (sym D) entry (sym ok.size),
        )),
        (λ void. absurd (omega arith)),
      ),
    ))
