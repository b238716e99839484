-- The giver publishes the number that it laid, or misses where the number was drawn before.
use Rattle.std.proofs.Common.{◌≡◌, ◌≢◌, ℕ, suc, ◌+◌, ◌*◌, ◌%◌, ◌<◌, ◌≤◌, List, [], ◌∷◌, length, set, get_or, Some, refl, sym, ap, ap₂, ◌∙◌, subst, inl, ⊎_elim, le_refl, arith, length-set, get_or-set_other, get_or-set_same}
use Rattle.hs_ring.proofs.Prelude.{add-mod_right, ℕ_discrete, dec_le, dite, some, get_elem?, Option, AllByRecursion, nil_from_length, step, keeps, gives, stepped, Allows, set_here, set_else, elem_push_cases, count_cons, ONE_GIVE, put, put_cases, put_here, put_else, Contents, clear_chunk, is_missed, is_empty, Deed, Answer, events_of, drawn_in, given_in, answer_to, answers_in, told_in, queue_of, answers_and, answers_below, are_answers_more, unread_more, given_kinds, Plan, Spot, in_queue, with_giver, GiverSeat, bare, lays, retakes, View, giving, giver_seat_after, Has, Cell, free, waits, laid, Facts, published, IsLaid, CellOk, PalmOk, SpotOk, PostOk, Knows, Kept, RingRule, packed, published_of, did_publish}
use mathlib.Core.Option as maybe
use Rattle.hs_words.specs.PoolHistory.{Given, Missed}
use Rattle.hs_words.specs.Ends.{answered, given_of, missed}
use Rattle.hs_words.specs.declared.token.TheConstants.{MAX_PUBLISHED}
use Rattle.hs_words.proofs.Deeds.{got_below}
use Rattle.hs_words.proofs.Waiting.{may_give}
use Rattle.hs_ring.proofs.Updates.{left_set, most_set}
use Rattle.hs_ring.proofs.Spots.{still_with, spot_stays}
use Rattle.hs_ring.proofs.Stays.{Moves, lease_stays, hand_stays, queued_stays, all_settled, cell_stays, facts_after, knows_stays}
use Rattle.hs_ring.proofs.Counting.{at_length, line, lap, few_drawn, found_drawn, found_published, found_stamp, one_more_published, entry_below, reseated}
use Rattle.hs_ring.proofs.Draws.{St, Held}
use Rattle.hs_ring.proofs.Takes.{ours, no_giver}
use Rattle.hs_ring.proofs.Lays.{next_is}

module _ (plan : Plan) (s : St) (f : Facts) (k : Kept plan s f) (id : ℕ) (post : GiverSeat) (b t : ℕ) (at : get_elem? s.views id ≡ some (giving post (lays b t))) (i : ℕ) (i_is : i ≡ published plan.buffers f.log % (2 * plan.buffers)) (held : Held)
    (x : ℕ) (x_is : x ≡ packed (suc (published plan.buffers f.log)) (drawn_in f.log)) where
  abbrev n : ℕ
  n = plan.buffers

  abbrev P : ℕ
  P = published n f.log

  abbrev own : PostOk plan f id post (lays b t)
  own = ours plan s f k id post (lays b t) at

  abbrev in_hand : PalmOk n f.log f.cells f.spots (lays b t)
  in_hand = subst (PalmOk n f.log f.cells f.spots) own.palm_is k.in_palm

  there : f.cells i ≡ laid P
  there = ap f.cells i_is ∙ in_hand.1

  i_low : i < 2 * n
  i_low = let less = entry_below plan s f k P in omega arith

  was_ok : CellOk n plan.size f.log f.spots f.hands f.palm i (get_or s.words (suc i) 0) (get_elem? s.homes i) (laid P)
  was_ok = subst (CellOk n plan.size f.log f.spots f.hands f.palm i (get_or s.words (suc i) 0) (get_elem? s.homes i)) there (k.each_cell i i_low)

  pub below_stamp : t < length f.log
  below_stamp = got_below f.log t b in_hand.0.1

  -- the lap ends before the number comes round again
  not_round : (e number : ℕ) → e ≢ i → e ≡ number % (2 * n) → P ≤ number + 2 * n → suc P ≤ number + 2 * n
  not_round e number other here lapped =
      let far : number + 2 * n ≢ P = λ same. other (here ∙ sym (add-mod_right number (2 * n)) ∙ ap (λ (m : ℕ). m % (2 * n)) same ∙ sym i_is) in omega arith

  -- ---- the number was not drawn yet
  module _ (in_time : drawn_in f.log ≤ P) where
    abbrev deed : Deed
    deed = given_of b t

    abbrev cells' : ℕ → Cell
    cells' = put f.cells i (waits P b)

    abbrev spots' : ℕ → Spot
    spots' = put f.spots b (in_queue P)

    abbrev after_give : Facts
    after_give = facts_after f (deed ∷ []) cells' spots' f.hands bare

    not_b : (b' : ℕ) → f.spots b' ≢ with_giver → b' ≢ b
    not_b b' far same = far (ap f.spots same ∙ in_hand.0.0)

    give_moves : Moves f.log (deed ∷ []) f.cells cells' f.spots spots' f.hands f.hands 0 with_giver (laid P)
    give_moves =
        record {
          by = (refl, tt);
          names = λ b' far. ((λ e. not_b b' far (sym e)), tt);
          spots_stay = λ b' far. put_else f.spots b (in_queue P) b' (not_b b' far);
          cells_stay = λ e far. put_else f.cells i (waits P b) e (λ same. far (ap f.cells same ∙ there));
          hands_stay = λ _ _. refl;
          fresh = λ d number buffer stamp is. inl is;
        }

    -- the buffer does not wait yet
    waits_not : (a : ℕ) → get_elem? (queue_of n f.log) a ≡ some b → ⊥
    waits_not a seen =
        let h = drawn_in f.log + a in
        let e = h % (2 * n) in
        let ok : CellOk n plan.size f.log f.spots f.hands f.palm e (get_or s.words (suc e) 0) (get_elem? s.homes e) (waits h b) =
        subst (CellOk n plan.size f.log f.spots f.hands f.palm e (get_or s.words (suc e) 0) (get_elem? s.homes e)) (k.each_queued a b seen) (k.each_cell e (entry_below plan s f k h)) in
        let both : in_queue h ≡ with_giver = sym ok.5 ∙ in_hand.0.0 in
        absurd cc

    abbrev answer : Answer
    answer = record { stamp = length f.log; event = Given b; draw = t }

    abbrev post' : GiverSeat
    post' = giver_seat_after post (answered answer) (suc (length f.log)) post.misses

    give_ours : PostOk plan after_give id post' bare
    give_ours =
        record {
          size = own.size;
          seat = own.seat;
          palm_is = refl;
          made = own.made;
          closed = own.closed;
          closed_answers = are_answers_more (deed ∷ []) f.log (suc f.opened) post.closed ((let less : 0 < suc f.opened = omega arith in less), tt) own.closed_answers;
          answers = ap (λ (l : List Answer). answer_to deed (length f.log) ∷ l) own.answers ∙ sym (answers_and deed f.log 0 refl);
          misses = own.misses ∙ (let c = count_cons is_missed (Given b) (events_of f.log) in omega arith);
          floor = le_refl (suc (length f.log));
          unread = unread_more n (deed ∷ []) f.log post.turns (subst (AllByRecursion (λ (a : Answer). a.stamp < length f.log)) (sym own.answers) (answers_below f.log 0)) own.unread;
          told = all_settled n f.log (deed ∷ []) f.cells cells' f.spots spots' f.hands f.hands 0 with_giver (laid P) give_moves (told_in post.turns) own.told;
        }

    abbrev w : View
    w = giving post' bare

    give_seats : (j : ℕ) (v : View) → get_elem? (set s.views id w) j ≡ some v → Knows plan after_give j v
    give_seats = reseated plan after_give s.views id w give_ours
        (λ j v other seen. knows_stays plan f (deed ∷ []) cells' spots' f.hands bare 0 with_giver (laid P) give_moves j (λ d _ e. omega arith) (λ e. cc)
        (no_giver plan s f k id post (lays b t) at (deed ∷ []) cells' spots' f.hands bare j other) v (k.each_seat j v seen))

    abbrev homes' : List (maybe.Option (Option Contents))
    homes' = set s.homes i (some (Some (clear_chunk plan.size b)))

    give_cells : (e : ℕ) → e < 2 * n → CellOk n plan.size (deed ∷ f.log) spots' f.hands bare e (get_or (set s.words 0 x) (suc e) 0) (get_elem? homes' e) (cells' e)
    give_cells e low =
        let word = get_or-set_other s.words 0 (suc e) x 0 (λ e. omega arith) in
        put_cases (CellOk n plan.size (deed ∷ f.log) spots' f.hands bare e (get_or (set s.words 0 x) (suc e) 0) (get_elem? homes' e)) f.cells i (waits P b) e
        (λ same. (
          same ∙ i_is,
          word ∙ ap (λ (j : ℕ). get_or s.words (suc j) 0) same ∙ was_ok.1,
          ap (get_elem? homes') same ∙ set_here s.homes i (some (Some (clear_chunk plan.size b))) (let h = k.homes in let l = i_low in omega arith),
          omega arith,
          omega arith,
          put_here f.spots b (in_queue P),
        ))
        (λ other. cell_stays n plan.size f.log (deed ∷ f.log) f.spots spots' f.hands f.hands f.palm bare e (get_or s.words (suc e) 0) (get_or (set s.words 0 x) (suc e) 0) (get_elem? s.homes e) (get_elem? homes' e)
        word (set_else s.homes i e (some (Some (clear_chunk plan.size b))) other)
        (λ number buffer here above below is.
        (omega arith, omega arith, put_else f.spots b (in_queue P) buffer (λ same. let both : in_queue number ≡ with_giver = sym is ∙ ap f.spots same ∙ in_hand.0.0 in absurd cc) ∙ is))
        (λ number buffer drawer stamp here above below lapped is.
        let round = not_round e number other here lapped in
        (omega arith, omega arith, omega arith, is))
        (λ number here is.
        let same : number ≡ P = subst (IsLaid P number) own.palm_is is in
        absurd (other (here ∙ ap (λ (m : ℕ). m % (2 * n)) same ∙ sym i_is)))
        (f.cells e) (k.each_cell e low))

    -- the buffer waits now, and each other is where it was
    give_spots : (buffer : ℕ) → buffer < n → SpotOk n cells' f.seats f.giver (set s.views id w) buffer (spots' buffer)
    give_spots buffer low =
        put_cases (SpotOk n cells' f.seats f.giver (set s.views id w) buffer) f.spots b (in_queue P) buffer
        (λ same. ap cells' (sym i_is) ∙ put_here f.cells i (waits P b) ∙ ap (waits P) (sym same))
        (λ other. spot_stays n f.cells cells' f.seats f.giver s.views (set s.views id w) buffer
        (λ number is. queued_stays n f.log (deed ∷ []) f.cells cells' f.spots spots' f.hands f.hands 0 with_giver (laid P) give_moves (λ number buffer e. cc) _ _ buffer is)
        (still_with s.views id (giving post (lays b t)) w at (Has buffer) (λ one. other (sym one)))
        (f.spots buffer) (k.each_spot buffer low))

    give_queued : (a buffer : ℕ) → get_elem? (queue_of n (deed ∷ f.log)) a ≡ some buffer → cells' ((drawn_in (deed ∷ f.log) + a) % (2 * n)) ≡ waits (drawn_in (deed ∷ f.log) + a) buffer
    give_queued a buffer seen =
        let same : drawn_in f.log + a ≡ (0 + drawn_in f.log) + a = omega arith in
        subst (λ (m : ℕ). cells' (m % (2 * n)) ≡ waits m buffer) same
        (⊎_elim
        (λ old. queued_stays n f.log (deed ∷ []) f.cells cells' f.spots spots' f.hands f.hands 0 with_giver (laid P) give_moves (λ number buffer e. cc) _ _ buffer (k.each_queued a buffer old))
        (λ (new : (a ≡ length (queue_of n f.log)) × (b ≡ buffer)).
        let all : drawn_in f.log + a ≡ P = (let l = line plan s f k in let e = new.0 in omega arith) in
        subst (λ (m : ℕ). cells' (m % (2 * n)) ≡ waits m buffer) (sym all) (ap cells' (sym i_is) ∙ put_here f.cells i (waits P b) ∙ ap (waits P) new.1))
        (elem_push_cases (queue_of n f.log) b buffer a seen))

    pub give_kept : Kept plan (stepped s 0 x id ((i, Some (clear_chunk plan.size b)) ∷ held) w gives) after_give
    give_kept =
        record {
          within = k.within;
          homes = length-set s.homes i (some (Some (clear_chunk plan.size b))) ∙ k.homes;
          words = length-set s.words 0 x ∙ k.words;
          counts = get_or-set_same s.words 0 x 0 (let e = k.words in omega arith) ∙ x_is ∙ (let e : packed (suc P) (drawn_in f.log) ≡ packed (n + (1 + given_in f.log)) (0 + drawn_in f.log) = omega arith in e);
          lawful = (k.lawful, may_give n b (events_of f.log) k.lawful in_hand.0.3 waits_not);
          spent = ((in_hand.0.1, in_hand.0.2), k.spent);
          voids = (let a = count_cons is_missed (Given b) (events_of f.log) in let c = count_cons is_empty (Given b) (events_of f.log) in let v = k.voids in omega arith);
          gives = ((let v = k.voids in omega arith), k.gives);
          each_cell = give_cells;
          each_queued = give_queued;
          each_hand = λ d. hand_stays n f.log (deed ∷ []) f.cells cells' f.spots spots' f.hands f.hands 0 with_giver (laid P) give_moves d (λ e. omega arith) (λ e. cc) (λ number buffer e. cc) (f.hands d) (k.each_hand d);
          in_palm = tt;
          each_spot = give_spots;
          allowed =
              (let l = left_set s.views id (giving post (lays b t)) w at in
              let m = most_set s.views id (giving post (lays b t)) w at in
              record { ahead = omega (arith, k.allowed.ahead); life = omega (arith, k.allowed.life); most = omega (arith, k.allowed.most) });
          by_giver = ap length (answers_and deed f.log 0 refl) ∙ (let e = k.by_giver in omega arith);
          all_made = ((let z : 0 ≤ f.made = omega arith in z), k.all_made);
          still_open = k.still_open;
          unmade = k.unmade;
          each_seat = give_seats;
        }

    -- the number is not the last that a giver may publish
    pub room : P < MAX_PUBLISHED
    room = omega (arith, lap plan (stepped s 0 x id ((i, Some (clear_chunk plan.size b)) ∷ held) w gives) after_give give_kept, few_drawn plan s f k, k.within.few)

  -- ---- the number was drawn before
  module _ (late : P < drawn_in f.log) where
    abbrev after_miss : Facts
    after_miss = facts_after f (missed ∷ []) f.cells f.spots f.hands (retakes b t)

    miss_moves : Moves f.log (missed ∷ []) f.cells f.cells f.spots f.spots f.hands f.hands 0 (in_queue 0) free
    miss_moves =
        record {
          by = (refl, tt);
          names = λ _ _. ((λ no. no), tt);
          spots_stay = λ _ _. refl;
          cells_stay = λ _ _. refl;
          hands_stay = λ _ _. refl;
          fresh = λ d number buffer stamp is. inl is;
        }

    nothing_waits : queue_of n f.log ≡ []
    nothing_waits = nil_from_length (queue_of n f.log) (let l = line plan s f k in omega arith)

    abbrev miss : Answer
    miss = record { stamp = length f.log; event = Missed; draw = 0 }

    abbrev missed_post : GiverSeat
    missed_post = giver_seat_after post (answered miss) (suc (length f.log)) (suc post.misses)

    miss_ours : PostOk plan after_miss id missed_post (retakes b t)
    miss_ours =
        record {
          size = own.size;
          seat = own.seat;
          palm_is = refl;
          made = own.made;
          closed = own.closed;
          closed_answers = are_answers_more (missed ∷ []) f.log (suc f.opened) post.closed ((let less : 0 < suc f.opened = omega arith in less), tt) own.closed_answers;
          answers = ap (λ (l : List Answer). answer_to missed (length f.log) ∷ l) own.answers ∙ sym (answers_and missed f.log 0 refl);
          misses = (let c = count_cons is_missed Missed (events_of f.log) in let m = own.misses in omega arith);
          floor = le_refl (suc (length f.log));
          unread = unread_more n (missed ∷ []) f.log post.turns (subst (AllByRecursion (λ (a : Answer). a.stamp < length f.log)) (sym own.answers) (answers_below f.log 0)) own.unread;
          told = all_settled n f.log (missed ∷ []) f.cells f.cells f.spots f.spots f.hands f.hands 0 (in_queue 0) free miss_moves (told_in post.turns) own.told;
        }

    abbrev w₂ : View
    w₂ = giving missed_post (retakes b t)

    miss_seats : (j : ℕ) (v : View) → get_elem? (set s.views id w₂) j ≡ some v → Knows plan after_miss j v
    miss_seats = reseated plan after_miss s.views id w₂ miss_ours
        (λ j v other seen. knows_stays plan f (missed ∷ []) f.cells f.spots f.hands (retakes b t) 0 (in_queue 0) free miss_moves j (λ d _ e. omega arith) (λ e. cc)
        (no_giver plan s f k id post (lays b t) at (missed ∷ []) f.cells f.spots f.hands (retakes b t) j other) v (k.each_seat j v seen))

    miss_cells : (e : ℕ) → e < 2 * n → CellOk n plan.size (missed ∷ f.log) f.spots f.hands (retakes b t) e (get_or (set s.words 0 x) (suc e) 0) (get_elem? s.homes e) (f.cells e)
    miss_cells e low =
        let word = get_or-set_other s.words 0 (suc e) x 0 (λ e. omega arith) in
        dite (ℕ_discrete e i)
        (λ same. subst (CellOk n plan.size (missed ∷ f.log) f.spots f.hands (retakes b t) e (get_or (set s.words 0 x) (suc e) 0) (get_elem? s.homes e)) (sym (ap f.cells same ∙ there)) (
          same ∙ i_is,
          word ∙ ap (λ (j : ℕ). get_or s.words (suc j) 0) same ∙ was_ok.1,
          ap (get_elem? s.homes) same ∙ was_ok.2,
          (let e : suc P ≡ n + (1 + given_in f.log) = omega arith in e),
        ))
        (λ other. cell_stays n plan.size f.log (missed ∷ f.log) f.spots f.spots f.hands f.hands f.palm (retakes b t) e (get_or s.words (suc e) 0) (get_or (set s.words 0 x) (suc e) 0) (get_elem? s.homes e) (get_elem? s.homes e)
        word refl
        (λ number buffer here above below is. absurd (omega arith))
        (λ number buffer drawer stamp here above below lapped is.
        let round = not_round e number other here lapped in
        (omega arith, omega arith, omega arith, is))
        (λ number here is.
        let same : number ≡ P = subst (IsLaid P number) own.palm_is is in
        absurd (other (here ∙ ap (λ (m : ℕ). m % (2 * n)) same ∙ sym i_is)))
        (f.cells e) (k.each_cell e low))

    pub miss_kept : Kept plan (stepped s 0 x id ((i, Some (clear_chunk plan.size b)) ∷ held) w₂ keeps) after_miss
    miss_kept =
        record {
          within = k.within;
          homes = k.homes;
          words = length-set s.words 0 x ∙ k.words;
          counts = get_or-set_same s.words 0 x 0 (let e = k.words in omega arith) ∙ x_is ∙ (let e : packed (suc P) (drawn_in f.log) ≡ packed (n + (1 + given_in f.log)) (0 + drawn_in f.log) = omega arith in e);
          lawful = (k.lawful, (nothing_waits, (let v = k.voids in omega arith)));
          spent = (tt, k.spent);
          voids = (let a = count_cons is_missed Missed (events_of f.log) in let c = count_cons is_empty Missed (events_of f.log) in let v = k.voids in omega arith);
          gives = k.gives;
          each_cell = miss_cells;
          each_queued = λ a buffer seen. absurd (let less = at_length (queue_of n f.log) a buffer seen in let l = line plan s f k in omega arith);
          each_hand = λ d. hand_stays n f.log (missed ∷ []) f.cells f.cells f.spots f.spots f.hands f.hands 0 (in_queue 0) free miss_moves d (λ e. omega arith) (λ e. cc) (λ number buffer e. cc) (f.hands d) (k.each_hand d);
          in_palm = (lease_stays n f.log (missed ∷ []) f.cells f.cells f.spots f.spots f.hands f.hands 0 (in_queue 0) free miss_moves b t with_giver (λ e. cc) in_hand.0, (P, (let e : suc P ≡ n + (1 + given_in f.log) = omega arith in e), in_hand.1));
          each_spot = λ buffer low.
              spot_stays n f.cells f.cells f.seats f.giver s.views (set s.views id w₂) buffer (λ number is. is) (still_with s.views id (giving post (lays b t)) w₂ at (Has buffer) (λ had. had)) (f.spots buffer) (k.each_spot buffer low);
          allowed =
              (let l = left_set s.views id (giving post (lays b t)) w₂ at in
              let m = most_set s.views id (giving post (lays b t)) w₂ at in
              record { ahead = omega (arith, k.allowed.ahead); life = omega (arith, k.allowed.life); most = omega (arith, k.allowed.most) });
          by_giver = ap length (answers_and missed f.log 0 refl) ∙ (let e = k.by_giver in omega arith);
          all_made = ((let z : 0 ≤ f.made = omega arith in z), k.all_made);
          still_open = k.still_open;
          unmade = k.unmade;
          each_seat = miss_seats;
        }

-- the step, whatever it finds
pub publishes : (plan : Plan) (slots id : ℕ) (post : GiverSeat) (b t number i : ℕ) (held : Held) → 2 * number ≡ slots + 2 * length (answers_in post.turns) → i ≡ number % slots
    → Allows (RingRule plan) slots id (giving post (lays b t), (i, Some (clear_chunk post.size b)) ∷ held) 0 (λ word. (word + ONE_GIVE) % 18446744073709551616)
    (did_publish (step slots 0 ONE_GIVE 0 maybe.none) (giving post (lays b t), (i, Some (clear_chunk post.size b)) ∷ held))
publishes plan slots id post b t number i held next is s (f, k) wide at small =
    let n = plan.buffers in
    let ok = ours plan s f k id post (lays b t) at in
    let size : slots ≡ 2 * n = sym wide ∙ k.homes in
    let number_is : number ≡ published n f.log = next_is plan s f k id post (lays b t) ok number (next ∙ ap (λ (m : ℕ). m + 2 * length (answers_in post.turns)) (sym wide)) in
    let i_is : i ≡ published n f.log % (2 * n) = is ∙ ap₂ (λ (h : ℕ) (m : ℕ). h % m) number_is size in
    let D = found_drawn plan s f k in
    let P = found_published plan s f k in
    let stamp = found_stamp plan s f k slots size in
    let more = one_more_published plan s f k in
    let word = get_or s.words 0 0 in
    let x = (word + ONE_GIVE) % 18446744073709551616 in
    let counted : 2 * published_of (get_or s.words 0 0) ≡ slots + 2 * length (answers_in post.turns) = ap (λ (m : ℕ). 2 * m) (P ∙ sym number_is) ∙ next in
    let few : post.misses ≤ published_of (get_or s.words 0 0) = (let g = given_kinds f.log in let m = ok.misses in omega arith) in
    let above = below_stamp plan s f k id post b t at i i_is held x more in
    dite (dec_le (drawn_in f.log) (published n f.log))
    (λ in_time. (
      giving (giver_seat_after post (answered (record { stamp = length f.log; event = Given b; draw = t })) (suc (length f.log)) post.misses) bare,
      gives,
      tt,
      (
        after_give plan s f k id post b t at i i_is held x more in_time,
        subst (λ (z : ℕ). Kept plan (stepped s 0 x id ((i, Some (clear_chunk z b)) ∷ held) (giving (giver_seat_after post (answered (record { stamp = length f.log; event = Given b; draw = t })) (suc (length f.log)) post.misses) bare) gives) (after_give plan s f k id post b t at i i_is held x more in_time)) (sym ok.size)
            (give_kept plan s f k id post b t at i i_is held x more in_time),
      ),
      (length f.log, stamp, ok.floor, above, counted, few, omega (arith, room plan s f k id post b t at i i_is held x more in_time), (λ _. refl), (λ late. absurd (omega arith))),
    ))
    (λ not_in_time.
    let late : published n f.log < drawn_in f.log = omega arith in (
      giving (giver_seat_after post (answered (record { stamp = length f.log; event = Missed; draw = 0 })) (suc (length f.log)) (suc post.misses)) (retakes b t),
      keeps,
      tt,
      (_, miss_kept plan s f k id post b t at i i_is held x more late),
      (length f.log, stamp, ok.floor, above, counted, few, omega (arith, few_drawn plan s f k), (λ in_time. absurd (omega arith)), (λ _. refl)),
    ))
