-- How a locked pool begins, and the making and the closing of its drawers.
use Rattle.std.proofs.Common.{◌≡◌, ◌≢◌, ℕ, zero, suc, ◌+◌, ◌*◌, ◌<◌, ◌≤◌, List, [], ◌∷◌, ◌++◌, length, set, refl, sym, ap, ◌∙◌, subst, ⊎_elim, zero-le, arith, length-set, ◌-◌}
use Rattle.hs_locked.proofs.Prelude.{some, some-injective, some-ne-none, get_elem?, ℕ_discrete, range_with_len, opening, Splits, Joins, at_set, set_else, still_with, with_more, Deed, Answer, AreAnswers, all_of, total, Plan, Within, in_queue, Store, DrawerSeat, nothing, GiverSeat, bare, Stand, away, queued, inside, closing, View, nobody, drawing, leasing, giving, drawer_note, giver_note, new_drawer, having_closed, Has, HasStore, all_left, home, Facts, StoreOk, StandOk, DeskOk, PostOk, Knows, Kept, LockedRule, first_giver_seat, first_view}
use Rattle.hs_words.proofs.Deeds.{no_answers}
use Rattle.hs_words.proofs.Plans.{total_parts}
use Rattle.hs_locked.specs.Views.{with_drawer}
use Rattle.hs_locked.proofs.Updates.{put, put_here, put_else, left_set, left_and}
use Rattle.hs_locked.proofs.Spots.{spot_stays, out_stays}
use Rattle.hs_locked.proofs.Stays.{reseated, seated_too}
use Rattle.hs_locked.proofs.Turns.{St}
use Rattle.hs_locked.proofs.Places.{spot_reseated}

-- ---- a drawer is made

module _ (plan : Plan) (s : St) (f : Facts) (k : Kept plan s f) (id : ℕ) (post : GiverSeat) (at : get_elem? s.views id ≡ some (giving post bare away)) (none_closed : post.closed ≡ []) where
  own : PostOk plan f id post bare away
  own = k.each_seat id (giving post bare away) at

  abbrev w : View
  w = with_drawer (giving post bare away)

  abbrev new : View
  new = new_drawer (giving post bare away)

  abbrev seats' : ℕ → ℕ
  seats' = put f.seats f.made (length s.views)

  abbrev f' : Facts
  f' =
      record {
        log = f.log;
        tickets = f.tickets;
        holder = f.holder;
        stored = f.stored;
        slot = f.slot;
        stands = f.stands;
        spots = f.spots;
        hands = f.hands;
        seats = seats';
        palm = f.palm;
        giver = f.giver;
        made = suc f.made;
        opened = suc f.opened;
      }

  all_open : f.opened ≡ f.made
  all_open = let c = own.closed in let z : length post.closed ≡ 0 = ap (λ (l : List (List Answer)). length l) none_closed in omega arith

  others : (j : ℕ) (v : View) → j ≢ id → Knows plan f j v → Knows plan f' j v
  others j nobody far known = tt
  others j (drawing desk hand stand) far known =
      record {
        buffers = known.buffers;
        size = known.size;
        active = (let a = known.active in omega arith);
        seat = put_else f.seats f.made (length s.views) desk.number (λ same. let a = known.active in let o = k.still_open in omega arith) ∙ known.seat;
        hand_is = known.hand_is;
        stand_is = known.stand_is;
        answers = known.answers;
        floor = known.floor;
      }
  others j (leasing buffer draw) far known = known
  others j (giving post' mine stand) far known = absurd (far (sym known.seat ∙ own.seat))
  others j (drawer_note floor stamps) far known = known
  others j (giver_note floor) far known = known

  ours' : Knows plan f' id w
  ours' =
      record {
        buffers = own.buffers;
        size = own.size;
        seat = own.seat;
        palm_is = own.palm_is;
        stand_is = own.stand_is;
        made = ap suc own.made;
        closed = (let c = own.closed in omega arith);
        closed_answers = subst (AreAnswers (suc (suc f.opened)) f.log) (sym none_closed) tt;
        answers = own.answers;
        floor = own.floor;
        unread = own.unread;
      }

  idle : (f.hands post.made ≡ nothing) × (f.stands (suc post.made) ≡ away)
  idle = k.gone post.made (let m = own.made in let o = all_open in omega arith)

  theirs : Knows plan f' (length (set s.views id w)) new
  theirs =
      record {
        buffers = own.buffers;
        size = own.size;
        active = (let a = all_open in let m = own.made in omega arith);
        seat = ap seats' own.made ∙ put_here f.seats f.made (length s.views) ∙ sym (length-set s.views id w);
        hand_is = idle.0;
        stand_is = idle.1;
        answers = sym (no_answers f.log f.made (suc post.made) (let m = own.made in omega arith) k.all_made);
        floor = zero-le;
      }

  -- nobody has the store for good while drawers are made
  stand_made : (e : ℕ) (st : Stand) → f.stands e ≡ st → StandOk f e st → StandOk f' e st
  stand_made e away is ok = tt
  stand_made e (queued t) is ok = ok
  stand_made e (inside store) is ok = ok
  stand_made e (closing store) is ok = let both : away ≡ closing store = sym own.stand_is ∙ ap f.stands (sym ok.1) ∙ is in absurd cc

  pub made_kept : Kept plan record { words = s.words; homes = s.homes; views = set s.views id w ++ new ∷ [] } f'
  made_kept =
      record {
        within = k.within;
        homes = k.homes;
        words = k.words;
        taken = k.taken;
        turn = k.turn;
        ahead = k.ahead;
        store_ok = k.store_ok;
        slot_ok = k.slot_ok;
        out_ok = out_stays (get_elem? s.homes 0) s.views (set s.views id w ++ new ∷ []) f.stored
            (λ j has. with_more (set s.views id w) new (HasStore f.stored) j (still_with s.views id (giving post bare away) w at (HasStore f.stored) (λ none. none) j has)) f.slot k.out_ok;
        spent = k.spent;
        each_queued = k.each_queued;
        each_hand = k.each_hand;
        in_palm = k.in_palm;
        each_spot = λ buffer low.
            spot_reseated plan s f k buffer seats' (set s.views id w ++ new ∷ []) (λ drawer low. put_else f.seats f.made (length s.views) drawer (λ same. let o = k.still_open in omega arith))
            (λ j had. with_more (set s.views id w) new (Has buffer) j (still_with s.views id (giving post bare away) w at (Has buffer) (λ none. none) j had)) low;
        each_stand = λ e. stand_made e (f.stands e) refl (k.each_stand e);
        left =
            (let e = left_set s.views id (giving post bare away) w at in
            let a = left_and (set s.views id w) new in
            let t = total_parts post.spare in
            let l = k.left in
            let r : f.tickets + all_left (set s.views id w ++ new ∷ []) ≤ 2 * total plan.allowances = omega arith in
            r);
        all_made = all_of f.log (λ (d : Deed) (le : d.by ≤ f.made). omega arith) k.all_made;
        still_open = (let o = k.still_open in omega arith);
        gone = λ d high. k.gone d (omega arith);
        each_seat = seated_too plan f' (set s.views id w) new theirs (reseated plan f' s.views id w ours' (λ j v other seen. others j v other (k.each_seat j v seen)));
      }

pub makes_drawer : (plan : Plan) (id : ℕ) (post : GiverSeat) → post.closed ≡ [] → Splits (LockedRule plan) id (giving post bare away) (with_drawer (giving post bare away)) (new_drawer (giving post bare away))
makes_drawer plan id post none_closed s (f, k) at = (_, made_kept plan s f k id post at none_closed)

-- ---- a drawer is closed

module _ (plan : Plan) (s : St) (f : Facts) (k : Kept plan s f) (id : ℕ) (post : GiverSeat) (other : ℕ) (desk : DrawerSeat) (at : get_elem? s.views id ≡ some (giving post bare away)) (differ : ¬ (other ≡ id))
    (desk_at : get_elem? (set s.views id (having_closed (giving post bare away) (drawing desk nothing away))) other ≡ some (drawing desk nothing away)) (last : suc desk.number + length post.closed ≡ post.made) where
  own₁ : PostOk plan f id post bare away
  own₁ = k.each_seat id (giving post bare away) at

  abbrev w₁ : View
  w₁ = having_closed (giving post bare away) (drawing desk nothing away)

  theirs₁ : DeskOk plan f other desk nothing away
  theirs₁ = k.each_seat other (drawing desk nothing away) (sym (set_else s.views id other w₁ differ) ∙ desk_at)

  abbrev f₁ : Facts
  f₁ =
      record {
        log = f.log;
        tickets = f.tickets;
        holder = f.holder;
        stored = f.stored;
        slot = f.slot;
        stands = f.stands;
        spots = f.spots;
        hands = f.hands;
        seats = f.seats;
        palm = f.palm;
        giver = f.giver;
        made = f.made;
        opened = desk.number;
      }

  last_open : f.opened ≡ suc desk.number
  last_open = let c = own₁.closed in let m = own₁.made in omega arith

  rest₁ : (j : ℕ) (v : View) → j ≢ id → j ≢ other → Knows plan f j v → Knows plan f₁ j v
  rest₁ j nobody far apart known = tt
  rest₁ j (drawing desk' hand' stand') far apart known =
      record {
        buffers = known.buffers;
        size = known.size;
        active =
            (let a = known.active in
            let l = last_open in
            let differs : desk'.number ≢ desk.number = λ same. apart (sym known.seat ∙ ap f.seats same ∙ theirs₁.seat) in
            omega arith);
        seat = known.seat;
        hand_is = known.hand_is;
        stand_is = known.stand_is;
        answers = known.answers;
        floor = known.floor;
      }
  rest₁ j (leasing buffer draw) far apart known = known
  rest₁ j (giving post' mine stand') far apart known = absurd (far (sym known.seat ∙ own₁.seat))
  rest₁ j (drawer_note floor stamps) far apart known = known
  rest₁ j (giver_note floor) far apart known = known

  ours₁ : Knows plan f₁ id w₁
  ours₁ =
      record {
        buffers = own₁.buffers;
        size = own₁.size;
        seat = own₁.seat;
        palm_is = own₁.palm_is;
        stand_is = own₁.stand_is;
        made = own₁.made;
        closed = (let c = own₁.closed in let l = last_open in omega arith);
        closed_answers = (theirs₁.answers, subst (λ (o : ℕ). AreAnswers (suc o) f.log post.closed) last_open own₁.closed_answers);
        answers = own₁.answers;
        floor = own₁.floor;
        unread = own₁.unread;
      }

  stand_closed : (e : ℕ) (st : Stand) → StandOk f e st → StandOk f₁ e st
  stand_closed e away ok = tt
  stand_closed e (queued t) ok = ok
  stand_closed e (inside store) ok = ok
  stand_closed e (closing store) ok = absurd (let z = ok.0 in let l = last_open in omega arith)

  -- the drawer that is closed has nothing and waits for nothing
  gone₁ : (d : ℕ) → desk.number ≤ d → Dec (d ≡ desk.number) → (f.hands d ≡ nothing) × (f.stands (suc d) ≡ away)
  gone₁ d high (yes same) = (ap f.hands same ∙ theirs₁.hand_is, ap (λ (e : ℕ). f.stands (suc e)) same ∙ theirs₁.stand_is)
  gone₁ d high (no differs) = k.gone d (let l = last_open in omega arith)

  pub closed_kept : Kept plan record { words = s.words; homes = s.homes; views = set (set s.views id w₁) other nobody } f₁
  closed_kept =
      record {
        within = k.within;
        homes = k.homes;
        words = k.words;
        taken = k.taken;
        turn = k.turn;
        ahead = k.ahead;
        store_ok = k.store_ok;
        slot_ok = k.slot_ok;
        out_ok = out_stays (get_elem? s.homes 0) s.views (set (set s.views id w₁) other nobody) f.stored
            (λ j has. still_with (set s.views id w₁) other (drawing desk nothing away) nobody desk_at (HasStore f.stored) (λ none. none) j (still_with s.views id (giving post bare away) w₁ at (HasStore f.stored) (λ none. none) j has)) f.slot k.out_ok;
        spent = k.spent;
        each_queued = k.each_queued;
        each_hand = k.each_hand;
        in_palm = k.in_palm;
        each_spot = λ buffer low.
            spot_stays plan.buffers f.log f.log f.seats f.giver s.views (set (set s.views id w₁) other nobody) buffer (λ number is. is)
            (λ j had. still_with (set s.views id w₁) other (drawing desk nothing away) nobody desk_at (Has buffer) (λ none. none) j (still_with s.views id (giving post bare away) w₁ at (Has buffer) (λ none. none) j had))
            (f.spots buffer) (k.each_spot buffer low);
        each_stand = λ e. stand_closed e (f.stands e) (k.each_stand e);
        left =
            (let e = left_set s.views id (giving post bare away) w₁ at in
            let e' = left_set (set s.views id w₁) other (drawing desk nothing away) nobody desk_at in
            let l = k.left in
            let r : f.tickets + all_left (set (set s.views id w₁) other nobody) ≤ 2 * total plan.allowances = omega arith in
            r);
        all_made = k.all_made;
        still_open = (let o = k.still_open in let l = last_open in omega arith);
        gone = λ d high. gone₁ d high (ℕ_discrete d desk.number);
        each_seat = reseated plan f₁ (set s.views id w₁) other nobody tt
            (λ j v apart seen. ⊎_elim
            (λ (here : (j ≡ id) × (w₁ ≡ v)). subst (λ (x : View). Knows plan f₁ j x) here.1 (subst (λ (i : ℕ). Knows plan f₁ i w₁) (sym here.0) ours₁))
            (λ (else : (j ≢ id) × (get_elem? s.views j ≡ some v)). rest₁ j v else.0 apart (k.each_seat j v else.1))
            (at_set s.views id j w₁ v seen));
      }

pub closes_drawer : (plan : Plan) (id : ℕ) (post : GiverSeat) (other : ℕ) (desk : DrawerSeat) → suc desk.number + length post.closed ≡ post.made
    → Joins (LockedRule plan) id (giving post bare away) other (drawing desk nothing away) (having_closed (giving post bare away) (drawing desk nothing away)) nobody
closes_drawer plan id post other desk last s (f, k) at differ desk_at = (_, closed_kept plan s f k id post other desk at differ desk_at last)

-- ---- the start

range_at : (a n i buffer : ℕ) → get_elem? (range_with_len a n) i ≡ some buffer → buffer ≡ a + i
range_at a zero i buffer seen = absurd (some-ne-none buffer (sym seen))
range_at a (suc n) zero buffer seen = let e = some-injective a buffer seen in omega arith
range_at a (suc n) (suc i) buffer seen = let r = range_at (a + 1) n i buffer seen in omega arith

range_there : (a n i : ℕ) → i < n → get_elem? (range_with_len a n) i ≡ some (a + i)
range_there a zero i low = absurd (omega arith)
range_there a (suc n) zero low = ap some (let e : a ≡ a + 0 = omega arith in e)
range_there a (suc n) (suc i) low = range_there (a + 1) n i (omega arith) ∙ ap some (let e : a + 1 + i ≡ a + suc i = omega arith in e)

module _ (plan : Plan) (within : Within plan) (store : Store) (ok : StoreOk plan [] store) where
  abbrev f₀ : Facts
  f₀ =
      record {
        log = [];
        tickets = 0;
        holder = λ _. 0;
        stored = store;
        slot = home;
        stands = λ _. away;
        spots = in_queue;
        hands = λ _. nothing;
        seats = λ _. 0;
        palm = bare;
        giver = 0;
        made = 0;
        opened = 0;
      }

  post₀ : PostOk plan f₀ 0 (first_giver_seat plan) bare away
  post₀ =
      record {
        buffers = refl;
        size = refl;
        seat = refl;
        palm_is = refl;
        stand_is = refl;
        made = refl;
        closed = omega arith;
        closed_answers = tt;
        answers = refl;
        floor = zero-le;
        unread = tt;
      }

  seat₀ : (j : ℕ) (v : View) → get_elem? (first_view plan ∷ []) j ≡ some v → Knows plan f₀ j v
  seat₀ zero v seen = subst (λ (x : View). Knows plan f₀ 0 x) (some-injective (first_view plan) v seen) post₀
  seat₀ (suc j) v seen = absurd (some-ne-none v (sym seen))

  kept₀ : Kept plan (opening (0 ∷ 0 ∷ []) (store ∷ []) (first_view plan)) f₀
  kept₀ =
      record {
        within = within;
        homes = refl;
        words = refl;
        taken = refl;
        turn = refl;
        ahead = zero-le;
        store_ok = ok;
        slot_ok = refl;
        out_ok = tt;
        spent = tt;
        each_queued = λ i buffer seen. ap in_queue (let r = range_at 0 plan.buffers i buffer seen in let e : buffer ≡ 0 + i = omega arith in e);
        each_hand = λ d. tt;
        in_palm = tt;
        each_spot = λ buffer low. (buffer, (let e : buffer ≡ 0 + buffer = omega arith in e), range_there 0 plan.buffers buffer low ∙ ap some (let e : 0 + buffer ≡ buffer = omega arith in e));
        each_stand = λ e. tt;
        left = (let e : 0 + ((2 * total plan.allowances + 0) - 0 + 0) ≤ 2 * total plan.allowances = omega arith in e);
        all_made = tt;
        still_open = zero-le;
        gone = λ d high. (refl, refl);
        each_seat = seat₀;
      }

  pub starts : LockedRule plan (opening (0 ∷ 0 ∷ []) (store ∷ []) (first_view plan))
  starts = (f₀, kept₀)
