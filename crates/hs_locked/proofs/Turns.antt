-- A ticket is taken, and its turn comes; the giver takes the store at the end.
use Rattle.std.proofs.Common.{◌≡◌, ◌≢◌, ℕ, zero, suc, ◌+◌, ◌*◌, ◌%◌, ◌<◌, ◌≤◌, Bool, true, false, ◌==◌, ◌||◌, List, [], ◌∷◌, length, set, get_or, refl, sym, ap, ◌∙◌, subst, arith, mod-eq_of_lt, length-set, get_or-set_other, get_or-set_same}
use Rattle.hs_locked.proofs.Prelude.{some, ℕ_discrete, get_elem?, step, stepped, Allows, set_here, MOST_AHEAD, Deed, AreAnswers, queue_of, all_of, total, Plan, in_queue, with_giver, HasLease, HasSize, waiting, now_with, still_with, Store, DrawerSeat, Hand, nothing, GiverSeat, bare, holds, Stand, away, queued, inside, closing, View, drawing, giving, Has, HasStore, left_in, all_left, Slot, home, out, Facts, SlotOk, StandOk, PalmOk, DeskOk, PostOk, Knows, Kept, LockedRule, did_take_ticket, did_look, did_close}
use mathlib.Core.Option as maybe
use mathlib.Core.Logic.{dite}
use borrow.Author.Tests.{eqb-true}
use Rattle.std.specs.List.{list_any}
use Rattle.atomic_table.specs.Table.{State, keeps, takes}
use Rattle.hs_words.specs.Ends.{IsTogether}
use Rattle.hs_words.proofs.Deeds.{got_below}
use Rattle.hs_pool.specs.Pool.{IsOut}
use Rattle.hs_locked.specs.Rule.{HasTheStore}
use Rattle.hs_locked.proofs.Updates.{put, put_cases, put_here, put_else, left_set}
use Rattle.hs_locked.proofs.Stores.{events_are, line, is_counted, lawful}
use Rattle.hs_locked.proofs.Spots.{spot_stays, out_stays}
use Rattle.hs_locked.proofs.Stays.{IsEnd, drawers_end, givers_end, Moves, facts_after, knows_stays, reseated}

abbrev pub St : Type 0
St = State Store View

abbrev pub Held : Type 0
Held = List (ℕ × Store)

pub one_more : (n word : ℕ) → n ≤ 2 * MOST_AHEAD → word ≡ n → (word + 1) % 18446744073709551616 ≡ suc n
one_more n word small is = let below : word + 1 < 18446744073709551616 = omega arith in mod-eq_of_lt below ∙ (let e : word + 1 ≡ suc n = omega arith in e)

pub few_tickets : (plan : Plan) (s : St) (f : Facts) → Kept plan s f → f.tickets ≤ 2 * MOST_AHEAD
few_tickets plan s f k = let left = k.left in let draws = k.within.draws in omega arith

-- an end that has not the store stands otherwise
slot_stays : (f : Facts) (end : ℕ) (stand : Stand) (place : maybe.Option (maybe.Option Store)) → (HasTheStore (f.stands end) → ⊥) → (slot : Slot) → SlotOk place f.stored f.stands slot → SlotOk place f.stored (put f.stands end stand) slot
slot_stays f end stand place none home ok = ok
slot_stays f end stand place none (out e) ok =
    put_cases (λ (x : Stand). HasTheStore x) f.stands end stand e (λ same. absurd (none (subst (λ (i : ℕ). HasTheStore (f.stands i)) same ok))) (λ _. ok)

pub gone_stays : (f : Facts) (end : ℕ) (stand : Stand) (hands : ℕ → Hand) → end ≤ f.opened → ((d : ℕ) → suc d ≢ end → hands d ≡ f.hands d)
    → (d : ℕ) → f.opened ≤ d → (f.hands d ≡ nothing) × (f.stands (suc d) ≡ away) → (hands d ≡ nothing) × (put f.stands end stand (suc d) ≡ away)
gone_stays f end stand hands low stay d high is = let other : suc d ≢ end = λ e. omega arith in (stay d other ∙ is.0, put_else f.stands end stand (suc d) other ∙ is.1)

-- how an end stands changes, and nothing else
pub stand_moves : (f : Facts) (end : ℕ) (stand : Stand) → Moves f [] (put f.stands end stand) f.spots f.hands f.palm end (in_queue 0)
stand_moves f end stand =
    record {
      by = tt;
      names = λ _ _. tt;
      spots_stay = λ _ _. refl;
      hands_stay = λ _ _. refl;
      stands_stay = λ e other. put_else f.stands end stand e other;
      palm_stays = λ _. refl;
    }

-- ---- a ticket

module _ (plan : Plan) (s : St) (f : Facts) (k : Kept plan s f) (id : ℕ) (v w : View) (at : get_elem? s.views id ≡ some v) (end : ℕ) (is_end : IsEnd f id end) (is_away : f.stands end ≡ away)
    (x : ℕ) (x_is : x ≡ suc f.tickets) (held : Held) where
  abbrev t : ℕ
  t = f.tickets

  abbrev pub after_ticket : Facts
  after_ticket = facts_after f [] (suc t) (put f.holder t end) f.stored f.slot (put f.stands end (queued t)) f.spots f.hands f.palm

  ticket_stand : (e : ℕ) (st : Stand) → StandOk f e st → StandOk after_ticket e st
  ticket_stand e away ok = tt
  ticket_stand e (queued u) ok =
      let less = ok.2 in (put_else f.holder t end u (λ same. omega arith) ∙ ok.0, ok.1, (let l : u < suc t = omega arith in l))
  ticket_stand e (inside st) ok =
      let less = ok.1 in (put_else f.holder t end (length f.log) (λ same. omega arith) ∙ ok.0, (let l : length f.log < suc t = omega arith in l), ok.2, ok.3)
  ticket_stand e (closing st) ok = ok

  pub ticket_kept : Knows plan after_ticket id w → suc (left_in w) ≤ left_in v → ((buffer : ℕ) → Has buffer v → Has buffer w) → (HasStore f.stored v → HasStore f.stored w)
      → Kept plan (stepped s 0 x id held w keeps) after_ticket
  ticket_kept own less has_still store_still =
      record {
        within = k.within;
        homes = k.homes;
        words = length-set s.words 0 x ∙ k.words;
        taken = get_or-set_same s.words 0 x 0 (let e = k.words in omega arith) ∙ x_is;
        turn = get_or-set_other s.words 0 1 x 0 (λ e. omega arith) ∙ k.turn;
        ahead = (let a = k.ahead in let b : length f.log ≤ suc t = omega arith in b);
        store_ok = k.store_ok;
        slot_ok = slot_stays f end (queued t) (get_elem? s.homes 0) (λ has. subst (λ (st : Stand). HasTheStore st) is_away has) f.slot k.slot_ok;
        out_ok = out_stays (get_elem? s.homes 0) s.views (set s.views id w) f.stored (still_with s.views id v w at (HasStore f.stored) store_still) f.slot k.out_ok;
        spent = k.spent;
        each_queued = k.each_queued;
        each_hand = k.each_hand;
        in_palm = k.in_palm;
        each_spot = λ buffer low. spot_stays plan.buffers f.log f.log f.seats f.giver s.views (set s.views id w) buffer (λ number is. is) (still_with s.views id v w at (Has buffer) (has_still buffer)) (f.spots buffer) (k.each_spot buffer low);
        each_stand = λ e.
            put_cases (StandOk after_ticket e) f.stands end (queued t) e
            (λ same. (put_here f.holder t end ∙ sym same, k.ahead, (let l : t < suc t = omega arith in l)))
            (λ _. ticket_stand e (f.stands e) (k.each_stand e));
        left = (let e = left_set s.views id v w at in let l = k.left in let b : suc t + all_left (set s.views id w) ≤ 2 * total plan.allowances = omega arith in b);
        all_made = k.all_made;
        still_open = k.still_open;
        gone = λ d high. gone_stays f end (queued t) f.hands is_end.low (λ _ _. refl) d high (k.gone d high);
        each_seat = reseated plan after_ticket s.views id w own
            (λ j v' far seen. knows_stays plan f [] (suc t) (put f.holder t end) f.stored f.slot (put f.stands end (queued t)) f.spots f.hands f.palm end (in_queue 0) (stand_moves f end (queued t)) id is_end j far (λ e. cc) v' (k.each_seat j v' seen));
      }

module _ (plan : Plan) (slots id : ℕ) where
  pub drawer_takes_ticket : (desk : DrawerSeat) (held : Held) → 1 ≤ desk.left
      → Allows (LockedRule plan) slots id (drawing desk nothing away, held) 0 (λ n. (n + 1) % 18446744073709551616) (did_take_ticket (step slots 0 1 0 maybe.none) (drawing desk nothing away, held))
  drawer_takes_ticket desk held some_left s (f, k) wide at small =
      let own : DeskOk plan f id desk nothing away = k.each_seat id (drawing desk nothing away) at in
      let x = (get_or s.words 0 0 + 1) % 18446744073709551616 in
      let x_is : x ≡ suc f.tickets = one_more f.tickets (get_or s.words 0 0) (let few = few_tickets plan s f k in omega arith) k.taken in
      let w : View = drawing desk nothing (queued f.tickets) in
      let end = drawers_end plan f id desk nothing away own in
      let now : Knows plan (after_ticket plan s f k id (drawing desk nothing away) w at (suc desk.number) end own.stand_is x x_is held) id w =
      record {
        buffers = own.buffers;
        size = own.size;
        active = own.active;
        seat = own.seat;
        hand_is = own.hand_is;
        stand_is = put_here f.stands (suc desk.number) (queued f.tickets);
        answers = own.answers;
        floor = own.floor;
      } in (
        w,
        keeps,
        tt,
        (_, ticket_kept plan s f k id (drawing desk nothing away) w at (suc desk.number) end own.stand_is x x_is held now (omega arith) (λ _ none. none) (λ none. none)),
        ap (λ (t : ℕ). let m : View × Held = (drawing desk nothing (queued t), held) in m) (sym k.taken),
      )

  pub giver_takes_ticket : (post : GiverSeat) (b d : ℕ) (held : Held)
      → Allows (LockedRule plan) slots id (giving post (holds b d) away, held) 0 (λ n. (n + 1) % 18446744073709551616) (did_take_ticket (step slots 0 1 0 maybe.none) (giving post (holds b d) away, held))
  giver_takes_ticket post b d held s (f, k) wide at small =
      let own : PostOk plan f id post (holds b d) away = k.each_seat id (giving post (holds b d) away) at in
      let x = (get_or s.words 0 0 + 1) % 18446744073709551616 in
      let x_is : x ≡ suc f.tickets = one_more f.tickets (get_or s.words 0 0) (let few = few_tickets plan s f k in omega arith) k.taken in
      let w : View = giving post (holds b d) (queued f.tickets) in
      let end = givers_end plan f id post (holds b d) away own in
      let now : Knows plan (after_ticket plan s f k id (giving post (holds b d) away) w at 0 end own.stand_is x x_is held) id w =
      record {
        buffers = own.buffers;
        size = own.size;
        seat = own.seat;
        palm_is = own.palm_is;
        stand_is = put_here f.stands 0 (queued f.tickets);
        made = own.made;
        closed = own.closed;
        closed_answers = own.closed_answers;
        answers = own.answers;
        floor = own.floor;
        unread = own.unread;
      } in (
        w,
        keeps,
        tt,
        (_, ticket_kept plan s f k id (giving post (holds b d) away) w at 0 end own.stand_is x x_is held now (omega arith) (λ _ in_palm. in_palm) (λ none. none)),
        ap (λ (t : ℕ). let m : View × Held = (giving post (holds b d) (queued t), held) in m) (sym k.taken),
      )

-- ---- the store is taken out of its slot

module _ (plan : Plan) (s : St) (f : Facts) (k : Kept plan s f) (id : ℕ) (v w : View) (at : get_elem? s.views id ≡ some v) (end : ℕ) (is_end : IsEnd f id end) (is_home : f.slot ≡ home)
    (stand : Stand) (has : HasTheStore stand) (x : ℕ) (x_is : x ≡ length f.log) (held : Held) where
  abbrev pub after_take : Facts
  after_take = facts_after f [] f.tickets f.holder f.stored (out end) (put f.stands end stand) f.spots f.hands f.palm

  pub there : get_elem? s.homes 0 ≡ some (some f.stored)
  there = subst (SlotOk (get_elem? s.homes 0) f.stored f.stands) is_home k.slot_ok

  take_stand : (e : ℕ) (st : Stand) → StandOk f e st → StandOk after_take e st
  take_stand e away ok = tt
  take_stand e (queued u) ok = ok
  take_stand e (inside st) ok = let both : home ≡ out e = sym is_home ∙ ok.2 in absurd cc
  take_stand e (closing st) ok = let both : home ≡ out e = sym is_home ∙ ok.2 in absurd cc

  pub take_kept : StandOk after_take end stand → Knows plan after_take id w → left_in w ≡ left_in v → ((buffer : ℕ) → Has buffer v → Has buffer w) → HasStore f.stored w
      → Kept plan (stepped s 1 x id held w (takes 0 f.stored)) after_take
  take_kept standing own same_left has_still has_store =
      record {
        within = k.within;
        homes = length-set s.homes 0 maybe.none ∙ k.homes;
        words = length-set s.words 1 x ∙ k.words;
        taken = get_or-set_other s.words 1 0 x 0 (λ e. omega arith) ∙ k.taken;
        turn = get_or-set_same s.words 1 x 0 (let e = k.words in omega arith) ∙ x_is;
        ahead = k.ahead;
        store_ok = k.store_ok;
        slot_ok = subst (λ (st : Stand). HasTheStore st) (sym (put_here f.stands end stand)) has;
        out_ok = (set_here s.homes 0 maybe.none (let h = k.homes in omega arith), (id, now_with s.views id v w at (HasStore f.stored) has_store));
        spent = k.spent;
        each_queued = k.each_queued;
        each_hand = k.each_hand;
        in_palm = k.in_palm;
        each_spot = λ buffer low. spot_stays plan.buffers f.log f.log f.seats f.giver s.views (set s.views id w) buffer (λ number is. is) (still_with s.views id v w at (Has buffer) (has_still buffer)) (f.spots buffer) (k.each_spot buffer low);
        each_stand = λ e.
            put_cases (StandOk after_take e) f.stands end stand e
            (λ same. subst (λ (i : ℕ). StandOk after_take i stand) (sym same) standing)
            (λ _. take_stand e (f.stands e) (k.each_stand e));
        left = (let e = left_set s.views id v w at in let l = k.left in let b : f.tickets + all_left (set s.views id w) ≤ 2 * total plan.allowances = omega arith in b);
        all_made = k.all_made;
        still_open = k.still_open;
        gone = λ d high. gone_stays f end stand f.hands is_end.low (λ _ _. refl) d high (k.gone d high);
        each_seat = reseated plan after_take s.views id w own
            (λ j v' far seen. knows_stays plan f [] f.tickets f.holder f.stored (out end) (put f.stands end stand) f.spots f.hands f.palm end (in_queue 0) (stand_moves f end stand) id is_end j far (λ e. cc) v' (k.each_seat j v' seen));
      }

-- ---- a look

-- nothing has changed
wait_kept : (plan : Plan) (s : St) (f : Facts) → Kept plan s f → (id : ℕ) (v : View) → get_elem? s.views id ≡ some v → (x : ℕ) → x ≡ length f.log → (held : Held) → Kept plan (stepped s 1 x id held v keeps) f
wait_kept plan s f k id v at x x_is held =
    record {
      within = k.within;
      homes = k.homes;
      words = length-set s.words 1 x ∙ k.words;
      taken = get_or-set_other s.words 1 0 x 0 (λ e. omega arith) ∙ k.taken;
      turn = get_or-set_same s.words 1 x 0 (let e = k.words in omega arith) ∙ x_is;
      ahead = k.ahead;
      store_ok = k.store_ok;
      slot_ok = k.slot_ok;
      out_ok = out_stays (get_elem? s.homes 0) s.views (set s.views id v) f.stored (still_with s.views id v v at (HasStore f.stored) (λ has. has)) f.slot k.out_ok;
      spent = k.spent;
      each_queued = k.each_queued;
      each_hand = k.each_hand;
      in_palm = k.in_palm;
      each_spot = λ buffer low. spot_stays plan.buffers f.log f.log f.seats f.giver s.views (set s.views id v) buffer (λ number is. is) (still_with s.views id v v at (Has buffer) (λ has. has)) (f.spots buffer) (k.each_spot buffer low);
      each_stand = k.each_stand;
      left = (let e = left_set s.views id v v at in let l = k.left in let b : f.tickets + all_left (set s.views id v) ≤ 2 * total plan.allowances = omega arith in b);
      all_made = k.all_made;
      still_open = k.still_open;
      gone = k.gone;
      each_seat = reseated plan f s.views id v (k.each_seat id v at) (λ j v' _ seen. k.each_seat j v' seen);
    }

-- where the turn is that of this end's ticket, nobody has the store
module _ (plan : Plan) (s : St) (f : Facts) (k : Kept plan s f) (id end t : ℕ) (is_end : IsEnd f id end) (stands : f.stands end ≡ queued t) (now : length f.log ≡ t) where
  pub waiting_ok : StandOk f end (queued t)
  waiting_ok = subst (StandOk f end) stands (k.each_stand end)

  -- no other end has it
  one_turn : (e : ℕ) → e ≡ end → (st : Stand) → f.stands e ≡ st → HasTheStore st → ⊥
  one_turn e same away is has = has
  one_turn e same (queued u) is has = has
  one_turn e same (inside st) is has = let both : queued t ≡ inside st = sym stands ∙ ap f.stands (sym same) ∙ is in absurd cc
  one_turn e same (closing st) is has = let both : queued t ≡ closing st = sym stands ∙ ap f.stands (sym same) ∙ is in absurd cc

  nobody_has : (e : ℕ) (st : Stand) → f.stands e ≡ st → HasTheStore st → StandOk f e st → ⊥
  nobody_has e away is has ok = has
  nobody_has e (queued u) is has ok = has
  nobody_has e (inside st) is has ok = one_turn e (sym ok.0 ∙ ap f.holder now ∙ waiting_ok.0) (inside st) is has
  nobody_has e (closing st) is has ok = one_turn e (let z = ok.0 in let y = ok.1 in let low = is_end.low in let same : e ≡ end = omega arith in same) (closing st) is has

  pub at_home : f.slot ≡ home
  at_home = go f.slot refl k.slot_ok
    where
      go : (slot : Slot) → f.slot ≡ slot → SlotOk (get_elem? s.homes 0) f.stored f.stands slot → f.slot ≡ home
      go home is ok = is
      go (out e) is ok = absurd (nobody_has e (f.stands e) refl ok (k.each_stand e))

-- what is not in a list
none_any : (b : ℕ) (xs : List ℕ) → ((i : ℕ) → get_elem? xs i ≡ some b → ⊥) → list_any (λ other. other == b) xs ≡ false
none_any b [] none = refl
none_any b (x ∷ xs) none = step_to (x == b) refl (none_any b xs (λ i at. none (suc i) at))
  where
    step_to : (c : Bool) → (x == b) ≡ c → list_any (λ other. other == b) xs ≡ false → (c || list_any (λ other. other == b) xs) ≡ false
    step_to true e rest = absurd (none 0 (ap some (eqb-true x b e)))
    step_to false e rest = rest

-- a buffer that the giver has is out
pub is_out : (plan : Plan) (s : St) (f : Facts) (k : Kept plan s f) (b d : ℕ) → HasLease plan.buffers f.log f.spots b d with_giver → IsOut f.stored.pool b
is_out plan s f k b d has = (
  subst (λ (n : ℕ). b < n) (sym k.store_ok.buffers) has.3,
  none_any b (waiting f.stored.pool)
      (λ i at.
      let seen : get_elem? (queue_of plan.buffers f.log) i ≡ some b = subst (λ (l : List ℕ). get_elem? l i ≡ some b) (line plan f.log f.stored k.store_ok) at in
      let both = sym (k.each_queued i b seen) ∙ has.0 in
      absurd cc),
)

module _ (plan : Plan) (slots id : ℕ) where
  pub drawer_looks : (desk : DrawerSeat) (t : ℕ)
      → Allows (LockedRule plan) slots id (drawing desk nothing (queued t), []) 1 (λ n. n) (did_look (step slots 1 0 0 maybe.none) (drawing desk nothing (queued t), []))
  drawer_looks desk t s (f, k) wide at small =
      let v : View = drawing desk nothing (queued t) in
      let own : DeskOk plan f id desk nothing (queued t) = k.each_seat id v at in
      let x = get_or s.words 1 0 in
      let end = drawers_end plan f id desk nothing (queued t) own in
      dite (ℕ_discrete (length f.log) t)
      (λ now.
      let store = f.stored in
      let w : View = drawing desk nothing (inside store) in
      let is_home = at_home plan s f k id (suc desk.number) t end own.stand_is now in
      let ok = waiting_ok plan s f k id (suc desk.number) t end own.stand_is now in
      let new : DeskOk plan (after_take plan s f k id v w at (suc desk.number) end is_home (inside store) tt x k.turn []) id desk nothing (inside store) =
      record {
        buffers = own.buffers;
        size = own.size;
        active = own.active;
        seat = own.seat;
        hand_is = own.hand_is;
        stand_is = put_here f.stands (suc desk.number) (inside store);
        answers = own.answers;
        floor = own.floor;
      } in (
        w,
        takes 0 store,
        there plan s f k id v w at (suc desk.number) end is_home (inside store) tt x k.turn [],
        (_, take_kept plan s f k id v w at (suc desk.number) end is_home (inside store) tt x k.turn [] (ap f.holder now ∙ ok.0, (let less = ok.2 in let l : length f.log < f.tickets = omega arith in l), refl, refl) new refl (λ _ none. none) refl),
        (
          (λ _. (
            store,
            refl,
            record {
              sized = subst (λ (z : ℕ). HasSize z store.pool) (sym own.size) k.store_ok.sized;
              floor = (let e = events_are plan f.log store k.store_ok in let l = own.floor in omega arith);
              few = (let e = events_are plan f.log store k.store_ok in let a = k.ahead in let few = few_tickets plan s f k in omega arith);
              counted = is_counted plan f.log store k.store_ok;
              fits = tt;
            },
          )),
          (λ differs. absurd (differs (k.turn ∙ now))),
        ),
      ))
      (λ not_now. (
        v,
        keeps,
        tt,
        (f, wait_kept plan s f k id v at x k.turn []),
        ((λ same. absurd (not_now (sym k.turn ∙ same))), (λ _. refl)),
      ))

  pub giver_looks : (post : GiverSeat) (b d t : ℕ)
      → Allows (LockedRule plan) slots id (giving post (holds b d) (queued t), []) 1 (λ n. n) (did_look (step slots 1 0 0 maybe.none) (giving post (holds b d) (queued t), []))
  giver_looks post b d t s (f, k) wide at small =
      let v : View = giving post (holds b d) (queued t) in
      let own : PostOk plan f id post (holds b d) (queued t) = k.each_seat id v at in
      let x = get_or s.words 1 0 in
      let end = givers_end plan f id post (holds b d) (queued t) own in
      dite (ℕ_discrete (length f.log) t)
      (λ now.
      let store = f.stored in
      let w : View = giving post (holds b d) (inside store) in
      let is_home = at_home plan s f k id 0 t end own.stand_is now in
      let ok = waiting_ok plan s f k id 0 t end own.stand_is now in
      let in_hand : HasLease plan.buffers f.log f.spots b d with_giver = subst (PalmOk plan.buffers f.log f.spots) own.palm_is k.in_palm in
      let new : PostOk plan (after_take plan s f k id v w at 0 end is_home (inside store) tt x k.turn []) id post (holds b d) (inside store) =
      record {
        buffers = own.buffers;
        size = own.size;
        seat = own.seat;
        palm_is = own.palm_is;
        stand_is = put_here f.stands 0 (inside store);
        made = own.made;
        closed = own.closed;
        closed_answers = own.closed_answers;
        answers = own.answers;
        floor = own.floor;
        unread = own.unread;
      } in (
        w,
        takes 0 store,
        there plan s f k id v w at 0 end is_home (inside store) tt x k.turn [],
        (_, take_kept plan s f k id v w at 0 end is_home (inside store) tt x k.turn [] (ap f.holder now ∙ ok.0, (let less = ok.2 in let l : length f.log < f.tickets = omega arith in l), refl, refl) new refl (λ _ in_palm. in_palm) refl),
        (
          (λ _. (
            store,
            refl,
            record {
              sized = subst (λ (z : ℕ). HasSize z store.pool) (sym own.size) k.store_ok.sized;
              floor = (let e = events_are plan f.log store k.store_ok in let l = own.floor in omega arith);
              few = (let e = events_are plan f.log store k.store_ok in let a = k.ahead in let few = few_tickets plan s f k in omega arith);
              counted = is_counted plan f.log store k.store_ok;
              fits = (is_out plan s f k b d in_hand, (let e = events_are plan f.log store k.store_ok in let less = got_below f.log d b in_hand.1 in omega arith));
            },
          )),
          (λ differs. absurd (differs (k.turn ∙ now))),
        ),
      ))
      (λ not_now. (
        v,
        keeps,
        tt,
        (f, wait_kept plan s f k id v at x k.turn []),
        ((λ same. absurd (not_now (sym k.turn ∙ same))), (λ _. refl)),
      ))

-- ---- the end

-- where all drawers are closed, nobody has the store
all_gone : (plan : Plan) (s : St) (f : Facts) (k : Kept plan s f) → f.opened ≡ 0 → f.stands 0 ≡ away → f.slot ≡ home
all_gone plan s f k none idle = go f.slot refl k.slot_ok
  where
    has_not : (e : ℕ) → HasTheStore (f.stands e) → ⊥
    has_not zero has = subst (λ (st : Stand). HasTheStore st) idle has
    has_not (suc d) has = subst (λ (st : Stand). HasTheStore st) (k.gone d (let z : f.opened ≤ d = omega arith in z)).1 has

    go : (slot : Slot) → f.slot ≡ slot → SlotOk (get_elem? s.homes 0) f.stored f.stands slot → f.slot ≡ home
    go home is ok = is
    go (out e) is ok = absurd (has_not e ok)

pub closes : (plan : Plan) (slots id : ℕ) (post : GiverSeat) → post.made ≡ length post.closed
    → Allows (LockedRule plan) slots id (giving post bare away, []) 1 (λ n. n) (did_close (step slots 1 0 0 maybe.none) (giving post bare away, []))
closes plan slots id post all s (f, k) wide at small =
    let v : View = giving post bare away in
    let own : PostOk plan f id post bare away = k.each_seat id v at in
    let x = get_or s.words 1 0 in
    let end = givers_end plan f id post bare away own in
    let none_open : f.opened ≡ 0 = (let c = own.closed in let m = own.made in omega arith) in
    let is_home = all_gone plan s f k none_open own.stand_is in
    let store = f.stored in
    let w : View = giving post bare (closing store) in
    let new : PostOk plan (after_take plan s f k id v w at 0 end is_home (closing store) tt x k.turn []) id post bare (closing store) =
    record {
      buffers = own.buffers;
      size = own.size;
      seat = own.seat;
      palm_is = own.palm_is;
      stand_is = put_here f.stands 0 (closing store);
      made = own.made;
      closed = own.closed;
      closed_answers = own.closed_answers;
      answers = own.answers;
      floor = own.floor;
      unread = own.unread;
    } in
    let buffers : plan.buffers ≡ post.buffers = sym own.buffers in
    let together : IsTogether plan.buffers post.turns post.closed f.log =
    record {
      lawful = lawful plan f.log store k.store_ok;
      spent = k.spent;
      giver = own.answers;
      draws = subst (λ (o : ℕ). AreAnswers (suc o) f.log post.closed) none_open own.closed_answers;
      nobody_else = all_of f.log (λ (d : Deed) (le : d.by ≤ f.made). let m = own.made in omega arith) k.all_made;
      unread = own.unread;
    } in (
      w,
      takes 0 store,
      there plan s f k id v w at 0 end is_home (closing store) tt x k.turn [],
      (_, take_kept plan s f k id v w at 0 end is_home (closing store) tt x k.turn [] (none_open, refl, refl, refl) new refl (λ _ none. none) refl),
      (
        store,
        refl,
        record {
          together = (f.log, subst (λ (n : ℕ). IsTogether n post.turns post.closed f.log) buffers together, k.store_ok.counted);
          counted = is_counted plan f.log store k.store_ok;
        },
      ),
    )
