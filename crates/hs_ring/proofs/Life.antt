-- How a ring begins and ends: its table at the start, the making and the closing of drawers, and the last look.
use Rattle.std.proofs.Common.{◌≡◌, ◌≢◌, ℕ, zero, suc, ◌+◌, ◌-◌, ◌*◌, ◌%◌, ◌<◌, ◌≤◌, List, [], ◌∷◌, ◌++◌, length, map, set, get_or, Some, None, refl, sym, ap, ap₂, ◌∙◌, subst, ⊎_elim, mod-eq_of_lt, zero-le, arith, length-set}
use Rattle.hs_ring.proofs.Prelude.{set-get_or, some, some-injective, some-ne-none, dec_le, get_elem?, length-map, Option, range_with_len, step, keeps, opening, Allows, Splits, Joins, at_set, set_else, LEVEL, packed, put, put_here, put_else, Contents, clear_chunk, Deed, Answer, all_of, Plan, Within, in_queue, DrawerSeat, nothing, GiverSeat, Palm, bare, View, nobody, drawing, leasing, giving, drawer_note, giver_note, new_drawer, having_closed, Has, Cell, free, waits, Facts, CellOk, DeskOk, PostOk, Knows, Kept, RingRule, first_view, did_look, Over}
use mathlib.Core.Option as maybe
use Rattle.atomic_table.proofs.Lists.{at_map}
use Rattle.hs_words.specs.Ends.{AreAnswers}
use Rattle.hs_words.proofs.Deeds.{no_answers}
use Rattle.hs_words.proofs.Plans.{total_parts}
use Rattle.hs_ring.specs.Views.{with_drawer}
use Rattle.hs_ring.specs.Rule.{first_giver_seat}
use Rattle.hs_ring.proofs.Updates.{left_set, most_set, left_and, most_and, allowed_set, allowed_less}
use Rattle.hs_ring.proofs.Counting.{found_drawn, found_published, reseated, seated_too}
use Rattle.hs_ring.proofs.Spots.{still_with, with_more, spot_stays}
use Rattle.hs_ring.proofs.Draws.{St, Held}
use Rattle.hs_ring.proofs.Places.{spot_reseated}

-- ---- a drawer is made

module _ (plan : Plan) (s : St) (f : Facts) (k : Kept plan s f) (id : ℕ) (post : GiverSeat) (palm : Palm) (at : get_elem? s.views id ≡ some (giving post palm)) (none_closed : post.closed ≡ []) where
  abbrev own : PostOk plan f id post palm
  own = k.each_seat id (giving post palm) at

  abbrev w : View
  w = with_drawer (giving post palm)

  abbrev new : View
  new = new_drawer (giving post palm)

  abbrev seats' : ℕ → ℕ
  seats' = put f.seats f.made (length s.views)

  abbrev f' : Facts
  f' = record { log = f.log; cells = f.cells; spots = f.spots; hands = f.hands; seats = seats'; palm = f.palm; giver = f.giver; made = suc f.made; opened = suc f.opened }

  all_open : f.opened ≡ f.made
  all_open = let c = own.closed in let z : length post.closed ≡ 0 = ap (λ (l : List (List Answer)). length l) none_closed in omega arith

  others : (j : ℕ) (v : View) → j ≢ id → Knows plan f j v → Knows plan f' j v
  others j nobody far known = tt
  others j (drawing desk hand) far known =
      record {
        size = known.size;
        active = (let a = known.active in omega arith);
        seat = put_else f.seats f.made (length s.views) desk.number (λ same. let a = known.active in let o = k.still_open in omega arith) ∙ known.seat;
        hand_is = known.hand_is;
        within = known.within;
        answers = known.answers;
        floor = known.floor;
      }
  others j (leasing buffer draw) far known = known
  others j (giving post' mine) far known = absurd (far (sym known.seat ∙ own.seat))
  others j (drawer_note floor stamps) far known = known
  others j (giver_note floor) far known = known

  ours' : Knows plan f' id w
  ours' =
      record {
        size = own.size;
        seat = own.seat;
        palm_is = own.palm_is;
        made = ap suc own.made;
        closed = (let c = own.closed in omega arith);
        closed_answers = subst (AreAnswers (suc (suc f.opened)) f.log) (sym none_closed) tt;
        answers = own.answers;
        misses = own.misses;
        floor = own.floor;
        unread = own.unread;
        told = own.told;
      }

  theirs : Knows plan f' (length (set s.views id w)) new
  theirs =
      record {
        size = own.size;
        active = (let a = all_open in let m = own.made in omega arith);
        seat = ap seats' own.made ∙ put_here f.seats f.made (length s.views) ∙ sym (length-set s.views id w);
        hand_is = k.unmade post.made (let m = own.made in omega arith);
        within = omega arith;
        answers = sym (no_answers f.log f.made (suc post.made) (let m = own.made in omega arith) k.all_made);
        floor = zero-le;
      }

  pub made_kept : Kept plan record { words = s.words; homes = s.homes; views = set s.views id w ++ new ∷ [] } f'
  made_kept =
      record {
        within = k.within;
        homes = k.homes;
        words = k.words;
        counts = k.counts;
        lawful = k.lawful;
        spent = k.spent;
        voids = k.voids;
        gives = k.gives;
        each_cell = k.each_cell;
        each_queued = k.each_queued;
        each_hand = k.each_hand;
        in_palm = k.in_palm;
        each_spot = λ buffer low.
            spot_reseated plan s f k buffer seats' (set s.views id w ++ new ∷ []) (λ drawer low. put_else f.seats f.made (length s.views) drawer (λ same. let o = k.still_open in omega arith))
            (λ j had. with_more (set s.views id w) new (Has buffer) j (still_with s.views id (giving post palm) w at (Has buffer) (λ in_palm. in_palm) j had)) low;
        allowed =
            (let l = left_set s.views id (giving post palm) w at in
            let m = most_set s.views id (giving post palm) w at in
            let l' = left_and (set s.views id w) new in
            let m' = most_and (set s.views id w) new in
            let t = total_parts post.spare in
            record { ahead = omega (arith, k.allowed.ahead); life = omega (arith, k.allowed.life); most = omega (arith, k.allowed.most) });
        by_giver = k.by_giver;
        all_made = all_of f.log (λ (d : Deed) (le : d.by ≤ f.made). omega arith) k.all_made;
        still_open = (let o = k.still_open in omega arith);
        unmade = λ d high. k.unmade d (omega arith);
        each_seat = seated_too plan f' (set s.views id w) new theirs (reseated plan f' s.views id w ours' (λ j v other seen. others j v other (k.each_seat j v seen)));
      }

pub makes_drawer : (plan : Plan) (id : ℕ) (post : GiverSeat) (palm : Palm) → post.closed ≡ [] → Splits (RingRule plan) id (giving post palm) (with_drawer (giving post palm)) (new_drawer (giving post palm))
makes_drawer plan id post palm none_closed s (f, k) at = (_, made_kept plan s f k id post palm at none_closed)

-- ---- a drawer is closed, which has nothing in hand

module _ (plan : Plan) (s : St) (f : Facts) (k : Kept plan s f) (id : ℕ) (post : GiverSeat) (palm : Palm) (other : ℕ) (desk : DrawerSeat) (at : get_elem? s.views id ≡ some (giving post palm)) (differ : ¬ (other ≡ id))
    (desk_at : get_elem? (set s.views id (having_closed (giving post palm) (drawing desk nothing))) other ≡ some (drawing desk nothing)) (last : suc desk.number + length post.closed ≡ post.made) where
  abbrev own₁ : PostOk plan f id post palm
  own₁ = k.each_seat id (giving post palm) at

  abbrev w₁ : View
  w₁ = having_closed (giving post palm) (drawing desk nothing)

  theirs₁ : DeskOk plan f other desk nothing
  theirs₁ = k.each_seat other (drawing desk nothing) (sym (set_else s.views id other w₁ differ) ∙ desk_at)

  abbrev f₁ : Facts
  f₁ = record { log = f.log; cells = f.cells; spots = f.spots; hands = f.hands; seats = f.seats; palm = f.palm; giver = f.giver; made = f.made; opened = desk.number }

  last_open : f.opened ≡ suc desk.number
  last_open = let c = own₁.closed in let m = own₁.made in omega arith

  rest₁ : (j : ℕ) (v : View) → j ≢ id → j ≢ other → Knows plan f j v → Knows plan f₁ j v
  rest₁ j nobody far away known = tt
  rest₁ j (drawing desk' hand') far away known =
      record {
        size = known.size;
        active =
            (let a = known.active in
            let l = last_open in
            let apart : desk'.number ≢ desk.number = λ same. away (sym known.seat ∙ ap f.seats same ∙ theirs₁.seat) in
            omega arith);
        seat = known.seat;
        hand_is = known.hand_is;
        within = known.within;
        answers = known.answers;
        floor = known.floor;
      }
  rest₁ j (leasing buffer draw) far away known = known
  rest₁ j (giving post' mine) far away known = absurd (far (sym known.seat ∙ own₁.seat))
  rest₁ j (drawer_note floor stamps) far away known = known
  rest₁ j (giver_note floor) far away known = known

  ours₁ : Knows plan f₁ id w₁
  ours₁ =
      record {
        size = own₁.size;
        seat = own₁.seat;
        palm_is = own₁.palm_is;
        made = own₁.made;
        closed = (let c = own₁.closed in let l = last_open in omega arith);
        closed_answers = (theirs₁.answers, subst (λ (o : ℕ). AreAnswers (suc o) f.log post.closed) last_open own₁.closed_answers);
        answers = own₁.answers;
        misses = own₁.misses;
        floor = own₁.floor;
        unread = own₁.unread;
        told = own₁.told;
      }

  pub closed_kept : Kept plan record { words = s.words; homes = s.homes; views = set (set s.views id w₁) other nobody } f₁
  closed_kept =
      record {
        within = k.within;
        homes = k.homes;
        words = k.words;
        counts = k.counts;
        lawful = k.lawful;
        spent = k.spent;
        voids = k.voids;
        gives = k.gives;
        each_cell = k.each_cell;
        each_queued = k.each_queued;
        each_hand = k.each_hand;
        in_palm = k.in_palm;
        each_spot = λ buffer low.
            spot_stays plan.buffers f.cells f.cells f.seats f.giver s.views (set (set s.views id w₁) other nobody) buffer (λ number is. is)
            (λ j had. still_with (set s.views id w₁) other (drawing desk nothing) nobody desk_at (Has buffer) (λ none. none) j (still_with s.views id (giving post palm) w₁ at (Has buffer) (λ in_palm. in_palm) j had))
            (f.spots buffer) (k.each_spot buffer low);
        allowed = allowed_less plan f.log (set s.views id w₁) other (drawing desk nothing) nobody desk_at zero-le zero-le (allowed_set plan f.log s.views id (giving post palm) w₁ at refl refl k.allowed);
        by_giver = k.by_giver;
        all_made = k.all_made;
        still_open = (let o = k.still_open in let l = last_open in omega arith);
        unmade = k.unmade;
        each_seat = reseated plan f₁ (set s.views id w₁) other nobody tt
            (λ j v away seen. ⊎_elim
            (λ (here : (j ≡ id) × (w₁ ≡ v)). subst (λ (x : View). Knows plan f₁ j x) here.1 (subst (λ (i : ℕ). Knows plan f₁ i w₁) (sym here.0) ours₁))
            (λ (else : (j ≢ id) × (get_elem? s.views j ≡ some v)). rest₁ j v else.0 away (k.each_seat j v else.1))
            (at_set s.views id j w₁ v seen));
      }

pub closes_drawer : (plan : Plan) (id : ℕ) (post : GiverSeat) (palm : Palm) (other : ℕ) (desk : DrawerSeat) → suc desk.number + length post.closed ≡ post.made
    → Joins (RingRule plan) id (giving post palm) other (drawing desk nothing) (having_closed (giving post palm) (drawing desk nothing)) nobody
closes_drawer plan id post palm other desk last s (f, k) at differ desk_at = (_, closed_kept plan s f k id post palm other desk at differ desk_at last)

-- ---- the last look

over : (plan : Plan) (s : St) (f : Facts) (k : Kept plan s f) (id : ℕ) (post : GiverSeat) (palm : Palm) → PostOk plan f id post palm → (slots : ℕ) → length s.homes ≡ slots → Over slots (get_or s.words 0 0) (giving post palm)
over plan s f k id post palm own slots wide all =
    let none_open : f.opened ≡ 0 = (let c = own.closed in let m = own.made in omega arith) in (
      plan.buffers,
      f.log,
      record {
        buffers = sym k.homes ∙ wide;
        together =
            record {
              lawful = k.lawful;
              spent = k.spent;
              giver = own.answers;
              draws = subst (λ (o : ℕ). AreAnswers (suc o) f.log post.closed) none_open own.closed_answers;
              nobody_else = all_of f.log (λ (d : Deed) (le : d.by ≤ f.made). let m = own.made in omega arith) k.all_made;
              unread = own.unread;
            };
        drawn = found_drawn plan s f k;
        published = found_published plan s f k;
        misses = own.misses;
        voids = k.voids;
        gives = k.gives;
      },
    )

pub looks : (plan : Plan) (slots id : ℕ) (post : GiverSeat) (palm : Palm) (held : Held) → Allows (RingRule plan) slots id (giving post palm, held) 0 (λ n. n) (did_look (step slots 0 0 0 maybe.none) (giving post palm, held))
looks plan slots id post palm held s (f, k) wide at small =
    let own : PostOk plan f id post palm = k.each_seat id (giving post palm) at in
    let w : View = giving post palm in (
      w,
      keeps,
      tt,
      (
        f,
        subst (λ (ws : List ℕ). Kept plan record { words = ws; homes = s.homes; views = set s.views id w } f) (sym (set-get_or s.words 0 0))
            record {
              within = k.within;
              homes = k.homes;
              words = k.words;
              counts = k.counts;
              lawful = k.lawful;
              spent = k.spent;
              voids = k.voids;
              gives = k.gives;
              each_cell = k.each_cell;
              each_queued = k.each_queued;
              each_hand = k.each_hand;
              in_palm = k.in_palm;
              each_spot = λ buffer low.
                  spot_stays plan.buffers f.cells f.cells f.seats f.giver s.views (set s.views id w) buffer (λ number is. is) (still_with s.views id w w at (Has buffer) (λ in_palm. in_palm)) (f.spots buffer) (k.each_spot buffer low);
              allowed = allowed_set plan f.log s.views id w w at refl refl k.allowed;
              by_giver = k.by_giver;
              all_made = k.all_made;
              still_open = k.still_open;
              unmade = k.unmade;
              each_seat = reseated plan f s.views id w own (λ j v other seen. k.each_seat j v seen);
            },
      ),
      (refl, over plan s f k id post palm own slots wide),
    )

-- ---- the start

range_at : (a n i buffer : ℕ) → get_elem? (range_with_len a n) i ≡ some buffer → (buffer ≡ a + i) × (i < n)
range_at a zero i buffer seen = absurd (some-ne-none buffer (sym seen))
range_at a (suc n) zero buffer seen = let e = some-injective a buffer seen in (omega arith, omega arith)
range_at a (suc n) (suc i) buffer seen = let r = range_at (a + 1) n i buffer seen in let e = r.0 in let l = r.1 in (omega arith, omega arith)

-- the entry e at the start, where n numbers are published
start_cell : (n e : ℕ) → Dec (n ≤ e) → Cell
start_cell n e (yes _) = free
start_cell n e (no _) = waits e e

abbrev start_cells : ℕ → ℕ → Cell
start_cells n e = start_cell n e (dec_le n e)

start_waits : (n e : ℕ) (d : Dec (n ≤ e)) → e < n → start_cell n e d ≡ waits e e
unfolding start_cell
start_waits n e (yes high) low = absurd (omega arith)
start_waits n e (no _) low = refl

-- what the words and the slots are at the start
pub record IsLaidOut (plan : Plan) (ws : List ℕ) (xs : List (Option Contents)) : Type 0 where
  pub words : length ws ≡ suc (2 * plan.buffers)
  pub slots : length xs ≡ 2 * plan.buffers
  pub counts : get_or ws 0 0 ≡ plan.buffers + LEVEL
  pub numbers : (e : ℕ) → e < plan.buffers → get_or ws (suc e) 0 ≡ suc e
  pub zeros : (e : ℕ) → plan.buffers ≤ e → e < 2 * plan.buffers → get_or ws (suc e) 0 ≡ 0
  pub chunks : (e : ℕ) → e < plan.buffers → get_elem? xs e ≡ some (Some (clear_chunk plan.size e))
  pub nones : (e : ℕ) → plan.buffers ≤ e → e < 2 * plan.buffers → get_elem? xs e ≡ some None

module _ (plan : Plan) (ws : List ℕ) (xs : List (Option Contents)) (within : Within plan) (out : IsLaidOut plan ws xs) where
  abbrev n : ℕ
  n = plan.buffers

  abbrev f₀ : Facts
  f₀ = record { log = []; cells = start_cells n; spots = in_queue; hands = λ _. nothing; seats = λ _. 0; palm = bare; giver = 0; made = 0; opened = 0 }

  homes₀ : List (maybe.Option (Option Contents))
  homes₀ = map some xs

  cell₀ : (e : ℕ) → e < 2 * n → (d : Dec (n ≤ e)) → CellOk n plan.size [] in_queue (λ _. nothing) bare e (get_or ws (suc e) 0) (get_elem? (map some xs) e) (start_cell n e d)
  unfolding start_cell
  cell₀ e low (yes high) = (out.zeros e high low, at_map some xs e None (out.nones e high low))
  cell₀ e low (no below) =
      let less : e < n = omega arith in (
        sym (mod-eq_of_lt low),
        out.numbers e less,
        at_map some xs e (Some (clear_chunk plan.size e)) (out.chunks e less),
        zero-le,
        omega arith,
        refl,
      )

  post₀ : PostOk plan f₀ 0 (first_giver_seat plan) bare
  post₀ =
      record {
        size = refl;
        seat = refl;
        palm_is = refl;
        made = refl;
        closed = omega arith;
        closed_answers = tt;
        answers = refl;
        misses = refl;
        floor = zero-le;
        unread = tt;
        told = tt;
      }

  seat₀ : (j : ℕ) (v : View) → get_elem? (first_view plan ∷ []) j ≡ some v → Knows plan f₀ j v
  seat₀ zero v seen = subst (λ (x : View). Knows plan f₀ 0 x) (some-injective (first_view plan) v seen) post₀
  seat₀ (suc j) v seen = absurd (some-ne-none v (sym seen))

  kept₀ : Kept plan (opening ws xs (first_view plan)) f₀
  kept₀ =
      record {
        within = within;
        homes = length-map xs some ∙ out.slots;
        words = out.words;
        counts = out.counts ∙ (let e : n + LEVEL ≡ packed (n + 0) 0 = omega arith in e);
        lawful = tt;
        spent = tt;
        voids = (let one = within.some_there in let z : 0 + (0 - (n + 0)) ≡ 0 = omega arith in z);
        gives = tt;
        each_cell = λ e low. cell₀ e low (dec_le n e);
        each_queued = λ i buffer seen.
            let r = range_at 0 n i buffer seen in
            let b = r.0 in
            let low : i < n = r.1 in
            let place : (0 + i) % (2 * n) ≡ i = ap (λ (m : ℕ). m % (2 * n)) (let e : 0 + i ≡ i = omega arith in e) ∙ mod-eq_of_lt (omega arith) in
            ap (start_cells n) place ∙ start_waits n i (dec_le n i) low ∙ ap₂ waits (let e : i ≡ 0 + i = omega arith in e) (let e : i ≡ buffer = omega arith in e);
        each_hand = λ d. tt;
        in_palm = tt;
        each_spot = λ buffer low. ap (start_cells n) (mod-eq_of_lt (omega arith)) ∙ start_waits n buffer (dec_le n buffer) low;
        allowed = record { ahead = omega (arith, within.draws); life = omega (arith, within.draws); most = omega arith };
        by_giver = refl;
        all_made = tt;
        still_open = zero-le;
        unmade = λ d high. refl;
        each_seat = seat₀;
      }

  pub starts : RingRule plan (opening ws xs (first_view plan))
  starts = (f₀, kept₀)
