-- The giver takes a number back whose publishing missed.
use Rattle.std.proofs.Common.{◌≡◌, ℕ, suc, ◌+◌, ◌*◌, ◌%◌, ◌<◌, List, [], ◌∷◌, length, set, get_or, None, refl, sym, ap, ◌∙◌, subst, inl, arith, length-set, get_or-set_other}
use Rattle.hs_ring.proofs.Prelude.{get_or-set_at, some, get_elem?, Option, step, gives, stepped, Allows, set_here, set_else, put, put_cases, put_else, Contents, answers_in, Plan, in_queue, GiverSeat, holds, retakes, View, giving, Has, Cell, free, laid, Facts, published, IsLaid, CellOk, PalmOk, PostOk, Knows, Kept, RingRule, did_retake}
use mathlib.Core.Option as maybe
use Rattle.hs_ring.proofs.Updates.{allowed_set}
use Rattle.hs_ring.proofs.Spots.{still_with, spot_stays}
use Rattle.hs_ring.proofs.Stays.{Moves, hand_stays, queued_stays, cell_stays, facts_after, knows_stays}
use Rattle.hs_ring.proofs.Counting.{entry_below, reseated}
use Rattle.hs_ring.proofs.Draws.{St, Held}
use Rattle.hs_ring.proofs.Takes.{ours, no_giver, same_post}
use Rattle.hs_ring.proofs.Lays.{next_is}

module _ (plan : Plan) (s : St) (f : Facts) (k : Kept plan s f) (id : ℕ) (post : GiverSeat) (b t : ℕ) (at : get_elem? s.views id ≡ some (giving post (retakes b t)))
    (i number : ℕ) (i_is : i ≡ number % (2 * plan.buffers)) (number_is : suc number ≡ published plan.buffers f.log) (held : Held) where
  abbrev n : ℕ
  n = plan.buffers

  abbrev own : PostOk plan f id post (retakes b t)
  own = ours plan s f k id post (retakes b t) at

  abbrev in_hand : PalmOk n f.log f.cells f.spots (retakes b t)
  in_hand = subst (PalmOk n f.log f.cells f.spots) own.palm_is k.in_palm

  there : f.cells i ≡ laid number
  there =
      let same : in_hand.1.0 ≡ number = (let e : suc in_hand.1.0 ≡ published n f.log = in_hand.1.1 in omega arith) in
      ap f.cells (i_is ∙ ap (λ (m : ℕ). m % (2 * n)) (sym same)) ∙ in_hand.1.2 ∙ ap laid same

  i_low : i < 2 * n
  i_low = let less = entry_below plan s f k number in omega arith

  abbrev cells' : ℕ → Cell
  cells' = put f.cells i free

  abbrev after_retake : Facts
  after_retake = facts_after f [] cells' f.spots f.hands (holds b t)

  retake_moves : Moves f.log [] f.cells cells' f.spots f.spots f.hands f.hands 0 (in_queue 0) (laid number)
  retake_moves =
      record {
        by = tt;
        names = λ _ _. tt;
        spots_stay = λ _ _. refl;
        cells_stay = λ e far. put_else f.cells i free e (λ same. far (ap f.cells same ∙ there));
        hands_stay = λ _ _. refl;
        fresh = λ d number buffer stamp is. inl is;
      }

  abbrev words' : List ℕ
  words' = set s.words (i + 1) 0

  abbrev homes' : List (maybe.Option (Option Contents))
  homes' = set s.homes i (some None)

  retake_cells : (e : ℕ) → e < 2 * n → CellOk n plan.size f.log f.spots f.hands (holds b t) e (get_or words' (suc e) 0) (get_elem? homes' e) (cells' e)
  retake_cells e low =
      put_cases (CellOk n plan.size f.log f.spots f.hands (holds b t) e (get_or words' (suc e) 0) (get_elem? homes' e)) f.cells i free e
      (λ same. (
        get_or-set_at s.words (i + 1) (suc e) 0 0 (omega arith) (let c = k.words in let l = i_low in omega arith),
        ap (get_elem? homes') same ∙ set_here s.homes i (some None) (let h = k.homes in let l = i_low in omega arith),
      ))
      (λ other. cell_stays n plan.size f.log f.log f.spots f.spots f.hands f.hands f.palm (holds b t) e (get_or s.words (suc e) 0) (get_or words' (suc e) 0) (get_elem? s.homes e) (get_elem? homes' e)
      (get_or-set_other s.words (i + 1) (suc e) 0 0 (λ same. other (omega arith))) (set_else s.homes i e (some None) other)
      (λ number buffer _ above below is. (above, below, is))
      (λ number buffer drawer stamp _ above below lapped is. (above, below, lapped, is))
      (λ number' here is.
      let next : suc number' ≡ published n f.log = subst (IsLaid (published n f.log) number') own.palm_is is in
      let same : number' ≡ number = omega arith in
      absurd (other (here ∙ ap (λ (m : ℕ). m % (2 * n)) same ∙ sym i_is)))
      (f.cells e) (k.each_cell e low))

  abbrev w : View
  w = giving post (holds b t)

  retake_seats : (j : ℕ) (v : View) → get_elem? (set s.views id w) j ≡ some v → Knows plan after_retake j v
  retake_seats = reseated plan after_retake s.views id w (same_post plan f id post (retakes b t) (holds b t) cells' f.spots own)
      (λ j v other seen. knows_stays plan f [] cells' f.spots f.hands (holds b t) 0 (in_queue 0) (laid number) retake_moves j (λ d _ e. omega arith) (λ e. cc)
      (no_giver plan s f k id post (retakes b t) at [] cells' f.spots f.hands (holds b t) j other) v (k.each_seat j v seen))

  pub retake_kept : Kept plan (stepped s (i + 1) 0 id ((i, None) ∷ held) w gives) after_retake
  retake_kept =
      record {
        within = k.within;
        homes = length-set s.homes i (some None) ∙ k.homes;
        words = length-set s.words (i + 1) 0 ∙ k.words;
        counts = get_or-set_other s.words (i + 1) 0 0 0 (λ e. omega arith) ∙ k.counts;
        lawful = k.lawful;
        spent = k.spent;
        voids = k.voids;
        gives = k.gives;
        each_cell = retake_cells;
        each_queued = λ a buffer seen. queued_stays n f.log [] f.cells cells' f.spots f.spots f.hands f.hands 0 (in_queue 0) (laid number) retake_moves (λ number buffer e. cc) _ _ buffer (k.each_queued a buffer seen);
        each_hand = λ d. hand_stays n f.log [] f.cells cells' f.spots f.spots f.hands f.hands 0 (in_queue 0) (laid number) retake_moves d (λ e. omega arith) (λ e. cc) (λ number buffer e. cc) (f.hands d) (k.each_hand d);
        in_palm = in_hand.0;
        each_spot = λ buffer low.
            spot_stays n f.cells cells' f.seats f.giver s.views (set s.views id w) buffer
            (λ h is. queued_stays n f.log [] f.cells cells' f.spots f.spots f.hands f.hands 0 (in_queue 0) (laid number) retake_moves (λ number buffer e. cc) _ _ buffer is)
            (still_with s.views id (giving post (retakes b t)) w at (Has buffer) (λ had. had)) (f.spots buffer) (k.each_spot buffer low);
        allowed = allowed_set plan f.log s.views id (giving post (retakes b t)) w at refl refl k.allowed;
        by_giver = k.by_giver;
        all_made = k.all_made;
        still_open = k.still_open;
        unmade = k.unmade;
        each_seat = retake_seats;
      }

pub retakes_it : (plan : Plan) (slots id : ℕ) (post : GiverSeat) (b t number i : ℕ) (held : Held) → 2 * suc number ≡ slots + 2 * length (answers_in post.turns) → i ≡ number % slots
    → Allows (RingRule plan) slots id (giving post (retakes b t), (i, None) ∷ held) (i + 1) (λ _. 0) (did_retake (step slots (i + 1) 0 0 maybe.none) (giving post (retakes b t), (i, None) ∷ held))
retakes_it plan slots id post b t number i held next is s (f, k) wide at small =
    let number_is : suc number ≡ published plan.buffers f.log = next_is plan s f k id post (retakes b t) (ours plan s f k id post (retakes b t) at) (suc number) (next ∙ ap (λ (m : ℕ). m + 2 * length (answers_in post.turns)) (sym wide)) in
    let i_is : i ≡ number % (2 * plan.buffers) = is ∙ ap (λ (m : ℕ). number % m) (sym wide ∙ k.homes) in
    (giving post (holds b t), gives, tt, (_, retake_kept plan s f k id post b t at i number i_is number_is held), refl)
