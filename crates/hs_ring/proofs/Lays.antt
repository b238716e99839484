-- The giver lays its number at the entry, finds the entry in use, or takes the number back.
use Rattle.std.proofs.Common.{◌≡◌, ◌≢◌, ℕ, suc, ◌+◌, ◌-◌, ◌*◌, ◌%◌, ◌<◌, ◌≤◌, List, [], ◌∷◌, length, set, get_or, None, refl, sym, ap, ap₂, ◌∙◌, subst, inl, arith, add-one, length-set, get_or-set_other}
use Rattle.hs_ring.proofs.Prelude.{get_or-set_at, set-get_or, add-mod_right, some, get_elem?, either, Option, ◌==◌, AllByRecursion, Me, step, keeps, takes, stepped, Allows, set_here, set_else, put, put_cases, put_here, put_else, Contents, Answer, got_by, drawn_in, answers_in, told_in, all_of, draw_is_at, Plan, in_queue, with_giver, HasLease, drew, GiverSeat, Palm, holds, lays, View, giving, giver_seat_after, Has, Cell, free, waits, drawn, laid, Facts, published, IsLaid, CellOk, HandOk, PalmOk, IsSettled, PostOk, Knows, Kept, RingRule, did_lay}
use mathlib.Core.Option as maybe
use Rattle.atomic_table.proofs.Lists.{exchanged, one_turn}
use Rattle.hs_words.specs.Ends.{unread, SpendsThe, IsUnread}
use Rattle.hs_words.proofs.Deeds.{unspent}
use Rattle.hs_ring.proofs.Updates.{allowed_set}
use Rattle.hs_ring.proofs.Spots.{still_with, spot_stays}
use Rattle.hs_ring.proofs.Stays.{Moves, is_last, hand_stays, queued_stays, cell_stays, facts_after, knows_stays}
use Rattle.hs_ring.proofs.Counting.{lap, entry_below, reseated, Goes}
use Rattle.hs_ring.proofs.Draws.{St, Held}
use Rattle.hs_ring.proofs.Takes.{ours, no_giver, same_post}

-- the number that the giver publishes next
pub next_is : (plan : Plan) (s : St) (f : Facts) (k : Kept plan s f) (id : ℕ) (post : GiverSeat) (palm : Palm) → PostOk plan f id post palm → (number : ℕ) → 2 * number ≡ length s.homes + 2 * length (answers_in post.turns)
    → number ≡ published plan.buffers f.log
next_is plan s f k id post palm ok number double =
    let same = ap (λ (l : List Answer). length l) ok.answers in
    let g = k.by_giver in
    let h = k.homes in
    omega arith

-- ---- the entry is free

module _ (plan : Plan) (s : St) (f : Facts) (k : Kept plan s f) (id : ℕ) (post : GiverSeat) (b t : ℕ) (at : get_elem? s.views id ≡ some (giving post (holds b t))) (i : ℕ) (i_is : i ≡ published plan.buffers f.log % (2 * plan.buffers)) (held : Held) where
  abbrev n : ℕ
  n = plan.buffers

  abbrev P : ℕ
  P = published n f.log

  abbrev own : PostOk plan f id post (holds b t)
  own = ours plan s f k id post (holds b t) at

  has : HasLease n f.log f.spots b t with_giver
  has = subst (PalmOk n f.log f.cells f.spots) own.palm_is k.in_palm

  pub i_low : i < 2 * n
  i_low = let less = entry_below plan s f k P in omega arith

  abbrev cell_there : CellOk n plan.size f.log f.spots f.hands f.palm i (get_or s.words (suc i) 0) (get_elem? s.homes i) (f.cells i)
  cell_there = k.each_cell i i_low

  -- an entry whose word is 0 is free
  pub is_free : get_or s.words (suc i) 0 ≡ 0 → (f.cells i ≡ free) × (get_elem? s.homes i ≡ some (some None))
  is_free zero_word = go (f.cells i) cell_there
    where
      go : (c : Cell) → CellOk n plan.size f.log f.spots f.hands f.palm i (get_or s.words (suc i) 0) (get_elem? s.homes i) c → (c ≡ free) × (get_elem? s.homes i ≡ some (some None))
      go free ok = (refl, ok.1)
      go (waits number buffer) ok = let shows : get_or s.words (suc i) 0 ≡ suc number = ok.1 in absurd (omega arith)
      go (drawn number buffer drawer) ok = let shows : get_or s.words (suc i) 0 ≡ suc number = ok.1 in absurd (omega arith)
      go (laid number) ok = let shows : get_or s.words (suc i) 0 ≡ suc number = ok.1 in absurd (omega arith)

  module _ (was_free : f.cells i ≡ free) where
    abbrev cells' : ℕ → Cell
    cells' = put f.cells i (laid P)

    abbrev after_lay : Facts
    after_lay = facts_after f [] cells' f.spots f.hands (lays b t)

    lay_moves : Moves f.log [] f.cells cells' f.spots f.spots f.hands f.hands 0 (in_queue 0) free
    lay_moves =
        record {
          by = tt;
          names = λ _ _. tt;
          spots_stay = λ _ _. refl;
          cells_stay = λ e far. put_else f.cells i (laid P) e (λ same. far (ap f.cells same ∙ was_free));
          hands_stay = λ _ _. refl;
          fresh = λ d number buffer stamp is. inl is;
        }

    abbrev words' : List ℕ
    words' = set s.words (i + 1) (P + 1)

    abbrev homes' : List (maybe.Option (Option Contents))
    homes' = set s.homes i maybe.none

    lay_cells : (e : ℕ) → e < 2 * n → CellOk n plan.size f.log f.spots f.hands (lays b t) e (get_or words' (suc e) 0) (get_elem? homes' e) (cells' e)
    lay_cells e low =
        put_cases (CellOk n plan.size f.log f.spots f.hands (lays b t) e (get_or words' (suc e) 0) (get_elem? homes' e)) f.cells i (laid P) e
        (λ same. (
          same ∙ i_is,
          get_or-set_at s.words (i + 1) (suc e) (P + 1) 0 (omega arith) (let c = k.words in let l = i_low in omega arith) ∙ add-one P,
          ap (get_elem? homes') same ∙ set_here s.homes i maybe.none (let h = k.homes in let l = i_low in omega arith),
          refl,
        ))
        (λ other. cell_stays n plan.size f.log f.log f.spots f.spots f.hands f.hands f.palm (lays b t) e (get_or s.words (suc e) 0) (get_or words' (suc e) 0) (get_elem? s.homes e) (get_elem? homes' e)
        (get_or-set_other s.words (i + 1) (suc e) (P + 1) 0 (λ same. other (omega arith))) (set_else s.homes i e maybe.none other)
        (λ number buffer _ above below is. (above, below, is))
        (λ number buffer drawer stamp _ above below lapped is. (above, below, lapped, is))
        (λ number _ is. absurd (subst (IsLaid P number) own.palm_is is))
        (f.cells e) (k.each_cell e low))

    abbrev w : View
    w = giving post (lays b t)

    lay_seats : (j : ℕ) (v : View) → get_elem? (set s.views id w) j ≡ some v → Knows plan after_lay j v
    lay_seats = reseated plan after_lay s.views id w (same_post plan f id post (holds b t) (lays b t) cells' f.spots own)
        (λ j v other seen. knows_stays plan f [] cells' f.spots f.hands (lays b t) 0 (in_queue 0) free lay_moves j (λ d _ e. omega arith) (λ e. cc)
        (no_giver plan s f k id post (holds b t) at [] cells' f.spots f.hands (lays b t) j other) v (k.each_seat j v seen))

    pub lay_kept : Kept plan (stepped s (i + 1) (P + 1) id held w (takes i None)) after_lay
    lay_kept =
        record {
          within = k.within;
          homes = length-set s.homes i maybe.none ∙ k.homes;
          words = length-set s.words (i + 1) (P + 1) ∙ k.words;
          counts = get_or-set_other s.words (i + 1) 0 (P + 1) 0 (λ e. omega arith) ∙ k.counts;
          lawful = k.lawful;
          spent = k.spent;
          voids = k.voids;
          gives = k.gives;
          each_cell = lay_cells;
          each_queued = λ a buffer seen. queued_stays n f.log [] f.cells cells' f.spots f.spots f.hands f.hands 0 (in_queue 0) free lay_moves (λ number buffer e. cc) _ _ buffer (k.each_queued a buffer seen);
          each_hand = λ d. hand_stays n f.log [] f.cells cells' f.spots f.spots f.hands f.hands 0 (in_queue 0) free lay_moves d (λ e. omega arith) (λ e. cc) (λ number buffer e. cc) (f.hands d) (k.each_hand d);
          in_palm = (has, ap cells' (sym i_is) ∙ put_here f.cells i (laid P));
          each_spot = λ buffer low.
              spot_stays n f.cells cells' f.seats f.giver s.views (set s.views id w) buffer
              (λ number is. queued_stays n f.log [] f.cells cells' f.spots f.spots f.hands f.hands 0 (in_queue 0) free lay_moves (λ number buffer e. cc) _ _ buffer is)
              (still_with s.views id (giving post (holds b t)) w at (Has buffer) (λ had. had)) (f.spots buffer) (k.each_spot buffer low);
          allowed = allowed_set plan f.log s.views id (giving post (holds b t)) w at refl refl k.allowed;
          by_giver = k.by_giver;
          all_made = k.all_made;
          still_open = k.still_open;
          unmade = k.unmade;
          each_seat = lay_seats;
        }

  -- ---- the entry is in use

  pub is_unread : get_or s.words (suc i) 0 ≢ 0 → IsUnread n f.log post.turns
  is_unread in_use = go (f.cells i) cell_there
    where
      go : (c : Cell) → CellOk n plan.size f.log f.spots f.hands f.palm i (get_or s.words (suc i) 0) (get_elem? s.homes i) c → IsUnread n f.log post.turns
      go free ok = absurd (in_use ok.0)
      go (waits number buffer) ok =
          let low : drawn_in f.log ≤ number = ok.3 in
          let high : number < P = ok.4 in
          let lapped = lap plan s f k in
          let one = k.within.some_there in
          let same : number ≡ P = one_turn number P (2 * n) (omega arith) (omega arith) (sym ok.0 ∙ i_is) in
          absurd (omega arith)
      go (drawn number buffer drawer) ok =
          let high : number < P = ok.4 in
          let lapped : P ≤ number + 2 * n = ok.5 in
          let stamp = ok.6.0 in
          let there : P ≡ number + 2 * n = one_turn P (number + 2 * n) (2 * n) lapped (omega arith) (sym i_is ∙ ok.0 ∙ sym (add-mod_right number (2 * n))) in
          let hand : HandOk n f.log f.cells f.spots drawer (drew number buffer stamp) = subst (HandOk n f.log f.cells f.spots drawer) ok.6.1 (k.each_hand drawer) in
          record {
            number = number;
            stamp = stamp;
            drawer = suc drawer;
            buffer = buffer;
            laps = (let counted = ap (λ (l : List Answer). length l) own.answers in let g = k.by_giver in omega arith);
            draw = hand.2;
            unspent =
                subst (AllByRecursion (λ (a : Answer). SpendsThe stamp a.event a.draw → ⊥)) (sym own.answers)
                (unspent f.log stamp buffer k.spent hand.3 (suc drawer, draw_is_at f.log number stamp (got_by (suc drawer) buffer) hand.2));
            last = λ later deed seen by above. absurd (let le = is_last f.log (suc drawer) stamp later deed hand.4 seen by in omega arith);
            untold = all_of (told_in post.turns) (λ (told : ℕ) (settled : IsSettled f.log f.hands told) same. settled.1 drawer number buffer stamp ok.6.1 same) own.told;
          }
      go (laid number) ok = absurd (subst (IsLaid P number) own.palm_is ok.3)

  abbrev unread_post : GiverSeat
  unread_post = giver_seat_after post unread post.floor post.misses

  abbrev w₂ : View
  w₂ = giving unread_post (holds b t)

  unread_ours : get_or s.words (suc i) 0 ≢ 0 → PostOk plan f id unread_post (holds b t)
  unread_ours in_use =
      record {
        size = own.size;
        seat = own.seat;
        palm_is = own.palm_is;
        made = own.made;
        closed = own.closed;
        closed_answers = own.closed_answers;
        answers = own.answers;
        misses = own.misses;
        floor = own.floor;
        unread = (is_unread in_use, own.unread);
        told = own.told;
      }

  pub unread_kept : get_or s.words (suc i) 0 ≢ 0 → Kept plan record { words = s.words; homes = s.homes; views = set s.views id w₂ } f
  unread_kept in_use =
      record {
        within = k.within;
        homes = k.homes;
        words = k.words;
        counts = k.counts;
        lawful = k.lawful;
        spent = k.spent;
        voids = k.voids;
        gives = k.gives;
        each_cell = k.each_cell;
        each_queued = k.each_queued;
        each_hand = k.each_hand;
        in_palm = k.in_palm;
        each_spot = λ buffer low.
            spot_stays n f.cells f.cells f.seats f.giver s.views (set s.views id w₂) buffer (λ number is. is) (still_with s.views id (giving post (holds b t)) w₂ at (Has buffer) (λ had. had)) (f.spots buffer) (k.each_spot buffer low);
        allowed = allowed_set plan f.log s.views id (giving post (holds b t)) w₂ at refl refl k.allowed;
        by_giver = k.by_giver;
        all_made = k.all_made;
        still_open = k.still_open;
        unmade = k.unmade;
        each_seat = reseated plan f s.views id w₂ (unread_ours in_use) (λ j v other seen. k.each_seat j v seen);
      }

-- the step, whatever it finds
pub lays_or_not : (plan : Plan) (slots id : ℕ) (post : GiverSeat) (b t number i : ℕ) (held : Held) → 2 * number ≡ slots + 2 * length (answers_in post.turns) → i ≡ number % slots
    → Allows (RingRule plan) slots id (giving post (holds b t), held) (i + 1) (λ m. either (m == 0) (number + 1) m) (did_lay (step slots (i + 1) 0 (number + 1) maybe.none) (giving post (holds b t), held))
lays_or_not plan slots id post b t number i held next is s (f, k) wide at small =
    let n = plan.buffers in
    let me : Me (Option Contents) View = (giving post (holds b t), held) in
    let then = did_lay (step slots (i + 1) 0 (number + 1) maybe.none) me in
    let size : slots ≡ 2 * n = sym wide ∙ k.homes in
    let number_is : number ≡ published n f.log = next_is plan s f k id post (holds b t) (ours plan s f k id post (holds b t) at) number (next ∙ ap (λ (m : ℕ). m + 2 * length (answers_in post.turns)) (sym wide)) in
    let i_is : i ≡ published n f.log % (2 * n) = is ∙ ap₂ (λ (h : ℕ) (m : ℕ). h % m) number_is size in
    let word = get_or s.words (i + 1) 0 in
    let place : word ≡ get_or s.words (suc i) 0 = ap (λ (j : ℕ). get_or s.words j 0) (add-one i) in
    exchanged word 0 (number + 1) (λ x. Goes plan s (i + 1) id me x then)
    (λ zero_word.
    let is_now = is_free plan s f k id post b t at i i_is held (sym place ∙ zero_word) in
    subst (λ m. Goes plan s (i + 1) id me (m + 1) then) (sym number_is) (
      giving post (lays b t),
      takes i None,
      is_now.1,
      (_, lay_kept plan s f k id post b t at i i_is held is_now.0),
      ((λ _. ap (λ (j : ℕ). let m : Me (Option Contents) View = (giving post (lays b t), (j, None) ∷ held) in m) (let e : i ≡ i + 1 - 1 = omega arith in e)), (λ in_use. absurd (in_use zero_word))),
    ))
    (λ in_use. (
      giving (giver_seat_after post unread post.floor post.misses) (holds b t),
      keeps,
      tt,
      (
        f,
        subst (λ (ws : List ℕ). Kept plan record { words = ws; homes = s.homes; views = set s.views id (giving (giver_seat_after post unread post.floor post.misses) (holds b t)) } f) (sym (set-get_or s.words (i + 1) 0))
            (unread_kept plan s f k id post b t at i i_is held (λ e. in_use (place ∙ e))),
      ),
      ((λ zero_word. absurd (in_use zero_word)), (λ _. refl)),
    ))
