-- Two ends hear of what the other knows, by notes.
use Rattle.std.proofs.Common.{◌≡◌, ℕ, suc, ◌≤◌, Bool, true, false, ◌==◌, List, [], ◌∷◌, ◌++◌, length, set, max, refl, sym, ap, ◌∙◌, subst, inl, inr, arith}
use Rattle.hs_ring.proofs.Prelude.{some, get_elem?, AllByRecursion, Splits, Joins, set_else, Deed, Answer, got_by, answers_by, told_in, IsDeedAt, answer_to, draw_is_at, Plan, AtSeat, DrawerSeat, Hand, nothing, drew, GiverSeat, Palm, View, nobody, drawing, giving, drawer_note, giver_note, giver_seat_after, Allowed, Has, Facts, HandOk, IsSettled, DeskOk, PostOk, Knows, Kept, RingRule}
use borrow.Author.Tests.{eqb-true}
use Rattle.hs_base.proofs.Numbers.{max_le}
use Rattle.hs_base.proofs.Alls.{all_append}
use Rattle.hs_words.specs.Ends.{met, stamps_in, put_if}
use Rattle.hs_words.proofs.Deeds.{at_below, at_once}
use Rattle.hs_ring.proofs.Updates.{allowed_set, allowed_and}
use Rattle.hs_ring.proofs.Counting.{reseated, seated_too}
use Rattle.hs_ring.proofs.Spots.{still_with, with_more, spot_stays}
use Rattle.hs_ring.proofs.Draws.{St}

-- ---- what a drawer answered was collected by it

-- an answer of an end is a deed of that end
at_answer : (log : List Deed) (end : ℕ) (P : ℕ → Type 0) → ((stamp : ℕ) (deed : Deed) → IsDeedAt log stamp deed → deed.by ≡ end → P stamp) → AllByRecursion P (stamps_in (answers_by end log))
at_answer [] end P known = tt
at_answer (x ∷ xs) end P known = step (x.by == end) refl (at_answer xs end P (λ stamp deed at by. known stamp deed (inr at) by))
  where
    step : (b : Bool) → (x.by == end) ≡ b → AllByRecursion P (stamps_in (answers_by end xs)) → AllByRecursion P (stamps_in (put_if b (answer_to x (length xs)) (answers_by end xs)))
    step true e rest = (known (length xs) x (inl (refl, refl)) (eqb-true x.by end e), rest)
    step false e rest = rest

module _ (plan : Plan) (s : St) (f : Facts) (k : Kept plan s f) (id : ℕ) (desk : DrawerSeat) (at : get_elem? s.views id ≡ some (drawing desk nothing)) where
  abbrev own : DeskOk plan f id desk nothing
  own = k.each_seat id (drawing desk nothing) at

  -- an idle drawer has collected all that it drew
  settled : (told : ℕ) (deed : Deed) → IsDeedAt f.log told deed → deed.by ≡ suc desk.number → IsSettled f.log f.hands told
  settled told deed seen by = (
    at_below f.log told deed seen,
    λ drawer number buffer stamp is same.
        let hand : HandOk plan.buffers f.log f.cells f.spots drawer (drew number buffer stamp) = subst (HandOk plan.buffers f.log f.cells f.spots drawer) is (k.each_hand drawer) in
        let seen' : IsDeedAt f.log told (got_by (suc drawer) buffer) = subst (λ (t : ℕ). IsDeedAt f.log t (got_by (suc drawer) buffer)) (sym same) (draw_is_at f.log number stamp (got_by (suc drawer) buffer) hand.2) in
        let one : deed.by ≡ suc drawer = ap (λ (d : Deed). d.by) (at_once f.log told deed (got_by (suc drawer) buffer) seen seen') in
        let this : drawer ≡ desk.number = omega arith in
        let both : nothing ≡ drew number buffer stamp = sym own.hand_is ∙ ap f.hands (sym this) ∙ is in
        absurd cc,
  )

  note_kept : Kept plan record { words = s.words; homes = s.homes; views = set s.views id (drawing desk nothing) ++ drawer_note desk.floor (stamps_in desk.answers) ∷ [] } f
  note_kept =
      record {
        within = k.within;
        homes = k.homes;
        words = k.words;
        counts = k.counts;
        lawful = k.lawful;
        spent = k.spent;
        voids = k.voids;
        gives = k.gives;
        each_cell = k.each_cell;
        each_queued = k.each_queued;
        each_hand = k.each_hand;
        in_palm = k.in_palm;
        each_spot = λ buffer low.
            spot_stays plan.buffers f.cells f.cells f.seats f.giver s.views (set s.views id (drawing desk nothing) ++ drawer_note desk.floor (stamps_in desk.answers) ∷ []) buffer (λ number is. is)
            (λ j had. with_more (set s.views id (drawing desk nothing)) (drawer_note desk.floor (stamps_in desk.answers)) (Has buffer) j (still_with s.views id (drawing desk nothing) (drawing desk nothing) at (Has buffer) (λ none. none) j had))
            (f.spots buffer) (k.each_spot buffer low);
        allowed = allowed_and plan f.log (set s.views id (drawing desk nothing)) (drawer_note desk.floor (stamps_in desk.answers)) refl refl (allowed_set plan f.log s.views id (drawing desk nothing) (drawing desk nothing) at refl refl k.allowed);
        by_giver = k.by_giver;
        all_made = k.all_made;
        still_open = k.still_open;
        unmade = k.unmade;
        each_seat = seated_too plan f (set s.views id (drawing desk nothing)) (drawer_note desk.floor (stamps_in desk.answers))
            (own.floor, subst (λ (l : List Answer). AllByRecursion (IsSettled f.log f.hands) (stamps_in l)) (sym own.answers) (at_answer f.log (suc desk.number) (IsSettled f.log f.hands) settled))
            (reseated plan f s.views id (drawing desk nothing) own (λ j v other seen. k.each_seat j v seen));
      }

pub notes_draws : (plan : Plan) (id : ℕ) (desk : DrawerSeat) → Splits (RingRule plan) id (drawing desk nothing) (drawing desk nothing) (drawer_note desk.floor (stamps_in desk.answers))
notes_draws plan id desk s (f, k) at = (f, note_kept plan s f k id desk at)

-- ---- other notes change nothing but what seats know

-- seats that know more
pub known_kept : (plan : Plan) (s : St) (f : Facts) (views : List View) → Kept plan s f → Allowed plan f.log views → ((buffer j : ℕ) → AtSeat s.views (Has buffer) j → AtSeat views (Has buffer) j) → ((j : ℕ) (v : View) → get_elem? views j ≡ some v → Knows plan f j v)
    → Kept plan record { words = s.words; homes = s.homes; views = views } f
known_kept plan s f views k allowed withs each =
    record {
      within = k.within;
      homes = k.homes;
      words = k.words;
      counts = k.counts;
      lawful = k.lawful;
      spent = k.spent;
      voids = k.voids;
      gives = k.gives;
      each_cell = k.each_cell;
      each_queued = k.each_queued;
      each_hand = k.each_hand;
      in_palm = k.in_palm;
      each_spot = λ buffer low. spot_stays plan.buffers f.cells f.cells f.seats f.giver s.views views buffer (λ number is. is) (withs buffer) (f.spots buffer) (k.each_spot buffer low);
      allowed = allowed;
      by_giver = k.by_giver;
      all_made = k.all_made;
      still_open = k.still_open;
      unmade = k.unmade;
      each_seat = each;
    }

pub notes_floor : (plan : Plan) (id : ℕ) (post : GiverSeat) (palm : Palm) → Splits (RingRule plan) id (giving post palm) (giving post palm) (giver_note post.floor)
notes_floor plan id post palm s (f, k) at =
    let own : PostOk plan f id post palm = k.each_seat id (giving post palm) at in (
      f,
      known_kept plan s f (set s.views id (giving post palm) ++ giver_note post.floor ∷ []) k
          (allowed_and plan f.log (set s.views id (giving post palm)) (giver_note post.floor) refl refl (allowed_set plan f.log s.views id (giving post palm) (giving post palm) at refl refl k.allowed))
          (λ buffer j had. with_more (set s.views id (giving post palm)) (giver_note post.floor) (Has buffer) j (still_with s.views id (giving post palm) (giving post palm) at (Has buffer) (λ in_palm. in_palm) j had))
          (seated_too plan f (set s.views id (giving post palm)) (giver_note post.floor) own.floor (reseated plan f s.views id (giving post palm) own (λ j v other seen. k.each_seat j v seen))),
    )

-- two seats have new views, and know them to be true
both_seats : (plan : Plan) (s : St) (f : Facts) (k : Kept plan s f) (id other : ℕ) (w x : View) → Knows plan f id w → Knows plan f other x → (j : ℕ) (v : View) → get_elem? (set (set s.views id w) other x) j ≡ some v → Knows plan f j v
both_seats plan s f k id other w x one two =
    reseated plan f (set s.views id w) other x two (λ j v far seen. reseated plan f s.views id w one (λ j' v' _ seen'. k.each_seat j' v' seen') j v seen)

pub giver_hears : (plan : Plan) (id : ℕ) (post : GiverSeat) (palm : Palm) (other floor : ℕ) (stamps : List ℕ)
    → Joins (RingRule plan) id (giving post palm) other (drawer_note floor stamps) (giving (giver_seat_after post (met stamps) (max post.floor floor) post.misses) palm) nobody
giver_hears plan id post palm other floor stamps s (f, k) at differ note_at =
    let w : View = giving (giver_seat_after post (met stamps) (max post.floor floor) post.misses) palm in
    let own : PostOk plan f id post palm = k.each_seat id (giving post palm) at in
    let note : Knows plan f other (drawer_note floor stamps) = k.each_seat other (drawer_note floor stamps) (sym (set_else s.views id other w differ) ∙ note_at) in
    let now : PostOk plan f id (giver_seat_after post (met stamps) (max post.floor floor) post.misses) palm =
    record {
      size = own.size;
      seat = own.seat;
      palm_is = own.palm_is;
      made = own.made;
      closed = own.closed;
      closed_answers = own.closed_answers;
      answers = own.answers;
      misses = own.misses;
      floor = max_le post.floor floor (length f.log) own.floor note.0;
      unread = own.unread;
      told = all_append (IsSettled f.log f.hands) stamps (told_in post.turns) note.1 own.told;
    } in (
      f,
      known_kept plan s f (set (set s.views id w) other nobody) k
          (allowed_set plan f.log (set s.views id w) other (drawer_note floor stamps) nobody note_at refl refl (allowed_set plan f.log s.views id (giving post palm) w at refl refl k.allowed))
          (λ buffer j had. still_with (set s.views id w) other (drawer_note floor stamps) nobody note_at (Has buffer) (λ none. none) j (still_with s.views id (giving post palm) w at (Has buffer) (λ in_palm. in_palm) j had))
          (both_seats plan s f k id other w nobody now tt),
    )

pub drawer_hears : (plan : Plan) (id : ℕ) (desk : DrawerSeat) (hand : Hand) (other floor : ℕ)
    → Joins (RingRule plan) id (drawing desk hand) other (giver_note floor) (drawing (record { size = desk.size; number = desk.number; most = desk.most; left = desk.left; floor = max desk.floor floor; answers = desk.answers }) hand) nobody
drawer_hears plan id desk hand other floor s (f, k) at differ note_at =
    let desk' : DrawerSeat = record { size = desk.size; number = desk.number; most = desk.most; left = desk.left; floor = max desk.floor floor; answers = desk.answers } in
    let w : View = drawing desk' hand in
    let own : DeskOk plan f id desk hand = k.each_seat id (drawing desk hand) at in
    let note : floor ≤ length f.log = k.each_seat other (giver_note floor) (sym (set_else s.views id other w differ) ∙ note_at) in
    let now : DeskOk plan f id desk' hand =
    record {
      size = own.size;
      active = own.active;
      seat = own.seat;
      hand_is = own.hand_is;
      within = own.within;
      answers = own.answers;
      floor = max_le desk.floor floor (length f.log) own.floor note;
    } in (
      f,
      known_kept plan s f (set (set s.views id w) other nobody) k
          (allowed_set plan f.log (set s.views id w) other (giver_note floor) nobody note_at refl refl (allowed_set plan f.log s.views id (drawing desk hand) w at refl refl k.allowed))
          (λ buffer j had. still_with (set s.views id w) other (giver_note floor) nobody note_at (Has buffer) (λ none. none) j (still_with s.views id (drawing desk hand) w at (Has buffer) (λ in_hand. in_hand) j had))
          (both_seats plan s f k id other w nobody now tt),
    )
