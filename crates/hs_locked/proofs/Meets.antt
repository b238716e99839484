-- Two ends hear of what the other knows, by notes. Notes change nothing but what seats know.
use Rattle.std.proofs.Common.{◌≡◌, ℕ, ◌≤◌, List, [], ◌∷◌, ◌++◌, length, set, max, sym, ◌∙◌, arith}
use Rattle.hs_locked.proofs.Prelude.{some, get_elem?, Splits, Joins, set_else, still_with, with_more, Plan, AtSeat, DrawerSeat, Hand, GiverSeat, Palm, Stand, View, nobody, drawing, giving, drawer_note, giver_note, giver_seat_after, Has, HasStore, all_left, Facts, DeskOk, PostOk, Knows, Kept, LockedRule}
use Rattle.hs_base.proofs.Numbers.{max_le}
use Rattle.hs_words.specs.Ends.{met, stamps_in}
use Rattle.hs_locked.specs.Views.{with_floor}
use Rattle.hs_locked.proofs.Updates.{left_set, left_and}
use Rattle.hs_locked.proofs.Spots.{spot_stays, out_stays}
use Rattle.hs_locked.proofs.Stays.{reseated, seated_too}
use Rattle.hs_locked.proofs.Turns.{St}

-- seats that know something else
known_kept : (plan : Plan) (s : St) (f : Facts) (views : List View) → Kept plan s f → all_left views ≡ all_left s.views
    → ((buffer j : ℕ) → AtSeat s.views (Has buffer) j → AtSeat views (Has buffer) j) → ((j : ℕ) → AtSeat s.views (HasStore f.stored) j → AtSeat views (HasStore f.stored) j) → ((j : ℕ) (v : View) → get_elem? views j ≡ some v → Knows plan f j v)
    → Kept plan record { words = s.words; homes = s.homes; views = views } f
known_kept plan s f views k same has_still store_still each =
    record {
      within = k.within;
      homes = k.homes;
      words = k.words;
      taken = k.taken;
      turn = k.turn;
      ahead = k.ahead;
      store_ok = k.store_ok;
      slot_ok = k.slot_ok;
      out_ok = out_stays (get_elem? s.homes 0) s.views views f.stored store_still f.slot k.out_ok;
      spent = k.spent;
      each_queued = k.each_queued;
      each_hand = k.each_hand;
      in_palm = k.in_palm;
      each_spot = λ buffer low. spot_stays plan.buffers f.log f.log f.seats f.giver s.views views buffer (λ number is. is) (has_still buffer) (f.spots buffer) (k.each_spot buffer low);
      each_stand = k.each_stand;
      left = (let l = k.left in omega arith);
      all_made = k.all_made;
      still_open = k.still_open;
      gone = k.gone;
      each_seat = each;
    }

-- an end writes a note
written : (plan : Plan) (s : St) (f : Facts) (k : Kept plan s f) (id : ℕ) (v note : View) → get_elem? s.views id ≡ some v → Knows plan f (length (set s.views id v)) note
    → all_left (set s.views id v ++ note ∷ []) ≡ all_left s.views → LockedRule plan record { words = s.words; homes = s.homes; views = set s.views id v ++ note ∷ [] }
written plan s f k id v note at known same = (
  f,
  known_kept plan s f (set s.views id v ++ note ∷ []) k same
      (λ buffer j had. with_more (set s.views id v) note (Has buffer) j (still_with s.views id v v at (Has buffer) (λ has. has) j had))
      (λ j had. with_more (set s.views id v) note (HasStore f.stored) j (still_with s.views id v v at (HasStore f.stored) (λ has. has) j had))
      (seated_too plan f (set s.views id v) note known (reseated plan f s.views id v (k.each_seat id v at) (λ j v' _ seen. k.each_seat j v' seen))),
)

pub drawer_writes : (plan : Plan) (id : ℕ) (desk : DrawerSeat) (hand : Hand) (stand : Stand) → Splits (LockedRule plan) id (drawing desk hand stand) (drawing desk hand stand) (drawer_note desk.floor (stamps_in desk.answers))
drawer_writes plan id desk hand stand s (f, k) at =
    let own : DeskOk plan f id desk hand stand = k.each_seat id (drawing desk hand stand) at in
    written plan s f k id (drawing desk hand stand) (drawer_note desk.floor (stamps_in desk.answers)) at own.floor
    (let e = left_set s.views id (drawing desk hand stand) (drawing desk hand stand) at in let a = left_and (set s.views id (drawing desk hand stand)) (drawer_note desk.floor (stamps_in desk.answers)) in omega arith)

pub giver_writes : (plan : Plan) (id : ℕ) (post : GiverSeat) (palm : Palm) (stand : Stand) → Splits (LockedRule plan) id (giving post palm stand) (giving post palm stand) (giver_note post.floor)
giver_writes plan id post palm stand s (f, k) at =
    let own : PostOk plan f id post palm stand = k.each_seat id (giving post palm stand) at in
    written plan s f k id (giving post palm stand) (giver_note post.floor) at own.floor
    (let e = left_set s.views id (giving post palm stand) (giving post palm stand) at in let a = left_and (set s.views id (giving post palm stand)) (giver_note post.floor) in omega arith)

-- two seats have new views, and know them to be true
both_seats : (plan : Plan) (s : St) (f : Facts) (k : Kept plan s f) (id other : ℕ) (w x : View) → Knows plan f id w → Knows plan f other x → (j : ℕ) (v : View) → get_elem? (set (set s.views id w) other x) j ≡ some v → Knows plan f j v
both_seats plan s f k id other w x one two =
    reseated plan f (set s.views id w) other x two (λ j v far seen. reseated plan f s.views id w one (λ j' v' _ seen'. k.each_seat j' v' seen') j v seen)

pub giver_hears : (plan : Plan) (id : ℕ) (post : GiverSeat) (palm : Palm) (stand : Stand) (other floor : ℕ) (stamps : List ℕ)
    → Joins (LockedRule plan) id (giving post palm stand) other (drawer_note floor stamps) (giving (giver_seat_after post (met stamps) (max post.floor floor)) palm stand) nobody
giver_hears plan id post palm stand other floor stamps s (f, k) at differ note_at =
    let w : View = giving (giver_seat_after post (met stamps) (max post.floor floor)) palm stand in
    let own : PostOk plan f id post palm stand = k.each_seat id (giving post palm stand) at in
    let note : floor ≤ length f.log = k.each_seat other (drawer_note floor stamps) (sym (set_else s.views id other w differ) ∙ note_at) in
    let now : PostOk plan f id (giver_seat_after post (met stamps) (max post.floor floor)) palm stand =
    record {
      buffers = own.buffers;
      size = own.size;
      seat = own.seat;
      palm_is = own.palm_is;
      stand_is = own.stand_is;
      made = own.made;
      closed = own.closed;
      closed_answers = own.closed_answers;
      answers = own.answers;
      floor = max_le post.floor floor (length f.log) own.floor note;
      unread = own.unread;
    } in (
      f,
      known_kept plan s f (set (set s.views id w) other nobody) k
          (let e = left_set s.views id (giving post palm stand) w at in let e' = left_set (set s.views id w) other (drawer_note floor stamps) nobody note_at in omega arith)
          (λ buffer j had. still_with (set s.views id w) other (drawer_note floor stamps) nobody note_at (Has buffer) (λ none. none) j (still_with s.views id (giving post palm stand) w at (Has buffer) (λ has. has) j had))
          (λ j had. still_with (set s.views id w) other (drawer_note floor stamps) nobody note_at (HasStore f.stored) (λ none. none) j (still_with s.views id (giving post palm stand) w at (HasStore f.stored) (λ has. has) j had))
          (both_seats plan s f k id other w nobody now tt),
    )

pub drawer_hears : (plan : Plan) (id : ℕ) (desk : DrawerSeat) (hand : Hand) (stand : Stand) (other floor : ℕ)
    → Joins (LockedRule plan) id (drawing desk hand stand) other (giver_note floor) (drawing (with_floor desk (max desk.floor floor)) hand stand) nobody
drawer_hears plan id desk hand stand other floor s (f, k) at differ note_at =
    let w : View = drawing (with_floor desk (max desk.floor floor)) hand stand in
    let own : DeskOk plan f id desk hand stand = k.each_seat id (drawing desk hand stand) at in
    let note : floor ≤ length f.log = k.each_seat other (giver_note floor) (sym (set_else s.views id other w differ) ∙ note_at) in
    let now : DeskOk plan f id (with_floor desk (max desk.floor floor)) hand stand =
    record {
      buffers = own.buffers;
      size = own.size;
      active = own.active;
      seat = own.seat;
      hand_is = own.hand_is;
      stand_is = own.stand_is;
      answers = own.answers;
      floor = max_le desk.floor floor (length f.log) own.floor note;
    } in (
      f,
      known_kept plan s f (set (set s.views id w) other nobody) k
          (let e = left_set s.views id (drawing desk hand stand) w at in let e' = left_set (set s.views id w) other (giver_note floor) nobody note_at in omega arith)
          (λ buffer j had. still_with (set s.views id w) other (giver_note floor) nobody note_at (Has buffer) (λ none. none) j (still_with s.views id (drawing desk hand stand) w at (Has buffer) (λ has. has) j had))
          (λ j had. still_with (set s.views id w) other (giver_note floor) nobody note_at (HasStore f.stored) (λ none. none) j (still_with s.views id (drawing desk hand stand) w at (HasStore f.stored) (λ has. has) j had))
          (both_seats plan s f k id other w nobody now tt),
    )
