-- A drawer looks at the counts, and makes its allowance whole again where no number is void.
use Rattle.std.proofs.Common.{◌≡◌, ℕ, ◌+◌, ◌≤◌, List, set, get_or, refl, sym, subst, arith}
use Rattle.hs_ring.proofs.Prelude.{set-get_or, dec_le, dite, some, get_elem?, step, keeps, Allows, MOST_AHEAD, MOST_DRAWS, drawn_in, Plan, DrawerSeat, nothing, View, nobody, drawing, leasing, giving, drawer_note, giver_note, left_in, most_in, refilled_seat, Has, Allowed, Facts, published, DeskOk, Knows, Kept, RingRule, did_refill}
use mathlib.Core.Option as maybe
use Rattle.hs_ring.proofs.Updates.{most_set, left_within, allowed_set}
use Rattle.hs_ring.proofs.Counting.{found_drawn, found_published, reseated}
use Rattle.hs_ring.proofs.Spots.{still_with}
use Rattle.hs_ring.proofs.Draws.{St, Held}
use Rattle.hs_ring.proofs.Meets.{known_kept}

-- a seat that knows the truth has at most its whole allowance
seat_within : (plan : Plan) (f : Facts) (j : ℕ) (v : View) → Knows plan f j v → left_in v ≤ most_in v
seat_within plan f j nobody known = omega arith
seat_within plan f j (drawing desk hand) known = known.within
seat_within plan f j (leasing buffer draw) known = omega arith
seat_within plan f j (giving post palm) known = omega arith
seat_within plan f j (drawer_note floor stamps) known = omega arith
seat_within plan f j (giver_note floor) known = omega arith

module _ (plan : Plan) (s : St) (f : Facts) (k : Kept plan s f) (id : ℕ) (desk : DrawerSeat) (at : get_elem? s.views id ≡ some (drawing desk nothing)) where
  abbrev v : View
  v = drawing desk nothing

  abbrev own : DeskOk plan f id desk nothing
  own = k.each_seat id v at

  -- what the seat knows stays, and with it all that the rule says
  seen_kept : (desk' : DrawerSeat) → DeskOk plan f id desk' nothing → Allowed plan f.log (set s.views id (drawing desk' nothing)) → Kept plan record { words = set s.words 0 (get_or s.words 0 0); homes = s.homes; views = set s.views id (drawing desk' nothing) } f
  seen_kept desk' now allowed =
      let w : View = drawing desk' nothing in
      subst (λ (ws : List ℕ). Kept plan record { words = ws; homes = s.homes; views = set s.views id w } f) (sym (set-get_or s.words 0 0))
      (known_kept plan s f (set s.views id w) k allowed
      (λ buffer j had. still_with s.views id v w at (Has buffer) (λ none. none) j had)
      (reseated plan f s.views id w now (λ j x other seen. k.each_seat j x seen)))

  pub stays_kept : Kept plan record { words = set s.words 0 (get_or s.words 0 0); homes = s.homes; views = set s.views id v } f
  stays_kept = seen_kept desk own (allowed_set plan f.log s.views id v v at refl refl k.allowed)

  whole_desk : DeskOk plan f id (refilled_seat desk) nothing
  whole_desk = record { size = own.size; active = own.active; seat = own.seat; hand_is = own.hand_is; within = omega arith; answers = own.answers; floor = own.floor }

  abbrev w : View
  w = drawing (refilled_seat desk) nothing

  -- where no number is void, the whole allowances are all that the numbers drawn can get ahead by
  whole_allowed : drawn_in f.log ≤ published plan.buffers f.log → drawn_in f.log + MOST_AHEAD ≤ MOST_DRAWS → Allowed plan f.log (set s.views id w)
  whole_allowed none_void some_life =
      let m = most_set s.views id v w at in
      let l = left_within (set s.views id w) (λ j x seen. seat_within plan f j x (reseated plan f s.views id w whole_desk (λ j x other seen. k.each_seat j x seen) j x seen)) in
      record {
        ahead = omega (arith, k.allowed.most, k.within.draws);
        life = omega (arith, k.allowed.most, k.within.draws);
        most = omega (arith, k.allowed.most);
      }

  pub whole_kept : drawn_in f.log ≤ published plan.buffers f.log → drawn_in f.log + MOST_AHEAD ≤ MOST_DRAWS → Kept plan record { words = set s.words 0 (get_or s.words 0 0); homes = s.homes; views = set s.views id w } f
  whole_kept none_void some_life = seen_kept (refilled_seat desk) whole_desk (whole_allowed none_void some_life)

-- the look, whatever it finds
pub refills : (plan : Plan) (slots id : ℕ) (desk : DrawerSeat) (held : Held) → Allows (RingRule plan) slots id (drawing desk nothing, held) 0 (λ n. n) (did_refill (step slots 0 0 0 maybe.none) (drawing desk nothing, held))
refills plan slots id desk held s (f, k) wide at small =
    let D = found_drawn plan s f k in
    let P = found_published plan s f k in
    dite (dec_le (drawn_in f.log) (published plan.buffers f.log))
    (λ none_void. dite (dec_le (drawn_in f.log + MOST_AHEAD) MOST_DRAWS)
    (λ some_life. (
      drawing (refilled_seat desk) nothing,
      keeps,
      tt,
      (f, whole_kept plan s f k id desk at none_void some_life),
      ((λ _ _. refl), (λ void. absurd (omega arith)), (λ ended. absurd (omega arith))),
    ))
    (λ ended. (drawing desk nothing, keeps, tt, (f, stays_kept plan s f k id desk at), ((λ _ some_life. absurd (omega arith)), (λ _. refl), (λ _. refl)))))
    (λ void. (drawing desk nothing, keeps, tt, (f, stays_kept plan s f k id desk at), ((λ none_void _. absurd (omega arith)), (λ _. refl), (λ _. refl))))
