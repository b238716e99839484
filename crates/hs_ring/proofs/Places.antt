-- Whatever is seen of a buffer, in a slot or at a seat, is in the place that the rule knows.
use Rattle.std.proofs.Common.{◌≡◌, ℕ, suc, ◌*◌, ◌%◌, ◌<◌, ◌≤◌, List, get_or, Some, None, refl, sym, ap, ◌∙◌, subst, arith}
use Rattle.hs_ring.proofs.Prelude.{some, get_elem?, Contents, clear_chunk, Plan, AtSeat, Spot, in_queue, with_drawer, leased, with_giver, Hand, nothing, drew, kept, Palm, bare, holds, lays, retakes, View, nobody, drawing, leasing, giving, drawer_note, giver_note, InHand, Has, Cell, free, waits, drawn, laid, Facts, CellOk, HandOk, PalmOk, SpotOk, Kept}
use mathlib.Core.Option as maybe
use Rattle.hs_ring.specs.Views.{InPalm}
use Rattle.hs_ring.specs.Places.{BufferPlace, entry, seat, IsThere, Waits, IsInOnePlace}
use Rattle.hs_ring.proofs.Counting.{at_length, found_drawn, found_published, entry_below}
use Rattle.hs_ring.proofs.Draws.{St}

module _ (plan : Plan) (s : St) (f : Facts) (k : Kept plan s f) (buffer : ℕ) where
  abbrev n : ℕ
  n = plan.buffers

  -- the site is that of the place
  abbrev pub Fits : BufferPlace → Spot → Type 0
  Fits (entry e) (in_queue number) = e ≡ number % (2 * n)
  Fits (entry e) (with_drawer drawer) = ⊥
  Fits (entry e) (leased j) = ⊥
  Fits (entry e) with_giver = ⊥
  Fits (seat j) (in_queue number) = ⊥
  Fits (seat j) (with_drawer drawer) = (f.seats drawer ≡ j) × (drawer < f.opened)
  Fits (seat j) (leased i) = i ≡ j
  Fits (seat j) with_giver = f.giver ≡ j

  hand_spot : (drawer : ℕ) (hand : Hand) → HandOk n f.log f.cells f.spots drawer hand → InHand buffer hand → f.spots buffer ≡ with_drawer drawer
  hand_spot drawer nothing ok has = absurd has
  hand_spot drawer (drew number b stamp) ok has = ap f.spots (sym has) ∙ ok.1
  hand_spot drawer (kept b stamp) ok has = ap f.spots (sym has) ∙ ok.0

  palm_spot : (palm : Palm) → PalmOk n f.log f.cells f.spots palm → InPalm buffer palm → f.spots buffer ≡ with_giver
  palm_spot bare ok has = absurd has
  palm_spot (holds b draw) ok has = ap f.spots (sym has) ∙ ok.0
  palm_spot (lays b draw) ok has = ap f.spots (sym has) ∙ ok.0.0
  palm_spot (retakes b draw) ok has = ap f.spots (sym has) ∙ ok.0.0

  seat_fits : (j : ℕ) (v : View) → get_elem? s.views j ≡ some v → Has buffer v → Fits (seat j) (f.spots buffer)
  seat_fits j nobody seen has = absurd has
  seat_fits j (drawing desk hand) seen has =
      let known = k.each_seat j (drawing desk hand) seen in
      let ok : HandOk n f.log f.cells f.spots desk.number hand = subst (HandOk n f.log f.cells f.spots desk.number) known.hand_is (k.each_hand desk.number) in
      subst (Fits (seat j)) (sym (hand_spot desk.number hand ok has)) (known.seat, known.active)
  seat_fits j (leasing b draw) seen has =
      let known = k.each_seat j (leasing b draw) seen in
      subst (Fits (seat j)) (sym (ap f.spots (sym has) ∙ known.0)) refl
  seat_fits j (giving post palm) seen has =
      let known = k.each_seat j (giving post palm) seen in
      let ok : PalmOk n f.log f.cells f.spots palm = subst (PalmOk n f.log f.cells f.spots) known.palm_is k.in_palm in
      subst (Fits (seat j)) (sym (palm_spot palm ok has)) known.seat
  seat_fits j (drawer_note floor stamps) seen has = absurd has
  seat_fits j (giver_note floor) seen has = absurd has

  -- a drawer that has the buffer is open
  drawer_open : (drawer j : ℕ) → f.spots buffer ≡ with_drawer drawer → AtSeat s.views (Has buffer) j → drawer < f.opened
  drawer_open drawer j is (v, seen, has) = (subst (Fits (seat j)) is (seat_fits j v seen has)).1

  -- a drawer that is not open gets another seat
  pub spot_reseated : (seats' : ℕ → ℕ) (views' : List View) → ((drawer : ℕ) → drawer < f.opened → seats' drawer ≡ f.seats drawer) → ((j : ℕ) → AtSeat s.views (Has buffer) j → AtSeat views' (Has buffer) j)
      → buffer < n → SpotOk n f.cells seats' f.giver views' buffer (f.spots buffer)
  spot_reseated seats' views' same goes low = go (f.spots buffer) refl (k.each_spot buffer low)
    where
      go : (spot : Spot) → f.spots buffer ≡ spot → SpotOk n f.cells f.seats f.giver s.views buffer spot → SpotOk n f.cells seats' f.giver views' buffer spot
      go (in_queue number) is ok = ok
      go (with_drawer drawer) is ok = subst (AtSeat views' (Has buffer)) (sym (same drawer (drawer_open drawer (f.seats drawer) is ok))) (goes (f.seats drawer) ok)
      go (leased j) is ok = goes j ok
      go with_giver is ok = goes f.giver ok

  cell_fits : (e : ℕ) (chunk : Contents) → get_elem? s.homes e ≡ some (some (Some chunk)) → chunk.number ≡ buffer
      → (c : Cell) → CellOk n plan.size f.log f.spots f.hands f.palm e (get_or s.words (suc e) 0) (get_elem? s.homes e) c → Fits (entry e) (f.spots buffer)
  cell_fits e chunk full named free ok = let both : some (some (Some chunk)) ≡ some (some None) = sym full ∙ ok.1 in absurd cc
  cell_fits e chunk full named (waits number b) ok =
      let both : some (some (Some chunk)) ≡ some (some (Some (clear_chunk plan.size b))) = sym full ∙ ok.2 in
      let one : chunk ≡ clear_chunk plan.size b = cc in
      let same : b ≡ buffer = sym (ap (λ (c : Contents). c.number) one) ∙ named in
      subst (Fits (entry e)) (sym (ap f.spots (sym same) ∙ ok.5)) ok.0
  cell_fits e chunk full named (drawn number b drawer) ok = let both : some (some (Some chunk)) ≡ some maybe.none = sym full ∙ ok.2 in absurd cc
  cell_fits e chunk full named (laid number) ok = let both : some (some (Some chunk)) ≡ some maybe.none = sym full ∙ ok.2 in absurd cc

  fits : (site : BufferPlace) → IsThere s buffer site → Fits site (f.spots buffer)
  fits (entry e) (chunk, full, named) = cell_fits e chunk full named (f.cells e) (k.each_cell e (let l = at_length s.homes e (some (Some chunk)) full in let h = k.homes in omega arith))
  fits (seat j) (v, seen, has) = seat_fits j v seen has

  -- a place has one site
  one_site : (spot : Spot) (a b : BufferPlace) → Fits a spot → Fits b spot → b ≡ a
  one_site (in_queue number) (entry e) (entry e') p q = ap entry (q ∙ sym p)
  one_site (in_queue number) (entry e) (seat j) p q = absurd q
  one_site (in_queue number) (seat j) b p q = absurd p
  one_site (with_drawer drawer) (entry e) b p q = absurd p
  one_site (with_drawer drawer) (seat j) (entry e) p q = absurd q
  one_site (with_drawer drawer) (seat j) (seat j') p q = ap seat (sym q.0 ∙ p.0)
  one_site (leased i) (entry e) b p q = absurd p
  one_site (leased i) (seat j) (entry e) p q = absurd q
  one_site (leased i) (seat j) (seat j') p q = ap seat (sym q ∙ p)
  one_site with_giver (entry e) b p q = absurd p
  one_site with_giver (seat j) (entry e) p q = absurd q
  one_site with_giver (seat j) (seat j') p q = ap seat (sym q ∙ p)

  -- the entry of a number that waits
  waiting : (number : ℕ) → f.cells (number % (2 * n)) ≡ waits number buffer → Waits plan.size s buffer (number % (2 * n))
  waiting number is =
      let e = number % (2 * n) in
      let ok : CellOk n plan.size f.log f.spots f.hands f.palm e (get_or s.words (suc e) 0) (get_elem? s.homes e) (waits number buffer) =
      subst (CellOk n plan.size f.log f.spots f.hands f.palm e (get_or s.words (suc e) 0) (get_elem? s.homes e)) is (k.each_cell e (entry_below plan s f k number)) in
      record {
        number = number;
        of_entry = ap (λ (m : ℕ). number % m) (sym k.homes);
        laid = ok.1;
        not_drawn = subst (λ (m : ℕ). m ≤ number) (sym (found_drawn plan s f k)) ok.3;
        published = subst (λ (m : ℕ). number < m) (sym (found_published plan s f k)) ok.4;
        clear = ok.2;
      }

  at_seat : (j : ℕ) → AtSeat s.views (Has buffer) j → IsInOnePlace plan.size s buffer
  at_seat j with_it =
      record {
        site = seat j;
        there = with_it;
        nowhere_else = λ other is. one_site (f.spots buffer) (seat j) other (fits (seat j) with_it) (fits other is);
        waits = λ e same. absurd cc;
      }

  at_entry : (number : ℕ) → f.cells (number % (2 * n)) ≡ waits number buffer → IsInOnePlace plan.size s buffer
  at_entry number is =
      let e = number % (2 * n) in
      let w = waiting number is in
      let here : IsThere s buffer (entry e) = (clear_chunk plan.size buffer, w.clear, refl) in
      record {
        site = entry e;
        there = here;
        nowhere_else = λ other is'. one_site (f.spots buffer) (entry e) other (fits (entry e) here) (fits other is');
        waits = λ e' same. let one : e ≡ e' = cc in subst (Waits plan.size s buffer) one w;
      }

  in_place : (spot : Spot) → SpotOk n f.cells f.seats f.giver s.views buffer spot → IsInOnePlace plan.size s buffer
  in_place (in_queue number) is = at_entry number is
  in_place (with_drawer drawer) is = at_seat (f.seats drawer) is
  in_place (leased j) is = at_seat j is
  in_place with_giver is = at_seat f.giver is

  pub is_in_one_place : buffer < n → IsInOnePlace plan.size s buffer
  is_in_one_place low = in_place (f.spots buffer) (k.each_spot buffer low)
