-- Whatever is seen of a buffer, in the store or at a seat, is in the place that the rule knows.
use Rattle.std.proofs.Common.{◌≡◌, ℕ, suc, ◌+◌, ◌<◌, List, refl, sym, ap, ◌∙◌, subst, inl, inr, arith}
use Rattle.hs_locked.proofs.Prelude.{some, get_elem?, waiting, Plan, queue_of, AtSeat, Spot, in_queue, with_drawer, leased, with_giver, Store, Hand, nothing, kept, Palm, bare, holds, Stand, away, queued, inside, closing, View, nobody, drawing, leasing, giving, drawer_note, giver_note, Has, HasStore, Slot, home, out, Facts, gots_in, SlotOk, OutOk, StandOk, HandOk, PalmOk, SpotOk, Kept}
use mathlib.Core.Option as maybe
use Rattle.hs_locked.specs.Views.{InHand, InPalm, StandHas}
use Rattle.hs_locked.specs.Places.{BufferPlace, in_line, seat, IsStore, IsThere, IsInOnePlace}
use Rattle.hs_locked.proofs.Stores.{line}
use Rattle.hs_locked.proofs.Turns.{St}

-- ---- the store

module _ (plan : Plan) (s : St) (f : Facts) (k : Kept plan s f) where
  -- the end that has it has what was in the slot
  stand_store : (store : Store) (end : ℕ) (stand : Stand) → f.stands end ≡ stand → StandHas store stand → store ≡ f.stored
  stand_store store end away is has = absurd has
  stand_store store end (queued t) is has = absurd has
  stand_store store end (inside st) is has = let ok : StandOk f end (inside st) = subst (StandOk f end) is (k.each_stand end) in sym has ∙ ok.3
  stand_store store end (closing st) is has = let ok : StandOk f end (closing st) = subst (StandOk f end) is (k.each_stand end) in sym has ∙ ok.3

  seat_store : (store : Store) (j : ℕ) (v : View) → get_elem? s.views j ≡ some v → HasStore store v → store ≡ f.stored
  seat_store store j nobody seen has = absurd has
  seat_store store j (drawing desk hand stand) seen has = let known = k.each_seat j (drawing desk hand stand) seen in stand_store store (suc desk.number) stand known.stand_is has
  seat_store store j (leasing b draw) seen has = absurd has
  seat_store store j (giving post palm stand) seen has = let known = k.each_seat j (giving post palm stand) seen in stand_store store 0 stand known.stand_is has
  seat_store store j (drawer_note floor stamps) seen has = absurd has
  seat_store store j (giver_note floor) seen has = absurd has

  slot_store : (store : Store) → get_elem? s.homes 0 ≡ some (some store) → (slot : Slot) → SlotOk (get_elem? s.homes 0) f.stored f.stands slot → OutOk (get_elem? s.homes 0) s.views f.stored slot → store ≡ f.stored
  slot_store store is home ok gone = let both : some (some store) ≡ some (some f.stored) = sym is ∙ ok in cc
  slot_store store is (out end) ok gone = let both : some (some store) ≡ some maybe.none = sym is ∙ gone.0 in absurd cc

  one_store : (store : Store) → IsStore s store → store ≡ f.stored
  one_store store (inl is) = slot_store store is f.slot k.slot_ok k.out_ok
  one_store store (inr (j, (v, seen, has))) = seat_store store j v seen has

  the_store : IsStore s f.stored
  the_store = go f.slot k.slot_ok k.out_ok
    where
      go : (slot : Slot) → SlotOk (get_elem? s.homes 0) f.stored f.stands slot → OutOk (get_elem? s.homes 0) s.views f.stored slot → IsStore s f.stored
      go home ok gone = inl ok
      go (out end) ok gone = inr gone.1

-- ---- buffers

module _ (plan : Plan) (s : St) (f : Facts) (k : Kept plan s f) (buffer : ℕ) where
  abbrev n : ℕ
  n = plan.buffers

  -- the site is that of the place
  abbrev pub Fits : BufferPlace → Spot → Type 0
  Fits (in_line i) (in_queue number) = number ≡ gots_in f.log + i
  Fits (in_line i) (with_drawer drawer) = ⊥
  Fits (in_line i) (leased j) = ⊥
  Fits (in_line i) with_giver = ⊥
  Fits (seat j) (in_queue number) = ⊥
  Fits (seat j) (with_drawer drawer) = (f.seats drawer ≡ j) × (drawer < f.opened)
  Fits (seat j) (leased i) = i ≡ j
  Fits (seat j) with_giver = f.giver ≡ j

  hand_spot : (drawer : ℕ) (hand : Hand) → HandOk n f.log f.spots drawer hand → InHand buffer hand → f.spots buffer ≡ with_drawer drawer
  hand_spot drawer nothing ok has = absurd has
  hand_spot drawer (kept b stamp) ok has = ap f.spots (sym has) ∙ ok.0

  palm_spot : (palm : Palm) → PalmOk n f.log f.spots palm → InPalm buffer palm → f.spots buffer ≡ with_giver
  palm_spot bare ok has = absurd has
  palm_spot (holds b draw) ok has = ap f.spots (sym has) ∙ ok.0

  seat_fits : (j : ℕ) (v : View) → get_elem? s.views j ≡ some v → Has buffer v → Fits (seat j) (f.spots buffer)
  seat_fits j nobody seen has = absurd has
  seat_fits j (drawing desk hand stand) seen has =
      let known = k.each_seat j (drawing desk hand stand) seen in
      let ok : HandOk n f.log f.spots desk.number hand = subst (HandOk n f.log f.spots desk.number) known.hand_is (k.each_hand desk.number) in
      subst (Fits (seat j)) (sym (hand_spot desk.number hand ok has)) (known.seat, known.active)
  seat_fits j (leasing b draw) seen has =
      let known = k.each_seat j (leasing b draw) seen in
      subst (Fits (seat j)) (sym (ap f.spots (sym has) ∙ known.0)) refl
  seat_fits j (giving post palm stand) seen has =
      let known = k.each_seat j (giving post palm stand) seen in
      let ok : PalmOk n f.log f.spots palm = subst (PalmOk n f.log f.spots) known.palm_is k.in_palm in
      subst (Fits (seat j)) (sym (palm_spot palm ok has)) known.seat
  seat_fits j (drawer_note floor stamps) seen has = absurd has
  seat_fits j (giver_note floor) seen has = absurd has

  -- a drawer that has the buffer is open
  drawer_open : (drawer j : ℕ) → f.spots buffer ≡ with_drawer drawer → AtSeat s.views (Has buffer) j → drawer < f.opened
  drawer_open drawer j is (v, seen, has) = (subst (Fits (seat j)) is (seat_fits j v seen has)).1

  -- a drawer that is not open gets another seat
  pub spot_reseated : (seats' : ℕ → ℕ) (views' : List View) → ((drawer : ℕ) → drawer < f.opened → seats' drawer ≡ f.seats drawer) → ((j : ℕ) → AtSeat s.views (Has buffer) j → AtSeat views' (Has buffer) j)
      → buffer < n → SpotOk n f.log seats' f.giver views' buffer (f.spots buffer)
  spot_reseated seats' views' same goes low = go (f.spots buffer) refl (k.each_spot buffer low)
    where
      go : (spot : Spot) → f.spots buffer ≡ spot → SpotOk n f.log f.seats f.giver s.views buffer spot → SpotOk n f.log seats' f.giver views' buffer spot
      go (in_queue number) is ok = ok
      go (with_drawer drawer) is ok = subst (AtSeat views' (Has buffer)) (sym (same drawer (drawer_open drawer (f.seats drawer) is ok))) (goes (f.seats drawer) ok)
      go (leased j) is ok = goes j ok
      go with_giver is ok = goes f.giver ok

  line_fits : (i : ℕ) (store : Store) → IsStore s store → get_elem? (waiting store.pool) i ≡ some buffer → Fits (in_line i) (f.spots buffer)
  line_fits i store is seen =
      let queued_there : get_elem? (queue_of n f.log) i ≡ some buffer =
      ap (λ (l : List ℕ). get_elem? l i) (sym (line plan f.log f.stored k.store_ok)) ∙ subst (λ (st : Store). get_elem? (waiting st.pool) i ≡ some buffer) (one_store plan s f k store is) seen in
      subst (Fits (in_line i)) (sym (k.each_queued i buffer queued_there)) refl

  fits : (site : BufferPlace) → IsThere s buffer site → Fits site (f.spots buffer)
  fits (in_line i) (store, is, seen) = line_fits i store is seen
  fits (seat j) (v, seen, has) = seat_fits j v seen has

  -- a place has one site
  one_site : (spot : Spot) (a b : BufferPlace) → Fits a spot → Fits b spot → b ≡ a
  one_site (in_queue number) (in_line i) (in_line i') p q = ap in_line (let e : i' ≡ i = omega arith in e)
  one_site (in_queue number) (in_line i) (seat j) p q = absurd q
  one_site (in_queue number) (seat j) b p q = absurd p
  one_site (with_drawer drawer) (in_line i) b p q = absurd p
  one_site (with_drawer drawer) (seat j) (in_line i) p q = absurd q
  one_site (with_drawer drawer) (seat j) (seat j') p q = ap seat (sym q.0 ∙ p.0)
  one_site (leased i) (in_line i') b p q = absurd p
  one_site (leased i) (seat j) (in_line i') p q = absurd q
  one_site (leased i) (seat j) (seat j') p q = ap seat (sym q ∙ p)
  one_site with_giver (in_line i) b p q = absurd p
  one_site with_giver (seat j) (in_line i) p q = absurd q
  one_site with_giver (seat j) (seat j') p q = ap seat (sym q ∙ p)

  at_site : (site : BufferPlace) → IsThere s buffer site → IsInOnePlace s buffer
  at_site site is = record { site = site; there = is; nowhere_else = λ other is'. one_site (f.spots buffer) site other (fits site is) (fits other is') }

  in_place : (spot : Spot) → SpotOk n f.log f.seats f.giver s.views buffer spot → IsInOnePlace s buffer
  in_place (in_queue number) (i, is, seen) = at_site (in_line i) (f.stored, the_store plan s f k, ap (λ (l : List ℕ). get_elem? l i) (line plan f.log f.stored k.store_ok) ∙ seen)
  in_place (with_drawer drawer) is = at_site (seat (f.seats drawer)) is
  in_place (leased j) is = at_site (seat j) is
  in_place with_giver is = at_site (seat f.giver) is

  pub is_in_one_place : buffer < n → IsInOnePlace s buffer
  is_in_one_place low = in_place (f.spots buffer) (k.each_spot buffer low)
