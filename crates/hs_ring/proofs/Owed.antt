-- Each step keeps the rule, for any view that can make it.
use Rattle.std.proofs.Common.{◌≡◌, ℕ, suc, ◌+◌, ◌%◌, List, [], ◌∷◌, length, Some, None, sym, ap, ◌∙◌, subst}
use mathlib.Core.Option as maybe
use Rattle.hs_ring.proofs.Prelude.{either, Option, ◌==◌, Me, step, Allows, Splits, Joins, ONE_DRAW, ONE_GIVE, Contents, Plan, DrawerSeat, Hand, nothing, drew, kept, GiverSeat, Palm, bare, holds, lays, retakes, View, nobody, drawing, leasing, giving, drawer_note, giver_note, with_lease, note_of, new_drawer, having_closed, RingRule, did_draw, did_collect, did_lay, did_publish, did_refill, did_retake, did_look}
use Rattle.atomic_table.specs.Table.{rest}
use Rattle.hs_ring.specs.Views.{without_lease, lease_of, having_heard, with_drawer}
use Rattle.hs_ring.specs.Seats.{CanDraw, CanCollect, CanLease, IsLease, CanTake, CanLay, CanPublish, CanRetake}
use Rattle.hs_ring.proofs.Draws.{Held, draws}
use Rattle.hs_ring.proofs.Collects.{collects, leases}
use Rattle.hs_ring.proofs.Takes.{takes_lease, leases_again}
use Rattle.hs_ring.proofs.Lays.{lays_or_not}
use Rattle.hs_ring.proofs.Retakes.{retakes_it}
use Rattle.hs_ring.proofs.Publishes.{publishes}
use Rattle.hs_ring.proofs.Meets.{notes_draws, notes_floor, giver_hears, drawer_hears}
use Rattle.hs_ring.proofs.Life.{makes_drawer, closes_drawer, looks}
use Rattle.hs_ring.proofs.Refills.{refills}

module _ (plan : Plan) (slots id : ℕ) where
  pub can_draw : (v : View) (held : Held) → CanDraw v → Allows (RingRule plan) slots id (v, held) 0 (λ word. (word + ONE_DRAW) % 18446744073709551616) (did_draw (step slots 0 ONE_DRAW 0 maybe.none) (v, held))
  can_draw nobody held can = absurd can
  can_draw (drawing desk nothing) held can = draws plan slots id desk held can
  can_draw (drawing desk (drew number buffer stamp)) held can = absurd can
  can_draw (drawing desk (kept buffer stamp)) held can = absurd can
  can_draw (leasing buffer draw) held can = absurd can
  can_draw (giving post palm) held can = absurd can
  can_draw (drawer_note floor stamps) held can = absurd can
  can_draw (giver_note floor) held can = absurd can

  pub can_collect : (v : View) (i : ℕ) (held : Held) → CanCollect slots i v
      → Allows (RingRule plan) slots id (v, (i, None) ∷ held) (i + 1) (λ _. 0) (did_collect (step slots (i + 1) 0 0 maybe.none) (v, (i, None) ∷ held))
  can_collect nobody i held can = absurd can
  can_collect (drawing desk nothing) i held can = absurd can
  can_collect (drawing desk (drew number buffer stamp)) i held can = collects plan slots id desk number buffer stamp i held can
  can_collect (drawing desk (kept buffer stamp)) i held can = absurd can
  can_collect (leasing buffer draw) i held can = absurd can
  can_collect (giving post palm) i held can = absurd can
  can_collect (drawer_note floor stamps) i held can = absurd can
  can_collect (giver_note floor) i held can = absurd can

  pub can_lay : (v : View) (number i : ℕ) (held : Held) → CanLay slots number v → i ≡ number % slots
      → Allows (RingRule plan) slots id (v, held) (i + 1) (λ m. either (m == 0) (number + 1) m) (did_lay (step slots (i + 1) 0 (number + 1) maybe.none) (v, held))
  can_lay nobody number i held can is = absurd can
  can_lay (drawing desk hand) number i held can is = absurd can
  can_lay (leasing buffer draw) number i held can is = absurd can
  can_lay (giving post bare) number i held can is = absurd can
  can_lay (giving post (holds buffer draw)) number i held can is = lays_or_not plan slots id post buffer draw number i held can is
  can_lay (giving post (lays buffer draw)) number i held can is = absurd can
  can_lay (giving post (retakes buffer draw)) number i held can is = absurd can
  can_lay (drawer_note floor stamps) number i held can is = absurd can
  can_lay (giver_note floor) number i held can is = absurd can

  pub can_publish : (v : View) (number i : ℕ) (chunk : Contents) (held : Held) → CanPublish slots number chunk v → i ≡ number % slots
      → Allows (RingRule plan) slots id (v, (i, Some chunk) ∷ held) 0 (λ word. (word + ONE_GIVE) % 18446744073709551616) (did_publish (step slots 0 ONE_GIVE 0 maybe.none) (v, (i, Some chunk) ∷ held))
  can_publish nobody number i chunk held can is = absurd can
  can_publish (drawing desk hand) number i chunk held can is = absurd can
  can_publish (leasing buffer draw) number i chunk held can is = absurd can
  can_publish (giving post bare) number i chunk held can is = absurd can
  can_publish (giving post (holds buffer draw)) number i chunk held can is = absurd can
  can_publish (giving post (lays buffer draw)) number i chunk held can is =
      let F : Contents → Type 0 = λ c. Allows (RingRule plan) slots id (giving post (lays buffer draw), (i, Some c) ∷ held) 0 (λ word. (word + ONE_GIVE) % 18446744073709551616)
      (did_publish (step slots 0 ONE_GIVE 0 maybe.none) (giving post (lays buffer draw), (i, Some c) ∷ held)) in
      subst F (sym can.1) (publishes plan slots id post buffer draw number i held can.0 is)
  can_publish (giving post (retakes buffer draw)) number i chunk held can is = absurd can
  can_publish (drawer_note floor stamps) number i chunk held can is = absurd can
  can_publish (giver_note floor) number i chunk held can is = absurd can

  pub can_retake : (v : View) (number i : ℕ) (held : Held) → CanRetake slots number v → i ≡ number % slots
      → Allows (RingRule plan) slots id (v, (i, None) ∷ held) (i + 1) (λ _. 0) (did_retake (step slots (i + 1) 0 0 maybe.none) (v, (i, None) ∷ held))
  can_retake nobody number i held can is = absurd can
  can_retake (drawing desk hand) number i held can is = absurd can
  can_retake (leasing buffer draw) number i held can is = absurd can
  can_retake (giving post bare) number i held can is = absurd can
  can_retake (giving post (holds buffer draw)) number i held can is = absurd can
  can_retake (giving post (lays buffer draw)) number i held can is = absurd can
  can_retake (giving post (retakes buffer draw)) number i held can is = retakes_it plan slots id post buffer draw number i held can is
  can_retake (drawer_note floor stamps) number i held can is = absurd can
  can_retake (giver_note floor) number i held can is = absurd can

module _ (plan : Plan) (id : ℕ) where
  pub can_lease : (v : View) → CanLease v → Splits (RingRule plan) id v (without_lease v) (lease_of v)
  can_lease nobody can = absurd can
  can_lease (drawing desk nothing) can = absurd can
  can_lease (drawing desk (drew number buffer stamp)) can = absurd can
  can_lease (drawing desk (kept buffer stamp)) can = leases plan id desk buffer stamp
  can_lease (leasing buffer draw) can = absurd can
  can_lease (giving post bare) can = absurd can
  can_lease (giving post (holds buffer draw)) can = leases_again plan id post buffer draw
  can_lease (giving post (lays buffer draw)) can = absurd can
  can_lease (giving post (retakes buffer draw)) can = absurd can
  can_lease (drawer_note floor stamps) can = absurd can
  can_lease (giver_note floor) can = absurd can

  take_from : (post : GiverSeat) (other : ℕ) (w : View) → IsLease w → Joins (RingRule plan) id (giving post bare) other w (with_lease (giving post bare) w) nobody
  take_from post other nobody lease = absurd lease
  take_from post other (drawing desk hand) lease = absurd lease
  take_from post other (leasing buffer draw) lease = takes_lease plan id post other buffer draw
  take_from post other (giving post' palm) lease = absurd lease
  take_from post other (drawer_note floor stamps) lease = absurd lease
  take_from post other (giver_note floor) lease = absurd lease

  pub can_take : (v : View) (other : ℕ) (w : View) → CanTake v → IsLease w → Joins (RingRule plan) id v other w (with_lease v w) nobody
  can_take nobody other w can lease = absurd can
  can_take (drawing desk hand) other w can lease = absurd can
  can_take (leasing buffer draw) other w can lease = absurd can
  can_take (giving post bare) other w can lease = take_from post other w lease
  can_take (giving post (holds buffer draw)) other w can lease = absurd can
  can_take (giving post (lays buffer draw)) other w can lease = absurd can
  can_take (giving post (retakes buffer draw)) other w can lease = absurd can
  can_take (drawer_note floor stamps) other w can lease = absurd can
  can_take (giver_note floor) other w can lease = absurd can

-- ---- the same where the seat is known by an equation

abbrev pub Mine : Type 0
Mine = Me (Option Contents) View

-- a seat that carries one slot
pub carries : (l : List (ℕ × Option Contents)) (i : ℕ) (x : Option Contents) → l ≡ (i, x) ∷ [] → l ≡ (i, x) ∷ rest l
carries l i x e = e ∙ ap (λ (r : List (ℕ × Option Contents)). (i, x) ∷ r) (sym (ap rest e))

pub exchanged_slot : (me me' : Mine) (i : ℕ) (x y : Option Contents) → me.1 ≡ (i, x) ∷ [] → me' ≡ (me.0, (i, y) ∷ rest me.1) → me' ≡ (me.0, (i, y) ∷ [])
exchanged_slot me me' i x y e is = is ∙ ap (λ (r : List (ℕ × Option Contents)). let m : Mine = (me.0, (i, y) ∷ r) in m) (ap rest e)

pub collect_at : (plan : Plan) (slots id : ℕ) (me : Mine) (v : View) (i : ℕ) → me ≡ (v, (i, None) ∷ []) → CanCollect slots i v
    → Allows (RingRule plan) slots id me (i + 1) (λ _. 0) (did_collect (step slots (i + 1) 0 0 maybe.none) me)
collect_at plan slots id me v i is can =
    let F : Mine → Type 0 = λ m. Allows (RingRule plan) slots id m (i + 1) (λ _. 0) (did_collect (step slots (i + 1) 0 0 maybe.none) m) in
    subst F (sym is) (can_collect plan slots id v i [] can)

pub publish_at : (plan : Plan) (slots id : ℕ) (me : Mine) (v : View) (number i : ℕ) (chunk : Contents) → me ≡ (v, (i, Some chunk) ∷ []) → CanPublish slots number chunk v → i ≡ number % slots
    → Allows (RingRule plan) slots id me 0 (λ word. (word + ONE_GIVE) % 18446744073709551616) (did_publish (step slots 0 ONE_GIVE 0 maybe.none) me)
publish_at plan slots id me v number i chunk is can entry =
    let F : Mine → Type 0 = λ m. Allows (RingRule plan) slots id m 0 (λ word. (word + ONE_GIVE) % 18446744073709551616) (did_publish (step slots 0 ONE_GIVE 0 maybe.none) m) in
    subst F (sym is) (can_publish plan slots id v number i chunk [] can entry)

pub retake_at : (plan : Plan) (slots id : ℕ) (me : Mine) (v : View) (number i : ℕ) → me ≡ (v, (i, None) ∷ []) → CanRetake slots number v → i ≡ number % slots
    → Allows (RingRule plan) slots id me (i + 1) (λ _. 0) (did_retake (step slots (i + 1) 0 0 maybe.none) me)
retake_at plan slots id me v number i is can entry =
    let F : Mine → Type 0 = λ m. Allows (RingRule plan) slots id m (i + 1) (λ _. 0) (did_retake (step slots (i + 1) 0 0 maybe.none) m) in
    subst F (sym is) (can_retake plan slots id v number i [] can entry)

-- ---- notes

module _ (plan : Plan) (id : ℕ) where
  pub drawer_notes : (v : View) (desk : DrawerSeat) → v ≡ drawing desk nothing → Splits (RingRule plan) id v v (note_of v)
  drawer_notes v desk is = let F : View → Type 0 = λ x. Splits (RingRule plan) id x x (note_of x) in subst F (sym is) (notes_draws plan id desk)

  pub giver_notes : (v : View) (post : GiverSeat) (palm : Palm) → v ≡ giving post palm → Splits (RingRule plan) id v v (note_of v)
  giver_notes v post palm is = let F : View → Type 0 = λ x. Splits (RingRule plan) id x x (note_of x) in subst F (sym is) (notes_floor plan id post palm)

  pub giver_is_told : (v : View) (post : GiverSeat) (palm : Palm) (other : ℕ) (w : View) (floor : ℕ) (stamps : List ℕ) → v ≡ giving post palm → w ≡ drawer_note floor stamps
      → Joins (RingRule plan) id v other w (having_heard v w) nobody
  giver_is_told v post palm other w floor stamps is note =
      let F : View → Type 0 = λ x. Joins (RingRule plan) id x other w (having_heard x w) nobody in
      let G : View → Type 0 = λ y. Joins (RingRule plan) id (giving post palm) other y (having_heard (giving post palm) y) nobody in
      subst F (sym is) (subst G (sym note) (giver_hears plan id post palm other floor stamps))

  pub drawer_is_told : (v : View) (desk : DrawerSeat) (hand : Hand) (other : ℕ) (w : View) (floor : ℕ) → v ≡ drawing desk hand → w ≡ giver_note floor
      → Joins (RingRule plan) id v other w (having_heard v w) nobody
  drawer_is_told v desk hand other w floor is note =
      let F : View → Type 0 = λ x. Joins (RingRule plan) id x other w (having_heard x w) nobody in
      let G : View → Type 0 = λ y. Joins (RingRule plan) id (drawing desk hand) other y (having_heard (drawing desk hand) y) nobody in
      subst F (sym is) (subst G (sym note) (drawer_hears plan id desk hand other floor))

  pub makes_at : (v : View) (post : GiverSeat) (palm : Palm) → v ≡ giving post palm → post.closed ≡ [] → Splits (RingRule plan) id v (with_drawer v) (new_drawer v)
  makes_at v post palm is none = let F : View → Type 0 = λ x. Splits (RingRule plan) id x (with_drawer x) (new_drawer x) in subst F (sym is) (makes_drawer plan id post palm none)

  pub closes_at : (v : View) (post : GiverSeat) (palm : Palm) (other : ℕ) (w : View) (desk : DrawerSeat) → v ≡ giving post palm → w ≡ drawing desk nothing → suc desk.number + length post.closed ≡ post.made
      → Joins (RingRule plan) id v other w (having_closed v w) nobody
  closes_at v post palm other w desk is drawer last =
      let F : View → Type 0 = λ x. Joins (RingRule plan) id x other w (having_closed x w) nobody in
      let G : View → Type 0 = λ y. Joins (RingRule plan) id (giving post palm) other y (having_closed (giving post palm) y) nobody in
      subst F (sym is) (subst G (sym drawer) (closes_drawer plan id post palm other desk last))

pub looks_at : (plan : Plan) (slots id : ℕ) (me : Mine) (post : GiverSeat) (palm : Palm) → me ≡ (giving post palm, []) → Allows (RingRule plan) slots id me 0 (λ n. n) (did_look (step slots 0 0 0 maybe.none) me)
looks_at plan slots id me post palm is = let F : Mine → Type 0 = λ m. Allows (RingRule plan) slots id m 0 (λ n. n) (did_look (step slots 0 0 0 maybe.none) m) in subst F (sym is) (looks plan slots id post palm [])

pub refills_at : (plan : Plan) (slots id : ℕ) (me : Mine) (desk : DrawerSeat) → me ≡ (drawing desk nothing, []) → Allows (RingRule plan) slots id me 0 (λ n. n) (did_refill (step slots 0 0 0 maybe.none) me)
refills_at plan slots id me desk is =
    let F : Mine → Type 0 = λ m. Allows (RingRule plan) slots id m 0 (λ n. n) (did_refill (step slots 0 0 0 maybe.none) m) in subst F (sym is) (refills plan slots id desk [])
