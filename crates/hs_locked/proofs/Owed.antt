-- Each step keeps the rule, for any view that can make it.
use Rattle.std.proofs.Common.{◌≡◌, ℕ, suc, ◌+◌, ◌%◌, List, [], ◌∷◌, length, sym, subst}
use mathlib.Core.Option as maybe
use Rattle.hs_locked.proofs.Prelude.{step, Allows, Splits, Joins, Plan, Store, GoesOn, DrawerSeat, Hand, nothing, kept, GiverSeat, Palm, bare, holds, Stand, away, queued, inside, closing, View, nobody, drawing, leasing, giving, drawer_note, giver_note, without_lease, note_of, new_drawer, having_closed, size_of, event_of, LockedRule, did_take_ticket, did_look, did_leave, did_close, MayTurn, StandsQueued, StandsInside, stand_of}
use Rattle.atomic_table.specs.Table.{Me}
use Rattle.hs_locked.specs.Views.{lease_of, with_lease, having_heard, with_drawer}
use Rattle.hs_locked.specs.Seats.{StandsAway, CanLease, IsLease}
use Rattle.hs_locked.proofs.Turns.{Held, drawer_takes_ticket, giver_takes_ticket, drawer_looks, giver_looks, closes}
use Rattle.hs_locked.proofs.Events.{drawer_leaves, giver_leaves}
use Rattle.hs_locked.proofs.Leases.{leases, takes_lease}
use Rattle.hs_locked.proofs.Meets.{drawer_writes, giver_writes, giver_hears, drawer_hears}
use Rattle.hs_locked.proofs.Life.{makes_drawer, closes_drawer}

abbrev pub Mine : Type 0
Mine = Me Store View

module _ (plan : Plan) (slots id : ℕ) where
  abbrev TakesTicket : View → Held → Type 0
  TakesTicket v held = Allows (LockedRule plan) slots id (v, held) 0 (λ n. (n + 1) % 18446744073709551616) (did_take_ticket (step slots 0 1 0 maybe.none) (v, held))

  ticket_drawer : (desk : DrawerSeat) (hand : Hand) (stand : Stand) (held : Held) → MayTurn (drawing desk hand stand) → StandsAway stand → TakesTicket (drawing desk hand stand) held
  ticket_drawer desk nothing away held may stands = drawer_takes_ticket plan slots id desk held may
  ticket_drawer desk nothing (queued t) held may stands = absurd stands
  ticket_drawer desk nothing (inside store) held may stands = absurd stands
  ticket_drawer desk nothing (closing store) held may stands = absurd stands
  ticket_drawer desk (kept b t) stand held may stands = absurd may

  ticket_giver : (post : GiverSeat) (palm : Palm) (stand : Stand) (held : Held) → MayTurn (giving post palm stand) → StandsAway stand → TakesTicket (giving post palm stand) held
  ticket_giver post bare stand held may stands = absurd may
  ticket_giver post (holds b d) away held may stands = giver_takes_ticket plan slots id post b d held
  ticket_giver post (holds b d) (queued t) held may stands = absurd stands
  ticket_giver post (holds b d) (inside store) held may stands = absurd stands
  ticket_giver post (holds b d) (closing store) held may stands = absurd stands

  pub can_take_ticket : (v : View) (held : Held) → MayTurn v → StandsAway (stand_of v) → TakesTicket v held
  can_take_ticket nobody held may stands = absurd may
  can_take_ticket (drawing desk hand stand) held may stands = ticket_drawer desk hand stand held may stands
  can_take_ticket (leasing buffer draw) held may stands = absurd may
  can_take_ticket (giving post palm stand) held may stands = ticket_giver post palm stand held may stands
  can_take_ticket (drawer_note floor stamps) held may stands = absurd may
  can_take_ticket (giver_note floor) held may stands = absurd may

  abbrev Looks : View → Type 0
  Looks v = Allows (LockedRule plan) slots id (v, []) 1 (λ n. n) (did_look (step slots 1 0 0 maybe.none) (v, []))

  look_drawer : (desk : DrawerSeat) (hand : Hand) (stand : Stand) → MayTurn (drawing desk hand stand) → StandsQueued stand → Looks (drawing desk hand stand)
  look_drawer desk nothing away may stands = absurd stands
  look_drawer desk nothing (queued t) may stands = drawer_looks plan slots id desk t
  look_drawer desk nothing (inside store) may stands = absurd stands
  look_drawer desk nothing (closing store) may stands = absurd stands
  look_drawer desk (kept b t) stand may stands = absurd may

  look_giver : (post : GiverSeat) (palm : Palm) (stand : Stand) → MayTurn (giving post palm stand) → StandsQueued stand → Looks (giving post palm stand)
  look_giver post bare stand may stands = absurd may
  look_giver post (holds b d) away may stands = absurd stands
  look_giver post (holds b d) (queued t) may stands = giver_looks plan slots id post b d t
  look_giver post (holds b d) (inside store) may stands = absurd stands
  look_giver post (holds b d) (closing store) may stands = absurd stands

  can_look : (v : View) → MayTurn v → StandsQueued (stand_of v) → Looks v
  can_look nobody may stands = absurd may
  can_look (drawing desk hand stand) may stands = look_drawer desk hand stand may stands
  can_look (leasing buffer draw) may stands = absurd may
  can_look (giving post palm stand) may stands = look_giver post palm stand may stands
  can_look (drawer_note floor stamps) may stands = absurd may
  can_look (giver_note floor) may stands = absurd may

  pub look_at : (me : Mine) → MayTurn me.0 → StandsQueued (stand_of me.0) → me.1 ≡ [] → Allows (LockedRule plan) slots id me 1 (λ n. n) (did_look (step slots 1 0 0 maybe.none) me)
  look_at me may stands none =
      let F : Held → Type 0 = λ h. Allows (LockedRule plan) slots id (me.0, h) 1 (λ n. n) (did_look (step slots 1 0 0 maybe.none) (me.0, h)) in
      subst F (sym none) (can_look me.0 may stands)

  abbrev Leaves : View → Store → Type 0
  Leaves v new = Allows (LockedRule plan) slots id (v, (0, new) ∷ []) 1 (λ n. (n + 1) % 18446744073709551616) (did_leave (step slots 1 1 0 maybe.none) (v, (0, new) ∷ []))

  -- an end that is inside with one store is inside with the same
  leave_drawer : (desk : DrawerSeat) (hand : Hand) (stand : Stand) (old new : Store) → MayTurn (drawing desk hand stand) → StandsInside old stand → GoesOn desk.size old (event_of (drawing desk hand stand)) new → Leaves (drawing desk hand stand) new
  leave_drawer desk nothing away old new may stands goes = absurd stands
  leave_drawer desk nothing (queued t) old new may stands goes = absurd stands
  leave_drawer desk nothing (inside store) old new may stands goes =
      drawer_leaves plan slots id desk store new may (subst (λ (o : Store). GoesOn desk.size o (event_of (drawing desk nothing (inside store))) new) (sym stands) goes)
  leave_drawer desk nothing (closing store) old new may stands goes = absurd stands
  leave_drawer desk (kept b t) stand old new may stands goes = absurd may

  leave_giver : (post : GiverSeat) (palm : Palm) (stand : Stand) (old new : Store) → MayTurn (giving post palm stand) → StandsInside old stand → GoesOn post.size old (event_of (giving post palm stand)) new → Leaves (giving post palm stand) new
  leave_giver post bare stand old new may stands goes = absurd may
  leave_giver post (holds b d) away old new may stands goes = absurd stands
  leave_giver post (holds b d) (queued t) old new may stands goes = absurd stands
  leave_giver post (holds b d) (inside store) old new may stands goes =
      giver_leaves plan slots id post b d store new (subst (λ (o : Store). GoesOn post.size o (event_of (giving post (holds b d) (inside store))) new) (sym stands) goes)
  leave_giver post (holds b d) (closing store) old new may stands goes = absurd stands

  can_leave : (v : View) (old new : Store) → MayTurn v → StandsInside old (stand_of v) → GoesOn (size_of v) old (event_of v) new → Leaves v new
  can_leave nobody old new may stands goes = absurd may
  can_leave (drawing desk hand stand) old new may stands goes = leave_drawer desk hand stand old new may stands goes
  can_leave (leasing buffer draw) old new may stands goes = absurd may
  can_leave (giving post palm stand) old new may stands goes = leave_giver post palm stand old new may stands goes
  can_leave (drawer_note floor stamps) old new may stands goes = absurd may
  can_leave (giver_note floor) old new may stands goes = absurd may

  pub leave_at : (me : Mine) (old new : Store) → MayTurn me.0 → StandsInside old (stand_of me.0) → me.1 ≡ (0, new) ∷ [] → GoesOn (size_of me.0) old (event_of me.0) new
      → Allows (LockedRule plan) slots id me 1 (λ n. (n + 1) % 18446744073709551616) (did_leave (step slots 1 1 0 maybe.none) me)
  leave_at me old new may stands is goes =
      let F : Held → Type 0 = λ h. Allows (LockedRule plan) slots id (me.0, h) 1 (λ n. (n + 1) % 18446744073709551616) (did_leave (step slots 1 1 0 maybe.none) (me.0, h)) in
      subst F (sym is) (can_leave me.0 old new may stands goes)

  pub close_at : (me : Mine) (post : GiverSeat) → me ≡ (giving post bare away, []) → post.made ≡ length post.closed → Allows (LockedRule plan) slots id me 1 (λ n. n) (did_close (step slots 1 0 0 maybe.none) me)
  close_at me post is all = let F : Mine → Type 0 = λ m. Allows (LockedRule plan) slots id m 1 (λ n. n) (did_close (step slots 1 0 0 maybe.none) m) in subst F (sym is) (closes plan slots id post all)

-- ---- seats are split and joined

module _ (plan : Plan) (id : ℕ) where
  lease_drawer : (desk : DrawerSeat) (hand : Hand) (stand : Stand) → CanLease (drawing desk hand stand) → StandsAway stand → Splits (LockedRule plan) id (drawing desk hand stand) (without_lease (drawing desk hand stand)) (lease_of (drawing desk hand stand))
  lease_drawer desk nothing stand can stands = absurd can
  lease_drawer desk (kept b t) away can stands = leases plan id desk b t
  lease_drawer desk (kept b t) (queued u) can stands = absurd stands
  lease_drawer desk (kept b t) (inside store) can stands = absurd stands
  lease_drawer desk (kept b t) (closing store) can stands = absurd stands

  pub can_lease : (v : View) → CanLease v → StandsAway (stand_of v) → Splits (LockedRule plan) id v (without_lease v) (lease_of v)
  can_lease nobody can stands = absurd can
  can_lease (drawing desk hand stand) can stands = lease_drawer desk hand stand can stands
  can_lease (leasing buffer draw) can stands = absurd can
  can_lease (giving post palm stand) can stands = absurd can
  can_lease (drawer_note floor stamps) can stands = absurd can
  can_lease (giver_note floor) can stands = absurd can

  take_from : (post : GiverSeat) (other : ℕ) (w : View) → IsLease w → Joins (LockedRule plan) id (giving post bare away) other w (with_lease (giving post bare away) w) nobody
  take_from post other nobody lease = absurd lease
  take_from post other (drawing desk hand stand) lease = absurd lease
  take_from post other (leasing buffer draw) lease = takes_lease plan id post other buffer draw
  take_from post other (giving post' palm stand) lease = absurd lease
  take_from post other (drawer_note floor stamps) lease = absurd lease
  take_from post other (giver_note floor) lease = absurd lease

  pub can_take : (v : View) (post : GiverSeat) (other : ℕ) (w : View) → v ≡ giving post bare away → IsLease w → Joins (LockedRule plan) id v other w (with_lease v w) nobody
  can_take v post other w is lease = let F : View → Type 0 = λ x. Joins (LockedRule plan) id x other w (with_lease x w) nobody in subst F (sym is) (take_from post other w lease)

  pub drawer_notes : (v : View) (desk : DrawerSeat) → v ≡ drawing desk nothing away → Splits (LockedRule plan) id v v (note_of v)
  drawer_notes v desk is = let F : View → Type 0 = λ x. Splits (LockedRule plan) id x x (note_of x) in subst F (sym is) (drawer_writes plan id desk nothing away)

  pub giver_notes : (v : View) (post : GiverSeat) → v ≡ giving post bare away → Splits (LockedRule plan) id v v (note_of v)
  giver_notes v post is = let F : View → Type 0 = λ x. Splits (LockedRule plan) id x x (note_of x) in subst F (sym is) (giver_writes plan id post bare away)

  pub giver_is_told : (v : View) (post : GiverSeat) (other : ℕ) (w : View) (floor : ℕ) (stamps : List ℕ) → v ≡ giving post bare away → w ≡ drawer_note floor stamps → Joins (LockedRule plan) id v other w (having_heard v w) nobody
  giver_is_told v post other w floor stamps is note =
      let F : View → Type 0 = λ x. Joins (LockedRule plan) id x other w (having_heard x w) nobody in
      let G : View → Type 0 = λ y. Joins (LockedRule plan) id (giving post bare away) other y (having_heard (giving post bare away) y) nobody in
      subst F (sym is) (subst G (sym note) (giver_hears plan id post bare away other floor stamps))

  pub drawer_is_told : (v : View) (desk : DrawerSeat) (other : ℕ) (w : View) (floor : ℕ) → v ≡ drawing desk nothing away → w ≡ giver_note floor → Joins (LockedRule plan) id v other w (having_heard v w) nobody
  drawer_is_told v desk other w floor is note =
      let F : View → Type 0 = λ x. Joins (LockedRule plan) id x other w (having_heard x w) nobody in
      let G : View → Type 0 = λ y. Joins (LockedRule plan) id (drawing desk nothing away) other y (having_heard (drawing desk nothing away) y) nobody in
      subst F (sym is) (subst G (sym note) (drawer_hears plan id desk nothing away other floor))

  pub makes_at : (v : View) (post : GiverSeat) → v ≡ giving post bare away → post.closed ≡ [] → Splits (LockedRule plan) id v (with_drawer v) (new_drawer v)
  makes_at v post is none = let F : View → Type 0 = λ x. Splits (LockedRule plan) id x (with_drawer x) (new_drawer x) in subst F (sym is) (makes_drawer plan id post none)

  pub closes_at : (v : View) (post : GiverSeat) (other : ℕ) (w : View) (desk : DrawerSeat) → v ≡ giving post bare away → w ≡ drawing desk nothing away → suc desk.number + length post.closed ≡ post.made
      → Joins (LockedRule plan) id v other w (having_closed v w) nobody
  closes_at v post other w desk is drawer last =
      let F : View → Type 0 = λ x. Joins (LockedRule plan) id x other w (having_closed x w) nobody in
      let G : View → Type 0 = λ y. Joins (LockedRule plan) id (giving post bare away) other y (having_closed (giving post bare away) y) nobody in
      subst F (sym is) (subst G (sym drawer) (closes_drawer plan id post other desk last))
