-- What a step leaves as it was. A step is made by one end, and touches at most one buffer, and what that end has in hand.
use Rattle.std.proofs.Common.{◌≡◌, ◌≢◌, ℕ, suc, ◌<◌, ◌≤◌, List, [], ◌∷◌, ◌++◌, length, set, sym, ap, ◌∙◌, subst, ⊎_elim, arith, length-append}
use Rattle.hs_locked.proofs.Prelude.{some, get_elem?, AllByRecursion, at_set, elem_push_cases, Deed, Answer, all_of, answers_below, are_answers_more, unread_more, Plan, Spot, with_drawer, leased, with_giver, HasLease, Store, DrawerSeat, Hand, nothing, kept, GiverSeat, Palm, bare, holds, Stand, View, nobody, drawing, leasing, giving, drawer_note, giver_note, Slot, Facts, HandOk, PalmOk, DeskOk, PostOk, Knows}
use Rattle.hs_words.specs.Ends.{answers_by, Names}
use Rattle.hs_words.proofs.Deeds.{got_more, none_more, answers_more}

-- ---- seats

-- one seat's view is another
pub reseated : (plan : Plan) (f : Facts) (views : List View) (id : ℕ) (w : View) → Knows plan f id w → ((j : ℕ) (v : View) → j ≢ id → get_elem? views j ≡ some v → Knows plan f j v)
    → (j : ℕ) (v : View) → get_elem? (set views id w) j ≡ some v → Knows plan f j v
reseated plan f views id w mine others j v at =
    ⊎_elim (λ (here : (j ≡ id) × (w ≡ v)). subst (λ (x : View). Knows plan f j x) here.1 (subst (λ (i : ℕ). Knows plan f i w) (sym here.0) mine)) (λ (else : (j ≢ id) × (get_elem? views j ≡ some v)). others j v else.0 else.1)
    (at_set views id j w v at)

-- and one more seat
pub seated_too : (plan : Plan) (f : Facts) (views : List View) (w : View) → Knows plan f (length views) w → ((j : ℕ) (v : View) → get_elem? views j ≡ some v → Knows plan f j v)
    → (j : ℕ) (v : View) → get_elem? (views ++ w ∷ []) j ≡ some v → Knows plan f j v
seated_too plan f views w new others j v at =
    ⊎_elim (λ old. others j v old) (λ (last : (j ≡ length views) × (w ≡ v)). subst (λ (x : View). Knows plan f j x) last.1 (subst (λ (i : ℕ). Knows plan f i w) (sym last.0) new)) (elem_push_cases views w v j at)

-- ---- a step

-- the seat is that of this end
pub record IsEnd (f : Facts) (id end : ℕ) : Type 0 where
  pub no_drawer : (d : ℕ) → f.seats d ≢ id → suc d ≢ end
  pub no_giver : f.giver ≢ id → 0 ≢ end
  pub low : end ≤ f.opened

pub drawers_end : (plan : Plan) (f : Facts) (id : ℕ) (desk : DrawerSeat) (hand : Hand) (stand : Stand) → DeskOk plan f id desk hand stand → IsEnd f id (suc desk.number)
drawers_end plan f id desk hand stand ok =
    record {
      no_drawer = λ d far same. far (ap f.seats (let e : d ≡ desk.number = omega arith in e) ∙ ok.seat);
      no_giver = λ _ e. omega arith;
      low = (let a = ok.active in omega arith);
    }

pub givers_end : (plan : Plan) (f : Facts) (id : ℕ) (post : GiverSeat) (palm : Palm) (stand : Stand) → PostOk plan f id post palm stand → IsEnd f id 0
givers_end plan f id post palm stand ok =
    record {
      no_drawer = λ d _ e. omega arith;
      no_giver = λ far _. far ok.seat;
      low = omega arith;
    }

-- The deeds that were added are all of one end, and name only the buffer that was at `spot`; nothing but that buffer, and what that
-- end has in hand and how it stands, has changed.
pub record Moves (f : Facts) (added : List Deed) (stands : ℕ → Stand) (spots : ℕ → Spot) (hands : ℕ → Hand) (palm : Palm) (end : ℕ) (spot : Spot) : Type 0 where
  pub by : AllByRecursion (λ (d : Deed). d.by ≡ end) added
  pub names : (b : ℕ) → f.spots b ≢ spot → AllByRecursion (λ (d : Deed). Names b d.event → ⊥) added
  pub spots_stay : (b : ℕ) → f.spots b ≢ spot → spots b ≡ f.spots b
  pub hands_stay : (d : ℕ) → suc d ≢ end → hands d ≡ f.hands d
  pub stands_stay : (e : ℕ) → e ≢ end → stands e ≡ f.stands e
  pub palm_stays : 0 ≢ end → palm ≡ f.palm

-- the facts after a step
abbrev pub facts_after : Facts → List Deed → ℕ → (ℕ → ℕ) → Store → Slot → (ℕ → Stand) → (ℕ → Spot) → (ℕ → Hand) → Palm → Facts
facts_after f added tickets holder stored slot stands spots hands palm =
    record {
      log = added ++ f.log;
      tickets = tickets;
      holder = holder;
      stored = stored;
      slot = slot;
      stands = stands;
      spots = spots;
      hands = hands;
      seats = f.seats;
      palm = palm;
      giver = f.giver;
      made = f.made;
      opened = f.opened;
    }

module _ (plan : Plan) (f : Facts) (added : List Deed) (tickets : ℕ) (holder : ℕ → ℕ) (stored : Store) (slot : Slot) (stands : ℕ → Stand) (spots : ℕ → Spot) (hands : ℕ → Hand) (palm : Palm) (end : ℕ) (spot : Spot)
    (m : Moves f added stands spots hands palm end spot) where
  abbrev pub after : Facts
  after = facts_after f added tickets holder stored slot stands spots hands palm

  by_others : (e : ℕ) → e ≢ end → AllByRecursion (λ (d : Deed). d.by ≢ e) added
  by_others e other = all_of added (λ (d : Deed) (is : d.by ≡ end) same. other (sym same ∙ is)) m.by

  pub answers_stay : (e : ℕ) → e ≢ end → answers_by e (added ++ f.log) ≡ answers_by e f.log
  answers_stay e other = answers_more added f.log e (by_others e other)

  pub lease_stays : (buffer draw : ℕ) (place : Spot) → place ≢ spot → HasLease plan.buffers f.log f.spots buffer draw place → HasLease plan.buffers (added ++ f.log) spots buffer draw place
  lease_stays buffer draw place other (at, got, none, below) =
      let away_from : f.spots buffer ≢ spot = λ e. other (sym at ∙ e) in (
        m.spots_stay buffer away_from ∙ at,
        got_more added f.log draw buffer got,
        none_more added f.log buffer draw (m.names buffer away_from) none,
        below,
      )

  pub hand_stays : (d : ℕ) → with_drawer d ≢ spot → (hand : Hand) → HandOk plan.buffers f.log f.spots d hand → HandOk plan.buffers (added ++ f.log) spots d hand
  hand_stays d other nothing ok = tt
  hand_stays d other (kept buffer stamp) ok = lease_stays buffer stamp (with_drawer d) other ok

  pub in_palm_stays : with_giver ≢ spot → (x : Palm) → PalmOk plan.buffers f.log f.spots x → PalmOk plan.buffers (added ++ f.log) spots x
  in_palm_stays other bare ok = tt
  in_palm_stays other (holds buffer draw) ok = lease_stays buffer draw with_giver other ok

  module _ (id : ℕ) (is_end : IsEnd f id end) (j : ℕ) (far : j ≢ id) where
    desk_stays : (desk : DrawerSeat) (hand : Hand) (stand : Stand) → DeskOk plan f j desk hand stand → DeskOk plan after j desk hand stand
    desk_stays desk hand stand ok =
        let other : suc desk.number ≢ end = is_end.no_drawer desk.number (λ same. far (sym ok.seat ∙ same)) in
        record {
          buffers = ok.buffers;
          size = ok.size;
          active = ok.active;
          seat = ok.seat;
          hand_is = m.hands_stay desk.number other ∙ ok.hand_is;
          stand_is = m.stands_stay (suc desk.number) other ∙ ok.stand_is;
          answers = ok.answers ∙ sym (answers_stay (suc desk.number) other);
          floor = omega (arith, ok.floor, length-append added f.log);
        }

    post_stays : (post : GiverSeat) (mine : Palm) (stand : Stand) → PostOk plan f j post mine stand → PostOk plan after j post mine stand
    post_stays post mine stand ok =
        let other : 0 ≢ end = is_end.no_giver (λ same. far (sym ok.seat ∙ same)) in
        record {
          buffers = ok.buffers;
          size = ok.size;
          seat = ok.seat;
          palm_is = m.palm_stays other ∙ ok.palm_is;
          stand_is = m.stands_stay 0 other ∙ ok.stand_is;
          made = ok.made;
          closed = ok.closed;
          closed_answers = are_answers_more added f.log (suc f.opened) post.closed (all_of added (λ (d : Deed) (e : d.by ≡ end). let low = is_end.low in let less : d.by < suc f.opened = omega arith in less) m.by) ok.closed_answers;
          answers = ok.answers ∙ sym (answers_stay 0 other);
          floor = omega (arith, ok.floor, length-append added f.log);
          unread = unread_more plan.buffers added f.log post.turns (subst (AllByRecursion (λ (a : Answer). a.stamp < length f.log)) (sym ok.answers) (answers_below f.log 0)) ok.unread;
        }

    -- what another seat knows
    pub knows_stays : leased j ≢ spot → (v : View) → Knows plan f j v → Knows plan after j v
    knows_stays apart nobody known = tt
    knows_stays apart (drawing desk hand stand) known = desk_stays desk hand stand known
    knows_stays apart (leasing buffer draw) known = lease_stays buffer draw (leased j) apart known
    knows_stays apart (giving post mine stand) known = post_stays post mine stand known
    knows_stays apart (drawer_note floor stamps) known = omega (arith, known, length-append added f.log)
    knows_stays apart (giver_note floor) known = omega (arith, known, length-append added f.log)
