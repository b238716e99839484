-- What held of a seat, and the place of a buffer, stay where a step changes one seat's view or adds a seat.
use Rattle.std.proofs.Common.{◌≡◌, ◌≢◌, ℕ, ◌*◌, ◌%◌, List, [], ◌∷◌, ◌++◌, length, set, sym, ap, ◌∙◌, subst}
use Rattle.hs_ring.proofs.Prelude.{some, some-injective, dite, ℕ_discrete, get_elem?, set_here, set_else, AtSeat, Spot, in_queue, with_drawer, leased, with_giver, View, Has, Cell, waits, SpotOk}
use Rattle.atomic_table.proofs.Lists.{at_longer, at_last}
use Rattle.hs_ring.proofs.Counting.{at_length}

-- ---- seats

module _ {V : Type 0} (views : List V) (id : ℕ) (v w : V) (at : get_elem? views id ≡ some v) (P : V → Type 0) where
  -- the seat with a new view
  pub now_with : P w → AtSeat (set views id w) P id
  now_with has = (w, set_here views id w (at_length views id v at), has)

  -- what held of a seat holds of it, where it holds of the new view if it did of the old one
  pub still_with : (P v → P w) → (j : ℕ) → AtSeat views P j → AtSeat (set views id w) P j
  still_with goes j (x, seen, has) =
      dite (ℕ_discrete j id)
      (λ same.
      let one : x ≡ v = some-injective x v (sym seen ∙ ap (get_elem? views) same ∙ at) in
      subst (AtSeat (set views id w) P) (sym same) (now_with (goes (subst P one has))))
      (λ other. (x, set_else views id j w other ∙ seen, has))

module _ {V : Type 0} where
  -- another seat's view is new
  pub else_with : (views : List V) (id : ℕ) (w : V) (P : V → Type 0) (j : ℕ) → j ≢ id → AtSeat views P j → AtSeat (set views id w) P j
  else_with views id w P j other (x, seen, has) = (x, set_else views id j w other ∙ seen, has)

  -- there is one more seat
  pub with_more : (views : List V) (w : V) (P : V → Type 0) (j : ℕ) → AtSeat views P j → AtSeat (views ++ w ∷ []) P j
  with_more views w P j (x, seen, has) = (x, at_longer views (w ∷ []) j x seen, has)

  pub with_last : (views : List V) (w : V) (P : V → Type 0) (j : ℕ) → length views ≡ j → P w → AtSeat (views ++ w ∷ []) P j
  with_last views w P j there has = (w, at_last views w j there, has)

-- ---- places

pub spot_stays : (n : ℕ) (cells cells' : ℕ → Cell) (seats : ℕ → ℕ) (giver : ℕ) (views views' : List View) (buffer : ℕ)
    → ((number : ℕ) → cells (number % (2 * n)) ≡ waits number buffer → cells' (number % (2 * n)) ≡ waits number buffer)
    → ((j : ℕ) → AtSeat views (Has buffer) j → AtSeat views' (Has buffer) j)
    → (spot : Spot) → SpotOk n cells seats giver views buffer spot → SpotOk n cells' seats giver views' buffer spot
spot_stays n cells cells' seats giver views views' buffer on_waits on_seat (in_queue number) is = on_waits number is
spot_stays n cells cells' seats giver views views' buffer on_waits on_seat (with_drawer drawer) is = on_seat (seats drawer) is
spot_stays n cells cells' seats giver views views' buffer on_waits on_seat (leased j) is = on_seat j is
spot_stays n cells cells' seats giver views views' buffer on_waits on_seat with_giver is = on_seat giver is
