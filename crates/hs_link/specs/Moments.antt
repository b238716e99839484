-- Where the items of a link are between any two steps of its ends: what the sender put is what the receiver took, and behind it the
-- items that lie in the entries, each in its own.
use Rattle.std.specs.Prelude.{◌≡◌, ℕ, ◌+◌, ◌%◌, List, [], ◌∷◌, ◌++◌, length, Option, Some, None, refl}
use mathlib.Core.Option.{some}
use lib.ListN.{get_elem?}
use Rattle.atomic_table.specs.Table.{State}
use Rattle.hs_link.specs.declared.board.View.{View}
use Rattle.hs_link.specs.declared.board.View.TheVariants.{Nobody, Whole, Sending, Laying, Meeting, Receiving, Taking, TellsPut, TellsTaken}
use Rattle.hs_link.specs.Ring.{put_by}

module _ {T F : Type 0} where
  -- it is the view of a sender
  abbrev pub Sends : View T F → Type 0
  Sends (Sending k put h) = Unit {0}
  Sends (Laying k put h) = Unit {0}
  Sends (Meeting k put h k' r) = Unit {0}
  Sends _ = ⊥

  -- it is the view of a receiver
  abbrev pub Receives : View T F → Type 0
  Receives (Receiving k r told) = Unit {0}
  Receives (Taking k r told x) = Unit {0}
  Receives _ = ⊥

  -- what a receiver took: what it received, and the item that it has in hand
  abbrev pub taken_by : View T F → List T
  taken_by (Receiving k r told) = r
  taken_by (Taking k r told x) = r ++ x ∷ []
  taken_by _ = []

  -- The items lie in the entries, the first of them in that of this number.
  abbrev pub LieFrom : State (Option T) (View T F) → ℕ → List T → Type 0
  LieFrom s number items = (p : ℕ) (x : T) → get_elem? items p ≡ some x → get_elem? s.homes ((number + p) % length s.homes) ≡ some (some (Some x))

  -- What one end put is what the other took, and then what lies in the entries.
  abbrev pub AreTakenOrLie : State (Option T) (View T F) → View T F → View T F → Type 0
  AreTakenOrLie s sender receiver = (ring : List T) × (put_by sender ≡ taken_by receiver ++ ring) × LieFrom s (length (taken_by receiver)) ring

-- ---- examples

-- two entries; the sender put 7, 8 and 9, of which the receiver has 7 and takes 8
abbrev one_lies : State (Option ℕ) (View ℕ ℕ)
one_lies =
    record {
      words = 1 ∷ [];
      homes = some (Some 9) ∷ some None ∷ [];
      views = Sending 0 (7 ∷ 8 ∷ 9 ∷ []) 0 ∷ Taking 0 (7 ∷ []) [] 8 ∷ [];
    }

two_are_taken : taken_by {T = ℕ} {F = ℕ} (Taking 0 (7 ∷ []) [] 8) ≡ 7 ∷ 8 ∷ []
two_are_taken = refl

the_third_lies : get_elem? one_lies.homes ((2 + 0) % length one_lies.homes) ≡ some (some (Some 9))
the_third_lies = refl
