-- What an offer of an item comes to: it was sent, or it comes back and nothing was sent, for want of a place.
use Rattle.std.specs.Prelude.{◌≡◌, ℕ, ◌<◌, [], ◌∷◌, ◌++◌, length}
use Rattle.hs_link.specs.Contents.{Outgoing, sent, EndsWith, SeemsFull, HasPlaces}
use Rattle.hs_link.specs.declared.sender.Tried.{Tried}
use Rattle.hs_link.specs.declared.sender.Tried.TheVariants as tried

abbrev pub Tries : {T F : Type 0} → T → Outgoing T F → Tried T → Outgoing T F → Type 0
Tries item old tried.Through new = (sent new ≡ sent old ++ item ∷ []) × (new.outbox ≡ [])
Tries item old tried.Kept new = (sent new ≡ sent old ++ item ∷ []) × EndsWith item new.outbox × SeemsFull new
Tries item old (tried.Full back) new = (back ≡ item) × (sent new ≡ sent old) × (HasPlaces 1 new → ⊥) × (0 < length new.outbox → SeemsFull new)
