-- That what a client sends stands in the order of the operations that send it: the numbers do not fall.
use Rattle.std.specs.Prelude.{ℕ, ◌≤◌, false, List, [], ◌∷◌}
use Rattle.std.proofs.Common.{lit≤}
use Rattle.hs_base.specs.declared.ids.ClientId.{ClientId}
use Rattle.hs_base.specs.declared.limits.TheConstants.{MIN_SIZE}
use Rattle.hs_base.specs.declared.settings.AutoRule.{AutoRule}
use Rattle.hs_records.specs.declared.journal.Draw.{Draw}
use Rattle.hs_records.specs.Plain.{Operation}
use Rattle.hs_records.specs.Records.{AreBracketed}
use Rattle.hs_client.specs.Drawn.{drawn_pages}
use Rattle.hs_client.specs.Sending.{Sent, sent_chunks, sent_crumbs, sent_triggers}

-- The numbers of these items do not fall, from this one on.
abbrev pub AreInOrder : {A : Type 0} → ℕ → List (Sent A) → Type 0
AreInOrder number [] = Unit {0}
AreInOrder number (item ∷ items) = (number ≤ item.number) × AreInOrder item.number items

abbrev pub CrumbsAreInOrder : Type 0
CrumbsAreInOrder = (ops : List Operation) → AreInOrder 0 (sent_crumbs ops)

abbrev pub TriggersAreInOrder : Type 0
TriggersAreInOrder = (autos : List AutoRule) (ops : List Operation) → AreInOrder 0 (sent_triggers autos ops)

abbrev pub ChunksAreInOrder : Type 0
ChunksAreInOrder = (size : ℕ) (client : ClientId) (ops : List Operation) (draws : List Draw) → MIN_SIZE ≤ size → AreBracketed false ops → AreInOrder 0 (sent_chunks (drawn_pages size client ops draws))

-- ---- examples

abbrev sent_by : ℕ → Sent ℕ
sent_by number = record { number = number; item = 7 }

-- one operation may send more than one item
two_of_one : AreInOrder 0 (sent_by 1 ∷ sent_by 1 ∷ sent_by 4 ∷ [])
two_of_one = (lit≤ tt, (lit≤ tt, (lit≤ tt, tt)))
