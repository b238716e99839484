-- Where the pieces of a page stand among the records that are there already, and a piece that is joined to one of these.
use Rattle.std.specs.Prelude.{◌≡◌, ℕ, zero, suc, ◌≤◌, ◌++◌, Bool, true, false, List, [], ◌∷◌, All, take, drop, option_map, unwrap_or, slice_get, ◌-◌, if◌then◌else◌, refl}
use Rattle.hs_base.specs.declared.ids.ClientId.{ClientId}
use Rattle.hs_base.specs.declared.ids.RecordId.{RecordId}
use Rattle.hs_words.specs.declared.page.Header.{Header}
use Rattle.hs_words.specs.Pages.{Piece}
use Rattle.hs_collect.specs.Clients.{is_behind}
use Rattle.hs_collect.specs.Collected.{Placed, is_same}

-- before this place no record is of a client behind this one, and from it on each is
pub record IsPlaceBehind (client : ClientId) (place : ℕ) (wholes : List Placed) : Type 0 where
  pub before : All (λ whole. is_behind whole.id.client client ≡ false) (take place wholes)
  pub behind : All (λ whole. is_behind whole.id.client client ≡ true) (drop place wholes)

-- no record of the page's client has a higher number than the page's first
abbrev pub GoesBehind : Header → List Placed → Type 0
GoesBehind header wholes = All (λ whole. whole.id.client ≡ header.client → whole.id.number ≤ header.first) wholes

-- whether the record before this place has this id
abbrev pub is_before : ℕ → RecordId → List Placed → Bool
is_before zero id wholes = false
is_before (suc last) id wholes = unwrap_or (option_map (λ whole. is_same whole.id id) (slice_get wholes last)) false

-- the records, of which the one at this place has these bytes more
abbrev pub join_at : ℕ → List ℕ → List Placed → List Placed
join_at place bytes [] = []
join_at zero bytes (whole ∷ wholes) = record { id = whole.id; moment = whole.moment; payload = whole.payload ++ bytes } ∷ wholes
join_at (suc place) bytes (whole ∷ wholes) = whole ∷ join_at place bytes wholes

-- The first of a page's pieces is joined to the record before their place exactly where it is that record's.
abbrev pub Joins : Header → ℕ → List Placed → List Piece → Bool → List Placed → Type 0
Joins header place old [] joined new = (joined ≡ false) × (new ≡ old)
Joins header place old (piece ∷ pieces) joined new =
    (joined ≡ is_before place (record { client = header.client; number = header.first }) old)
    × (new ≡ (if joined then join_at (place - 1) piece.payload old else old))

-- ---- worked examples

abbrev whole : (client number : ℕ) → List ℕ → Placed
whole client number payload = record { id = record { client = record { node = 0; number = client }; number = number }; moment = 0; payload = payload }

abbrev two : List Placed
two = whole 0 4 (1 ∷ 2 ∷ []) ∷ whole 1 0 (3 ∷ []) ∷ []

the_record_before : is_before 1 (record { client = record { node = 0; number = 0 }; number = 4 }) two ≡ true
the_record_before = refl

another_number_before : is_before 1 (record { client = record { node = 0; number = 0 }; number = 5 }) two ≡ false
another_number_before = refl

none_before_the_first : is_before 0 (record { client = record { node = 0; number = 0 }; number = 4 }) two ≡ false
none_before_the_first = refl

more_bytes : join_at 0 (5 ∷ []) two ≡ whole 0 4 (1 ∷ 2 ∷ 5 ∷ []) ∷ whole 1 0 (3 ∷ []) ∷ []
more_bytes = refl
