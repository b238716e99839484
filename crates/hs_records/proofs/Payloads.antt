-- What is known of the pieces of a payload.
use Rattle.std.proofs.Common.{◌≡◌, ℕ, ◌<◌, ◌≤◌, List, [], ◌∷◌, length, take, drop, Option, Some, None, refl}
use Rattle.hs_base.specs.declared.limits.TheConstants.{MIN_SIZE}
use Rattle.hs_base.specs.declared.ids.TraceId.{TraceId}
use Rattle.hs_records.specs.Records.{piece_limit, payload_pieces, piece_count, coming}

-- what is known of the pieces of a payload
pub record AreCut : Type 0 where
  pub fits : (size : ℕ) (payload : List ℕ) → length payload ≤ piece_limit size → payload_pieces size payload ≡ payload ∷ []
  pub cut : (size : ℕ) (payload : List ℕ) → MIN_SIZE ≤ size → piece_limit size < length payload
      → payload_pieces size payload ≡ take (piece_limit size) payload ∷ payload_pieces size (drop (piece_limit size) payload)
  pub counted : (size : ℕ) (payload : List ℕ) → length (payload_pieces size payload) ≡ piece_count size (length payload)

pub nothing_comes : (size number : ℕ) (trace : Option TraceId) → coming size number trace [] ≡ []
nothing_comes size number None = refl
nothing_comes size number (Some trace) = refl
