-- What the cut of a payload gives, by the number of its cuts.
use Rattle.std.proofs.Common.{◌≡◌, ℕ, zero, suc, ◌+◌, ◌-◌, ◌/◌, ◌<◌, ◌≤◌, Bool, true, false, nat_le, List, [], ◌∷◌, ◌++◌, length, take, drop, refl, ap, ◌∙◌, arith, length-take, length-drop, take-append-drop}
use Rattle.std.proofs.Math.Nat.{add-div_right}
use Rattle.std.proofs.lemmas.Nat.{div_below}
use Rattle.std.proofs.lemmas.List.{append-nil}
use Rattle.std.proofs.lemmas.Bool.{le-leb, leb-true}
use Rattle.std.proofs.lemmas.Bool.Decides.{nat_tests}
use Rattle.std.specs.List.{concat}
use Rattle.hs_base.proofs.Numbers.{nat_le_false}
use Rattle.hs_base.specs.declared.limits.TheConstants.{MIN_SIZE}
use Rattle.hs_records.specs.Records.{piece_limit, cut_within, payload_pieces, count_cuts, piece_count}
use Rattle.hs_records.specs.Laws.{AreFullButLast}

-- as many cuts as bytes are enough
enough : (most more limit : ℕ) (payload : List ℕ) → 1 ≤ limit → length payload ≤ most → length payload ≤ more → cut_within most limit payload ≡ cut_within more limit payload
enough zero zero limit payload some few also = refl
enough zero (suc more) limit payload some few also = rw (le-leb (length payload) limit (omega arith), cut_within) refl
enough (suc most) zero limit payload some few also = rw (le-leb (length payload) limit (omega arith), cut_within) refl
enough (suc most) (suc more) limit payload some few also = step (enough most more limit (drop limit payload) some) (nat_le (length payload) limit) refl
  where
    step : (length (drop limit payload) ≤ most → length (drop limit payload) ≤ more → cut_within most limit (drop limit payload) ≡ cut_within more limit (drop limit payload))
        → (fits : Bool) → nat_le (length payload) limit ≡ fits
        → elim fits as (λ _. List (List ℕ)) [ true ↦ payload ∷ [] | false ↦ take limit payload ∷ cut_within most limit (drop limit payload) ]
        ≡ elim fits as (λ _. List (List ℕ)) [ true ↦ payload ∷ [] | false ↦ take limit payload ∷ cut_within more limit (drop limit payload) ]
    step rest true e = refl
    step rest false e =
        let long : limit < length payload = grind (arith, nat_tests) in
        let less = length-drop limit payload in
        ap (λ pieces. take limit payload ∷ pieces) (rest (omega arith) (omega arith))

-- a payload that fits is one piece
pub pieces-short : (size : ℕ) (payload : List ℕ) → length payload ≤ piece_limit size → payload_pieces size payload ≡ payload ∷ []
pieces-short size payload short = step (length payload) refl
  where
    step : (n : ℕ) → length payload ≡ n → cut_within n (piece_limit size) payload ≡ payload ∷ []
    step zero e = refl
    step (suc n) e = rw (le-leb (length payload) (piece_limit size) short, cut_within) refl

-- a longer one gives its front and is cut again
pub pieces-long : (size : ℕ) (payload : List ℕ) → MIN_SIZE ≤ size → piece_limit size < length payload
    → payload_pieces size payload ≡ take (piece_limit size) payload ∷ payload_pieces size (drop (piece_limit size) payload)
pieces-long size payload wide long = step (length payload) refl
  where
    step : (n : ℕ) → length payload ≡ n
        → cut_within n (piece_limit size) payload ≡ take (piece_limit size) payload ∷ payload_pieces size (drop (piece_limit size) payload)
    step zero e = absurd (omega arith)
    step (suc n) e =
        let less = length-drop (piece_limit size) payload in
        rw (nat_le_false (length payload) (piece_limit size) long, cut_within)
        (ap (λ pieces. take (piece_limit size) payload ∷ pieces) (enough n (length (drop (piece_limit size) payload)) (piece_limit size) (drop (piece_limit size) payload) (omega arith) (omega arith) (omega arith)))

-- ---- joined

joined_again : (most limit : ℕ) (payload : List ℕ) → concat (cut_within most limit payload) ≡ payload
joined_again zero limit payload = append-nil payload
joined_again (suc most) limit payload = step (joined_again most limit (drop limit payload)) (nat_le (length payload) limit)
  where
    step : concat (cut_within most limit (drop limit payload)) ≡ drop limit payload → (fits : Bool) → concat (elim fits as (λ _. List (List ℕ)) [ true ↦ payload ∷ [] | false ↦ take limit payload ∷ cut_within most limit (drop limit payload) ]) ≡ payload
    step rest true = append-nil payload
    step rest false = ap (λ bytes. take limit payload ++ bytes) rest ∙ take-append-drop limit payload

pub pieces-joined : (size : ℕ) (payload : List ℕ) → concat (payload_pieces size payload) ≡ payload
pieces-joined size payload = joined_again (length payload) (piece_limit size) payload

-- ---- full

full : (most limit : ℕ) (payload : List ℕ) → 1 ≤ limit → length payload ≤ most → 1 ≤ length payload → AreFullButLast limit (cut_within most limit payload)
full zero limit payload some few one = absurd (omega arith)
full (suc most) limit payload some few one = step (full most limit (drop limit payload) some) (nat_le (length payload) limit) refl
  where
    behind : (pieces : List (List ℕ)) → limit < length payload → AreFullButLast limit pieces → AreFullButLast limit (take limit payload ∷ pieces)
    behind [] long are = let is = length-take limit payload in (omega arith, omega arith)
    behind (piece ∷ pieces) long are = let is = length-take limit payload in (omega arith, are)

    step : (length (drop limit payload) ≤ most → 1 ≤ length (drop limit payload) → AreFullButLast limit (cut_within most limit (drop limit payload)))
        → (fits : Bool) → nat_le (length payload) limit ≡ fits
        → AreFullButLast limit (elim fits as (λ _. List (List ℕ)) [ true ↦ payload ∷ [] | false ↦ take limit payload ∷ cut_within most limit (drop limit payload) ])
    step rest true e = (one, leb-true (length payload) limit e)
    step rest false e =
        let long : limit < length payload = grind (arith, nat_tests) in
        let less = length-drop limit payload in
        behind (cut_within most limit (drop limit payload)) long (rest (omega arith) (omega arith))

pub pieces-full : (size : ℕ) (payload : List ℕ) → MIN_SIZE ≤ size → 1 ≤ length payload → AreFullButLast (piece_limit size) (payload_pieces size payload)
pieces-full size payload wide one = full (length payload) (piece_limit size) payload (omega arith) (omega arith) one

-- ---- counted

pub counted : (most limit : ℕ) (payload : List ℕ) → length (cut_within most limit payload) ≡ count_cuts most limit (length payload) + 1
counted zero limit payload = refl
counted (suc most) limit payload = step (counted most limit (drop limit payload)) (nat_le (length payload) limit)
  where
    step : length (cut_within most limit (drop limit payload)) ≡ count_cuts most limit (length (drop limit payload)) + 1 → (fits : Bool)
        → length (elim fits as (λ _. List (List ℕ)) [ true ↦ payload ∷ [] | false ↦ take limit payload ∷ cut_within most limit (drop limit payload) ])
        ≡ elim fits as (λ _. ℕ) [ true ↦ 0 | false ↦ count_cuts most limit (length payload - limit) + 1 ] + 1
    step rest true = refl
    step rest false = let same = ap (count_cuts most limit) (length-drop limit payload) in omega arith

pub pieces-counted : (size : ℕ) (payload : List ℕ) → length (payload_pieces size payload) ≡ piece_count size (length payload)
pieces-counted size payload = counted (length payload) (piece_limit size) payload

-- each piece but the last has as many bytes as fit, so division counts the cuts
by_division : (most limit bytes : ℕ) → 1 ≤ limit → bytes ≤ most → count_cuts most limit bytes ≡ (bytes - 1) / limit
by_division zero limit bytes some few = let below = div_below (bytes - 1) limit 1 some (omega arith) in omega arith
by_division (suc most) limit bytes some few = step (by_division most limit (bytes - limit) some) (nat_le bytes limit) refl
  where
    step : (bytes - limit ≤ most → count_cuts most limit (bytes - limit) ≡ (bytes - limit - 1) / limit) → (fits : Bool) → nat_le bytes limit ≡ fits
        → elim fits as (λ _. ℕ) [ true ↦ 0 | false ↦ count_cuts most limit (bytes - limit) + 1 ] ≡ (bytes - 1) / limit
    step counts true e =
        let short : bytes ≤ limit = leb-true bytes limit e in
        let below = div_below (bytes - 1) limit 1 some (omega arith) in
        omega arith
    step counts false e =
        let long : limit < bytes = grind (arith, nat_tests) in
        let rest = counts (omega arith) in
        let whole : bytes - 1 ≡ bytes - limit - 1 + limit = omega arith in
        let one_more = ap (λ n. n / limit) whole ∙ add-div_right (bytes - limit - 1) {k = limit} (omega arith) in
        omega arith

pub count_by_division : (size bytes : ℕ) → MIN_SIZE ≤ size → piece_count size bytes ≡ 1 + (bytes - 1) / piece_limit size
count_by_division size bytes wide = let cuts = by_division bytes (piece_limit size) bytes (omega arith) (omega arith) in omega arith
