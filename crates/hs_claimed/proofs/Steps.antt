-- What each step does to the claims.
use Rattle.std.proofs.Common.{◌≡◌, ◌+◌, ◌≤◌, ◌||◌, Bool, true, false, List, [], ◌∷◌, ◌++◌, length, refl, arith}
use Rattle.std.specs.Prelude.{if◌then◌else◌}
use Rattle.std.specs.List.{list_any}
use Rattle.std.proofs.lemmas.List.{length_push}
use Rattle.hs_base.specs.declared.ids.TraceId.{TraceId}
use Rattle.hs_base.specs.Ids.{same_trace}
use Rattle.hs_base.specs.declared.told.Group.{Group}
use Rattle.hs_claimed.specs.declared.answers.ClaimOutcome.TheVariants.{Claimed, Known, Full}
use Rattle.hs_claimed.specs.Claims.{PlainClaims, with_other, is_known, is_full_for, answer_to_claim, after_claim, with_claims}

pub others_longer : (lead : TraceId) (others : List TraceId) (trace : TraceId) → length (with_other lead others trace) ≤ length others + 1
others_longer lead others trace = at (same_trace trace lead || list_any (same_trace trace) others)
  where
    at : (b : Bool) → length (if b then others else others ++ trace ∷ []) ≤ length others + 1
    at true = omega arith
    at false = let long = length_push others trace in omega (arith, long)

-- ---- the answers to a claim

pub when_full : (s : PlainClaims) (group : Group) (traces : List TraceId) → is_known s group.id ≡ false → is_full_for s traces ≡ true
    → (answer_to_claim s group traces ≡ Full) × (after_claim s group traces ≡ s)
when_full s group traces known full = at (is_known s group.id) (is_full_for s traces) known full
  where
    at : (a b : Bool) → a ≡ false → b ≡ true → ((if a then Known else if b then Full else Claimed) ≡ Full) × ((if a || b then s else with_claims s group traces) ≡ s)
    at true b known full = let never : true ≡ false = known in absurd cc
    at false true known full = (refl, refl)
    at false false known full = let never : false ≡ true = full in absurd cc

pub when_claimed : (s : PlainClaims) (group : Group) (traces : List TraceId) → is_known s group.id ≡ false → is_full_for s traces ≡ false
    → (answer_to_claim s group traces ≡ Claimed) × (after_claim s group traces ≡ with_claims s group traces)
when_claimed s group traces known free = at (is_known s group.id) (is_full_for s traces) known free
  where
    at : (a b : Bool) → a ≡ false → b ≡ false → ((if a then Known else if b then Full else Claimed) ≡ Claimed) × ((if a || b then s else with_claims s group traces) ≡ with_claims s group traces)
    at true b known free = let never : true ≡ false = known in absurd cc
    at false true known free = let never : true ≡ false = free in absurd cc
    at false false known free = (refl, refl)
