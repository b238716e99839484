-- The pins stay ready for the next call.
use Rattle.std.proofs.Common.{◌≡◌, ℕ, ◌≤◌, Bool, true, false, ◌||◌, Option, Some, None, IsSome, refl, sym, ap, subst, ◌∙◌, arith, true≢false}
use Rattle.std.specs.Prelude.{◌==◌, is_some, is_none}
use Rattle.std.specs.Option.{option_map, option_and_then}
use Rattle.std.proofs.lemmas.Bool.{eq-eqb}
use Rattle.hs_base.specs.declared.ids.TraceId.{TraceId}
use Rattle.hs_base.specs.declared.ids.TriggerId.{TriggerId}
use Rattle.hs_base.specs.declared.told.Group.{Group}
use Rattle.hs_base.specs.Rules.{is_declared}
use Rattle.hs_words.specs.Buffers.{Buffer}
use Rattle.hs_words.specs.Chunks.{header_in}
use Rattle.hs_words.specs.declared.page.Header.{Header}
use Rattle.hs_pins.specs.Remembered.{Claim, Remembered, claim_of, claim_for, arrived}
use Rattle.hs_pins.specs.PinsLayout.{Pinning, Remembers}
use Rattle.hs_pins.proofs.LookBack.{arrived_same}
use Rattle.tests_with.specs.Claims.{start, two_rules, Knows, IsReady}

both_declared : (id : TriggerId) → 1 ≤ id.0 → id.0 ≤ 2 → is_declared two_rules id ≡ true
both_declared id low high = at (1 == id.0) refl (2 == id.0) refl
  where
    at : (a : Bool) → (1 == id.0) ≡ a → (b : Bool) → (2 == id.0) ≡ b → (a || (b || false)) ≡ true
    at true e b f = refl
    at false e true f = refl
    at false e false f = absurd (two (λ g. true≢false (sym (eq-eqb 1 id.0 g) ∙ e)) (λ g. true≢false (sym (eq-eqb 2 id.0 g) ∙ f)))
      where
        two : (1 ≡ id.0 → ⊥) → (2 ≡ id.0 → ⊥) → ⊥
        two a b = omega (arith, a, b)

module _ {L : Type 0} where
  pub starts : (pins : Pinning L) (most : ℕ) → Remembers pins (start most) → IsReady 0 pins
  starts pins most h = (start most, h, record { declared = both_declared; few = omega arith })

  pub stays_ready : (pins : Pinning L) (before after : Remembered L) (admitted : ℕ) → Remembers pins after → Knows admitted before → after.rules ≡ before.rules → after.admitted ≡ before.admitted → IsReady admitted pins
  stays_ready pins before after admitted h k rules same =
      (after, h, record { declared = λ id low high. ap (λ rs. is_declared rs id) rules ∙ k.declared id low high; few = let f = k.few in omega (arith, f, same) })

  pub arrival_ready : (pins : Pinning L) (memory : Remembered L) (chunk : Buffer L) → Knows 0 memory → Remembers pins (arrived memory chunk) → IsReady 0 pins
  arrival_ready pins memory chunk k h =
      stays_ready pins memory (arrived memory chunk) 0 h k (arrived_same (λ m. m.rules) memory chunk (λ g. refl)) (arrived_same (λ m. m.admitted) memory chunk (λ g. refl))

  pub unclaimed_is : (memory : Remembered L) (trace : TraceId) (r : Option Group) → r ≡ option_map (λ (claim : Claim). claim.group) (claim_of memory.claims trace) → is_some r ≡ false → claim_of memory.claims trace ≡ None
  unclaimed_is memory trace r e none = at (claim_of memory.claims trace) (ap is_some (sym e) ∙ none)
    where
      at : (o : Option Claim) → is_some (option_map (λ (claim : Claim). claim.group) o) ≡ false → o ≡ None
      at None f = refl
      at (Some claim) f = absurd (true≢false f)

  pub claimed_is : (memory : Remembered L) (trace : TraceId) (chunk : Buffer L) (r : Option Group) → r ≡ option_map (λ (claim : Claim). claim.group) (claim_of memory.claims trace) → is_none r ≡ false
      → option_map (λ (header : Header). header.trace) (header_in chunk.chunk) ≡ Some trace → IsSome (claim_for memory.claims chunk)
  claimed_is memory trace chunk r e some header = at (header_in chunk.chunk) header
    where
      there : (o : Option Claim) → is_none (option_map (λ (claim : Claim). claim.group) o) ≡ false → IsSome o
      there None f = absurd (true≢false f)
      there (Some claim) f = refl

      at : (o : Option Header) → option_map (λ (header : Header). header.trace) o ≡ Some trace → IsSome (option_and_then (λ (header : Header). claim_of memory.claims header.trace) o)
      at None f = absurd cc
      at (Some h) f = let same : h.trace ≡ trace = cc in subst (λ (t : TraceId). IsSome (claim_of memory.claims t)) (sym same) (there (claim_of memory.claims trace) (ap is_none (sym e) ∙ some))
