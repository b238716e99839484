-- Whether a chunk of a claimed trace comes back, and what the pins remember where it does or does not.
use Rattle.std.proofs.Common.{◌≡◌, false, cond, [], ◌∷◌, Some, ap, ◌∙◌}
use Rattle.hs_agent.proofs.Prelude.{option_map_or, Buffer, Claim, Remembered, comes_back, arrived, with_pin, pin_for, drops}
use Rattle.hs_pins.specs.Receiving.{goes_with}
use Rattle.hs_pins.specs.Remembered.{claim_for, is_abandoned}

-- of a trace that this claim has
module _ {L : Type 0} (memory : Remembered L) (chunk : Buffer L) (claim : Claim) (e : claim_for memory.claims chunk ≡ Some claim) where
  pub back-for : comes_back memory chunk ≡ is_abandoned memory.abandoned claim.group
  back-for = ap (λ o. option_map_or (λ (claim : Claim). is_abandoned memory.abandoned claim.group) o false) e

  pub goes-for : goes_with memory chunk ≡ cond (is_abandoned memory.abandoned claim.group) (pin_for claim.group chunk ∷ []) (drops (arrived memory chunk))
  goes-for = ap (λ o. option_map_or (λ (claim : Claim). cond (is_abandoned memory.abandoned claim.group) (pin_for claim.group chunk ∷ []) (drops (arrived memory chunk))) o []) e

  pub arrived-for : is_abandoned memory.abandoned claim.group ≡ false → arrived memory chunk ≡ with_pin memory claim.group chunk
  arrived-for out =
      ap (λ o. option_map_or (λ (claim : Claim). cond (is_abandoned memory.abandoned claim.group) memory (with_pin memory claim.group chunk)) o memory) e
      ∙ ap (λ b. cond b memory (with_pin memory claim.group chunk)) out
