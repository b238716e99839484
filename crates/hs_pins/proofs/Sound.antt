-- What always holds of what a node remembers, after each call.
use Rattle.std.proofs.Common.{◌≡◌, ℕ, ◌+◌, ◌<◌, ◌≤◌, ◌^◌, Bool, true, false, not, cond, List, [], ◌∷◌, ◌++◌, length, map, Option, Some, None, refl, subst, ◌∙◌, arith, length-append}
use Rattle.hs_pins.proofs.Prelude.{option_map_or, AllByRecursion, length-map, NodeId, TraceId, TriggerId, NodeSet, TriggerRule, Group, with_node, is_declared, same_trace, Buffer, Claim, Pin, Remembered, IsSound, is_claim_of, claim_of, with_crumb, pin_for, is_for, without_group, without_first, tried_at, claimed, with_pin, crumbed, leaving, staying, relieved, next_of, taken}
use Rattle.std.proofs.lemmas.Cmp.{nat_eq_equiv}
use Rattle.hs_base.proofs.Alls.{all_push, all_append, all_filter}
use Rattle.hs_base.proofs.Filters.{filter_few}
use Rattle.hs_pins.specs.Remembered.{AreApart}

-- ---- claims

apart_push : (claims : List Claim) (claim : Claim) → AreApart claims → claim_of claims claim.trace ≡ None → AreApart (claims ++ claim ∷ [])
apart_push [] claim apart none = (tt, tt)
apart_push (c ∷ claims) claim apart none = at (is_claim_of claim.trace c) refl none (apart_push claims claim apart.1)
  where
    push : (claims : List Claim) → AllByRecursion (λ (other : Claim). same_trace c.trace other.trace ≡ false) claims → same_trace c.trace claim.trace ≡ false → AllByRecursion (λ (other : Claim). same_trace c.trace other.trace ≡ false) (claims ++ claim ∷ [])
    push [] all e = (e, tt)
    push (d ∷ claims) all e = (all.0, push claims all.1 e)

    at : (b : Bool) → is_claim_of claim.trace c ≡ b → cond b (Some c) (claim_of claims claim.trace) ≡ None → (claim_of claims claim.trace ≡ None → AreApart (claims ++ claim ∷ [])) → AreApart ((c ∷ claims) ++ claim ∷ [])
    at true e none rest = absurd cc
    at false e none rest = (push claims apart.0 (nat_eq_equiv.symm c.trace.0 claim.trace.0 ∙ e), rest none)

-- a claim that is found holds what all do
pub found_claim : (P : Claim → Type 0) (claims : List Claim) (trace : TraceId) (claim : Claim) → AllByRecursion P claims → claim_of claims trace ≡ Some claim → P claim
found_claim P [] trace claim all e = absurd cc
found_claim P (c ∷ claims) trace claim all e = at (is_claim_of trace c) e (found_claim P claims trace claim all.1)
  where
    at : (b : Bool) → cond b (Some c) (claim_of claims trace) ≡ Some claim → (claim_of claims trace ≡ Some claim → P claim) → P claim
    at true e rest = let same : c ≡ claim = cc in subst P same all.0
    at false e rest = rest e

-- a crumb leaves each claim its trace and its group
crumb_apart_one : (claim : Claim) (claims : List Claim) (trace : TraceId) (node : NodeId) → AllByRecursion (λ (other : Claim). same_trace claim.trace other.trace ≡ false) claims
    → AllByRecursion (λ (other : Claim). same_trace claim.trace other.trace ≡ false) (with_crumb claims trace node)
crumb_apart_one claim [] trace node all = tt
crumb_apart_one claim (c ∷ claims) trace node all = at (is_claim_of trace c) (crumb_apart_one claim claims trace node all.1)
  where
    at : (b : Bool) → AllByRecursion (λ (other : Claim). same_trace claim.trace other.trace ≡ false) (with_crumb claims trace node)
        → AllByRecursion (λ (other : Claim). same_trace claim.trace other.trace ≡ false) (cond b (record c { crumbs = with_node c.crumbs node } ∷ claims) (c ∷ with_crumb claims trace node))
    at true rest = all
    at false rest = (all.0, rest)

crumb_apart : (claims : List Claim) (trace : TraceId) (node : NodeId) → AreApart claims → AreApart (with_crumb claims trace node)
crumb_apart [] trace node apart = tt
crumb_apart (c ∷ claims) trace node apart = at (is_claim_of trace c) (crumb_apart claims trace node apart.1)
  where
    at : (b : Bool) → AreApart (with_crumb claims trace node) → AreApart (cond b (record c { crumbs = with_node c.crumbs node } ∷ claims) (c ∷ with_crumb claims trace node))
    at true rest = apart
    at false rest = (crumb_apart_one c claims trace node apart.0, rest)

crumb_declared : (rules : List TriggerRule) (claims : List Claim) (trace : TraceId) (node : NodeId) → AllByRecursion (λ (claim : Claim). is_declared rules claim.group.trigger ≡ true) claims
    → AllByRecursion (λ (claim : Claim). is_declared rules claim.group.trigger ≡ true) (with_crumb claims trace node)
crumb_declared rules [] trace node all = tt
crumb_declared rules (c ∷ claims) trace node all = at (is_claim_of trace c) (crumb_declared rules claims trace node all.1)
  where
    at : (b : Bool) → AllByRecursion (λ (claim : Claim). is_declared rules claim.group.trigger ≡ true) (with_crumb claims trace node)
        → AllByRecursion (λ (claim : Claim). is_declared rules claim.group.trigger ≡ true) (cond b (record c { crumbs = with_node c.crumbs node } ∷ claims) (c ∷ with_crumb claims trace node))
    at true rest = all
    at false rest = (all.0, rest)

module _ {L : Type 0} where
  new_declared : (rules : List TriggerRule) (g : Group) (bs : List (Buffer L)) → is_declared rules g.trigger ≡ true → AllByRecursion (λ (pin : Pin L). is_declared rules pin.group.trigger ≡ true) (map (pin_for g) bs)
  new_declared rules g [] e = tt
  new_declared rules g (b ∷ bs) e = (e, new_declared rules g bs e)

  pub sound-fresh : (node most : ℕ) (rules : List TriggerRule) → IsSound {L = L} (record { node = node; rules = rules; most = most; claims = []; pinned = []; abandoned = []; tried = []; admitted = 0 })
  sound-fresh node most rules = record { apart = tt; claims = tt; pins = tt; few = omega arith }

  pub sound-tried : (memory : Remembered L) (id : TriggerId) (moment : ℕ) → IsSound memory → IsSound (tried_at memory id moment)
  sound-tried memory id moment s = record { apart = s.apart; claims = s.claims; pins = s.pins; few = s.few }

  pub sound-claimed : (memory : Remembered L) (group : Group) (laterals : List TraceId) (trace : TraceId) (chunks : List (Buffer L)) (crumbs : NodeSet) → IsSound memory → claim_of memory.claims trace ≡ None
      → is_declared memory.rules group.trigger ≡ true → length memory.pinned + length chunks < 2 ^ 32 → IsSound (claimed memory group laterals trace chunks crumbs)
  sound-claimed memory group laterals trace chunks crumbs s none declared few = record {
    apart = apart_push memory.claims (record { trace = trace; group = group; laterals = laterals; crumbs = crumbs }) s.apart none;
    claims = all_push (λ (claim : Claim). is_declared memory.rules claim.group.trigger ≡ true) memory.claims (record { trace = trace; group = group; laterals = laterals; crumbs = crumbs }) s.claims declared;
    pins = all_append (λ (pin : Pin L). is_declared memory.rules pin.group.trigger ≡ true) memory.pinned (map (pin_for group) chunks) s.pins (new_declared memory.rules group chunks declared);
    few = let a = length-append memory.pinned (map (pin_for group) chunks) in let b = length-map chunks (pin_for group) in omega arith;
  }

  pub sound-pin : (memory : Remembered L) (group : Group) (chunk : Buffer L) → IsSound memory → is_declared memory.rules group.trigger ≡ true → length memory.pinned + 1 < 2 ^ 32 → IsSound (with_pin memory group chunk)
  sound-pin memory group chunk s declared few = record {
    apart = s.apart;
    claims = s.claims;
    pins = all_push (λ (pin : Pin L). is_declared memory.rules pin.group.trigger ≡ true) memory.pinned (pin_for group chunk) s.pins declared;
    few = let a = length-append memory.pinned (pin_for group chunk ∷ []) in omega arith;
  }

  pub sound-crumb : (memory : Remembered L) (trace : TraceId) (node : NodeId) → IsSound memory → IsSound (crumbed memory trace node)
  sound-crumb memory trace node s =
      record { apart = crumb_apart memory.claims trace node s.apart; claims = crumb_declared memory.rules memory.claims trace node s.claims; pins = s.pins; few = s.few }

  staying_declared : (rules : List TriggerRule) (groups : List Group) (pins : List (Pin L)) → AllByRecursion (λ (pin : Pin L). is_declared rules pin.group.trigger ≡ true) pins
      → AllByRecursion (λ (pin : Pin L). is_declared rules pin.group.trigger ≡ true) (staying groups pins)
  staying_declared rules [] pins all = all
  staying_declared rules (g ∷ groups) pins all =
      staying_declared rules groups (without_group g pins) (all_filter (λ (pin : Pin L). is_declared rules pin.group.trigger ≡ true) (λ (pin : Pin L). not (is_for g pin)) pins all)

  pub staying_few : (groups : List Group) (pins : List (Pin L)) → length (staying groups pins) ≤ length pins
  staying_few [] pins = omega arith
  staying_few (g ∷ groups) pins = let a = staying_few groups (without_group g pins) in let b = filter_few (λ (pin : Pin L). not (is_for g pin)) pins in omega arith

  pub sound-relieved : (memory : Remembered L) → IsSound memory → IsSound (relieved memory)
  sound-relieved memory s = record {
    apart = s.apart;
    claims = s.claims;
    pins = staying_declared memory.rules (leaving memory.most memory.pinned) memory.pinned s.pins;
    few = let a = staying_few (leaving memory.most memory.pinned) memory.pinned in let b = s.few in omega arith;
  }

  first_declared : (rules : List TriggerRule) (g : Group) (pins : List (Pin L)) → AllByRecursion (λ (pin : Pin L). is_declared rules pin.group.trigger ≡ true) pins
      → AllByRecursion (λ (pin : Pin L). is_declared rules pin.group.trigger ≡ true) (without_first g pins)
  first_declared rules g [] all = tt
  first_declared rules g (pin ∷ pins) all = at (is_for g pin) (first_declared rules g pins all.1)
    where
      at : (b : Bool) → AllByRecursion (λ (pin : Pin L). is_declared rules pin.group.trigger ≡ true) (without_first g pins) → AllByRecursion (λ (pin : Pin L). is_declared rules pin.group.trigger ≡ true) (cond b pins (pin ∷ without_first g pins))
      at true rest = all.1
      at false rest = (all.0, rest)

  first_few : (g : Group) (pins : List (Pin L)) → length (without_first g pins) ≤ length pins
  first_few g [] = omega arith
  first_few g (pin ∷ pins) = at (is_for g pin) (first_few g pins)
    where
      at : (b : Bool) → length (without_first g pins) ≤ length pins → length (cond b pins (pin ∷ without_first g pins)) ≤ length (pin ∷ pins)
      at true le = omega arith
      at false le = omega (arith, le)

  pub sound-taken : (memory : Remembered L) (id : TriggerId) → IsSound memory → IsSound (taken memory id)
  sound-taken memory id s = at (next_of memory.pinned id)
    where
      at : (o : Option (Pin L)) → IsSound (record memory { pinned = option_map_or (λ (pin : Pin L). without_first pin.group memory.pinned) o memory.pinned })
      at None = s
      at (Some pin) = record {
        apart = s.apart;
        claims = s.claims;
        pins = first_declared memory.rules pin.group memory.pinned s.pins;
        few = let a = first_few pin.group memory.pinned in let b = s.few in omega arith;
      }
