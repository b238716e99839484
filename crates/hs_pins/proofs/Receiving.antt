-- What goes where a chunk of a claimed trace comes, and what is remembered then.
use Rattle.std.proofs.Common.{◌≡◌, ◌+◌, ◌<◌, ◌≤◌, ◌^◌, Bool, true, false, cond, List, [], ◌∷◌, length, Option, Some, None, refl, sym, ap, subst, ◌∙◌, arith}
use Rattle.std.proofs.lemmas.List.{length-append}
use Rattle.hs_pins.proofs.Prelude.{option_map, option_map_or, list_any, Group, Buffer, Priority, priority_of, Mark, mark_of, same_mark, Queues, total_of, pinned_in, Claim, Pin, Remembered, claim_for, comes_back, is_abandoned, arrived, pin_for, pins_for, with_pin, without_group, leaving, going, relieved, Remembers, HasPinned}
use Rattle.hs_pins.specs.Abandoning.{drops}
use Rattle.hs_pins.specs.Receiving.{received, goes_with}
use Rattle.hs_pins.specs.PinsLayout.{Pinning}
use Rattle.hs_pins.proofs.Lanes.{length-without_group}
use Rattle.hs_pins.proofs.Sound.{staying_few}
use Rattle.hs_pins.proofs.Leaving.{relieved-few, drops-few}
use Rattle.hs_pins.proofs.Remembering.{IsClaimFor, claim_is, back_is, has_arrived, has_abandoned}

module _ {L : Type 0} (memory : Remembered L) (chunk : Buffer L) where
  pub received-back : comes_back memory chunk ≡ true → received memory chunk ≡ memory
  received-back e = ap (λ b. cond b memory (relieved (arrived memory chunk))) e

  pub received-stays : comes_back memory chunk ≡ false → received memory chunk ≡ relieved (arrived memory chunk)
  received-stays e = ap (λ b. cond b memory (relieved (arrived memory chunk))) e

  module _ (group : Group) (c : IsClaimFor memory chunk group) where
    goes : goes_with memory chunk ≡ cond (comes_back memory chunk) (pin_for group chunk ∷ []) (drops (arrived memory chunk))
    goes =
        ap (λ o. option_map_or (λ (claim : Claim). cond (is_abandoned memory.abandoned claim.group) (pin_for claim.group chunk ∷ []) (drops (arrived memory chunk))) o []) c.found
        ∙ ap (λ (g : Group). cond (is_abandoned memory.abandoned c.claim.group) (pin_for g chunk ∷ []) (drops (arrived memory chunk))) c.own
        ∙ sym (ap (λ o. cond (option_map_or (λ (claim : Claim). is_abandoned memory.abandoned claim.group) o false) (pin_for group chunk ∷ []) (drops (arrived memory chunk))) c.found)

    pub goes-back : comes_back memory chunk ≡ true → goes_with memory chunk ≡ pin_for group chunk ∷ []
    goes-back e = goes ∙ ap (λ b. cond b (pin_for group chunk ∷ []) (drops (arrived memory chunk))) e

    pub goes-stays : comes_back memory chunk ≡ false → goes_with memory chunk ≡ drops (arrived memory chunk)
    goes-stays e = goes ∙ ap (λ b. cond b (pin_for group chunk ∷ []) (drops (arrived memory chunk))) e

-- ---- how many there are

module _ {L : Type 0} where
  pub going_few : (groups : List Group) (pins : List (Pin L)) → length (going groups pins) ≤ length pins
  going_few [] pins = omega arith
  going_few (g ∷ groups) pins =
      let rest = going_few groups (without_group g pins) in
      let both = length-without_group g pins in
      let sum = length-append (pins_for g pins) (going groups (without_group g pins)) in
      omega arith

  module _ (memory : Remembered L) (chunk : Buffer L) where
    pub length-arrived : length (arrived memory chunk).pinned ≤ length memory.pinned + 1
    length-arrived = by (claim_for memory.claims chunk)
      where
        here : (claim : Claim) (b : Bool) → length (cond b memory (with_pin memory claim.group chunk)).pinned ≤ length memory.pinned + 1
        here claim true = omega arith
        here claim false = let more = length-append memory.pinned (pin_for claim.group chunk ∷ []) in omega (arith, more)

        by : (o : Option Claim) → length (option_map_or (λ (claim : Claim). cond (is_abandoned memory.abandoned claim.group) memory (with_pin memory claim.group chunk)) o memory).pinned ≤ length memory.pinned + 1
        by None = omega arith
        by (Some claim) = here claim (is_abandoned memory.abandoned claim.group)

    -- no more goes than was pinned, with the chunk that came
    pub goes_few : length (goes_with memory chunk) ≤ length memory.pinned + 1
    goes_few = by (claim_for memory.claims chunk)
      where
        here : (claim : Claim) (b : Bool) → length (cond b (pin_for claim.group chunk ∷ []) (drops (arrived memory chunk))) ≤ length memory.pinned + 1
        here claim true = omega arith
        here claim false = let few = going_few (leaving (arrived memory chunk).most (arrived memory chunk).pinned) (arrived memory chunk).pinned in let more = length-arrived in omega (arith, few, more)

        by : (o : Option Claim) → length (option_map_or (λ (claim : Claim). cond (is_abandoned memory.abandoned claim.group) (pin_for claim.group chunk ∷ []) (drops (arrived memory chunk))) o []) ≤ length memory.pinned + 1
        by None = omega arith
        by (Some claim) = here claim (is_abandoned memory.abandoned claim.group)

    pub length-received : length (received memory chunk).pinned ≤ length memory.pinned + 1
    length-received = by (comes_back memory chunk)
      where
        by : (b : Bool) → length (cond b memory (relieved (arrived memory chunk))).pinned ≤ length memory.pinned + 1
        by true = omega arith
        by false =
            let few = staying_few (leaving (arrived memory chunk).most (arrived memory chunk).pinned) (arrived memory chunk).pinned in
            let more = length-arrived in
            omega (arith, few, more)

-- ---- the chunk is pinned, and groups may give way

module _ {L : Type 0} where
  -- the chunk was pinned for the group that claimed its trace
  pub record Came (between : Pinning L) (memory : Remembered L) (chunk : Buffer L) (group : Group) : Type 0 where
    pub claim : IsClaimFor memory chunk group
    pub stays : comes_back memory chunk ≡ false
    pub arrives : Remembers between (arrived memory chunk)

  pub came : (v now : Pinning L) (memory : Remembered L) (chunk : Buffer L) (group : Group) (mark : Mark) (b : Bool) (priority : Priority) (queues : Queues L) → v ≡ now → Remembers now memory
      → option_map (λ (claim : Claim). claim.group) (claim_for v.claims chunk) ≡ Some group → mark ≡ mark_of group → b ≡ list_any (same_mark mark) v.abandoned → b ≡ false
      → length memory.pinned + 1 < 2 ^ 32 → priority ≡ priority_of group → queues ≡ pinned_in v.queues group.trigger priority (chunk ∷ []) → Came (record v { queues = queues }) memory chunk group
  came v now memory chunk group mark b priority queues same h own marked is out few rank pins =
      let claim = claim_is v now memory chunk group same h own in
      let stays : comes_back memory chunk ≡ false = back_is v now memory chunk group mark b same h claim marked is ∙ out in
      record { claim = claim; stays = stays; arrives = has_arrived v now memory chunk group priority queues same h claim stays few rank pins }

  module _ (between : Pinning L) (memory : Remembered L) (chunk : Buffer L) (group : Group) (c : Came between memory chunk group) where
    -- where no more is pinned then than may be, nothing goes
    pub goes_none : total_of between.queues ≤ between.most → goes_with memory chunk ≡ []
    goes_none few =
        goes-stays memory chunk group c.claim c.stays
        ∙ drops-few (arrived memory chunk) (let total = c.arrives.pinned.chunks.total in let most = c.arrives.most in omega (arith, few, total, most))

    pub stays_so : (marks : List Mark) → marks ≡ between.abandoned → total_of between.queues ≤ between.most → Remembers (record between { abandoned = marks }) (received memory chunk)
    stays_so marks same few =
        subst (λ (ms : List Mark). Remembers (record between { abandoned = ms }) (received memory chunk)) (sym same)
        (subst (Remembers between)
        (sym (received-stays memory chunk c.stays
        ∙ relieved-few (arrived memory chunk) (let total = c.arrives.pinned.chunks.total in let most = c.arrives.most in omega (arith, few, total, most))))
        c.arrives)

    -- and else groups give way
    pub still_marked : (marks : List Mark) → marks ≡ between.abandoned → HasPinned between.queues marks (arrived memory chunk)
    still_marked marks same = subst (λ (ms : List Mark). HasPinned between.queues ms (arrived memory chunk)) (sym same) c.arrives.pinned

    pub gave_way : (queues : Queues L) (marks : List Mark) → HasPinned queues marks (relieved (arrived memory chunk)) → Remembers (record between { queues = queues; abandoned = marks }) (received memory chunk)
    gave_way queues marks pinned =
        subst (Remembers (record between { queues = queues; abandoned = marks })) (sym (received-stays memory chunk c.stays))
        (has_abandoned between between (arrived memory chunk) queues marks refl c.arrives pinned)
