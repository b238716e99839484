-- What a node remembers once a group was forgotten.
use Rattle.std.proofs.Common.{◌≡◌, Bool, true, false, cond, not, ◌||◌, List, [], ◌∷◌, length, map, Option, Some, None, unwrap_or, refl, sym, ap, subst, ◌∙◌, arith, true≢false, eqb}
use Rattle.hs_pins.proofs.Prelude.{filter, is_some, lookup, list_any, AllByRecursion, length-map, Group, Buffer, Claim, Remembered, IsSound, is_for, pins_for, pins_under, pin_for, is_abandoned, is_declared, same_trace, same_group, priority_of, same_priority, mark_of, same_mark, Mark, Groups, chunks_of, HaveChunks, Queues, groups_of, Remembers, HasQueues, chunks_at, rule_of, moments_of}
use Rattle.hs_base.proofs.Alls.{all_filter}
use Rattle.hs_base.proofs.Filters.{any_filtered}
use Rattle.hs_pins.specs.Remembered.{AreApart, is_of_group, forgot}
use Rattle.hs_pins.specs.PinsLayout.{Buckets, Pinning, MatchBucket, HasMarks, bucket_in}
use Rattle.hs_pins.proofs.GroupLemmas.{some-found}
use Rattle.hs_pins.proofs.Order.{same_group-true, same_group-refl}
use Rattle.hs_pins.proofs.Queued.{under_all, under-for}
use Rattle.hs_pins.proofs.Waits.{pins_for-lane}
use Rattle.hs_pins.proofs.Remembering.{remembers}

-- ---- what is pinned for a group

module _ {L : Type 0} where
  -- a group is found where something is pinned for it
  pub found_is : (g : Group) (queues : Queues L) (memory : Remembered L) → HasQueues queues memory.rules memory.pinned
      → is_some (lookup (same_priority (priority_of g)) (groups_of queues g.trigger)) ≡ list_any (is_for g) memory.pinned
  found_is g queues memory has =
      let p = priority_of g in
      let groups = groups_of queues g.trigger in
      let under = pins_under g.trigger memory.pinned in
      let lanes = has.lanes g.trigger in
      let lane : pins_for g memory.pinned ≡ map (pin_for g) (chunks_at p under) = sym (under-for g memory.pinned) ∙ pins_for-lane g under (under_all g.trigger memory.pinned) in
      let long : length (chunks_of groups p) ≡ length (pins_for g memory.pinned) = ap length (lanes.lanes p) ∙ sym (length-map (chunks_at p under) (pin_for g)) ∙ sym (ap length lane) in
      go groups lanes.some (lookup (same_priority p) groups) refl ∙ ap (λ n. not (eqb n 0)) long ∙ any_filtered (is_for g) memory.pinned
    where
      go : (groups : Groups L) → HaveChunks groups → (o : Option (List (Buffer L))) → lookup (same_priority (priority_of g)) groups ≡ o → is_some o ≡ not (eqb (length (unwrap_or o [])) 0)
      go groups some None e = refl
      go groups some (Some old) e = let few = some-found (same_priority (priority_of g)) groups old some e in grind arith

-- ---- what stays

apart_one : (q : Claim → Bool) (claim : Claim) (claims : List Claim) → AllByRecursion (λ (other : Claim). same_trace claim.trace other.trace ≡ false) claims
    → AllByRecursion (λ (other : Claim). same_trace claim.trace other.trace ≡ false) (filter q claims)
apart_one q claim claims all = all_filter (λ (other : Claim). same_trace claim.trace other.trace ≡ false) q claims all

apart_left : (q : Claim → Bool) (claims : List Claim) → AreApart claims → AreApart (filter q claims)
apart_left q [] apart = tt
apart_left q (c ∷ claims) apart = go (q c) (apart_left q claims apart.1)
  where
    go : (b : Bool) → AreApart (filter q claims) → AreApart (cond b (c ∷ filter q claims) (filter q claims))
    go true rest = (apart_one q c claims apart.0, rest)
    go false rest = rest

abandoned_left : (group : Group) (groups : List Group) (g : Group) → is_abandoned (filter (λ (other : Group). not (same_group group other)) groups) g ≡ cond (same_group group g) false (is_abandoned groups g)
abandoned_left group [] g = go (same_group group g)
  where
    go : (b : Bool) → false ≡ cond b false false
    go true = refl
    go false = refl
abandoned_left group (h ∷ groups) g = go (same_group group h) (same_group g h) (same_group group g) refl refl refl (abandoned_left group groups g)
  where
    go : (a b c : Bool) → same_group group h ≡ a → same_group g h ≡ b → same_group group g ≡ c
        → is_abandoned (filter (λ (other : Group). not (same_group group other)) groups) g ≡ cond c false (is_abandoned groups g)
        → is_abandoned (cond (not a) (h ∷ filter (λ (other : Group). not (same_group group other)) groups) (filter (λ (other : Group). not (same_group group other)) groups)) g ≡ cond c false (b || is_abandoned groups g)
    go true true true e f k rest = rest
    go true false true e f k rest = rest
    go true false false e f k rest = rest
    go true true false e f k rest =
        let one : group ≡ h = same_group-true group h e in
        let two : g ≡ h = same_group-true g h f in
        absurd (true≢false (sym (same_group-refl g) ∙ subst (λ (x : Group). same_group x g ≡ false) (one ∙ sym two) k))
    go false true true e f k rest =
        let one : g ≡ h = same_group-true g h f in
        absurd (true≢false (sym k ∙ subst (λ (x : Group). same_group group x ≡ false) (sym one) e))
    go false false true e f k rest = rw f rest
    go false true false e f k rest = rw f refl
    go false false false e f k rest = rw f rest

-- where of the marks only the group's went
marks_left : (group : Group) (marks left : List Mark) (groups : List Group)
    → ((g : Group) → list_any (same_mark (mark_of g)) left ≡ cond (same_group group g) false (list_any (same_mark (mark_of g)) marks))
    → HasMarks marks groups → HasMarks left (filter (λ (other : Group). not (same_group group other)) groups)
marks_left group marks left groups goes has g = goes g ∙ ap (λ b. cond (same_group group g) false b) (has g) ∙ sym (abandoned_left group groups g)

module _ {L : Type 0} where
  sound_left : (group : Group) (memory : Remembered L) → IsSound memory → IsSound (forgot group memory)
  sound_left group memory s = record {
    apart = apart_left (λ (claim : Claim). not (is_of_group group claim)) memory.claims s.apart;
    claims = all_filter (λ (claim : Claim). is_declared memory.rules claim.group.trigger ≡ true) (λ (claim : Claim). not (is_of_group group claim)) memory.claims s.claims;
    pins = s.pins;
    few = s.few;
  }

  pub forgotten_remembers : (group : Group) (old new : Pinning L) (memory : Remembered L) → Remembers old memory → new.node ≡ old.node → new.most ≡ old.most → new.admitted ≡ old.admitted
      → new.claims ≡ filter (λ (claim : Claim). not (is_of_group group claim)) old.claims → new.buckets ≡ old.buckets → new.queues ≡ old.queues
      → ((g : Group) → list_any (same_mark (mark_of g)) new.abandoned ≡ cond (same_group group g) false (list_any (same_mark (mark_of g)) old.abandoned))
      → Remembers new (forgot group memory)
  forgotten_remembers group old new memory h node most admitted claims buckets queues marks =
      remembers new (forgot group memory) (sound_left group memory h.sound) (node ∙ h.node) (most ∙ h.most) (admitted ∙ h.admitted)
      (claims ∙ ap (filter (λ (claim : Claim). not (is_of_group group claim))) h.claims)
      (λ id. subst (λ (bs : Buckets). MatchBucket (rule_of memory.rules id) (bucket_in bs id) (moments_of id memory.tried)) (sym buckets) (h.buckets id))
      (record { chunks = subst (λ (qs : Queues L). HasQueues qs memory.rules memory.pinned) (sym queues) h.pinned.chunks; groups = marks_left group old.abandoned new.abandoned memory.abandoned marks h.pinned.groups })
