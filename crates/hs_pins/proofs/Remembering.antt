-- The pins after each call are those of a node that remembers what the call leaves.
use Rattle.std.proofs.Common.{◌≡◌, ℕ, ◌+◌, ◌<◌, ◌^◌, Bool, true, false, cond, ◌||◌, List, [], ◌∷◌, ◌++◌, length, map, Option, Some, None, IsSome, unwrap_or, refl, sym, ap, subst, ◌∙◌, true≢false}
use Rattle.hs_pins.proofs.Prelude.{◌==◌, filter, is_some, option_map, option_map_or, option_and_then, list_any, lookup, set_value, lookup-set_value, NodeId, TraceId, TriggerId, NodeSet, TriggerRule, Group, is_declared, Buffer, Priority, Mark, priority_of, mark_of, same_mark, BucketState, attempted, fresh_bucket, Groups, greatest_of, Queues, same_id, groups_of, with_groups, pinned_in, fresh_queues, Claim, Remembered, IsSound, claim_of, claim_for, with_crumb, rule_of, moments_of, admission, admitted_after, tried_at, claimed, with_pin, arrived, comes_back, is_abandoned, crumbed, relieved, taken, Remembers, HasPinned, HasLanes, HasQueues, fresh_buckets_of, in_order}
use Rattle.hs_words.specs.Chunks.{header_in}
use Rattle.hs_words.specs.declared.page.Header.{Header}
use Rattle.hs_pins.specs.declared.bucket.Attempt.{Attempt}
use Rattle.hs_pins.specs.declared.claim.Admitted.{Admitted}
use Rattle.hs_pins.specs.Groups.{without_next as without_next_lane}
use Rattle.hs_pins.specs.Queues.{has_queue}
use Rattle.hs_pins.specs.Remembered.{Tried, fresh, answered}
use Rattle.hs_pins.specs.PinsLayout.{Buckets, Pinning, MatchBucket, Attempts, bucket_in, waiting}
use Rattle.hs_pins.proofs.Lanes.{lanes-empty}
use Rattle.hs_pins.proofs.Fullest.{id_laws, same_id-true}
use Rattle.hs_pins.proofs.Queued.{same_id-test, queues-more, queues-first, queues-wait, one_id}
use Rattle.hs_pins.proofs.RuleLemmas.{fresh-total}
use Rattle.hs_pins.proofs.Sound.{sound-fresh, sound-tried, sound-claimed, sound-pin, sound-crumb, sound-relieved, sound-taken, found_claim}

-- ---- declared ids

pub declared_rule : (rules : List TriggerRule) (id : TriggerId) → is_declared rules id ≡ is_some (rule_of rules id)
declared_rule [] id = refl
declared_rule (r ∷ rules) id = at (r.id.0 == id.0) (declared_rule rules id)
  where
    at : (b : Bool) → is_declared rules id ≡ is_some (rule_of rules id) → (b || is_declared rules id) ≡ is_some (cond b (Some r) (rule_of rules id))
    at true e = refl
    at false e = e

same_test : (id : TriggerId) (r : TriggerRule) → same_id id r.id ≡ (r.id.0 == id.0)
same_test id r = id_laws.symm id r.id ∙ same_id-test r.id id

fresh_bucket_matches : (rules : List TriggerRule) (id : TriggerId) → MatchBucket (rule_of rules id) (bucket_in (fresh_buckets_of rules) id) []
fresh_bucket_matches [] id = tt
fresh_bucket_matches (r ∷ rules) id = at (r.id.0 == id.0) (same_id id r.id) (same_test id r) (fresh_bucket_matches rules id)
  where
    at : (b d : Bool) → d ≡ b → MatchBucket (rule_of rules id) (bucket_in (fresh_buckets_of rules) id) []
        → MatchBucket (cond b (Some r) (rule_of rules id)) (cond d (Some (fresh_bucket r.burst r.rate)) (bucket_in (fresh_buckets_of rules) id)) []
    at true true e rest = record { burst = refl; rate = refl; attempts = record { moment = refl; level = refl } }
    at false false e rest = rest
    at true false e rest = absurd (true≢false (sym e))
    at false true e rest = absurd (true≢false e)

fresh_declared : (L : Type 0) (rules : List TriggerRule) (id : TriggerId) → is_some (lookup (same_id id) (fresh_queues {L = L} rules)) ≡ is_declared rules id
fresh_declared L [] id = refl
fresh_declared L (r ∷ rules) id = at (r.id.0 == id.0) (same_id id r.id) (same_test id r) (fresh_declared L rules id)
  where
    at : (b d : Bool) → d ≡ b → is_some (lookup (same_id id) (fresh_queues {L = L} rules)) ≡ is_declared rules id
        → is_some (cond d (Some []) (lookup (same_id id) (fresh_queues {L = L} rules))) ≡ (b || is_declared rules id)
    at true true e rest = refl
    at false false e rest = rest
    at true false e rest = absurd (true≢false (sym e))
    at false true e rest = absurd (true≢false e)

apart_id : (id other : TriggerId) → (other.0 ≡ id.0 → ⊥) → same_id id other ≡ false
apart_id id other ne = at (same_id id other) refl
  where
    at : (b : Bool) → same_id id other ≡ b → b ≡ false
    at true e = absurd (ne (sym (ap (λ (t : TriggerId). t.0) (same_id-true id other e))))
    at false e = refl

-- ---- buckets

moments_apart : (id other : TriggerId) (moment : ℕ) (tried : List Tried) → same_id id other ≡ false → moments_of other (record { trigger = id; moment = moment } ∷ tried) ≡ moments_of other tried
moments_apart id other moment tried e =
    ap (λ b. map (λ (t : Tried). t.moment) (cond b (record { trigger = id; moment = moment } ∷ filter (λ (t : Tried). t.trigger.0 == other.0) tried) (filter (λ (t : Tried). t.trigger.0 == other.0) tried))) (sym (same_id-test id other) ∙ e)

moments_more : (id : TriggerId) (moment : ℕ) (tried : List Tried) → moments_of id (record { trigger = id; moment = moment } ∷ tried) ≡ moment ∷ moments_of id tried
moments_more id moment tried =
    ap (λ b. map (λ (t : Tried). t.moment) (cond b (record { trigger = id; moment = moment } ∷ filter (λ (t : Tried). t.trigger.0 == id.0) tried) (filter (λ (t : Tried). t.trigger.0 == id.0) tried))) (sym (same_id-test id id) ∙ id_laws.refl id)

bucket_after : (rules : List TriggerRule) (buckets new : Buckets) (tried : List Tried) (id : TriggerId) (moment : ℕ) (answer : Attempt) → ((other : TriggerId) → MatchBucket (rule_of rules other) (bucket_in buckets other) (moments_of other tried))
    → Attempts buckets new id moment answer → (other : TriggerId) → MatchBucket (rule_of rules other) (bucket_in new other) (moments_of other (record { trigger = id; moment = moment } ∷ tried))
bucket_after rules buckets new tried id moment answer h a other =
    subst (λ (bs : Buckets). MatchBucket (rule_of rules other) (bucket_in bs other) (moments_of other (record { trigger = id; moment = moment } ∷ tried))) (sym a.has)
    (subst (λ (o : Option BucketState). MatchBucket (rule_of rules other) o (moments_of other (record { trigger = id; moment = moment } ∷ tried)))
    (sym (lookup-set_value id_laws (same_id id) (one_id id) other a.after buckets (ap is_some a.had))) (at (same_id id other) refl))
  where
    here : (r : Option TriggerRule) → MatchBucket r (Some a.before) (moments_of id tried) → MatchBucket r (Some a.after) (moment ∷ moments_of id tried)
    here None m = absurd m
    here (Some rule) m = record { burst = a.takes.burst ∙ m.burst; rate = a.takes.rate ∙ m.rate; attempts = a.takes.taken (moments_of id tried) m.attempts }

    at : (b : Bool) → same_id id other ≡ b → MatchBucket (rule_of rules other) (cond b (Some a.after) (bucket_in buckets other)) (moments_of other (record { trigger = id; moment = moment } ∷ tried))
    at true e =
        subst (λ (t : TriggerId). MatchBucket (rule_of rules t) (Some a.after) (moments_of t (record { trigger = id; moment = moment } ∷ tried))) (same_id-true id other e)
        (subst (MatchBucket (rule_of rules id) (Some a.after)) (sym (moments_more id moment tried)) (here (rule_of rules id) (subst (λ (o : Option BucketState). MatchBucket (rule_of rules id) o (moments_of id tried)) a.had (h id))))
    at false e = subst (MatchBucket (rule_of rules other) (bucket_in buckets other)) (sym (moments_apart id other moment tried e)) (h other)

module _ {L : Type 0} where
  -- all of it together
  pub remembers : (v : Pinning L) (memory : Remembered L) → IsSound memory → v.node ≡ memory.node → v.most ≡ memory.most → v.admitted ≡ memory.admitted → v.claims ≡ memory.claims
      → ((id : TriggerId) → MatchBucket (rule_of memory.rules id) (bucket_in v.buckets id) (moments_of id memory.tried)) → HasPinned v.queues v.abandoned memory → Remembers v memory
  remembers v memory sound node most admitted claims buckets pinned = record {
    sound = sound;
    node = node;
    most = most;
    admitted = admitted;
    claims = claims;
    buckets = buckets;
    pinned = pinned;
    waits = λ id. queues-wait id v.queues memory.rules memory.pinned pinned.chunks;
  }

  pub at_view : (v now : Pinning L) (memory : Remembered L) → v ≡ now → Remembers now memory → Remembers v memory
  at_view v now memory same h = subst (λ (s : Pinning L). Remembers s memory) (sym same) h

  -- ---- make

  fresh_groups : (rules : List TriggerRule) (id : TriggerId) → groups_of (fresh_queues {L = L} rules) id ≡ []
  fresh_groups [] id = refl
  fresh_groups (r ∷ rules) id = at (same_id id r.id) (fresh_groups rules id)
    where
      at : (b : Bool) → groups_of (fresh_queues {L = L} rules) id ≡ [] → unwrap_or (cond b (Some []) (lookup (same_id id) (fresh_queues {L = L} rules))) [] ≡ []
      at true rest = refl
      at false rest = rest

  pub made : (v : Pinning L) (node most : ℕ) (rules : List TriggerRule) → v.node ≡ node → v.most ≡ most → v.admitted ≡ 0 → v.claims ≡ [] → v.buckets ≡ fresh_buckets_of rules → v.queues ≡ fresh_queues rules → v.abandoned ≡ []
      → Remembers v (fresh node most rules)
  made v node most rules own_node own_most none claims buckets queues marks =
      remembers v (fresh node most rules) (sound-fresh node most rules) own_node own_most none claims
      (λ id. subst (λ (bs : Buckets). MatchBucket (rule_of rules id) (bucket_in bs id) []) (sym buckets) (fresh_bucket_matches rules id))
      (record {
        chunks = subst (λ (q : Queues L). HasQueues q rules []) (sym queues) (record {
          declared = fresh_declared L rules;
          lanes = λ id. subst (λ (gs : Groups L). HasLanes gs []) (sym (fresh_groups rules id)) lanes-empty;
          total = sym (fresh-total L rules);
        });
        groups = λ group. ap (list_any (same_mark (mark_of group))) marks;
      })

  -- ---- triggers

  pub bucket_there : (v now : Pinning L) (memory : Remembered L) (id : TriggerId) → v ≡ now → Remembers now memory → is_declared memory.rules id ≡ true → IsSome (bucket_in v.buckets id)
  bucket_there v now memory id same h declared = at (rule_of memory.rules id) (bucket_in v.buckets id) (sym (declared_rule memory.rules id) ∙ declared) ((at_view v now memory same h).buckets id)
    where
      at : (r : Option TriggerRule) (o : Option BucketState) → is_some r ≡ true → MatchBucket r o (moments_of id memory.tried) → IsSome o
      at None o some m = absurd (true≢false (sym some))
      at (Some rule) None some m = absurd m
      at (Some rule) (Some bucket) some m = refl

  answer_is : (v : Pinning L) (memory : Remembered L) (new : Buckets) (id : TriggerId) (moment : ℕ) (answer : Attempt) → Remembers v memory → Attempts v.buckets new id moment answer
      → answered memory id moment ≡ Some (admission memory.admitted answer)
  answer_is v memory new id moment answer h a = at (rule_of memory.rules id) (subst (λ (o : Option BucketState). MatchBucket (rule_of memory.rules id) o (moments_of id memory.tried)) a.had (h.buckets id))
    where
      at : (r : Option TriggerRule) → MatchBucket r (Some a.before) (moments_of id memory.tried)
          → option_map (λ (rule : TriggerRule). admission memory.admitted (attempted rule.burst rule.rate (moments_of id memory.tried) moment)) r ≡ Some (admission memory.admitted answer)
      at None m = absurd m
      at (Some rule) m =
          ap (λ b. Some (admission memory.admitted (attempted b rule.rate (moments_of id memory.tried) moment))) (sym m.burst)
          ∙ ap (λ r. Some (admission memory.admitted (attempted a.before.burst r (moments_of id memory.tried) moment))) (sym m.rate)
          ∙ ap (λ x. Some (admission memory.admitted x)) (sym (a.answers (moments_of id memory.tried) m.attempts))

  pub answered_so : (v now : Pinning L) (memory : Remembered L) (new : Buckets) (id : TriggerId) (moment : ℕ) (answer : Attempt) (admitted : Admitted) → v ≡ now → Remembers now memory → Attempts v.buckets new id moment answer
      → admission v.admitted answer ≡ admitted → answered memory id moment ≡ Some admitted
  answered_so v now memory new id moment answer admitted same h a e =
      let at_v = at_view v now memory same h in
      answer_is v memory new id moment answer at_v a ∙ ap (λ n. Some (admission n answer)) (sym at_v.admitted) ∙ ap Some e

  pub tried : (v now : Pinning L) (memory : Remembered L) (new : Buckets) (id : TriggerId) (moment number : ℕ) (answer : Attempt) → v ≡ now → Remembers now memory → Attempts v.buckets new id moment answer
      → number ≡ admitted_after v.admitted (admission v.admitted answer) → Remembers (record v { buckets = new; admitted = number }) (tried_at memory id moment)
  tried v now memory new id moment number answer same h a e =
      let at_v = at_view v now memory same h in
      remembers (record v { buckets = new; admitted = number }) (tried_at memory id moment) (sound-tried memory id moment at_v.sound) at_v.node at_v.most
      (e ∙ ap (λ n. admitted_after n (admission n answer)) at_v.admitted ∙ sym (ap (λ o. option_map_or (admitted_after memory.admitted) o memory.admitted) (answer_is v memory new id moment answer at_v a)))
      at_v.claims (bucket_after memory.rules v.buckets new memory.tried id moment answer at_v.buckets a) (record { chunks = at_v.pinned.chunks; groups = at_v.pinned.groups })

  -- ---- claims and crumbs

  pub queue_there : (v now : Pinning L) (memory : Remembered L) (id : TriggerId) → v ≡ now → Remembers now memory → is_declared memory.rules id ≡ true → has_queue v.queues id
  queue_there v now memory id same h declared = (at_view v now memory same h).pinned.chunks.declared id ∙ declared

  pub has_claimed : (v now : Pinning L) (memory : Remembered L) (group : Group) (laterals : List TraceId) (trace : TraceId) (chunks : List (Buffer L)) (crumbs : NodeSet) (priority : Priority) (claims : List Claim) (queues : Queues L)
      → v ≡ now → Remembers now memory → claim_of memory.claims trace ≡ None → is_declared memory.rules group.trigger ≡ true → length memory.pinned + length chunks < 2 ^ 32
      → claims ≡ v.claims ++ record { trace = trace; group = group; laterals = laterals; crumbs = crumbs } ∷ [] → priority ≡ priority_of group → queues ≡ pinned_in v.queues group.trigger priority chunks
      → Remembers (record v { claims = claims; queues = queues }) (claimed memory group laterals trace chunks crumbs)
  has_claimed v now memory group laterals trace chunks crumbs priority claims queues same h none declared few more own pins =
      let at_v = at_view v now memory same h in
      remembers (record v { claims = claims; queues = queues }) (claimed memory group laterals trace chunks crumbs) (sound-claimed memory group laterals trace chunks crumbs at_v.sound none declared few) at_v.node at_v.most at_v.admitted
      (more ∙ ap (λ cs. cs ++ record { trace = trace; group = group; laterals = laterals; crumbs = crumbs } ∷ []) at_v.claims) at_v.buckets
      (record {
        chunks = queues-more group chunks v.queues queues memory.rules memory.pinned at_v.pinned.chunks declared (pins ∙ ap (λ p. pinned_in v.queues group.trigger p chunks) own);
        groups = at_v.pinned.groups;
      })

  pub has_crumbed : (v now : Pinning L) (memory : Remembered L) (trace : TraceId) (node : NodeId) (claims : List Claim) → v ≡ now → Remembers now memory → claims ≡ with_crumb v.claims trace node
      → Remembers (record v { claims = claims }) (crumbed memory trace node)
  has_crumbed v now memory trace node claims same h e =
      let at_v = at_view v now memory same h in
      remembers (record v { claims = claims }) (crumbed memory trace node) (sound-crumb memory trace node at_v.sound) at_v.node at_v.most at_v.admitted (e ∙ ap (λ cs. with_crumb cs trace node) at_v.claims) at_v.buckets
      (record { chunks = at_v.pinned.chunks; groups = at_v.pinned.groups })

  -- ---- chunks

  -- the claim of a chunk's trace is of this group
  pub record IsClaimFor (memory : Remembered L) (chunk : Buffer L) (group : Group) : Type 0 where
    pub claim : Claim
    pub found : claim_for memory.claims chunk ≡ Some claim
    pub own : claim.group ≡ group
    pub declared : is_declared memory.rules group.trigger ≡ true

  declared_for : (memory : Remembered L) (chunk : Buffer L) (claim : Claim) → IsSound memory → claim_for memory.claims chunk ≡ Some claim → is_declared memory.rules claim.group.trigger ≡ true
  declared_for memory chunk claim s e = at (header_in chunk.chunk) e
    where
      at : (o : Option Header) → option_and_then (λ (header : Header). claim_of memory.claims header.trace) o ≡ Some claim → is_declared memory.rules claim.group.trigger ≡ true
      at None e = absurd cc
      at (Some header) e = found_claim (λ (c : Claim). is_declared memory.rules c.group.trigger ≡ true) memory.claims header.trace claim s.claims e

  pub claim_is : (v now : Pinning L) (memory : Remembered L) (chunk : Buffer L) (group : Group) → v ≡ now → Remembers now memory → option_map (λ (claim : Claim). claim.group) (claim_for v.claims chunk) ≡ Some group → IsClaimFor memory chunk group
  claim_is v now memory chunk group same h e =
      at (claim_for memory.claims chunk) refl (ap (λ cs. option_map (λ (claim : Claim). claim.group) (claim_for cs chunk)) (sym at_v.claims) ∙ e)
    where
      at_v : Remembers v memory
      at_v = at_view v now memory same h

      at : (o : Option Claim) → claim_for memory.claims chunk ≡ o → option_map (λ (claim : Claim). claim.group) o ≡ Some group → IsClaimFor memory chunk group
      at None f e = absurd cc
      at (Some claim) f e =
          let own : claim.group ≡ group = cc in
          record { claim = claim; found = f; own = own; declared = subst (λ (g : Group). is_declared memory.rules g.trigger ≡ true) own (declared_for memory chunk claim at_v.sound f) }

  pub back_is : (v now : Pinning L) (memory : Remembered L) (chunk : Buffer L) (group : Group) (mark : Mark) (b : Bool) → v ≡ now → Remembers now memory → IsClaimFor memory chunk group → mark ≡ mark_of group
      → b ≡ list_any (same_mark mark) v.abandoned → comes_back memory chunk ≡ b
  back_is v now memory chunk group mark b same h c own e =
      let at_v = at_view v now memory same h in
      ap (λ o. option_map_or (λ (claim : Claim). is_abandoned memory.abandoned claim.group) o false) c.found ∙ ap (is_abandoned memory.abandoned) c.own
      ∙ sym (at_v.pinned.groups group) ∙ ap (λ m. list_any (same_mark m) v.abandoned) (sym own) ∙ sym e

  pub arrived-back : (memory : Remembered L) (chunk : Buffer L) → comes_back memory chunk ≡ true → arrived memory chunk ≡ memory
  arrived-back memory chunk e = at (claim_for memory.claims chunk) e
    where
      at : (o : Option Claim) → option_map_or (λ (claim : Claim). is_abandoned memory.abandoned claim.group) o false ≡ true
          → option_map_or (λ (claim : Claim). cond (is_abandoned memory.abandoned claim.group) memory (with_pin memory claim.group chunk)) o memory ≡ memory
      at None e = refl
      at (Some claim) e = ap (λ b. cond b memory (with_pin memory claim.group chunk)) e

  arrived-pinned : (memory : Remembered L) (chunk : Buffer L) (group : Group) → IsClaimFor memory chunk group → comes_back memory chunk ≡ false → arrived memory chunk ≡ with_pin memory group chunk
  arrived-pinned memory chunk group c e =
      let back : is_abandoned memory.abandoned c.claim.group ≡ false = sym (ap (λ o. option_map_or (λ (claim : Claim). is_abandoned memory.abandoned claim.group) o false) c.found) ∙ e in
      ap (λ o. option_map_or (λ (claim : Claim). cond (is_abandoned memory.abandoned claim.group) memory (with_pin memory claim.group chunk)) o memory) c.found
      ∙ ap (λ b. cond b memory (with_pin memory c.claim.group chunk)) back ∙ ap (λ (g : Group). with_pin memory g chunk) c.own

  pub has_arrived : (v now : Pinning L) (memory : Remembered L) (chunk : Buffer L) (group : Group) (priority : Priority) (queues : Queues L) → v ≡ now → Remembers now memory → IsClaimFor memory chunk group
      → comes_back memory chunk ≡ false → length memory.pinned + 1 < 2 ^ 32 → priority ≡ priority_of group → queues ≡ pinned_in v.queues group.trigger priority (chunk ∷ []) → Remembers (record v { queues = queues }) (arrived memory chunk)
  has_arrived v now memory chunk group priority queues same h c pinned_here few own pins =
      let at_v = at_view v now memory same h in
      subst (Remembers (record v { queues = queues })) (sym (arrived-pinned memory chunk group c pinned_here))
      (remembers (record v { queues = queues }) (with_pin memory group chunk) (sound-pin memory group chunk at_v.sound c.declared few) at_v.node at_v.most at_v.admitted at_v.claims at_v.buckets
      (record {
        chunks = queues-more group (chunk ∷ []) v.queues queues memory.rules memory.pinned at_v.pinned.chunks c.declared (pins ∙ ap (λ p. pinned_in v.queues group.trigger p (chunk ∷ [])) own);
        groups = at_v.pinned.groups;
      }))

  -- ---- the next chunk

  pub has_taken : (v now : Pinning L) (memory : Remembered L) (id : TriggerId) (queues : Queues L) → v ≡ now → Remembers now memory
      → queues ≡ with_groups v.queues id (without_next_lane (groups_of v.queues id) (greatest_of (groups_of v.queues id))) → Remembers (record v { queues = queues }) (taken memory id)
  has_taken v now memory id queues same h e =
      let at_v = at_view v now memory same h in
      remembers (record v { queues = queues }) (taken memory id) (sound-taken memory id at_v.sound) at_v.node at_v.most at_v.admitted at_v.claims at_v.buckets
      (record { chunks = queues-first id v.queues queues memory.rules memory.pinned at_v.pinned.chunks e; groups = at_v.pinned.groups })

  -- ---- abandonment

  pub has_abandoned : (v now : Pinning L) (memory : Remembered L) (queues : Queues L) (marks : List Mark) → v ≡ now → Remembers now memory → HasPinned queues marks (relieved memory)
      → Remembers (record v { queues = queues; abandoned = marks }) (relieved memory)
  has_abandoned v now memory queues marks same h pinned =
      let at_v = at_view v now memory same h in
      remembers (record v { queues = queues; abandoned = marks }) (relieved memory) (sound-relieved memory at_v.sound) at_v.node at_v.most at_v.admitted at_v.claims at_v.buckets pinned

  lookup-other : (id other : TriggerId) (es : Queues L) (w : Groups L) → same_id id other ≡ false → lookup (same_id other) (set_value (same_id id) es w) ≡ lookup (same_id other) es
  lookup-other id other [] w apart = refl
  lookup-other id other (e ∷ es) w apart = at (same_id id e.0) refl (lookup-other id other es w apart)
    where
      at : (b : Bool) → same_id id e.0 ≡ b → lookup (same_id other) (set_value (same_id id) es w) ≡ lookup (same_id other) es
          → lookup (same_id other) (cond b ((e.0, w) ∷ es) (e ∷ set_value (same_id id) es w)) ≡ cond (same_id other e.0) (Some e.1) (lookup (same_id other) es)
      at true f rest =
          let not_other : same_id other e.0 ≡ false = id_laws.symm other e.0 ∙ sym (id_laws.congr id e.0 other f) ∙ apart in
          ap (λ b. cond b (Some w) (lookup (same_id other) es)) not_other ∙ sym (ap (λ b. cond b (Some e.1) (lookup (same_id other) es)) not_other)
      at false f rest = ap (cond (same_id other e.0) (Some e.1)) rest

  -- what waits for another id
  pub others_wait : (v now : Pinning L) (id other : TriggerId) (queues : Queues L) (w : Groups L) → v ≡ now → queues ≡ with_groups v.queues id w → (other.0 ≡ id.0 → ⊥) → in_order other (groups_of queues other) ≡ waiting now other
  others_wait v now id other queues w same e ne =
      ap (λ (q : Queues L). in_order other (groups_of q other)) e
      ∙ ap (λ o. in_order other (unwrap_or o [])) (lookup-other id other v.queues w (apart_id id other ne))
      ∙ ap (λ (s : Pinning L). waiting s other) same
