-- Any calls, looked back over.
use Rattle.std.proofs.Common.{◌≡◌, ℕ, ◌+◌, Bool, true, false, not, cond, List, [], ◌∷◌, ◌++◌, map, Option, Some, None, refl, sym, ap, subst, ◌∙◌, append-nil, append_assoc, true≢false}
use Rattle.hs_pins.proofs.Prelude.{nat_le, slice_get, AllByRecursion, option_map, option_map_or, is_le, tied_itself, filter-append, TraceId, TriggerId, TriggerRule, TOKEN, Group, with_node, Buffer, level_found, attempted, is_no_greater, put_by, ordered_by, Claim, Pin, Remembered, is_claim_of, claim_of, claim_for, with_crumb, pin_for, is_for, pins_for, pins_under, without_group, without_first, rule_of, moments_of, admission, admitted_after, tried_at, with_pin, arrived, comes_back, is_abandoned, leaving, going, staying, goes_behind, order_of, next_of}
use Rattle.std.specs.Option.{option_to_list}
use Rattle.hs_pins.specs.declared.bucket.Attempt.TheVariants as attempts
use Rattle.hs_pins.specs.Calls.{Call, Tries, Claims, Arrives, Crumbs, Abandons, Takes, after_call, after, tries_of, admits, admitted_of, owner_of, pinned_by, let_go_by, ever_pinned, ever_let_go, LooksBack, ClaimsStay}
use Rattle.hs_pins.proofs.Order.{group_total, same_group-refl, same_group-true}
use Rattle.hs_pins.proofs.Waits.{all_ordered, first_is_for}
use Rattle.hs_pins.proofs.Queued.{under_all, under-for}

module _ {L : Type 0} where
  -- ---- a chunk that arrives leaves the rest as it was

  pub arrived_same : {X : Type 0} (f : Remembered L → X) (memory : Remembered L) (chunk : Buffer L) → ((group : Group) → f (with_pin memory group chunk) ≡ f memory) → f (arrived memory chunk) ≡ f memory
  arrived_same f memory chunk e = at (claim_for memory.claims chunk)
    where
      at : (o : Option Claim) → f (option_map_or (λ (claim : Claim). cond (is_abandoned memory.abandoned claim.group) memory (with_pin memory claim.group chunk)) o memory) ≡ f memory
      at None = refl
      at (Some claim) = go (is_abandoned memory.abandoned claim.group)
        where
          go : (b : Bool) → f (cond b memory (with_pin memory claim.group chunk)) ≡ f memory
          go true = refl
          go false = e claim.group

  -- ---- triggers

  tried_so : (node most : ℕ) (rules : List TriggerRule) (calls : List (Call L)) → (after node most rules calls).tried ≡ tries_of calls
  tried_so node most rules [] = refl
  tried_so node most rules (Tries id moment ∷ calls) = ap (λ ts. record { trigger = id; moment = moment } ∷ ts) (tried_so node most rules calls)
  tried_so node most rules (Claims group laterals trace chunks crumbs ∷ calls) = tried_so node most rules calls
  tried_so node most rules (Arrives chunk ∷ calls) = arrived_same (λ m. m.tried) (after node most rules calls) chunk (λ g. refl) ∙ tried_so node most rules calls
  tried_so node most rules (Crumbs trace node' ∷ calls) = tried_so node most rules calls
  tried_so node most rules (Abandons ∷ calls) = tried_so node most rules calls
  tried_so node most rules (Takes id ∷ calls) = tried_so node most rules calls

  rules_so : (node most : ℕ) (rules : List TriggerRule) (calls : List (Call L)) → (after node most rules calls).rules ≡ rules
  rules_so node most rules [] = refl
  rules_so node most rules (Tries id moment ∷ calls) = rules_so node most rules calls
  rules_so node most rules (Claims group laterals trace chunks crumbs ∷ calls) = rules_so node most rules calls
  rules_so node most rules (Arrives chunk ∷ calls) = arrived_same (λ m. m.rules) (after node most rules calls) chunk (λ g. refl) ∙ rules_so node most rules calls
  rules_so node most rules (Crumbs trace node' ∷ calls) = rules_so node most rules calls
  rules_so node most rules (Abandons ∷ calls) = rules_so node most rules calls
  rules_so node most rules (Takes id ∷ calls) = rules_so node most rules calls

  one_try : (memory : Remembered L) (id : TriggerId) (moment : ℕ)
      → (tried_at memory id moment).admitted ≡ cond (admits memory.rules memory.tried (record { trigger = id; moment = moment })) (memory.admitted + 1) memory.admitted
  one_try memory id moment = at (rule_of memory.rules id)
    where
      at : (o : Option TriggerRule)
          → option_map_or (admitted_after memory.admitted) (option_map (λ (rule : TriggerRule). admission memory.admitted (attempted rule.burst rule.rate (moments_of id memory.tried) moment)) o) memory.admitted
          ≡ cond (option_map_or (λ (rule : TriggerRule). nat_le TOKEN (level_found rule.burst rule.rate (moments_of id memory.tried) moment)) o false) (memory.admitted + 1) memory.admitted
      at None = refl
      at (Some rule) = go (level_found rule.burst rule.rate (moments_of id memory.tried) moment) (nat_le TOKEN (level_found rule.burst rule.rate (moments_of id memory.tried) moment))
        where
          go : (level : ℕ) (b : Bool) → admitted_after memory.admitted (admission memory.admitted (cond b attempts.Admitted (attempts.Limited level))) ≡ cond b (memory.admitted + 1) memory.admitted
          go level true = refl
          go level false = refl

  admitted_so : (node most : ℕ) (rules : List TriggerRule) (calls : List (Call L)) → (after node most rules calls).admitted ≡ admitted_of rules (tries_of calls)
  admitted_so node most rules [] = refl
  admitted_so node most rules (Tries id moment ∷ calls) =
      one_try (after node most rules calls) id moment
      ∙ ap (λ rs. cond (admits rs (after node most rules calls).tried (record { trigger = id; moment = moment })) ((after node most rules calls).admitted + 1) (after node most rules calls).admitted) (rules_so node most rules calls)
      ∙ ap (λ ts. cond (admits rules ts (record { trigger = id; moment = moment })) ((after node most rules calls).admitted + 1) (after node most rules calls).admitted) (tried_so node most rules calls)
      ∙ ap (λ n. cond (admits rules (tries_of calls) (record { trigger = id; moment = moment })) (n + 1) n) (admitted_so node most rules calls)
  admitted_so node most rules (Claims group laterals trace chunks crumbs ∷ calls) = admitted_so node most rules calls
  admitted_so node most rules (Arrives chunk ∷ calls) = arrived_same (λ m. m.admitted) (after node most rules calls) chunk (λ g. refl) ∙ admitted_so node most rules calls
  admitted_so node most rules (Crumbs trace node' ∷ calls) = admitted_so node most rules calls
  admitted_so node most rules (Abandons ∷ calls) = admitted_so node most rules calls
  admitted_so node most rules (Takes id ∷ calls) = admitted_so node most rules calls

  -- ---- the first of a group is let go first

  stable_put : (g : Group) (x : Pin L) (ys : List (Pin L)) → pins_for g (put_by goes_behind x ys) ≡ pins_for g (x ∷ ys)
  stable_put g x [] = refl
  stable_put g x (y ∷ ys) = at (goes_behind y x) refl (stable_put g x ys)
    where
      here : (a b : Bool) → is_for g x ≡ a → is_for g y ≡ b → goes_behind y x ≡ false → pins_for g (put_by goes_behind x ys) ≡ cond a (x ∷ pins_for g ys) (pins_for g ys)
          → cond b (y ∷ pins_for g (put_by goes_behind x ys)) (pins_for g (put_by goes_behind x ys)) ≡ cond a (x ∷ cond b (y ∷ pins_for g ys) (pins_for g ys)) (cond b (y ∷ pins_for g ys) (pins_for g ys))
      here true true e f low ih =
          let own : x.group ≡ y.group = sym (same_group-true g x.group e) ∙ same_group-true g y.group f in
          absurd (true≢false (sym (subst (λ (k : Group). is_no_greater k x.group ≡ true) own (ap is_le (tied_itself group_total x.group))) ∙ low))
      here true false e f low ih = ih
      here false true e f low ih = ap (λ zs. y ∷ zs) ih
      here false false e f low ih = ih

      at : (b : Bool) → goes_behind y x ≡ b → pins_for g (put_by goes_behind x ys) ≡ pins_for g (x ∷ ys) → pins_for g (cond b (x ∷ y ∷ ys) (y ∷ put_by goes_behind x ys)) ≡ pins_for g (x ∷ y ∷ ys)
      at true e ih = refl
      at false e ih = here (is_for g x) (is_for g y) refl refl e ih

  stable : (g : Group) (pins : List (Pin L)) → pins_for g (ordered_by goes_behind pins) ≡ pins_for g pins
  stable g [] = refl
  stable g (pin ∷ pins) = stable_put g pin (ordered_by goes_behind pins) ∙ ap (λ zs. cond (is_for g pin) (pin ∷ zs) zs) (stable g pins)

  head_first : (pins : List (Pin L)) (pin : Pin L) → slice_get pins 0 ≡ Some pin → slice_get (pins_for pin.group pins) 0 ≡ Some pin
  head_first [] pin e = absurd cc
  head_first (x ∷ pins) pin e =
      let same : x ≡ pin = cc in
      subst (λ (p : Pin L). slice_get (pins_for p.group (x ∷ pins)) 0 ≡ Some p) same (ap (λ b. slice_get (cond b (x ∷ pins_for x.group pins) (pins_for x.group pins)) 0) (same_group-refl x.group))

  head_under : (P : Pin L → Type 0) (pins : List (Pin L)) (pin : Pin L) → AllByRecursion P pins → slice_get pins 0 ≡ Some pin → P pin
  head_under P [] pin all e = absurd cc
  head_under P (x ∷ pins) pin all e = let same : x ≡ pin = cc in subst P same all.0

  next_first : (pins : List (Pin L)) (id : TriggerId) (pin : Pin L) → next_of pins id ≡ Some pin → slice_get (pins_for pin.group pins) 0 ≡ Some pin
  next_first pins id pin e =
      let under : id.0 ≡ pin.group.trigger.0 = head_under (λ (p : Pin L). id.0 ≡ p.group.trigger.0) (order_of pins id) pin (all_ordered (λ (p : Pin L). id.0 ≡ p.group.trigger.0) goes_behind (pins_under id pins) (under_all id pins)) e in
      let own : id ≡ pin.group.trigger = λ i. record { 0 = under i } in
      sym (ap (λ ps. slice_get ps 0) (stable pin.group (pins_under id pins) ∙ ap (λ t. pins_for pin.group (pins_under t pins)) own ∙ under-for pin.group pins))
      ∙ head_first (order_of pins id) pin e

  either_first : (g : Group) (x : Pin L) (rest : List (Pin L)) → pins_for g (x ∷ rest) ≡ pins_for g (x ∷ []) ++ pins_for g rest
  either_first g x rest = at (is_for g x)
    where
      at : (b : Bool) → cond b (x ∷ pins_for g rest) (pins_for g rest) ≡ cond b (x ∷ []) [] ++ pins_for g rest
      at true = refl
      at false = refl

  first_leaves : (g other : Group) (pins : List (Pin L)) (pin : Pin L) → slice_get (pins_for other pins) 0 ≡ Some pin → pins_for g pins ≡ pins_for g (pin ∷ []) ++ pins_for g (without_first other pins)
  first_leaves g other [] pin e = absurd cc
  first_leaves g other (x ∷ pins) pin e = at (is_for other x) refl e (first_leaves g other pins pin)
    where
      later : (a : Bool) → is_for g x ≡ a → is_for other x ≡ false → slice_get (pins_for other pins) 0 ≡ Some pin → pins_for g pins ≡ pins_for g (pin ∷ []) ++ pins_for g (without_first other pins)
          → cond a (x ∷ pins_for g pins) (pins_for g pins) ≡ pins_for g (pin ∷ []) ++ cond a (x ∷ pins_for g (without_first other pins)) (pins_for g (without_first other pins))
      later false f apart e ih = ih
      later true f apart e ih =
          let mine : other ≡ pin.group = same_group-true other pin.group (first_is_for other pins pin e) in
          let not_mine : is_for g pin ≡ false = no (is_for g pin) refl mine in
          ap (λ ps. x ∷ ps) ih ∙ ap (λ b. x ∷ (cond b (pin ∷ []) [] ++ pins_for g (without_first other pins))) not_mine
          ∙ sym (ap (λ b. cond b (pin ∷ []) [] ++ x ∷ pins_for g (without_first other pins)) not_mine)
        where
          no : (b : Bool) → is_for g pin ≡ b → other ≡ pin.group → b ≡ false
          no true k mine =
              let same : g ≡ other = same_group-true g pin.group k ∙ sym mine in
              absurd (true≢false (sym f ∙ ap (λ h. is_for h x) same ∙ apart))
          no false k mine = refl

      at : (b : Bool) → is_for other x ≡ b → slice_get (cond b (x ∷ pins_for other pins) (pins_for other pins)) 0 ≡ Some pin
          → (slice_get (pins_for other pins) 0 ≡ Some pin → pins_for g pins ≡ pins_for g (pin ∷ []) ++ pins_for g (without_first other pins))
          → pins_for g (x ∷ pins) ≡ pins_for g (pin ∷ []) ++ pins_for g (cond b pins (x ∷ without_first other pins))
      at true own e rest = let same : x ≡ pin = cc in either_first g x pins ∙ ap (λ p. pins_for g (p ∷ []) ++ pins_for g pins) same
      at false own e rest = later (is_for g x) refl own e (rest e)

  -- ---- groups go whole

  group_leaves : (g other : Group) (pins : List (Pin L)) → pins_for g pins ≡ pins_for g (pins_for other pins) ++ pins_for g (without_group other pins)
  group_leaves g other [] = refl
  group_leaves g other (x ∷ pins) = at (is_for other x) refl (is_for g x) refl (group_leaves g other pins)
    where
      none_for : (pins : List (Pin L)) (b : Bool) → is_for g x ≡ true → is_for other x ≡ false → pins_for g (pins_for other pins) ≡ []
      none_for [] b f k = refl
      none_for (y ∷ pins) b f k = go (is_for other y) refl (is_for g y) refl (none_for pins b f k)
        where
          go : (t : Bool) → is_for other y ≡ t → (s : Bool) → is_for g y ≡ s → pins_for g (pins_for other pins) ≡ [] → pins_for g (cond t (y ∷ pins_for other pins) (pins_for other pins)) ≡ []
          go false te s se rest = rest
          go true te false se rest = ap (λ b. cond b (y ∷ pins_for g (pins_for other pins)) (pins_for g (pins_for other pins))) se ∙ rest
          go true te true se rest =
              let same : g ≡ other = same_group-true g y.group se ∙ sym (same_group-true other y.group te) in
              absurd (true≢false (sym f ∙ ap (λ h. is_for h x) same ∙ k))

      at : (t : Bool) → is_for other x ≡ t → (s : Bool) → is_for g x ≡ s → pins_for g pins ≡ pins_for g (pins_for other pins) ++ pins_for g (without_group other pins)
          → cond s (x ∷ pins_for g pins) (pins_for g pins) ≡ pins_for g (cond t (x ∷ pins_for other pins) (pins_for other pins)) ++ pins_for g (cond (not t) (x ∷ without_group other pins) (without_group other pins))
      at true te true se ih = ap (λ ps. x ∷ ps) ih ∙ sym (ap (λ b. cond b (x ∷ pins_for g (pins_for other pins)) (pins_for g (pins_for other pins)) ++ pins_for g (without_group other pins)) se)
      at true te false se ih = ih ∙ sym (ap (λ b. cond b (x ∷ pins_for g (pins_for other pins)) (pins_for g (pins_for other pins)) ++ pins_for g (without_group other pins)) se)
      at false te true se ih =
          let none = none_for pins true se te in
          ap (λ ps. x ∷ ps) (ih ∙ ap (λ ps. ps ++ pins_for g (without_group other pins)) none)
          ∙ sym (ap (λ b. pins_for g (pins_for other pins) ++ cond b (x ∷ pins_for g (without_group other pins)) (pins_for g (without_group other pins))) se
          ∙ ap (λ ps. ps ++ x ∷ pins_for g (without_group other pins)) none)
      at false te false se ih = ih ∙ sym (ap (λ b. pins_for g (pins_for other pins) ++ cond b (x ∷ pins_for g (without_group other pins)) (pins_for g (without_group other pins))) se)

  groups_leave : (g : Group) (groups : List Group) (pins : List (Pin L)) → pins_for g pins ≡ pins_for g (going groups pins) ++ pins_for g (staying groups pins)
  groups_leave g [] pins = refl
  groups_leave g (other ∷ groups) pins =
      group_leaves g other pins ∙ ap (λ ps. pins_for g (pins_for other pins) ++ ps) (groups_leave g groups (without_group other pins))
      ∙ sym (append_assoc (pins_for g (pins_for other pins)) (pins_for g (going groups (without_group other pins))) (pins_for g (staying groups (without_group other pins))))
      ∙ sym (ap (λ ps. ps ++ pins_for g (staying groups (without_group other pins))) (filter-append (is_for g) (pins_for other pins) (going groups (without_group other pins))))

  -- ---- one call

  one_call : (g : Group) (memory : Remembered L) (call : Call L) → pins_for g memory.pinned ++ pins_for g (pinned_by memory call) ≡ pins_for g (let_go_by memory call) ++ pins_for g (after_call memory call).pinned
  one_call g memory (Tries id moment) = append-nil (pins_for g memory.pinned)
  one_call g memory (Claims group laterals trace chunks crumbs) = sym (filter-append (is_for g) memory.pinned (map (pin_for group) chunks))
  one_call g memory (Arrives chunk) = at (claim_for memory.claims chunk) (comes_back memory chunk) refl
    where
      at : (o : Option Claim) (back : Bool) → back ≡ option_map_or (λ (claim : Claim). is_abandoned memory.abandoned claim.group) o false
          → pins_for g memory.pinned ++ pins_for g (option_map_or (λ (claim : Claim). cond back [] (pin_for claim.group chunk ∷ [])) o [])
          ≡ pins_for g (option_map_or (λ (claim : Claim). cond (is_abandoned memory.abandoned claim.group) memory (with_pin memory claim.group chunk)) o memory).pinned
      at None back e = append-nil (pins_for g memory.pinned)
      at (Some claim) back e = go back (is_abandoned memory.abandoned claim.group) e
        where
          go : (b d : Bool) → b ≡ d → pins_for g memory.pinned ++ pins_for g (cond b [] (pin_for claim.group chunk ∷ [])) ≡ pins_for g (cond d memory (with_pin memory claim.group chunk)).pinned
          go true true e = append-nil (pins_for g memory.pinned)
          go false false e = sym (filter-append (is_for g) memory.pinned (pin_for claim.group chunk ∷ []))
          go true false e = absurd (true≢false e)
          go false true e = absurd (true≢false (sym e))
  one_call g memory (Crumbs trace node) = append-nil (pins_for g memory.pinned)
  one_call g memory Abandons = append-nil (pins_for g memory.pinned) ∙ groups_leave g (leaving memory.most memory.pinned) memory.pinned
  one_call g memory (Takes id) = append-nil (pins_for g memory.pinned) ∙ at (next_of memory.pinned id) refl
    where
      at : (o : Option (Pin L)) → next_of memory.pinned id ≡ o
          → pins_for g memory.pinned ≡ pins_for g (option_to_list o) ++ pins_for g (option_map_or (λ (pin : Pin L). without_first pin.group memory.pinned) o memory.pinned)
      at None e = refl
      at (Some pin) e = first_leaves g pin.group memory.pinned pin (next_first memory.pinned id pin e)

  chunks_so : (node most : ℕ) (rules : List TriggerRule) (g : Group) (calls : List (Call L))
      → pins_for g (ever_pinned node most rules calls) ≡ pins_for g (ever_let_go node most rules calls) ++ pins_for g (after node most rules calls).pinned
  chunks_so node most rules g [] = refl
  chunks_so node most rules g (call ∷ calls) =
      let memory = after node most rules calls in
      filter-append (is_for g) (ever_pinned node most rules calls) (pinned_by memory call)
      ∙ ap (λ ps. ps ++ pins_for g (pinned_by memory call)) (chunks_so node most rules g calls)
      ∙ append_assoc (pins_for g (ever_let_go node most rules calls)) (pins_for g memory.pinned) (pins_for g (pinned_by memory call))
      ∙ ap (λ ps. pins_for g (ever_let_go node most rules calls) ++ ps) (one_call g memory call)
      ∙ sym (append_assoc (pins_for g (ever_let_go node most rules calls)) (pins_for g (let_go_by memory call)) (pins_for g (after_call memory call).pinned))
      ∙ sym (ap (λ ps. ps ++ pins_for g (after_call memory call).pinned) (filter-append (is_for g) (ever_let_go node most rules calls) (let_go_by memory call)))

  pub look_back : (node most : ℕ) (rules : List TriggerRule) (calls : List (Call L)) → LooksBack node most rules calls
  look_back node most rules calls = record { tried = tried_so node most rules calls; admitted = admitted_so node most rules calls; chunks = λ g. chunks_so node most rules g calls }

  -- ---- claims stay

  stays : (memory : Remembered L) (call : Call L) (trace : TraceId) (group : Group) → owner_of memory trace ≡ Some group → owner_of (after_call memory call) trace ≡ Some group
  stays memory (Tries id moment) trace group e = e
  stays memory (Claims other laterals t chunks crumbs) trace group e = more memory.claims e
    where
      more : (claims : List Claim) → option_map (λ (claim : Claim). claim.group) (claim_of claims trace) ≡ Some group
          → option_map (λ (claim : Claim). claim.group) (claim_of (claims ++ record { trace = t; group = other; laterals = laterals; crumbs = crumbs } ∷ []) trace) ≡ Some group
      more [] e = absurd cc
      more (c ∷ claims) e = go (is_claim_of trace c) e (more claims)
        where
          go : (b : Bool) → option_map (λ (claim : Claim). claim.group) (cond b (Some c) (claim_of claims trace)) ≡ Some group
              → (option_map (λ (claim : Claim). claim.group) (claim_of claims trace) ≡ Some group → option_map (λ (claim : Claim). claim.group) (claim_of (claims ++ record { trace = t; group = other; laterals = laterals; crumbs = crumbs } ∷ []) trace) ≡ Some group)
              → option_map (λ (claim : Claim). claim.group) (cond b (Some c) (claim_of (claims ++ record { trace = t; group = other; laterals = laterals; crumbs = crumbs } ∷ []) trace)) ≡ Some group
          go true e rest = e
          go false e rest = rest e
  stays memory (Arrives chunk) trace group e = arrived_same (λ m. owner_of m trace) memory chunk (λ g. refl) ∙ e
  stays memory (Crumbs t node) trace group e = kept memory.claims ∙ e
    where
      kept : (claims : List Claim) → option_map (λ (claim : Claim). claim.group) (claim_of (with_crumb claims t node) trace) ≡ option_map (λ (claim : Claim). claim.group) (claim_of claims trace)
      kept [] = refl
      kept (c ∷ claims) = go (is_claim_of t c) (kept claims)
        where
          both : (d : Bool) → option_map (λ (claim : Claim). claim.group) (cond d (Some (record c { crumbs = with_node c.crumbs node })) (claim_of claims trace)) ≡ option_map (λ (claim : Claim). claim.group) (cond d (Some c) (claim_of claims trace))
          both true = refl
          both false = refl

          go : (b : Bool) → option_map (λ (claim : Claim). claim.group) (claim_of (with_crumb claims t node) trace) ≡ option_map (λ (claim : Claim). claim.group) (claim_of claims trace)
              → option_map (λ (claim : Claim). claim.group) (claim_of (cond b (record c { crumbs = with_node c.crumbs node } ∷ claims) (c ∷ with_crumb claims t node)) trace) ≡ option_map (λ (claim : Claim). claim.group) (cond (is_claim_of trace c) (Some c) (claim_of claims trace))
          go true rest = both (is_claim_of trace c)
          go false rest = skip (is_claim_of trace c)
            where
              skip : (d : Bool) → option_map (λ (claim : Claim). claim.group) (cond d (Some c) (claim_of (with_crumb claims t node) trace)) ≡ option_map (λ (claim : Claim). claim.group) (cond d (Some c) (claim_of claims trace))
              skip true = refl
              skip false = rest
  stays memory Abandons trace group e = e
  stays memory (Takes id) trace group e = e

  pub claims_stay : (node most : ℕ) (rules : List TriggerRule) (later earlier : List (Call L)) → ClaimsStay node most rules later earlier
  claims_stay node most rules [] earlier trace group e = e
  claims_stay node most rules (call ∷ later) earlier trace group e = stays (after node most rules (later ++ earlier)) call trace group (claims_stay node most rules later earlier trace group e)
