-- After a group has claimed, its lead and its laterals are claimed.
use Rattle.std.proofs.Common.{◌≡◌, ◌≤◌, ℕ, suc, zero, length, take, slice_get, Bool, true, false, cond, ◌||◌, List, [], ◌∷◌, map, fold, Option, Some, None, IsSome, refl, sym, ap, subst, ◌∙◌}
use Rattle.hs_agent.proofs.Prelude.{AllByRecursion, list_any, option_map_or, all_weaker, TraceId, Ask, same_trace, Claim, Remembered, claim_of, Remembers, drops, relieved, Tagged, let_go_all, abandoned_going, claimed_for, AgentState, ClaimedTrace, is_claimed, claim_trace, claim_unclaimed, claim_each, traces_of, claim_for, same_trace-refl, Kept, Holds, Point, with_state}
use Rattle.std.proofs.lemmas.List.Folds.{list_any-append}
use Rattle.hs_base.proofs.Parts.{take_whole}
use Rattle.hs_agent.proofs.Claimed.{claimed-plain}
use Rattle.hs_agent.proofs.Unchanged.{abandon-keeps}
use Rattle.hs_agent.proofs.Relieving.{holds-abandoned}

module _ (ask : Ask) where
  -- what is claimed stays so
  stays : (trace other : TraceId) (state : AgentState) → is_claimed state.claims other ≡ true → is_claimed (claim_unclaimed ask state trace).claims other ≡ true
  stays trace other state e = by (is_claimed state.claims trace)
    where
      by : (b : Bool) → is_claimed (cond b state (claim_trace ask trace state)).claims other ≡ true
      by true = e
      by false =
          list_any-append (λ (claim : ClaimedTrace). same_trace other claim.trace) state.claims (record { trace = trace; group = ask.group; laterals = ask.laterals } ∷ [])
          ∙ ap (λ b. b || list_any (λ (claim : ClaimedTrace). same_trace other claim.trace) (record { trace = trace; group = ask.group; laterals = ask.laterals } ∷ [])) e

  now : (trace : TraceId) (state : AgentState) → is_claimed (claim_unclaimed ask state trace).claims trace ≡ true
  now trace state = by (is_claimed state.claims trace) refl
    where
      or-true : (b : Bool) → (b || true) ≡ true
      or-true true = refl
      or-true false = refl

      by : (b : Bool) → is_claimed state.claims trace ≡ b → is_claimed (cond b state (claim_trace ask trace state)).claims trace ≡ true
      by true e = e
      by false e =
          list_any-append (λ (claim : ClaimedTrace). same_trace trace claim.trace) state.claims (record { trace = trace; group = ask.group; laterals = ask.laterals } ∷ [])
          ∙ ap (λ b. is_claimed state.claims trace || (b || false)) (same_trace-refl trace)
          ∙ or-true (is_claimed state.claims trace)

  still : (traces : List TraceId) (other : TraceId) (state : AgentState) → is_claimed state.claims other ≡ true → is_claimed (fold (claim_unclaimed ask) state traces).claims other ≡ true
  still [] other state e = e
  still (trace ∷ traces) other state e = still traces other (claim_unclaimed ask state trace) (stays trace other state e)

  all_claimed : (traces : List TraceId) (state : AgentState) → AllByRecursion (λ (trace : TraceId). is_claimed (fold (claim_unclaimed ask) state traces).claims trace ≡ true) traces
  all_claimed [] state = tt
  all_claimed (trace ∷ traces) state = (still traces trace (claim_unclaimed ask state trace) (now trace state), all_claimed traces (claim_unclaimed ask state trace))

found : (o : Option Claim) → option_map_or (λ (claim : Claim). true) o false ≡ true → IsSome o
found None e = e
found (Some claim) e = refl

-- each of them has its claim among the pins
pub all-known : {L : Type 0} (kept : Kept L) (point : Point L) (ask : Ask) (h : Holds kept (with_state (claim_for point.settings ask point.state) point))
    → AllByRecursion (λ (trace : TraceId). IsSome (claim_of h.memory.claims trace)) (traces_of ask)
all-known kept point ask h =
    let each : AgentState = claim_each ask point.state in
    let same : (claim_for point.settings ask point.state).claims ≡ each.claims = abandon-keeps (λ (s : AgentState). s.claims) point.settings (λ group s. refl) each.pinned each in
    all_weaker (λ (trace : TraceId). is_claimed each.claims trace ≡ true) (λ (trace : TraceId). IsSome (claim_of h.memory.claims trace))
    (λ trace e. found (claim_of h.memory.claims trace) (sym (claimed-plain h.memory.claims trace) ∙ ap (λ claims. is_claimed claims trace) (h.pins.claims ∙ same) ∙ e)) (traces_of ask) (all_claimed ask (traces_of ask) point.state)

-- ---- the laterals, one after another

pub fold-more : {A B : Type 0} (f : A → B → A) (s : A) (xs : List B) (n : ℕ) (x : B) → slice_get xs n ≡ Some x → fold f s (take (suc n) xs) ≡ f (fold f s (take n xs)) x
fold-more f s [] n x e = cc
fold-more f s (y ∷ ys) zero x e = let same : y ≡ x = cc in ap (f s) same
fold-more f s (y ∷ ys) (suc n) x e = fold-more f (f s y) ys n x e

module _ {L : Type 0} (ask : Ask) (before middle after : Kept L) (place : ℕ) where
  -- the lead and the laterals below the place are claimed
  abbrev pub ClaimsBelow : Type 0
  ClaimsBelow = (point : Point L) → Holds before point → Holds middle (with_state (fold (claim_unclaimed ask) (claim_unclaimed ask point.state ask.group.lead) (take place ask.laterals)) point)

  -- all are claimed, and what is too much was abandoned
  pub holds-claimed_for : ClaimsBelow → length ask.laterals ≤ place → ((memory : Remembered (Tagged L)) → Remembers middle.pins memory → Remembers after.pins (relieved memory))
      → ((memory : Remembered (Tagged L)) → Remembers middle.pins memory → after ≡ let_go_all (record middle { pins = after.pins }) (map abandoned_going (drops memory)))
      → (point : Point L) → Holds before point → Holds after (claimed_for ask point)
  holds-claimed_for below all pins gone point h =
      let begun : AgentState = claim_unclaimed ask point.state ask.group.lead in
      let claimed : Holds middle (with_state (claim_each ask point.state) point) = subst (λ l. Holds middle (with_state (fold (claim_unclaimed ask) begun l) point)) (take_whole ask.laterals place all) (below point h) in
      subst (λ k. Holds k (claimed_for ask point)) (sym (gone claimed.memory claimed.remembers))
      (holds-abandoned middle after.pins (with_state (claim_each ask point.state) point) claimed (pins claimed.memory claimed.remembers))
