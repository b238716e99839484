-- How often a trace stands in a list, and the claims of traces.
use Rattle.std.proofs.Common.{◌≡◌, ℕ, ◌+◌, ◌≤◌, Bool, true, false, cond, not, ◌||◌, List, [], ◌∷◌, ◌++◌, map, refl, sym, ap, ◌∙◌, arith, Some, None, subst, true≢false}
use Rattle.hs_law_agent.proofs.Prelude.{option_map, eqb-true, eq-eqb, or_parts, TraceId, Group, same_trace, ClaimedTrace, claim_of, is_claimed, without_trace, touch, count_traces, claiming_group}

pub same_trace-refl : (t : TraceId) → same_trace t t ≡ true
same_trace-refl t = eq-eqb t.0 t.0 refl

pub same_trace-true : (t u : TraceId) → same_trace t u ≡ true → t ≡ u
same_trace-true t u e = let n : t.0 ≡ u.0 = eqb-true t.0 u.0 e in ap (λ (n : ℕ). record { 0 = n }) n

pub traces-append : (xs ys : List TraceId) (t : TraceId) → count_traces (xs ++ ys) t ≡ count_traces xs t + count_traces ys t
traces-append [] ys t = omega arith
traces-append (x ∷ xs) ys t = omega (arith, traces-append xs ys t)

-- what is left without a trace
pub traces-without : (t : TraceId) (traces : List TraceId) (u : TraceId) → count_traces (without_trace t traces) u ≡ cond (same_trace t u) 0 (count_traces traces u)
traces-without t [] u = go (same_trace t u)
  where
    go : (b : Bool) → count_traces [] u ≡ cond b 0 0
    go true = refl
    go false = refl
traces-without t (x ∷ xs) u = go (same_trace t x) (same_trace u x) (same_trace t u) refl refl refl (traces-without t xs u)
  where
    go : (tx ux tu : Bool) → same_trace t x ≡ tx → same_trace u x ≡ ux → same_trace t u ≡ tu → count_traces (without_trace t xs) u ≡ cond tu 0 (count_traces xs u)
        → count_traces (cond (not tx) (x ∷ without_trace t xs) (without_trace t xs)) u ≡ cond tu 0 (cond ux 1 0 + count_traces xs u)
    go true ux true e f g ih = ih
    go true true false e f g ih = let tu : t ≡ u = same_trace-true t x e ∙ sym (same_trace-true u x f) in absurd (true≢false (sym (same_trace-refl u) ∙ subst (λ v. same_trace v u ≡ false) tu g))
    go true false false e f g ih = omega (arith, ih)
    go false true true e f g ih = let tu : t ≡ x = same_trace-true t u g ∙ same_trace-true u x f in absurd (true≢false (sym (same_trace-refl x) ∙ subst (λ v. same_trace v x ≡ false) tu e))
    go false false true e f g ih = rw f (omega (arith, ih))
    go false true false e f g ih = rw f (omega (arith, ih))
    go false false false e f g ih = rw f (omega (arith, ih))

pub traces-touch : (t : TraceId) (traces : List TraceId) (u : TraceId) → count_traces (touch t traces) u ≡ cond (same_trace t u) 1 (count_traces traces u)
traces-touch t traces u = traces-append (without_trace t traces) (t ∷ []) u ∙ go (same_trace t u) (same_trace u t) refl refl
  where
    go : (b c : Bool) → same_trace t u ≡ b → same_trace u t ≡ c → count_traces (without_trace t traces) u + count_traces (t ∷ []) u ≡ cond b 1 (count_traces traces u)
    go true true e f = rw f (let n : count_traces (without_trace t traces) u ≡ 0 = traces-without t traces u ∙ (rw e refl) in omega arith)
    go false false e f = rw f (let n : count_traces (without_trace t traces) u ≡ count_traces traces u = traces-without t traces u ∙ (rw e refl) in omega arith)
    go true false e f = absurd (true≢false (sym (same_trace-refl u) ∙ subst (λ v. same_trace u v ≡ false) (same_trace-true t u e) f))
    go false true e f = absurd (true≢false (sym (same_trace-refl u) ∙ subst (λ v. same_trace v u ≡ false) (sym (same_trace-true u t f)) e))

-- ---- claims

pub unclaimed-counted : (claims : List ClaimedTrace) (t : TraceId) → is_claimed claims t ≡ false → count_traces (map (λ (c : ClaimedTrace). c.trace) claims) t ≡ 0
unclaimed-counted [] t e = refl
unclaimed-counted (c ∷ claims) t e = let both = or_parts (same_trace t c.trace) (is_claimed claims t) e in rw both.0 (omega (arith, unclaimed-counted claims t both.1))

-- a trace has a claim or none
pub claim_of-none : (claims : List ClaimedTrace) (t : TraceId) → claim_of claims t ≡ None → is_claimed claims t ≡ false
claim_of-none [] t e = refl
claim_of-none (c ∷ claims) t e = go (same_trace t c.trace) e (claim_of-none claims t)
  where
    go : (b : Bool) → cond b (Some c) (claim_of claims t) ≡ None → (claim_of claims t ≡ None → is_claimed claims t ≡ false) → (b || is_claimed claims t) ≡ false
    go true e next = absurd cc
    go false e next = next e

pub claiming-append : (claims more : List ClaimedTrace) (t : TraceId) (g : Group) → claiming_group claims t ≡ Some g → claiming_group (claims ++ more) t ≡ Some g
claiming-append [] more t g e = absurd cc
claiming-append (c ∷ claims) more t g e = go (same_trace t c.trace) e (claiming-append claims more t g)
  where
    go : (b : Bool) → option_map (λ (claim : ClaimedTrace). claim.group) (cond b (Some c) (claim_of claims t)) ≡ Some g → (claiming_group claims t ≡ Some g → claiming_group (claims ++ more) t ≡ Some g)
        → option_map (λ (claim : ClaimedTrace). claim.group) (cond b (Some c) (claim_of (claims ++ more) t)) ≡ Some g
    go true e next = e
    go false e next = next e

pub claiming-new : (claims : List ClaimedTrace) (new : ClaimedTrace) (t : TraceId) → is_claimed claims t ≡ false → same_trace t new.trace ≡ true → claiming_group (claims ++ new ∷ []) t ≡ Some new.group
claiming-new [] new t free e = rw e refl
claiming-new (c ∷ claims) new t free e = let both = or_parts (same_trace t c.trace) (is_claimed claims t) free in rw both.0 (claiming-new claims new t both.1 e)

pub claimed-append : (claims : List ClaimedTrace) (new : ClaimedTrace) (t : TraceId) → is_claimed claims t ≡ false → same_trace t new.trace ≡ false → is_claimed (claims ++ new ∷ []) t ≡ false
claimed-append [] new t free e = rw e refl
claimed-append (c ∷ claims) new t free e = let both = or_parts (same_trace t c.trace) (is_claimed claims t) free in rw both.0 (claimed-append claims new t both.1 e)

pub claimed-stays : (claims more : List ClaimedTrace) (t : TraceId) → is_claimed claims t ≡ true → is_claimed (claims ++ more) t ≡ true
claimed-stays [] more t e = absurd (true≢false (sym e))
claimed-stays (c ∷ claims) more t e = go (same_trace t c.trace) e (claimed-stays claims more t)
  where
    go : (b : Bool) → (b || is_claimed claims t) ≡ true → (is_claimed claims t ≡ true → is_claimed (claims ++ more) t ≡ true) → (b || is_claimed (claims ++ more) t) ≡ true
    go true e next = refl
    go false e next = next e

-- a claimed trace is counted
pub claimed-counted : (claims : List ClaimedTrace) (t : TraceId) → is_claimed claims t ≡ true → 1 ≤ count_traces (map (λ (c : ClaimedTrace). c.trace) claims) t
claimed-counted [] t e = absurd (true≢false (sym e))
claimed-counted (c ∷ claims) t e = go (same_trace t c.trace) e (claimed-counted claims t)
  where
    go : (b : Bool) → (b || is_claimed claims t) ≡ true → (is_claimed claims t ≡ true → 1 ≤ count_traces (map (λ (c : ClaimedTrace). c.trace) claims) t)
        → 1 ≤ cond b 1 0 + count_traces (map (λ (c : ClaimedTrace). c.trace) claims) t
    go true e next = omega arith
    go false e next = omega (arith, next e)

pub same_trace-sym : (t u : TraceId) (b : Bool) → same_trace t u ≡ b → same_trace u t ≡ b
same_trace-sym t u true e = subst (λ v. same_trace v t ≡ true) (same_trace-true t u e) (same_trace-refl t)
same_trace-sym t u false e = go (same_trace u t) refl
  where
    go : (b : Bool) → same_trace u t ≡ b → b ≡ false
    go false f = refl
    go true f = absurd (true≢false (sym (same_trace-refl t) ∙ subst (λ v. same_trace t v ≡ false) (same_trace-true u t f) e))
