-- An agent's shares are those of the declared rules: each declared trigger id has a share, and the budget of each share pays for a page.
use Rattle.std.proofs.Common.{◌≡◌, ℕ, suc, ◌≤◌, Bool, true, false, ◌||◌, List, [], ◌∷◌, refl, sym, ap, subst, ◌∙◌, Some, arith, map, slice_get, eqb, eqb-true}
use Rattle.hs_law_journal.proofs.Prelude.{AllByRecursion, AgentState, Input, Chunk, Crumbed, Triggered, Asked, Turn, AgentEvent, Took, Gave, after_event, PlainSettings}
use Rattle.std.specs.List.{list_any}
use Rattle.hs_base.specs.declared.ids.TriggerId.{TriggerId}
use Rattle.hs_base.specs.declared.settings.TriggerRule.{TriggerRule}
use Rattle.hs_law_agent.specs.Laws.{EventsAddFew, shares_by}
use Rattle.hs_law_agent.specs.Turning.{costs_of, shares_after}
use Rattle.hs_sched.specs.declared.share.Share.{Share}
use Rattle.hs_sched.specs.Turns.{shares_of}
use Rattle.hs_sched.specs.Visits.{budget_of, visited}

-- shares of these rules
abbrev pub AreOfRules : List Share → List TriggerRule → Type 0
AreOfRules [] [] = Unit {0}
AreOfRules (share ∷ shares) (rule ∷ rules) = (share.trigger ≡ rule.id) × (share.weight ≡ rule.weight) × AreOfRules shares rules
AreOfRules [] (rule ∷ rules) = ⊥
AreOfRules (share ∷ shares) [] = ⊥

pub shares_start : (rules : List TriggerRule) → AreOfRules (shares_of rules) rules
shares_start [] = tt
shares_start (rule ∷ rules) = (refl, refl, shares_start rules)

shares_kept : (f : Share → Share) → ((share : Share) → (f share).trigger ≡ share.trigger) → ((share : Share) → (f share).weight ≡ share.weight) → (shares : List Share) (rules : List TriggerRule) → AreOfRules shares rules → AreOfRules (map f shares) rules
shares_kept f ids weights [] [] h = tt
shares_kept f ids weights (share ∷ shares) (rule ∷ rules) h = (ids share ∙ h.0, weights share ∙ h.1, shares_kept f ids weights shares rules h.2)
shares_kept f ids weights [] (rule ∷ rules) h = absurd h
shares_kept f ids weights (share ∷ shares) [] h = absurd h

-- what an agent does changes no id and no weight
module _ (add : EventsAddFew) (settings : PlainSettings) (node : ℕ) (state : AgentState) (h : AreOfRules state.shares settings.triggers) where
  visits_kept : AreOfRules (shares_after settings state) settings.triggers
  visits_kept = shares_kept (λ share. visited settings.size share (costs_of state share.trigger.0)) (λ share. refl) (λ share. refl) state.shares settings.triggers h

  pub shares_event : (event : AgentEvent) → AreOfRules (after_event settings node state event).shares settings.triggers
  shares_event (Took input) = subst (λ (shares : List Share). AreOfRules shares settings.triggers) (sym ((add settings node state).shares input)) (by_input input)
    where
      by_input : (input : Input) → AreOfRules (shares_by settings state input) settings.triggers
      by_input (Chunk client sheet) = h
      by_input (Crumbed client crumb) = h
      by_input (Triggered client trigger) = h
      by_input (Asked ask) = h
      by_input Turn = visits_kept
  shares_event (Gave answer) = subst (λ (shares : List Share). AreOfRules shares settings.triggers) (sym ((add settings node state).shared answer)) h

-- ---- a declared trigger id has a share

pub record HasShare (id : TriggerId) (shares : List Share) : Type 0 where
  pub share : Share
  pub at : ℕ
  pub there : slice_get shares at ≡ Some share
  pub own : share.trigger.0 ≡ id.0

pub share_found : (id : TriggerId) (shares : List Share) (rules : List TriggerRule) → AreOfRules shares rules → list_any (λ (rule : TriggerRule). eqb rule.id.0 id.0) rules ≡ true → HasShare id shares
share_found id [] [] h e = let never : false ≡ true = e in absurd cc
share_found id (share ∷ shares) (rule ∷ rules) h e = either (eqb rule.id.0 id.0) refl e (λ e. share_found id shares rules h.2 e)
  where
    either : (b : Bool) → eqb rule.id.0 id.0 ≡ b → (b || list_any (λ (rule : TriggerRule). eqb rule.id.0 id.0) rules) ≡ true → (list_any (λ (rule : TriggerRule). eqb rule.id.0 id.0) rules ≡ true → HasShare id shares) → HasShare id (share ∷ shares)
    either true f e on = record { share = share; at = 0; there = refl; own = ap (λ (t : TriggerId). t.0) h.0 ∙ eqb-true rule.id.0 id.0 f }
    either false f e on = let rest = on e in record { share = rest.share; at = suc rest.at; there = rest.there; own = rest.own }
share_found id [] (rule ∷ rules) h e = absurd h
share_found id (share ∷ shares) [] h e = absurd h

-- ---- and each share pays

-- each trigger id has a weight
abbrev pub HaveWeights : List TriggerRule → Type 0
HaveWeights rules = AllByRecursion (λ (rule : TriggerRule). 1 ≤ rule.weight) rules

pub shares_pay : (P : ℕ → Type 0) (size : ℕ) (shares : List Share) (rules : List TriggerRule) → AreOfRules shares rules → HaveWeights rules → ((share : Share) → 1 ≤ share.weight → P (budget_of size share))
    → AllByRecursion (λ (share : Share). P (budget_of size share)) shares
shares_pay P size [] [] h w each = tt
shares_pay P size (share ∷ shares) (rule ∷ rules) h w each =
    let weight = h.1 in
    let some = w.0 in
    (each share (omega (arith, weight, some)), shares_pay P size shares rules h.2 w.1 each)
shares_pay P size [] (rule ∷ rules) h w each = absurd h
shares_pay P size (share ∷ shares) [] h w each = absurd h
