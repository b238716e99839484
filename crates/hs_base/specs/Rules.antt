-- Which rules a workload may declare. Each trigger id has one rule, and the ids rise. An autotrigger fires a declared
-- trigger id, and looks back at so many samples.
use Rattle.std.specs.Prelude.{◌≡◌, ℕ, ◌<◌, ◌≤◌, Bool, true, false, ◌==◌, List, [], ◌∷◌, length, All, AllPairs, refl}
use Rattle.std.specs.List.{list_any}
use Rattle.hs_base.specs.declared.ids.TriggerId.{TriggerId}
use Rattle.hs_base.specs.declared.settings.TriggerRule.{TriggerRule}
use Rattle.hs_base.specs.declared.settings.AutoRule.{AutoRule}
use Rattle.hs_base.specs.declared.settings.AutoRule.TheVariants.{Exception, Percentile, Category, Queue}
use Rattle.hs_base.specs.declared.limits.TheConstants.{MAX_TRIGGER, MAX_WEIGHT, MAX_BURST, MAX_RATE, MAX_AUTOS, MIN_WINDOW, MAX_WINDOW, WHOLE_SHARE, MAX_LATERALS}

-- a trigger id's rule within its limits
pub record IsRule (rule : TriggerRule) : Type 0 where
  pub id : (1 ≤ rule.id.0) × (rule.id.0 ≤ MAX_TRIGGER)
  pub weight : (1 ≤ rule.weight) × (rule.weight ≤ MAX_WEIGHT)
  pub burst : (1 ≤ rule.burst) × (rule.burst ≤ MAX_BURST)
  pub rate : rule.rate ≤ MAX_RATE

-- rules that a workload may declare together
pub record AreRules (rules : List TriggerRule) : Type 0 where
  pub rising : AllPairs (λ (a b : TriggerRule). a.id.0 < b.id.0) rules
  pub each : All IsRule rules

-- whether a trigger id is declared
abbrev pub is_declared : List TriggerRule → TriggerId → Bool
is_declared rules id = list_any (λ (rule : TriggerRule). rule.id.0 == id.0) rules

-- the limits of a window, a share and a number of laterals
abbrev pub IsWindow : ℕ → Type 0
IsWindow window = (MIN_WINDOW ≤ window) × (window ≤ MAX_WINDOW)

abbrev pub IsShare : ℕ → Type 0
IsShare share = (1 ≤ share) × (share < WHOLE_SHARE)

abbrev pub IsReach : ℕ → Type 0
IsReach laterals = (1 ≤ laterals) × (laterals ≤ MAX_LATERALS)

-- an autotrigger's rule within its limits
abbrev pub IsAutoRule : AutoRule → Type 0
IsAutoRule (Exception trigger) = Unit {0}
IsAutoRule (Percentile trigger window share) = IsWindow window × IsShare share
IsAutoRule (Category trigger window share) = IsWindow window × IsShare share
IsAutoRule (Queue trigger window share laterals) = IsWindow window × IsShare share × IsReach laterals

-- the trigger id that an autotrigger fires
abbrev pub fired_by : AutoRule → TriggerId
fired_by (Exception trigger) = trigger
fired_by (Percentile trigger window share) = trigger
fired_by (Category trigger window share) = trigger
fired_by (Queue trigger window share laterals) = trigger

-- autotriggers that a workload may declare together, beside these rules of trigger ids
pub record AreAutoRules (rules : List TriggerRule) (autos : List AutoRule) : Type 0 where
  pub few : length autos ≤ MAX_AUTOS
  pub each : All IsAutoRule autos
  pub declared : All (λ auto. is_declared rules (fired_by auto) ≡ true) autos

rule_of : ℕ → TriggerRule
rule_of id = record { id = record { 0 = id }; weight = 1; burst = 1; rate = 0 }

-- ids 2 and 5 are declared, and 3 is not
declared_ids : (is_declared (rule_of 2 ∷ rule_of 5 ∷ []) (record { 0 = 5 }) ≡ true) × (is_declared (rule_of 2 ∷ rule_of 5 ∷ []) (record { 0 = 3 }) ≡ false)
unfolding rule_of
declared_ids = (refl, refl)
