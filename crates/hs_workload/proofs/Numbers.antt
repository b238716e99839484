-- Numbers of a head, and ids that are not declared.
use Rattle.std.proofs.Common.{◌≡◌, ◌≢◌, ℕ, zero, suc, ◌*◌, ◌<◌, ◌≤◌, false, nat_eq, arith}
use Rattle.hs_workload.proofs.Prelude.{All, ne_eqb, list_any_none, TriggerRule, is_declared, setting_in, Draft, IsSound}
use Rattle.std.specs.Prelude.{List}
use Rattle.hs_base.specs.declared.limits.TheConstants.{MIN_SIZE}
use Rattle.hs_records.specs.declared.setting.Setting.TheVariants as settings

pub factor_positive : (a b c : ℕ) → a < b * c → 0 < c
factor_positive a b zero h = absurd (omega (arith, h))
factor_positive a b (suc c) h = omega arith

pub undeclared : (rules : List TriggerRule) (id : ℕ) → All (λ (rule : TriggerRule). rule.id.0 ≢ id) rules → is_declared rules (record { 0 = id }) ≡ false
undeclared rules id none = list_any_none (λ (rule : TriggerRule). nat_eq rule.id.0 id) rules (λ k d below. ne_eqb _ id (none k d below))

pub least_size : (d : Draft) → IsSound d → 0 < d.started → MIN_SIZE ≤ setting_in d.head settings.Size
least_size d sound some = let head = sound.body some in sound.least settings.Size (omega (arith, head))
