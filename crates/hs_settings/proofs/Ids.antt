-- Ids that are not declared.
use Rattle.std.proofs.Common.{◌≡◌, ◌≢◌, ℕ, false, nat_eq}
use Rattle.std.specs.Prelude.{List}
use Rattle.std.specs.List.{All}
use borrow.Author.Tests.{ne_eqb}
use Rattle.std.proofs.lemmas.List.Folds.{list_any_none}
use Rattle.hs_base.specs.Rules.{is_declared}
use Rattle.hs_base.specs.declared.settings.TriggerRule.{TriggerRule}

pub undeclared : (rules : List TriggerRule) (id : ℕ) → All (λ (rule : TriggerRule). rule.id.0 ≢ id) rules → is_declared rules (record { 0 = id }) ≡ false
undeclared rules id none = list_any_none (λ (rule : TriggerRule). nat_eq rule.id.0 id) rules (λ k d below. ne_eqb _ id (none k d below))
