-- A valid workload has all that the laws of the schedule ask for.
use Rattle.std.proofs.Common.{◌≤◌, List, [], ◌∷◌}
use Rattle.hs_law_run.proofs.Prelude.{AllByRecursion, TriggerRule, ValidWorkloadsRun}
use Rattle.std.proofs.lemmas.List.Elements.{recursion_from_All}
use Rattle.hs_base.specs.Rules.{IsRule}
use Rattle.hs_records.specs.declared.setting.Setting.TheVariants as settings
use Rattle.hs_records.proofs.Sizes.{bracketed}

weighed : (rules : List TriggerRule) → AllByRecursion IsRule rules → AllByRecursion (λ (rule : TriggerRule). 1 ≤ rule.weight) rules
weighed [] all = tt
weighed (rule ∷ rules) all = (all.0.weight.0, weighed rules all.1)

pub valid_workloads_run : ValidWorkloadsRun
valid_workloads_run W valid =
    record {
      laid = record { clients = valid.count; ends = bracketed W.version W.settings W.clients valid.each; stride = (valid.head settings.Stride).0 };
      size = (valid.head settings.Size).0;
      weights = weighed W.settings.triggers (recursion_from_All IsRule W.settings.triggers valid.rules.each);
    }
