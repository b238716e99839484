-- Rules that are declared one after another.
use Rattle.std.proofs.Common.{◌≡◌, ℕ, ◌+◌, ◌<◌, ◌≤◌, List, [], ◌∷◌, ◌++◌, arith}
use Rattle.std.proofs.lemmas.List.Quantifiers.{all_pairs_push}
use Rattle.std.proofs.lemmas.List.Elements.{All-nil, All-push}
use Rattle.hs_base.specs.declared.settings.TriggerRule.{TriggerRule}
use Rattle.hs_base.specs.Rules.{IsRule}
use Rattle.tests_with.specs.Rising.{AreRulesTo}

pub none_yet : AreRulesTo 0 []
none_yet = record {
  rules_are = record { rising = λ i j d lt within. absurd (omega arith); each = All-nil IsRule };
  low = All-nil (λ (rule : TriggerRule). rule.id.0 ≤ 0);
}

pub one_more : (rules : List TriggerRule) (rule : TriggerRule) (last : ℕ) → AreRulesTo last rules → IsRule rule → rule.id.0 ≡ last + 1 → AreRulesTo (last + 1) (rules ++ rule ∷ [])
one_more rules rule last are is next = record {
  rules_are = record {
    rising = all_pairs_push (λ (a b : TriggerRule). a.id.0 < b.id.0) rules rule are.rules_are.rising (λ k d within. omega (arith, are.low k d within));
    each = All-push IsRule rules rule are.rules_are.each is;
  };
  low = All-push (λ (r : TriggerRule). r.id.0 ≤ last + 1) rules rule (λ k d within. omega (arith, are.low k d within)) (omega arith);
}
