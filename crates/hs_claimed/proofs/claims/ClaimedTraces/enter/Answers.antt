use Rattle.std.proofs.Common.{◌≡◌, ◌+◌, ◌≤◌, ◌∷◌, rules, false, length, arith, is_some, position, sym, ap, subst, ◌∙◌}
use Rattle.hs_claimed.specs.declared.answers.Claimant.{Claimant}
use Rattle.hs_claimed.specs.Claims.{PlainClaims, is_the, is_known, is_full_for}
use Rattle.std.specs.Prelude.{nat_lt}
use Rattle.std.proofs.lemmas.List.{length_push}
use Rattle.hs_base.proofs.Bools.{first_false}
use Rattle.hs_claimed.specs.ClaimsLayout.{AreDistinct}
use Rattle.hs_claimed.proofs.Groups.{push_distinct}
use Rattle.hs_claimed.proofs.claims.ClaimedTraces.enter.Goals as goal

pub invariant_of-self : goal.invariant_of-self
invariant_of-self c =
    let groups = c.self.inside.groups.items in
    let unknown : is_some (position (is_the c.new-2.result.group.id) groups) ≡ false =
    ap (λ (one : Claimant). is_some (position (is_the one.group.id) groups)) c.new-2.ensures
    ∙ ap (λ (s : PlainClaims). is_known s c.args.group.id) (c.self.view_is ∙ c.set_hint.ensures)
    ∙ c.requires.new in
    record {
      few = (
          let room : nat_lt c.self.inside.most (length c.self.inside.claims.items + length (c.args.group.lead ∷ c.args.others.now)) ≡ false =
          first_false _ _ (ap (λ (s : PlainClaims). is_full_for s (c.args.group.lead ∷ c.args.others.now)) (c.self.view_is ∙ c.set_hint.ensures) ∙ c.requires.free) in
          let low : length c.self.inside.claims.items + (length c.args.others.now + 1) ≤ c.self.inside.most = grind (arith, room) in
          let one = ap length c.push_back_reserved.ensures.items in
          let pushed = length_push c.self.inside.claims.items c.new.result in
          let grown = c.push_claims.ensures.few in
          omega (arith, low, one, pushed, grown)
          );
      few_groups = search rules;
      claims = search rules;
      groups = search rules;
      distinct = subst AreDistinct (sym c.push_back_reserved-2.ensures.items) (push_distinct groups c.new-2.result c.self.invariant.distinct unknown);
    }
