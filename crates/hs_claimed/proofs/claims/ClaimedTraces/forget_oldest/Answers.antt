use Rattle.std.proofs.Common.{rules, sym, subst}
use Rattle.hs_claimed.specs.ClaimsLayout.{AreDistinct}
use Rattle.hs_claimed.proofs.Groups.{drop_distinct}
use Rattle.hs_claimed.proofs.claims.ClaimedTraces.forget_oldest.Goals as goal

pub invariant_of-self-2 : goal.invariant_of-self-2
invariant_of-self-2 c = record {
  few = search rules;
  few_groups = search rules;
  claims = search rules;
  groups = search rules;
  distinct = subst AreDistinct (sym c.pop_front.ensures.rest) (drop_distinct 1 c.self.inside.groups.items c.self.invariant.distinct);
}
