use Rattle.std.proofs.Common.{sym, subst, ◌∙◌}
use Rattle.hs_claimed.specs.Claims.{PlainClaims}
use Rattle.hs_claimed.specs.ClaimsLayout.{AreDistinct}
use Rattle.hs_claimed.proofs.Groups.{found_here}
use Rattle.hs_claimed.proofs.claims.ClaimedTraces.find.Goals as goal

pub returns-then-stands_at : goal.returns-then-stands_at
returns-then-stands_at c =
    sym
    (found_here c.args.self.now.groups c.args.group c.hint-place.result (subst (λ (s : PlainClaims). AreDistinct s.groups) c.self.view_is c.self.invariant.distinct)
    (sym c.stands_at.ensures ∙ c.if-stands_at.true))
