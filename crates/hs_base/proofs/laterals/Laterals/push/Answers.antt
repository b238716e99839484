use Rattle.std.proofs.Common.{length, ◌<◌, subst, sym, List}
use Rattle.hs_base.specs.declared.limits.TheConstants.{MAX_LATERALS}
use Rattle.hs_base.specs.declared.ids.TraceId.{TraceId}
use Rattle.hs_base.proofs.LateralsLemmas.{IsPadded-push}
use Rattle.hs_base.proofs.laterals.Laterals.push.Goals as goal

pub invariant_of-self : goal.invariant_of-self
invariant_of-self c =
    IsPadded-push c.self.inside c.args.trace c.self.invariant (subst (λ (xs : List TraceId). length xs < MAX_LATERALS) (sym c.self.view_is) c.requires)
