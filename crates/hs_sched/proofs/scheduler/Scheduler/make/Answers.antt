use Rattle.std.proofs.Common.{◌≡◌, List, sym, ap, ◌∙◌, subst}
use Rattle.hs_sched.specs.declared.share.Share.{Share}
use Rattle.hs_sched.specs.Turns.{IsSchedule, shares_of}
use Rattle.hs_sched.proofs.TurnLemmas.{IsSchedule-first}
use Rattle.hs_sched.proofs.scheduler.Scheduler.make.Goals as goal

pub invariant_of-result : goal.invariant_of-result
invariant_of-result c =
    let rules : c.as_slice.result.now ≡ c.args.triggers.now.items = c.as_slice.ensures in
    let shares : c.in-Ok.shares.items ≡ shares_of c.args.triggers.now.items = c.in-Ok.ensures ∙ ap shares_of rules in
    subst (λ (xs : List Share). IsSchedule (record { shares = xs; size = c.args.size })) (sym shares) (IsSchedule-first c.args.triggers.now.items c.args.size c.requires.rules c.requires.size)

pub returns-in-Ok-clause-schedule : goal.returns-in-Ok-clause-schedule
returns-in-Ok-clause-schedule c = invariant_of-result c
