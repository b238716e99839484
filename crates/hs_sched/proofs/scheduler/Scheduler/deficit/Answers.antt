use Rattle.std.proofs.Common.{◌≡◌, ◌==◌, ◌<◌, Some, find, sym, ap, ◌∙◌, subst}
use Rattle.std.specs.Option.{option_copied}
use Rattle.hs_sched.specs.declared.share.Share.{Share}
use Rattle.hs_sched.specs.Turns.{Schedule, IsSchedule}
use Rattle.hs_sched.proofs.TurnLemmas.{find_has}
use Rattle.hs_sched.proofs.scheduler.Scheduler.deficit.Goals as goal

pub returns-clause-bound : goal.returns-clause-bound
returns-clause-bound c =
    let s = c.args.self.now in
    let is : IsSchedule s = subst IsSchedule c.self.view_is c.self.invariant in
    let shares : c.deref.result.now ≡ s.shares = c.deref.ensures.value ∙ ap (λ (t : Schedule). t.shares) c.self.view_is in
    let found : find (λ (share : Share). share.trigger.0 == c.args.trigger.0) s.shares ≡ Some c.in-Some.share.now =
    ap (find (λ (share : Share). share.trigger.0 == c.args.trigger.0)) (sym shares) ∙ sym c.find_share.ensures ∙ ap option_copied c.in-Some.is in
    find_has (λ (y : Share). y.deficit < s.size) (λ (share : Share). share.trigger.0 == c.args.trigger.0) s.shares c.in-Some.share.now is.deficits found
