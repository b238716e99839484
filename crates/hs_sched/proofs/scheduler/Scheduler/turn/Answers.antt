use Rattle.std.proofs.Common.{◌≡◌, ◌+◌, ◌*◌, ◌<◌, ◌≤◌, ℕ, List, length, ◌==◌, find, get_or, sym, ap, ◌∙◌, subst, arith}
use Rattle.hs_base.specs.declared.limits.TheConstants.{MAX_WEIGHT}
use Rattle.hs_sched.specs.declared.share.Share.{Share}
use Rattle.hs_sched.specs.Turns.{Schedule, IsSchedule, IsWeight}
use Rattle.hs_sched.specs.Visits.{budget_of}
use Rattle.hs_sched.proofs.TurnLemmas.{served, served_step, served-at, finished, find-served, all_fair, IsSchedule-after, budget_fits}
use Rattle.hs_sched.proofs.scheduler.Scheduler.turn.Goals as goal

abbrev no_share : Share
no_share = record { trigger = record { 0 = 0 }; weight = 0; deficit = 0 }

pub overflow_add-budget : goal.overflow_add-budget
overflow_add-budget g c =
    let s = c.args.self.now in
    let at = c.loop-share.share-index in
    let is : IsSchedule s = subst IsSchedule c.self.view_is c.self.invariant in
    let within : at < length s.shares =
    omega (arith, ap length (c.deref_mut-share-items.ensures.value ∙ ap (λ (t : Schedule). t.shares) c.self.view_is)) in
    let here : get_or c.loop-share.share-items at no_share ≡ get_or s.shares at no_share =
    served-at (served s.size (g.Q.Queues.costs c.args.queues.now)) s.shares c.loop-share.share-items at no_share within c.loop-share.invariant.items in
    let small : (get_or c.loop-share.share-items at no_share).deficit < s.size = subst (λ (y : Share). y.deficit < s.size) (sym here) (is.deficits at no_share within) in
    let light : IsWeight (get_or c.loop-share.share-items at no_share).weight = subst (λ (y : Share). IsWeight y.weight) (sym here) (is.weights at no_share within) in
    let weight : c.from.result ≤ MAX_WEIGHT = omega (arith, c.from.ensures, light.1) in
    let size : c.from-size.result ≡ s.size = c.from-size.ensures ∙ ap (λ (t : Schedule). t.size) c.self.view_is in
    omega (arith, budget_fits (get_or c.loop-share.share-items at no_share).deficit c.from.result c.from-size.result (omega (arith, size, small)) weight (omega (arith, size, is.size.1)))

pub loop-share-preserved : goal.loop-share-preserved
loop-share-preserved g c =
    let s = c.args.self.now in
    let at = c.loop-share.share-index in
    let items = c.loop-share.share-items in
    let is : IsSchedule s = subst IsSchedule c.self.view_is c.self.invariant in
    let within : at < length s.shares =
    omega (arith, ap length (c.deref_mut-share-items.ensures.value ∙ ap (λ (t : Schedule). t.shares) c.self.view_is)) in
    let size : c.from-size.result ≡ s.size = c.from-size.ensures ∙ ap (λ (t : Schedule). t.size) c.self.view_is in
    let budget : (get_or items at no_share).deficit + c.from.result * c.from-size.result ≡ budget_of s.size (get_or items at no_share) =
    ap (λ (p : ℕ × ℕ). (get_or items at no_share).deficit + p.0 * p.1) (λ i. (c.from.ensures i, size i)) in
    let v = c.visit-share.ensures in
    let step =
    served_step g.Q.Queues.costs g.Q.Queues.sends s.size s.shares items at ((get_or items at no_share).deficit + c.from.result * c.from-size.result) c.visit-share.result no_share c.args.queues.now
    c.loop-share.queues c.visit-share.new.queues within is.rising c.loop-share.invariant.items c.loop-share.invariant.turned budget
    (record { value = v.value; left = v.left; others = v.others; order = v.order }) in
    record { items = step.0; turned = step.1 }

pub invariant_of-self : goal.invariant_of-self
invariant_of-self g c =
    let s = c.args.self.now in
    let waiting = g.Q.Queues.costs c.args.queues.now in
    let is : IsSchedule s = subst IsSchedule c.self.view_is c.self.invariant in
    let shares : c.self.inside.shares.items ≡ s.shares = ap (λ (t : Schedule). t.shares) c.self.view_is in
    let size : c.self.inside.size ≡ s.size = ap (λ (t : Schedule). t.size) c.self.view_is in
    let whole : c.self.inside.shares.len ≡ length s.shares = omega (arith, ap length shares, c.self.inside.shares.ok.0) in
    let after = finished (served s.size waiting) s.shares c.loop-share.share-items c.self.inside.shares.items c.loop-share.share-index c.self.inside.shares.len whole (omega (arith, whole, ap length c.deref_mut-share-items.ensures.value, c.self.inside.shares.ok.0)) c.loop-share.invariant.items in
    subst (λ (p : List Share × ℕ). IsSchedule (record { shares = p.0; size = p.1 })) (λ i. (sym after i, sym size i)) (IsSchedule-after s waiting is c.requires)

pub returns-clause-visits : goal.returns-clause-visits
returns-clause-visits g c = all_fair c.args.self.now (g.Q.Queues.costs c.args.queues.now) (subst IsSchedule c.self.view_is c.self.invariant) c.requires

pub returns-clause-schedule : goal.returns-clause-schedule
returns-clause-schedule g c = invariant_of-self g c

pub returns-clause-by_id : goal.returns-clause-by_id
returns-clause-by_id g c =
    let s = c.args.self.now in
    let waiting = g.Q.Queues.costs c.args.queues.now in
    let whole : c.self.inside.shares.len ≡ length s.shares = omega (arith, ap length (ap (λ (t : Schedule). t.shares) c.self.view_is), c.self.inside.shares.ok.0) in
    let after =
    finished (served s.size waiting) s.shares c.loop-share.share-items c.self.inside.shares.items c.loop-share.share-index c.self.inside.shares.len whole
    (omega (arith, whole, ap length c.deref_mut-share-items.ensures.value, c.self.inside.shares.ok.0)) c.loop-share.invariant.items in
    λ id. ap (find (λ (share : Share). share.trigger.0 == id)) after ∙ find-served s.size waiting id s.shares
