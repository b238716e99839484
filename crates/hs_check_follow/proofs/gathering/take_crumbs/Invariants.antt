use Rattle.std.proofs.Common.{length}
use Rattle.hs_check_follow.proofs.Prelude.{Where, AtCrumb, WereCrumbs, HasItems, crumbs_at}
use Rattle.hs_check_follow.proofs.Queues.{Midway}
use Rattle.hs_check_follow.proofs.gathering.take_crumbs.Given as goal

abbrev pub invariant-loop-crumb : goal.invariant-loop-crumb
invariant-loop-crumb l =
    (w : Where) → WereCrumbs w l.number l.initial.player l.initial.queue.items l.initial.numbers.items
    → Midway (AtCrumb w l.number) (λ items. HasItems items l.queue.items l.numbers.items) (crumbs_at w) l.number l.player

abbrev pub decreases-loop-crumb : goal.decreases-loop-crumb
decreases-loop-crumb l = length l.player.works.crumbs
