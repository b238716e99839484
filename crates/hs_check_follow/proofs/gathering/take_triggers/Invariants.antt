use Rattle.std.proofs.Common.{length}
use Rattle.hs_check_follow.proofs.Prelude.{Where, AtTrigger, WereTriggers, HasItems, triggers_at}
use Rattle.hs_check_follow.proofs.Queues.{Midway}
use Rattle.hs_check_follow.proofs.gathering.take_triggers.Given as goal

abbrev pub invariant-loop-trigger : goal.invariant-loop-trigger
invariant-loop-trigger l =
    (w : Where) → WereTriggers w l.number l.initial.player l.initial.queue.items l.initial.numbers.items
    → Midway (AtTrigger w l.number) (λ items. HasItems items l.queue.items l.numbers.items) (triggers_at w) l.number l.player

abbrev pub decreases-loop-trigger : goal.decreases-loop-trigger
decreases-loop-trigger l = length l.player.works.triggers
