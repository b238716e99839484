use Rattle.std.proofs.Common.{◌≡◌, ℕ, ◌-◌, List, length, map}
use Rattle.hs_check_follow.proofs.Prelude.{ClientId, Draw, PlainSettings, operation_of, IsSecondPlay}
use Rattle.hs_check_follow.proofs.second_play.SecondPlay.next.Given as goal

abbrev pub invariant-operations : goal.invariant-operations
invariant-operations l =
    (settings : PlainSettings) (client : ClientId) (draws : List Draw) (k : ℕ) → l.rules ≡ settings.autos → IsSecondPlay settings client (map operation_of l.operations) draws k l.initial.self
    → IsSecondPlay settings client (map operation_of l.operations) draws k l.self

abbrev pub decreases-operations : goal.decreases-operations
decreases-operations l = length l.operations - l.self.player.done
