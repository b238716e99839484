use Rattle.std.proofs.Common.{sym, subst}
use Rattle.hs_coord.specs.Kept.{PlainCoordinator, HasTaken}
use Rattle.hs_coord.proofs.SettledLemmas.{settled_by_count}
use Rattle.hs_coord.proofs.coordinator.Coordinator.settled.Goals as goal

pub returns : goal.returns
returns c = λ messages h.
    settled_by_count _ messages (subst (λ (s : PlainCoordinator). HasTaken s messages) (sym c.self.view_is) h) c.self.invariant.1.distinct c.self.inside.waiting c.self.invariant.1.count
