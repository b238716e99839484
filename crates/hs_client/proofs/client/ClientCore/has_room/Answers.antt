use Rattle.std.proofs.Common.{◌+◌, ◌≤◌, IsSome, leb-true, leb-false, subst}
use Rattle.hs_base.specs.declared.limits.TheConstants.{FRAME_COST}
use Rattle.hs_client.specs.Core.{Core, Fits, NeedsPage}
use Rattle.hs_client.proofs.Rooms.{within, beyond}
use Rattle.hs_client.proofs.client.ClientCore.has_room.Goals as goal

pub returns-clause-room : goal.returns-clause-room
returns-clause-room g c = λ yes. subst (λ (core : Core _). Fits core c.args.len) c.self.view_is (within c.self.inside c.args.len c.self.invariant (leb-true _ _ yes)).0

pub returns-clause-none : goal.returns-clause-none
returns-clause-none g c = λ no. subst (λ (core : Core _). NeedsPage core c.args.len) c.self.view_is (beyond c.self.inside c.args.len c.self.invariant (leb-false _ _ no))

pub returns-clause-open : goal.returns-clause-open
returns-clause-open g c = λ yes. subst (λ (core : Core _). IsSome core.trace) c.self.view_is (within c.self.inside c.args.len c.self.invariant (leb-true _ _ yes)).1

pub returns-clause-narrow : goal.returns-clause-narrow
returns-clause-narrow g c = λ yes. subst (λ (core : Core _). FRAME_COST + c.args.len ≤ core.size) c.self.view_is (within c.self.inside c.args.len c.self.invariant (leb-true _ _ yes)).2

pub returns-clause-most : goal.returns-clause-most
returns-clause-most g c = λ yes. (within c.self.inside c.args.len c.self.invariant (leb-true _ _ yes)).3
