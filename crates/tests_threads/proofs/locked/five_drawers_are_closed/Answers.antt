use Rattle.std.proofs.Common.{subst, sym}
use Rattle.hs_base.specs.declared.limits.TheConstants.{MOST_BUFFERS, MIN_SIZE}
use Rattle.hs_ring.specs.Parts.{AreAllEnds}
use Rattle.tests_threads.proofs.Seating.{all_ends}
use Rattle.tests_threads.proofs.locked.five_drawers_are_closed.Goals as goal

pub close-requires-clause-ends : goal.close-requires-clause-ends
close-requires-clause-ends g c =
    let w = c.work_all in
    subst (AreAllEnds w.new.giver) (sym c.in_ok-append.ensures.ok)
    (all_ends MOST_BUFFERS MIN_SIZE _ c.in_ok-giver.giver w.new.giver c.in_ok-giver.drawers.items c.pop.new.self.items w.new.others.items c.in-Some.last w.new.last
    c.in_ok-giver.ensures c.in-Some.ensures.some w.ensures.giver.0 w.ensures.giver.1 w.ensures.last.0 w.ensures.last.1 w.ensures.others)
