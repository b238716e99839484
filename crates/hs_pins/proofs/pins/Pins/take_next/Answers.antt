use Rattle.std.proofs.Common.{arith}
use Rattle.hs_pins.proofs.Remembering.{at_view, has_taken, others_wait}
use Rattle.hs_pins.proofs.pins.Pins.take_next.Goals as goal

pub returns-in_err-priority-clause-others : goal.returns-in_err-priority-clause-others
returns-in_err-priority-clause-others g c = λ id apart. others_wait _ c.args.self.now c.args.trigger id c.take_next.new.self _ c.self.view_is c.take_next.ensures.rest apart

pub returns-in_err-priority-clause-after : goal.returns-in_err-priority-clause-after
returns-in_err-priority-clause-after g c = λ memory h. has_taken _ c.args.self.now memory c.args.trigger c.take_next.new.self c.self.view_is h c.take_next.ensures.rest

pub returns-clause-others : goal.returns-clause-others
returns-clause-others g c = λ id apart. others_wait _ c.args.self.now c.args.trigger id c.take_next.new.self _ c.self.view_is c.take_next.ensures.rest apart

pub returns-clause-after : goal.returns-clause-after
returns-clause-after g c = λ memory h. has_taken _ c.args.self.now memory c.args.trigger c.take_next.new.self c.self.view_is h c.take_next.ensures.rest

pub returns-clause-fewer : goal.returns-clause-fewer
returns-clause-fewer g c = λ memory h.
    let new = (has_taken _ c.args.self.now memory c.args.trigger c.take_next.new.self c.self.view_is h c.take_next.ensures.rest).pinned.chunks.total in
    let old = (at_view _ c.args.self.now memory c.self.view_is h).pinned.chunks.total in
    let count = c.in_ok-priority.ensures.count in
    omega (arith, new, old, count)
