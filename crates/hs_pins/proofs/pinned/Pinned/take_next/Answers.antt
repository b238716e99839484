use Rattle.std.proofs.Common.{sym, ap, ◌∙◌, drop}
use Rattle.hs_pins.proofs.Prelude.{slice_get, buffer_of, in_order}
use Rattle.hs_pins.proofs.GroupLemmas.{count-found, counts-less}
use Rattle.hs_pins.proofs.Lanes.{kept-taken}
use Rattle.hs_pins.proofs.Waits.{first_taken, left_taken, none_left}
use Rattle.hs_pins.proofs.pinned.Pinned.take_next.Goals as goal

pub overflow_sub-self : goal.overflow_sub-self
overflow_sub-self g c = count-found c.in_ok-priority.priority c.self.inside.groups.entries c.self.inside.chunks c.self.invariant.counted c.in_ok-priority.ensures.found

pub invariant_of-self : goal.invariant_of-self
invariant_of-self g c =
    kept-taken c.in_ok-priority.priority c.self.inside.groups.entries _ c.self.inside.chunks c.self.invariant c.in_ok-priority.ensures.found c.take_first-held.ensures.rest

pub returns-clause-count : goal.returns-clause-count
returns-clause-count g c =
    counts-less c.self.inside.groups.entries c.args.self.now c.take_first-held.new.groups.entries c.self.inside.chunks c.self.invariant.counted c.self.view_is
    (count-found c.in_ok-priority.priority c.self.inside.groups.entries c.self.inside.chunks c.self.invariant.counted c.in_ok-priority.ensures.found)
    (kept-taken c.in_ok-priority.priority c.self.inside.groups.entries _ c.self.inside.chunks c.self.invariant c.in_ok-priority.ensures.found c.take_first-held.ensures.rest).counted

pub returns-in_err-priority-clause-first : goal.returns-in_err-priority-clause-first
returns-in_err-priority-clause-first g c = λ id.
    let none = none_left c.self.inside.groups.entries c.args.self.now c.self.inside.chunks c.self.invariant c.self.view_is (sym c.in_err-priority.ensures.value) in
    rw c.from_residual.ensures (ap (λ gs. slice_get (in_order id gs) 0) (sym none))

pub returns-in_err-priority-clause-left : goal.returns-in_err-priority-clause-left
returns-in_err-priority-clause-left g c = λ id.
    let none = none_left c.self.inside.groups.entries c.args.self.now c.self.inside.chunks c.self.invariant c.self.view_is (sym c.in_err-priority.ensures.value) in
    ap (in_order id) none ∙ ap (λ gs. drop 1 (in_order id gs)) (sym none)

pub returns-clause-first : goal.returns-clause-first
returns-clause-first g c = λ id.
    first_taken c.self.inside.groups.entries c.args.self.now c.in_ok-priority.priority (buffer_of c.take_first-held.result) c.self.inside.chunks id c.self.invariant c.self.view_is c.in_ok-priority.ensures.value c.take_first-held.ensures.first

pub returns-clause-left : goal.returns-clause-left
returns-clause-left g c = λ id.
    left_taken c.self.inside.groups.entries c.args.self.now c.take_first-held.new.groups.entries c.in_ok-priority.priority c.self.inside.chunks id c.self.invariant c.self.view_is c.in_ok-priority.ensures.value c.take_first-held.ensures.rest
