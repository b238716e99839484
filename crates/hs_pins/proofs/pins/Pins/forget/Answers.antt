use Rattle.std.proofs.Common.{false, cond, not, refl, sym, ap, subst, ◌∙◌}
use Rattle.hs_pins.proofs.Prelude.{is_some, list_any, lookup, Group, Priority, Mark, mark_of, same_mark, same_priority, groups_of, Remembers}
use Rattle.hs_pins.specs.PinsLayout.{Pinning}
use Rattle.hs_pins.proofs.Order.{same_mark-group}
use Rattle.hs_pins.proofs.Forgetting.{found_is, forgotten_remembers}
use Rattle.hs_pins.proofs.pins.Pins.forget.Goals as goal

pub returns-clause-settled : goal.returns-clause-settled
returns-clause-settled g c = λ memory h.
    let r = subst (λ (p : Pinning g.row.L.Denot). Remembers p memory) (sym c.self.view_is) h in
    ap not
    (sym c.if-has.false
    ∙ c.has.ensures
    ∙ ap (λ (p : Priority). is_some (lookup (same_priority p) (groups_of c.self.inside.queues c.args.group.trigger))) c.of.ensures
    ∙ found_is c.args.group c.self.inside.queues memory r.pinned.chunks)

pub returns-then-has-clause-settled : goal.returns-then-has-clause-settled
returns-then-has-clause-settled g c = λ memory h.
    let r = subst (λ (p : Pinning g.row.L.Denot). Remembers p memory) (sym c.self.view_is) h in
    ap not
    (sym c.if-has.true
    ∙ c.has.ensures
    ∙ ap (λ (p : Priority). is_some (lookup (same_priority p) (groups_of c.self.inside.queues c.args.group.trigger))) c.of.ensures
    ∙ found_is c.args.group c.self.inside.queues memory r.pinned.chunks)

pub returns-clause-after : goal.returns-clause-after
returns-clause-after g c = λ memory h did.
    let r = subst (λ (p : Pinning g.row.L.Denot). Remembers p memory) (sym c.self.view_is) h in
    forgotten_remembers c.args.group _ _ memory r refl refl refl c.forget.ensures refl refl
    (λ (other : Group).
    c.shift_remove.ensures.updates.0 (mark_of other)
    ∙ ap (λ (m : Mark). cond (same_mark m (mark_of other)) false (list_any (same_mark (mark_of other)) c.self.inside.abandoned.keys)) c.of-2.ensures
    ∙ ap (λ b. cond b false (list_any (same_mark (mark_of other)) c.self.inside.abandoned.keys)) (same_mark-group c.args.group other))
