use Rattle.std.proofs.Common.{◌≡◌, refl, arith, ap, subst, ◌∙◌, unwrap_or}
use Rattle.std.proofs.lemmas.Grind.{common_steps}
use Rattle.std.specs.Map.{lookup}
use Rattle.hs_coord.specs.declared.followed.Followed.{Followed}
use Rattle.hs_coord.specs.Following.{message, same_group}
use Rattle.hs_coord.specs.Kept.{is_open}
use Rattle.hs_coord.specs.Leading.{Takes}
use Rattle.hs_coord.proofs.coordinator.follow.Goals as goal

pub returns-clause-led : goal.returns-clause-led
returns-clause-led c =
    let kept : c.or_insert-followed.result.now ≡ unwrap_or (lookup (same_group c.args.told.now.group.id) c.args.groups.now.entries) c.begin.result =
    c.or_insert-followed.ensures.value ∙ ap (λ o. unwrap_or o c.begin.result) c.in-Ok.ensures.value in
    let b = c.begin.ensures in
    let t = c.take-to.ensures in
    let entries = c.in-Ok.ensures.update.1 c.take-to.new.self in
    let distinct = c.in-Ok.ensures.update.2 c.take-to.new.self in
    record {
      begun = c.begin.result;
      begins = record { group = b.group; laterals = b.laterals; asked = b.asked; waiting = b.waiting };
      next = c.take-to.new.self;
      takes =
          subst (λ (e : Followed). Takes (message c.args.node c.args.told.now) e c.take-to.new.self c.take-to.result) kept
          (record { fresh_is = t.fresh; asked = t.asked; waiting = t.waiting; ask = t.ask });
      ask = refl;
      was = c.is_open-was_open.ensures ∙ ap is_open kept;
      is = c.is_open-is_open.ensures;
      entries = grind (arith, entries);
      writes = λ q. let written = (c.in-Ok.ensures.update.0 c.take-to.new.self).0 q in grind (arith, common_steps);
      distinct = grind (arith, distinct);
    }
