use Rattle.std.proofs.Common.{◌++◌, List, sym, ap, ◌∙◌, arith}
use Rattle.hs_locked.proofs.Prelude.{Drawing, giver_seat_of}
use Rattle.hs_locked.proofs.Owed.{Mine}
use Rattle.hs_locked.proofs.Closings.{is_last, closes_last}
use Rattle.hs_locked.proofs.closing.close_drawers.Goals as goal

pub join_seat-requires : goal.join_seat-requires
join_seat-requires c =
    let inv = c.loop-drawer.invariant in
    let table = c.args.words.now.table_id in
    let parts = ap (λ (l : List Drawing). l ++ inv.2.0) c.in-Some.ensures.some in
    let last = is_last table c.drawer.inside.place c.args.drawers.items c.pop.new.self.items c.in-Some.drawer inv.2.0 (giver_seat_of c.loop-drawer.place.me.0) (giver_seat_of c.args.place.now.me.0)
    c.requires.order c.requires.all (sym parts ∙ inv.2.1) inv.2.2 c.drawer.view_is in (
      inv.0.0 ∙ c.requires.at.0,
      last.table_is,
      ap (λ (m : Mine). m.1) c.drawer.invariant.idle,
      omega (arith, c.requires.at.1),
      closes_last _ table c.loop-drawer.place c.drawer.inside.place inv.1 c.drawer.invariant.idle last,
    )
