use Rattle.std.proofs.Common.{◌≡◌, List, length, get_or, subst, sym, ap, ◌∙◌, arith}
use Rattle.hs_base.proofs.Lent.{lent_whole_is}
use Rattle.hs_ring.specs.Parts.{Drawing}
use Rattle.tests_threads.specs.Seats.{HaveSeats}
use Rattle.tests_threads.proofs.rings.draw_each.Goals as goal

pub returns : goal.returns
returns g c =
    let old = c.args.drawers.now.items in
    let new = c.for_each_mut.new.s in
    let whole = c.as_mut_slice.ensures.value in
    let lent : length c.as_mut_slice.result.now ≡ length old = ap (λ (l : List Drawing). length l) whole in
    let count : length new ≡ length old = let same = c.for_each_mut.auto.s in omega (arith, same, lent) in
    subst (HaveSeats old) (sym (lent_whole_is old new count))
    (record {
      count = count;
      pools = λ place d low.
          let h = (c.for_each_mut.ensures place d (omega (arith, low, lent))).1 in
          ap (λ (x : Drawing). x.pool) (sym h.left) ∙ h.call.0 ∙ ap (λ (x : Drawing). x.pool) h.argument_is ∙ ap (λ (l : List Drawing). (get_or l place d).pool) whole;
      numbers = λ place d low.
          let h = (c.for_each_mut.ensures place d (omega (arith, low, lent))).1 in
          ap (λ (x : Drawing). x.number) (sym h.left) ∙ h.call.1 ∙ ap (λ (x : Drawing). x.number) h.argument_is ∙ ap (λ (l : List Drawing). (get_or l place d).number) whole;
    })
