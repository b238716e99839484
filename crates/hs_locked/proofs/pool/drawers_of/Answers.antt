use Rattle.std.proofs.Common.{◌≡◌, ℕ, ◌+◌, ◌∷◌, [], ◌++◌, List, length, get_or, take, drop, sym, ap, ap₂, ◌∙◌, subst, arith, length-take}
use Rattle.hs_locked.proofs.Prelude.{TableId, arc_value, Drawing, new_drawers, name_of, giver_seat_of, IsMaking}
use Rattle.std.proofs.lemmas.List.{drop_more, take_more}
use Rattle.hs_ring.proofs.Drawers.{new_drawers_length}
use Rattle.hs_locked.proofs.Making.{new_drawer_of, new_drawers_and, makes_one, made_one}
use Rattle.hs_locked.proofs.pool.drawers_of.Goals as goal

pub split_seat-seat-requires : goal.split_seat-seat-requires
split_seat-seat-requires c =
    let is = c.loop-left.invariant.0 in
    let table = ap (λ b. b.board.shared.table_id) (c.deref.ensures ∙ c.in_ok-shared.ensures) in (
      is.at.0 ∙ sym table,
      omega (arith, ap (λ (z : TableId). z.words) table, is.at.1),
      makes_one _ _ _ _ _ _ _ is,
    )

pub push-requires : goal.push-requires
push-requires c =
    omega (
      arith,
      ap (λ (l : List Drawing). length l) c.loop-left.invariant.1,
      c.loop-left.invariant.2,
      c.loop-left-test.true,
      new_drawers_length (name_of (arc_value c.args.lock.now).board.shared.table_id) (giver_seat_of c.args.place.now.me.0).buffers (giver_seat_of c.args.place.now.me.0).size 0 (take c.loop-left.left-index c.args.allowances.now),
      length-take c.loop-left.left-index c.args.allowances.now,
    )

pub loop-left-preserved : goal.loop-left-preserved
loop-left-preserved c =
    let i = c.loop-left.left-index in
    let xs = c.args.allowances.now in
    let low = c.loop-left-test.true in
    let table = (arc_value c.args.lock.now).board.shared.table_id in
    let buffers = (giver_seat_of c.args.place.now.me.0).buffers in
    let size = (giver_seat_of c.args.place.now.me.0).size in
    let left : ℕ = get_or xs i 0 in
    let before : IsMaking table c.loop-left.place buffers size i (left ∷ drop (i + 1) xs) = subst (IsMaking table c.loop-left.place buffers size i) (drop_more xs i 0 low) c.loop-left.invariant.0 in
    let e = c.split_seat-seat.ensures in
    let one = made_one table c.loop-left.place c.split_seat-seat.new.seat c.split_seat-seat.result buffers size i left (drop (i + 1) xs) before e.0 e.2 e.3 e.4 in
    let place : i ≡ 0 + length (take i xs) = omega (arith, length-take i xs) in (
      one.0,
      c.push.ensures.items
          ∙ ap₂ (λ (l : List Drawing) (d : Drawing). l ++ d ∷ []) c.loop-left.invariant.1 (one.1 ∙ ap (λ (k : ℕ). new_drawer_of (name_of table) buffers size k left) place)
          ∙ sym (new_drawers_and (name_of table) buffers size 0 (take i xs) left)
          ∙ ap (new_drawers (name_of table) buffers size 0) (sym (take_more xs i 0 low)),
      omega (arith, c.loop-left.invariant.2, c.push.ensures.room),
    )
