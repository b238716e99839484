use Rattle.std.proofs.Common.{arith}
use Rattle.hs_board.proofs.Fronts.{further}
use Rattle.hs_board.proofs.watcher.Watcher.look_round.Goals as goal

pub returns : goal.returns
returns c = (
  λ shown w. c.look-4.ensures.watches shown (c.look-3.ensures.watches shown (c.look-2.ensures.watches shown (c.look.ensures.watches shown w))),
  further _ _ _ (further _ _ _ (further _ _ _ c.look.ensures.keeps c.look-2.ensures.keeps) c.look-3.ensures.keeps) c.look-4.ensures.keeps,
  λ none.
      let fourth = c.look-4.ensures.looks none in
      let third = c.look-3.ensures.looks fourth.0 in
      let second = c.look-2.ensures.looks third.0 in
      let one = c.look.ensures.looks second.0 in
      (one.0, omega (arith, fourth.1, third.1, second.1, one.1)),
  c.look-4.ensures.last,
)
