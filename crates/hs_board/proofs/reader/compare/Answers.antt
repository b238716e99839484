use Rattle.hs_board.proofs.Fronts.{itself}
use Rattle.hs_board.proofs.Rule.{sees}
use Rattle.hs_board.proofs.reader.compare.Goals as goal

pub enter_as-requires : goal.enter_as-requires
enter_as-requires c x = sees _ _ x x (itself x.all.items)
