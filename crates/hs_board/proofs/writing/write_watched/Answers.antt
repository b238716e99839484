use Rattle.std.proofs.Common.{map}
use Rattle.hs_board.proofs.Lines.{ended}
use Rattle.hs_board.proofs.writing.write_watched.Goals as goal

pub returns : goal.returns
returns c = ended (map (λ seen. seen.items) c.args.all.now) c.args.out.now.items _ _ c.in_ok-push_watchers.ensures c.in_ok-extend_from_slice.ensures.items
