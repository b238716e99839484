use Rattle.std.proofs.Common.{◌≡◌, ◌++◌, take, map}
use Rattle.hs_text.specs.Text.{text_of}
use Rattle.hs_board.specs.WatchText.{seen_line}
use Rattle.hs_board.proofs.writing.push_seen.Given as goal

abbrev pub invariant-loop-progress : goal.invariant-loop-progress
invariant-loop-progress l = l.out.items ≡ l.initial.out.items ++ text_of (map seen_line (take l.progress-index l.seen))
