use Rattle.std.proofs.Common.{◌≡◌, ◌++◌, take, map}
use Rattle.hs_text.specs.Text.{text_of}
use Rattle.hs_board.specs.WatchText.{watchers_from}
use Rattle.hs_board.proofs.writing.push_watchers.Given as goal

abbrev pub invariant-loop-number : goal.invariant-loop-number
invariant-loop-number l = l.out.items ≡ l.initial.out.items ++ text_of (watchers_from 0 (take l.number (map (λ seen. seen.items) l.all)))
