-- How a watcher lies in its fields.
use Rattle.hs_board.specs.Watching.{Watching}
use Rattle.hs_board.specs.declared.watcher.Watcher.TheInside.{Inside}

abbrev pub watching_of : Inside → Watching
watching_of s = record { looking = s.reader; seen = s.seen.items; room = s.seen.room }
