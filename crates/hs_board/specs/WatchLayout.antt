-- How two watchers lie beside their writer.
use Rattle.hs_board.specs.Watching.{Showing}
use Rattle.hs_board.specs.declared.watch.Watch.TheInside.{Inside}

abbrev pub showing_of : Inside → Showing
showing_of s = record { shown = s.writer; one = s.one; other = s.other }
