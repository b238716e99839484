use Rattle.std.proofs.Common.{take}
use Rattle.hs_outcome.proofs.Prelude.{Sheets, SpellAll, AreRead, all_sent}
use Rattle.hs_outcome.proofs.pages.reported_pages.Given as goal

abbrev pub invariant-loop-book : goal.invariant-loop-book
invariant-loop-book l = (sheets : Sheets) → SpellAll sheets (all_sent (take l.book-index l.agents)) → AreRead sheets l.traces.keys l.pages.items
