use Rattle.std.proofs.Common.{take}
use Rattle.hs_outcome.proofs.Prelude.{AreCollected, CanBeAdded, Sheets, SpellAll, bytes_of}
use Rattle.hs_outcome.proofs.pages.collect.Given as goal

abbrev pub invariant-loop-page : goal.invariant-loop-page
invariant-loop-page l = (sheets : Sheets) → SpellAll sheets (bytes_of l.pages) → CanBeAdded sheets → AreCollected (take l.page-index sheets) l.collector
