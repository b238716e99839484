use Rattle.std.proofs.Common.{◌++◌, take, map}
use Rattle.hs_outcome.proofs.Prelude.{Sheets, SpellAll, AreRead}
use Rattle.hs_outcome.proofs.pages.push_reported.Given as goal

abbrev pub invariant-loop-bytes : goal.invariant-loop-bytes
invariant-loop-bytes l =
    (before sheets : Sheets) → AreRead before l.initial.traces.keys l.initial.pages.items → SpellAll sheets (map (λ page. page.items) l.sent)
    → AreRead (before ++ take l.bytes-index sheets) l.traces.keys l.pages.items
