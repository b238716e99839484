use Rattle.std.proofs.Common.{◌≡◌, take}
use Rattle.hs_ledger.specs.Totals.{totals_of, parts_of}
use Rattle.hs_ledger.proofs.ledger.Totals.of.Given as goal

abbrev pub invariant-loop-entry : goal.invariant-loop-entry
invariant-loop-entry l = (l.totals ≡ totals_of (take l.entry-index l.entries)) × (parts_of l.totals ≡ l.totals.records)
