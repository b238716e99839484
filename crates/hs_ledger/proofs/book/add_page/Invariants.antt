use Rattle.std.proofs.Common.{◌≡◌, ◌-◌, ◌++◌, map}
use Rattle.std.specs.List.{range_with_len}
use Rattle.hs_ledger.specs.Making.{entry_of}
use Rattle.hs_ledger.proofs.book.add_page.Given as goal

abbrev pub invariant-loop-number : goal.invariant-loop-number
invariant-loop-number l =
    l.entries.items ≡ l.initial.entries.items ++ map (entry_of l.client (record { note = l.note; fate = l.fate })) (range_with_len l.next (l.number - l.next))
