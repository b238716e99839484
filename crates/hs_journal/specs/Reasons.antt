-- The word of each reason, by which a refusal names it.
use Rattle.std.specs.Prelude.{◌≡◌, ℕ, List, codes, refl}
use Rattle.hs_journal.specs.declared.refusal.JournalReason.{JournalReason}
use Rattle.hs_journal.specs.declared.refusal.JournalReason.TheVariants.{Truncated, Byte, Spaces, Word, Count, Number, Range, Order}

abbrev pub reason_text : JournalReason → List ℕ
reason_text Truncated = codes "Truncated"
reason_text Byte = codes "Byte"
reason_text Spaces = codes "Spaces"
reason_text Word = codes "Word"
reason_text Count = codes "Count"
reason_text Number = codes "Number"
reason_text Range = codes "Range"
reason_text Order = codes "Order"
