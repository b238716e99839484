-- The word of each reason, by which a refusal names it.
use Rattle.std.specs.Prelude.{ℕ, List, codes}
use Rattle.hs_workload.specs.declared.refusal.Reason.{Reason}
use Rattle.hs_workload.specs.declared.refusal.Reason.TheVariants.{Truncated, Byte, Spaces, Word, Count, Number, Hex, Range, Order, Unknown, Open, NoTrace, StillOpen, TooMany}

abbrev pub reason_text : Reason → List ℕ
reason_text Truncated = codes "Truncated"
reason_text Byte = codes "Byte"
reason_text Spaces = codes "Spaces"
reason_text Word = codes "Word"
reason_text Count = codes "Count"
reason_text Number = codes "Number"
reason_text Hex = codes "Hex"
reason_text Range = codes "Range"
reason_text Order = codes "Order"
reason_text Unknown = codes "Unknown"
reason_text Open = codes "Open"
reason_text NoTrace = codes "NoTrace"
reason_text StillOpen = codes "StillOpen"
reason_text TooMany = codes "TooMany"
