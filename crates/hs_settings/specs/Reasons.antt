-- The word of each reason, by which a refusal names it.
use Rattle.std.specs.Prelude.{ℕ, List, codes}
use Rattle.hs_settings.specs.declared.refusal.SettingsReason.{SettingsReason}
use Rattle.hs_settings.specs.declared.refusal.SettingsReason.TheVariants.{Truncated, Byte, Spaces, Word, Twice, Count, Number, Range, Order, Unknown}

abbrev pub reason_text : SettingsReason → List ℕ
reason_text Truncated = codes "Truncated"
reason_text Byte = codes "Byte"
reason_text Spaces = codes "Spaces"
reason_text Word = codes "Word"
reason_text Twice = codes "Twice"
reason_text Count = codes "Count"
reason_text Number = codes "Number"
reason_text Range = codes "Range"
reason_text Order = codes "Order"
reason_text Unknown = codes "Unknown"
