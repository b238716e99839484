-- In which versions a workload has a text. The version changes only how many digits a trace has, so a workload fits a
-- version where each trace that its operations name has so few digits.
use Rattle.std.specs.Prelude.{ℕ, ⊤}
use Rattle.std.specs.List.{AllByRecursion}
use Rattle.hs_records.specs.Plain.{Operation, Begin, Fire, PlainWorkload}
use Rattle.hs_records.specs.Validity.{HasDigits}

-- the traces that an operation names have digits in a text of this version
abbrev pub HasTraces : ℕ → Operation → Type 0
HasTraces version (Begin trace) = HasDigits version trace
HasTraces version (Fire trigger) = HasDigits version trigger.lead × AllByRecursion (HasDigits version) trigger.laterals
HasTraces version _ = ⊤

-- all traces of a workload have
abbrev pub FitsVersion : ℕ → PlainWorkload → Type 0
FitsVersion version W = AllByRecursion (AllByRecursion (HasTraces version)) W.clients
