-- The number with which the program ends, for each status.
use Rattle.std.specs.Prelude.{ℕ, ◌≡◌}
use Rattle.hs_workload.specs.declared.status.Status.{Status}
use Rattle.hs_workload.specs.declared.status.Status.TheVariants.{Done, Usage, Refused, ReadFault, WriteFault, Memory, TooLong, Unlawful}

abbrev pub status_number : Status → ℕ
status_number Done = 0
status_number Usage = 2
status_number Refused = 3
status_number ReadFault = 4
status_number WriteFault = 5
status_number Memory = 6
status_number TooLong = 7
status_number Unlawful = 8

-- neither stream failed
abbrev pub NoneFailed : (source source' sink sink' : ℕ) → Type 0
NoneFailed source source' sink sink' = (source' ≡ source) × (sink' ≡ sink)
