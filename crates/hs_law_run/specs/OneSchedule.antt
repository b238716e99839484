-- That a workload has one lockstep schedule in both versions.
use Rattle.std.specs.Prelude.{◌≡◌, ℕ}
use Rattle.hs_records.specs.Plain.{PlainWorkload}
use Rattle.hs_law_run.specs.Lockstep.{lockstep}

-- The schedule of a workload is the same whichever version of the text it is written in.
abbrev pub VersionsHaveOneSchedule : Type 0
VersionsHaveOneSchedule = (W : PlainWorkload) (version : ℕ) → lockstep (record W { version = version }) ≡ lockstep W
