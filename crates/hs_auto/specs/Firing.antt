-- When an autotrigger fires, and with which laterals, over the list of all samples that it was given, the latest first. A sample
-- is a value and the trace that it belongs to. What the answer looks at are the last few of that list: the window. Examples stand
-- in FiringExamples.
use Rattle.std.specs.Prelude.{ℕ, ◌*◌, List, [], ◌∷◌, length, take, map, filter, count_by, Bool, not, ◌&&◌, ◌==◌, nat_lt, nat_le, if◌then◌else◌}
use Rattle.hs_base.specs.declared.ids.TraceId.{TraceId}
use Rattle.hs_base.specs.declared.settings.AutoRule.{AutoRule}
use Rattle.hs_base.specs.declared.settings.AutoRule.TheVariants.{Exception, Percentile, Category, Queue}
use Rattle.hs_base.specs.declared.limits.TheConstants.{WHOLE_SHARE}
use Rattle.hs_auto.specs.declared.sampled.Sampled.{Sampled}
use Rattle.hs_auto.specs.declared.sampled.Sampled.TheVariants.{Quiet, Fired}

pub record Sample : Type 0 where
  pub value : ℕ
  pub trace : TraceId

abbrev pub values_of : List Sample → List ℕ
values_of samples = map (λ sample. sample.value) samples

abbrev pub traces_of : List Sample → List TraceId
traces_of samples = map (λ sample. sample.trace) samples

-- how many of the last values are less, and how many are equal
abbrev pub count_less : ℕ → List Sample → ℕ → ℕ
count_less window samples value = count_by (λ earlier. nat_lt earlier value) (take window (values_of samples))

abbrev pub count_equal : ℕ → List Sample → ℕ → ℕ
count_equal window samples value = count_by (λ earlier. earlier == value) (take window (values_of samples))

-- at least so many samples came earlier
abbrev pub is_warm : ℕ → List Sample → Bool
is_warm window samples = nat_le window (length samples)

-- so many of the window are at least its share, in hundredths of a percent
abbrev pub reaches_share : ℕ → ℕ → ℕ → Bool
reaches_share window share count = nat_le (share * window) (count * WHOLE_SHARE)

-- whether a sample of this value fires after these samples
abbrev pub fires : AutoRule → List Sample → ℕ → Bool
fires (Exception trigger) samples value = not (value == 0)
fires (Percentile trigger window share) samples value = is_warm window samples && reaches_share window share (count_less window samples value)
fires (Category trigger window share) samples value = is_warm window samples && not (reaches_share window share (count_equal window samples value))
fires (Queue trigger window share laterals) samples value = is_warm window samples && reaches_share window share (count_less window samples value)

-- the traces without this one
abbrev pub without : TraceId → List TraceId → List TraceId
without trace traces = filter (λ other. not (other.0 == trace.0)) traces

-- each trace once, where it stands first
abbrev pub distinct : List TraceId → List TraceId
distinct [] = []
distinct (trace ∷ traces) = trace ∷ without trace (distinct traces)

-- the laterals of a sample of this trace that fires after these samples
abbrev pub laterals_after : AutoRule → List Sample → TraceId → List TraceId
laterals_after (Exception trigger) samples trace = []
laterals_after (Percentile trigger window share) samples trace = []
laterals_after (Category trigger window share) samples trace = []
laterals_after (Queue trigger window share laterals) samples trace = without trace (distinct (take laterals (traces_of samples)))

-- the answer to a sample
abbrev pub sampled : AutoRule → List Sample → Sample → Sampled
sampled rule samples sample = if fires rule samples sample.value then Fired (laterals_after rule samples sample.trace) else Quiet
