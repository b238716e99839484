-- What contracts see of an autotrigger: its rule, and the end of the list of its samples, as far as the rule looks
-- back. Which lists of samples it may have been given follows from that.
use Rattle.std.specs.Prelude.{◌≡◌, ℕ, List, take}
use Rattle.hs_base.specs.declared.ids.TraceId.{TraceId}
use Rattle.hs_base.specs.declared.settings.AutoRule.{AutoRule}
use Rattle.hs_base.specs.declared.settings.AutoRule.TheVariants.{Exception, Percentile, Category, Queue}
use Rattle.hs_auto.specs.Firing.{Sample, values_of, traces_of}

-- the latest first
pub record Watch : Type 0 where
  pub rule : AutoRule
  pub values : List ℕ
  pub traces : List TraceId

-- how many values, and how many traces, a rule looks back at
abbrev pub window_of : AutoRule → ℕ
window_of (Exception trigger) = 0
window_of (Percentile trigger window share) = window
window_of (Category trigger window share) = window
window_of (Queue trigger window share laterals) = window

abbrev pub reach_of : AutoRule → ℕ
reach_of (Exception trigger) = 0
reach_of (Percentile trigger window share) = 0
reach_of (Category trigger window share) = 0
reach_of (Queue trigger window share laterals) = laterals

-- it was given these samples, the latest first, and no others
pub record HasSampled (watch : Watch) (samples : List Sample) : Type 0 where
  pub values : watch.values ≡ take (window_of watch.rule) (values_of samples)
  pub traces : watch.traces ≡ take (reach_of watch.rule) (traces_of samples)
