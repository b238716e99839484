-- Which window a rule looks at. A window that it does not look at has the size 0 and stays empty.
use Rattle.std.specs.Prelude.{ℕ, List, []}
use Rattle.hs_base.specs.declared.settings.AutoRule.{AutoRule}
use Rattle.hs_base.specs.declared.settings.AutoRule.TheVariants.{Exception, Percentile, Category, Queue}

-- how many values it ranks, and how many it counts
abbrev pub ranked_of : AutoRule → ℕ
ranked_of (Exception trigger) = 0
ranked_of (Percentile trigger window share) = window
ranked_of (Category trigger window share) = 0
ranked_of (Queue trigger window share laterals) = window

abbrev pub counted_of : AutoRule → ℕ
counted_of (Exception trigger) = 0
counted_of (Percentile trigger window share) = 0
counted_of (Category trigger window share) = window
counted_of (Queue trigger window share laterals) = 0

-- The rule ranks its values.
abbrev pub Ranks : AutoRule → Type 0
Ranks (Exception trigger) = ⊥
Ranks (Percentile trigger window share) = Unit {0}
Ranks (Category trigger window share) = ⊥
Ranks (Queue trigger window share laterals) = Unit {0}

-- the values of the window that it looks at, of those that are ranked and those that are counted
abbrev pub looked_at : AutoRule → List ℕ → List ℕ → List ℕ
looked_at (Exception trigger) ranked counted = []
looked_at (Percentile trigger window share) ranked counted = ranked
looked_at (Category trigger window share) ranked counted = counted
looked_at (Queue trigger window share laterals) ranked counted = ranked
