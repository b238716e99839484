-- The four kinds over short lists of samples, the latest first.
use Rattle.std.specs.Prelude.{◌≡◌, ℕ, List, [], ◌∷◌, Bool, true, false, refl}
use Rattle.hs_base.specs.declared.settings.AutoRule.{AutoRule}
use Rattle.hs_base.specs.declared.settings.AutoRule.TheVariants.{Exception, Percentile, Category, Queue}
use Rattle.hs_base.specs.Samples.{t as trace}
use Rattle.hs_auto.specs.declared.sampled.Sampled.TheVariants.{Quiet, Fired}
use Rattle.hs_auto.specs.Firing.{Sample, fires, laterals_after, distinct, sampled}

-- a sample of this value and trace
abbrev of : ℕ → ℕ → Sample
of value id = record { value = value; trace = trace id }

-- the answers to samples of these values, the first first, each after the ones before it
abbrev answers : AutoRule → List Sample → List ℕ → List Bool
answers rule earlier [] = []
answers rule earlier (value ∷ values) = fires rule earlier value ∷ answers rule (of value 0 ∷ earlier) values

exception_fires_where_not_0 : answers (Exception (record { 0 = 1 })) [] (0 ∷ 1 ∷ 0 ∷ 7 ∷ []) ≡ false ∷ true ∷ false ∷ true ∷ []
exception_fires_where_not_0 = refl

-- the fifth has three of four less than it, the sixth only two
percentile_of_six : answers (Percentile (record { 0 = 1 }) 4 7500) [] (10 ∷ 20 ∷ 30 ∷ 40 ∷ 35 ∷ 35 ∷ []) ≡ false ∷ false ∷ false ∷ false ∷ true ∷ false ∷ []
percentile_of_six = refl

-- three of four are less, but they are only three
percentile_waits_for_its_window : answers (Percentile (record { 0 = 1 }) 4 1) [] (1 ∷ 2 ∷ 3 ∷ 4 ∷ []) ≡ false ∷ false ∷ false ∷ false ∷ []
percentile_waits_for_its_window = refl

-- an equal value is not less
percentile_counts_less_alone : answers (Percentile (record { 0 = 1 }) 2 1) [] (5 ∷ 5 ∷ 5 ∷ 6 ∷ []) ≡ false ∷ false ∷ false ∷ true ∷ []
percentile_counts_less_alone = refl

-- the fifth has one equal of four, the sixth two, which is the share
category_of_six : answers (Category (record { 0 = 1 }) 4 5000) [] (1 ∷ 1 ∷ 1 ∷ 2 ∷ 2 ∷ 2 ∷ []) ≡ false ∷ false ∷ false ∷ false ∷ true ∷ false ∷ []
category_of_six = refl

each_trace_once : distinct (trace 2 ∷ trace 1 ∷ trace 2 ∷ trace 3 ∷ trace 1 ∷ []) ≡ trace 2 ∷ trace 1 ∷ trace 3 ∷ []
each_trace_once = refl

abbrev queue : AutoRule
queue = Queue (record { 0 = 1 }) 2 5000 2

queue_of_four :
    (sampled queue [] (of 1 1) ≡ Quiet) × (sampled queue (of 1 1 ∷ []) (of 1 2) ≡ Quiet)
    × (sampled queue (of 1 2 ∷ of 1 1 ∷ []) (of 5 3) ≡ Fired (trace 2 ∷ trace 1 ∷ []))
    × (sampled queue (of 5 3 ∷ of 1 2 ∷ of 1 1 ∷ []) (of 9 2) ≡ Fired (trace 3 ∷ []))
queue_of_four = (refl, refl, refl, refl)

-- the last two are taken first, and only then rid of repeats
repeats_take_room : laterals_after queue (of 1 4 ∷ of 1 4 ∷ of 1 5 ∷ []) (trace 9) ≡ trace 4 ∷ []
repeats_take_room = refl

others_give_no_laterals :
    (sampled (Exception (record { 0 = 1 })) (of 1 4 ∷ []) (of 1 9) ≡ Fired [])
    × (sampled (Percentile (record { 0 = 1 }) 2 1) (of 1 4 ∷ of 1 5 ∷ []) (of 2 9) ≡ Fired [])
    × (sampled (Category (record { 0 = 1 }) 2 1) (of 1 4 ∷ of 1 5 ∷ []) (of 2 9) ≡ Fired [])
others_give_no_laterals = (refl, refl, refl)
