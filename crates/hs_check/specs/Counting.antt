-- How many steps of a kind there are behind each pass of a log.
use Rattle.std.specs.Prelude.{◌≡◌, ℕ, ◌+◌, Bool, List, [], ◌∷◌, take, count_by, is_some, if◌then◌else◌, refl}
use Rattle.std.specs.List.{flat_map}
use Rattle.hs_records.specs.declared.journal.Step.{Step}
use Rattle.hs_records.specs.declared.journal.Step.TheVariants as steps
use Rattle.hs_law_journal.specs.Following.{takes}
use Rattle.hs_law_journal.specs.Following as queues
use Rattle.hs_law_journal.specs.Shape.{step_stamp}
use Rattle.hs_check.specs.declared.kinds.Kind.{Kind}
use Rattle.hs_check.specs.declared.kinds.Kind.TheVariants as kinds
use Rattle.hs_check_follow.specs.Offering.{ends_front}

-- whether a step is of a kind
abbrev pub is_of : Kind → Step → Bool
is_of (kinds.Chunks client) step = takes (queues.Chunks client) step
is_of (kinds.Crumbs client) step = takes (queues.Crumbs client) step
is_of (kinds.Triggers client) step = takes (queues.Triggers client) step
is_of kinds.Asks step = takes queues.Asks step
is_of kinds.Stamped step = is_some (step_stamp step)

abbrev pub one_more : Bool → ℕ → ℕ
one_more b count = if b then count + 1 else count

-- how many steps pass the test behind each pass of these, and so many more
abbrev pub behind_each : (Step → Bool) → ℕ → List Step → List ℕ
behind_each test count [] = []
behind_each test count (step ∷ log) =
    if ends_front (step ∷ log) then one_more (test step) count ∷ behind_each test (one_more (test step) count) log else behind_each test (one_more (test step) count) log

-- how many steps of the first so many passes pass the test
abbrev pub count_in : (Step → Bool) → List (List Step) → ℕ → ℕ
count_in test passes k = count_by test (flat_map (λ pass. pass) (take k passes))

two_passes : behind_each (is_of (kinds.Chunks 0)) 0 (steps.Chunk 0 ∷ steps.Turn ∷ steps.Chunk 0 ∷ steps.Chunk 1 ∷ steps.Chunk 0 ∷ steps.Turn ∷ []) ≡ 1 ∷ 3 ∷ []
two_passes = refl
