-- That the first passes of a log are what was noted in as many rounds.
use Rattle.std.specs.Prelude.{◌≡◌, ℕ, List, take}
use Rattle.std.specs.List.{AllByRecursion, flat_map}
use Rattle.hs_law_journal.specs.Doings.{joined, steps_of}
use Rattle.hs_law_journal.specs.LoopPasses.{IsPass}
use Rattle.hs_law_agent.specs.Stepping.{AgentEvent}
use Rattle.hs_records.specs.Plain.{PlainWorkload}
use Rattle.hs_law_journal.specs.Passes.{passes_of}

abbrev pub FirstPassesAreNoted : Type 0
FirstPassesAreNoted =
    (W : PlainWorkload) (passes : List (List AgentEvent)) → AllByRecursion (IsPass W) passes → (k : ℕ)
    → flat_map (λ pass. pass) (take k (passes_of (steps_of (joined passes)))) ≡ steps_of (joined (take k passes))
