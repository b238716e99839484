-- What the reader answers, from where it stands.
use Rattle.std.proofs.Common.{◌≡◌, ℕ, ◌+◌, List, Ok, subst, ◌∙◌}
use Rattle.hs_workload.proofs.Prelude.{IsReading, Reason, first_fault, Refuses, Draft, error_at, line_step}
use Rattle.hs_text.specs.Steps.{Stops}
use Rattle.hs_text.specs.JudgingLaws.{IsNext, reading_goes_on, line_refused}
use Rattle.hs_text.specs.declared.stop.Stop.{Stop}
use Rattle.hs_text.specs.declared.stop.Stop.TheVariants as stops
use Rattle.hs_workload.proofs.Seen.{workload_reader, numbered}
use Rattle.hs_workload.proofs.Whole.{first_fault-judged}

-- where a reader stands in a text, by its draft alone
abbrev pub IsAt : List ℕ → List ℕ → Draft → Type 0
IsAt text rest d = IsReading workload_reader text rest (d.lines + 1) d

pub at_next : (text rest line behind : List ℕ) (d next : Draft) → IsAt text rest d → IsNext rest line behind → line_step d line ≡ Ok next → IsAt text behind next
at_next text rest line behind d next at is step =
    let reading = reading_goes_on workload_reader text rest line behind (d.lines + 1) d next at is step in
    subst (λ (n : ℕ). IsReading workload_reader text behind n next) (numbered text behind (d.lines + 1 + 1) next reading) reading

-- a line that stopped the reader
pub stopped : (text rest line behind : List ℕ) (d : Draft) (stop : Stop Reason) → IsAt text rest d → IsNext rest line behind → Stops stop (line_step d line)
    → Refuses (first_fault text) (error_at (d.lines + 1) stop)
stopped text rest line behind d stops.Memory at is step = tt
stopped text rest line behind d (stops.Fault reason) at is step = first_fault-judged text ∙ line_refused workload_reader text rest line behind (d.lines + 1) d reason at is step
