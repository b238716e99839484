-- What may be relied on at every machine on its way: each node's pool has a history with far fewer events than there are stamps, and
-- what clients send, agents tell and the coordinator asks names nodes and trigger ids of the workload.
use Rattle.std.specs.Prelude.{◌≡◌, ℕ, ◌<◌, ◌^◌, List, length, Some}
use Rattle.std.specs.List.{AllByRecursion}
use Rattle.hs_records.specs.declared.journal.Step.{Step}
use Rattle.hs_law_agent.specs.Leading.{IsToldBelow}
use Rattle.hs_law_agent.specs.Stepping.{Input, Took}
use Rattle.hs_records.specs.Plain.{PlainWorkload}
use Rattle.hs_words.specs.PoolHistory.{IsPoolHistory}
use Rattle.hs_records.specs.Validity.{IsValid}
use Rattle.hs_law_journal.specs.Following.{NodeRun, event_of}
use Rattle.hs_law_journal.specs.Pooled.{pool_history}
use Rattle.hs_law_run.specs.Lockstep.{Machine}
use Rattle.hs_law_run.specs.Parts.{node_at, heard_in}
use Rattle.hs_law_journal.specs.Performing.{after_steps}
use Rattle.hs_law_run.specs.Reaching.{IsReached}
use Rattle.hs_law_journal.specs.Fitting.{MayTake}

pub record IsFit (W : PlainWorkload) (m : Machine) (i : ℕ) (run : NodeRun) : Type 0 where
  pub history : IsPoolHistory W.settings.buffers (pool_history run)
  pub stamps : length (pool_history run) < 2 ^ 32
  -- each item that waits may be taken, whatever steps the node performed first
  pub takes : (front : List Step) (step : Step) (middle : NodeRun) (input : Input) → after_steps W.settings (heard_in W m.journal) front run ≡ Some middle → event_of middle (heard_in W m.journal) step ≡ Some (Took input)
      → MayTake W.settings i middle.state input

abbrev pub MachinesFit : Type 0
MachinesFit = (W : PlainWorkload) → IsValid W → (m : Machine) → IsReached W m → (i : ℕ) (run : NodeRun) → node_at W m.journal i ≡ Some run → IsFit W m i run

-- what is told leads to nodes that there are
abbrev pub MachinesTellWithin : Type 0
MachinesTellWithin =
    (W : PlainWorkload) → IsValid W → (m : Machine) → IsReached W m → (i : ℕ) (run : NodeRun) → node_at W m.journal i ≡ Some run → AllByRecursion (IsToldBelow W.settings.nodes) run.state.said
