-- What is worked off behind the rounds. A pass takes items and asks, each of which gives an agent one thing more to bear or to say at most;
-- it hears messages; and a turn takes something off where something is pinned. So each pass before which anything is left is paid for.
use Rattle.std.specs.Prelude.{ℕ, zero, suc, ◌+◌, ◌*◌, ◌≤◌, List, [], ◌∷◌, length}
use Rattle.hs_coord.specs.Messages.{Messages}
use Rattle.hs_records.specs.declared.journal.Step.{Step}
use Rattle.hs_records.specs.declared.journal.Step.TheVariants as steps
use Rattle.hs_law_agent.specs.Laws.{borne}
use Rattle.hs_law_agent.specs.State.{AgentState}
use Rattle.hs_law_journal.specs.Doings.{steps_of}
use Rattle.hs_records.specs.Plain.{PlainWorkload}
use Rattle.hs_run_actors.specs.Agents.{state_at}
use Rattle.hs_run_actors.specs.Coordinators.{heard_of}
use Rattle.hs_run_actors.specs.Work.{NodeWork}

-- how many items or asks a step takes
abbrev pub weigh : Step → ℕ
weigh (steps.Chunk client) = 1
weigh (steps.Crumb client) = 1
weigh (steps.Trigger client) = 1
weigh steps.Ask = 1
weigh _ = 0

abbrev pub worked : List Step → ℕ
worked [] = 0
worked (step ∷ log) = weigh step + worked log

-- what an agent bears, and its messages
abbrev pub load : AgentState → ℕ
load state = borne state + length state.said

abbrev pub load_of : PlainWorkload → NodeWork → ℕ
load_of W work = load (state_at W work)

-- what was done for a node: two for each item and ask that it took, and one for each of its messages that was heard
abbrev pub done_for : ℕ → Messages → NodeWork → ℕ
done_for node heard work = 2 * worked (steps_of work.events) + length (heard_of node heard)

abbrev pub total : (ℕ → ℕ) → ℕ → ℕ
total f zero = 0
total f (suc n) = total f n + f n

-- What was done for all nodes pays for their loads and for so many passes.
abbrev pub PaysFor : PlainWorkload → ℕ → (ℕ → NodeWork) → Messages → Type 0
PaysFor W passes works heard = passes + total (λ node. load_of W (works node)) W.settings.nodes ≤ total (λ node. done_for node heard (works node)) W.settings.nodes
