-- What an agent gave back: the buffers bear the stamps of the gives in its log, one for one and in order.
use Rattle.std.specs.Prelude.{◌≡◌, ℕ, map, filter_map, Option, Some, None}
use Rattle.std.specs.List.{AllByRecursion}
use Rattle.hs_records.specs.declared.journal.Step.{Step}
use Rattle.hs_records.specs.declared.journal.Step.TheVariants as steps
use Rattle.hs_records.specs.Journals.{PlainJournal}
use Rattle.hs_law_agent.specs.State.{GivenPlace}
use Rattle.hs_records.specs.Plain.{PlainWorkload}
use Rattle.hs_law_journal.specs.Following.{NodeRun, Run, run_start}
use Rattle.hs_law_journal.specs.Orders.{Leads}

-- the stamp of a give
abbrev pub given_stamp : Step → Option ℕ
given_stamp (steps.Given stamp) = Some stamp
given_stamp _ = None

abbrev pub GivesAsNoted : NodeRun → Type 0
GivesAsNoted node = map (λ (given : GivenPlace). given.stamp) node.state.given ≡ filter_map given_stamp node.state.log

abbrev pub GivesAreNoted : Type 0
GivesAreNoted = (W : PlainWorkload) (J : PlainJournal) (run : Run) → Leads W.settings (run_start W J) run → AllByRecursion GivesAsNoted run.nodes
