-- What the end of a run answers: books of a lawful journal of its workload.
use Rattle.std.specs.Prelude.{◌≡◌, ℕ, Result, Ok}
use Rattle.hs_base.specs.Listing.{Listing}
use Rattle.hs_base.specs.declared.ids.NodeId.{NodeId}
use Rattle.hs_base.specs.declared.ids.Memory.{Memory}
use Rattle.hs_records.specs.declared.books.AgentBook.{AgentBook}
use Rattle.hs_records.specs.declared.books.ClientBook.{ClientBook}
use Rattle.hs_records.specs.declared.operation.Workload.{Workload}
use Rattle.hs_records.specs.Journals.{PlainJournal}
use Rattle.hs_records.specs.Plain.{PlainWorkload}
use Rattle.hs_run.specs.RunStates.{RunState}
use Rattle.hs_run.specs.Coming.{Came}
use Rattle.hs_run.specs.Noting.{NotesRounds}
use Rattle.hs_outcome.specs.Outcomes.{AreBooksOf}
use Rattle.hs_outcome.specs.declared.outcome.Books.{Books}

-- The books are those of a lawful journal of the workload.
abbrev pub AreLawfulBooks : PlainWorkload → Books → Type 0
AreLawfulBooks W books = (J : PlainJournal) × AreBooksOf W J books

-- The books are those of a lawful journal of the workload that notes these rounds.
abbrev pub AreBooksBehind : (W : PlainWorkload) (rounds : ℕ) (m : RunState) → Came W rounds m → Books → Type 0
AreBooksBehind W rounds m came books = (J : PlainJournal) × AreBooksOf W J books × NotesRounds W rounds m came J

-- The books of a run of this workload have the clients' books, those of the agents, and the nodes that the coordinator heard.
pub record AreGathered (w : Workload) (clients : Listing ClientBook) (agents : Result (Listing AgentBook) Memory) (told : Result (Listing NodeId) Memory) (books : Books) : Type 0 where
  pub version : books.version ≡ w.version
  pub nodes : books.nodes ≡ w.settings.nodes
  pub each : books.each ≡ w.settings.clients
  pub clients_are : books.clients ≡ clients
  pub agents_are : agents ≡ Ok books.agents
  pub told_are : told ≡ Ok books.told
