-- What a journal notes of the rounds, where they stood behind so many of them.
use Rattle.std.specs.Prelude.{◌≡◌, ℕ, ◌<◌, ◌≤◌, take, slice_get, Some}
use Rattle.std.specs.List.{flat_map}
use Rattle.hs_coord.specs.Messages.{Messages}
use Rattle.hs_records.specs.Journals.{PlainJournal}
use Rattle.hs_records.specs.Plain.{PlainWorkload}
use Rattle.hs_client.specs.Draws.{count_started}
use Rattle.hs_client.specs.Sending.{draws_at, place_of, ops_of}
use Rattle.hs_records.specs.Validity.{IsValid}
use Rattle.hs_law_journal.specs.Following.{log_at}
use Rattle.hs_law_journal.specs.Passes.{passes_of}
use Rattle.hs_law_journal.specs.Doings.{steps_of}
use Rattle.hs_law_run.specs.Ends.{done_by}
use Rattle.hs_run_actors.specs.ClientActors.{PlainClientActor}
use Rattle.hs_run.specs.RunStates.{PlainNodeActors, RunState}
use Rattle.hs_run.specs.Coming.{Came}
use Rattle.hs_run.specs.Spans.{NodeBetweenPasses}
use Rattle.hs_run.specs.Closing.{Closing}
use Rattle.hs_run.specs.Laws.{IsRecounted}

-- A client behind so many rounds: it had done their operations, and had drawn for the pages that these start, which are its first draws.
pub record NotesClient (W : PlainWorkload) (J : PlainJournal) (node client rounds : ℕ) (caller : PlainClientActor) : Type 0 where
  pub done : caller.done ≡ done_by W node client rounds
  pub draws : take (count_started W.settings.size (ops_of W node client) (done_by W node client rounds)) (draws_at J (place_of W.settings.clients node client)) ≡ caller.client.core.draws

-- Behind so many rounds each agent had done what the journal notes in its first so many passes, and each client has its first draws.
pub record NotesRounds (W : PlainWorkload) (rounds : ℕ) (m : RunState) (came : Came W rounds m) (J : PlainJournal) : Type 0 where
  pub logs : (node k : ℕ) → node < W.settings.nodes → k ≤ rounds → flat_map (λ pass. pass) (take k (passes_of (log_at J node))) ≡ steps_of ((came.at k).works node).events
  pub clients : (node client k : ℕ) (site : PlainNodeActors) (caller : PlainClientActor) → k ≤ rounds → slice_get (came.at k).standing.nodes node ≡ Some site → slice_get site.callers client ≡ Some caller → NotesClient W J node client k caller

-- The journal that a run comes to notes its rounds.
abbrev pub JournalsNoteRounds : Type 0
JournalsNoteRounds =
    (W : PlainWorkload) (rounds : ℕ) (m : RunState) (passes : ℕ) (nodes : ℕ → NodeBetweenPasses) (heard : Messages) → IsValid W → (came : Came W rounds m) → Closing W rounds m passes nodes heard → (J : PlainJournal) → IsRecounted W m nodes heard J
    → NotesRounds W rounds m came J
