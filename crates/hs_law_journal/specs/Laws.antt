-- What holds of lawful journals as a whole. Whether the events of a pool are a history is decided by a test, and so is whether a
-- journal is lawful: it is, exactly where no clause fails. And each agent of a journal that is followed stands as the events that
-- it met lead to, so all that is proved of the agent's model holds of it.
use Rattle.std.specs.Prelude.{◌≡◌, ℕ, true, List, None}
use Rattle.std.specs.List.{AllByRecursion}
use Rattle.hs_records.specs.Journals.{PlainJournal}
use Rattle.hs_law_agent.specs.Stepping.{after}
use Rattle.hs_records.specs.Plain.{PlainSettings, PlainWorkload}
use Rattle.hs_words.specs.PoolHistory.{PoolEvent, IsPoolHistory}
use Rattle.hs_law_journal.specs.Following.{NodeRun, followed}
use Rattle.hs_law_journal.specs.Lawful.{IsLawful, first_unlawful}
use Rattle.hs_law_journal.specs.Pooled.{is_history}

-- the test of histories answers yes exactly for these
abbrev pub HistoriesAreDecided : Type 0
HistoriesAreDecided = (n : ℕ) (events : List PoolEvent) → (is_history n events ≡ true → IsPoolHistory n events) × (IsPoolHistory n events → is_history n events ≡ true)

-- a journal is lawful exactly where no clause fails
abbrev pub LawfulIsDecided : Type 0
LawfulIsDecided = (W : PlainWorkload) (J : PlainJournal) → (first_unlawful W J ≡ None → IsLawful W J) × (IsLawful W J → first_unlawful W J ≡ None)

-- an agent stands as its events lead to
abbrev pub ComesByEvents : PlainSettings → NodeRun → Type 0
ComesByEvents settings run = run.state ≡ after settings run.node run.events

abbrev pub AgentsComeByEvents : Type 0
AgentsComeByEvents = (W : PlainWorkload) (J : PlainJournal) → AllByRecursion (ComesByEvents W.settings) (followed W J).nodes
