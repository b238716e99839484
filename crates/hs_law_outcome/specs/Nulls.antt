-- What a null record says. Its stamp is the place of a draw in the one history of its node's pool, and at that place no buffer
-- waited.
use Rattle.std.specs.Prelude.{◌≡◌, ℕ, List, ◌∷◌, ◌++◌, length, reverse, []}
use Rattle.std.specs.List.{AllByRecursion}
use Rattle.hs_records.specs.declared.journal.Draw.TheVariants as draws
use Rattle.hs_records.specs.Journals.{PlainJournal}
use Rattle.hs_records.specs.Plain.{PlainWorkload}
use Rattle.hs_client.specs.Drawn.{DrawnPage}
use Rattle.hs_words.specs.PoolHistory.{PoolEvent, Empty, queue_after}
use Rattle.hs_law_journal.specs.Following.{NodeRun, followed}
use Rattle.hs_law_journal.specs.Lawful.{IsLawful}
use Rattle.hs_law_journal.specs.Pooled.{node_pages, pool_history}
use Rattle.hs_law_outcome.specs.Records.{EndsItsTraces}

-- The draw at this stamp is an event of the node's pool, before which the queue is empty.
pub record FoundNothing (buffers : ℕ) (run : NodeRun) (stamp : ℕ) : Type 0 where
  pub earlier : List PoolEvent
  pub later : List PoolEvent
  pub history : pool_history run ≡ earlier ++ Empty ∷ later
  pub place : length earlier ≡ stamp
  pub queue : queue_after buffers (reverse earlier) ≡ []

abbrev pub NullsFoundNothing : PlainWorkload → NodeRun → Type 0
NullsFoundNothing W run = AllByRecursion (λ (page : DrawnPage). (stamp : ℕ) → page.draw ≡ draws.Empty stamp → FoundNothing W.settings.buffers run stamp) (node_pages run)

-- Of a lawful journal each draw that found nothing did so in the history.
abbrev pub EmptyDrawsFoundNothing : Type 0
EmptyDrawsFoundNothing = (W : PlainWorkload) (J : PlainJournal) → EndsItsTraces W → IsLawful W J → AllByRecursion (NullsFoundNothing W) (followed W J).nodes
