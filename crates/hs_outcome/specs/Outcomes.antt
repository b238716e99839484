-- When books are those of a workload and a journal, and when an outcome is what these come to. The collector has what the
-- reported pages collect, node by node, as they were reported.
use Rattle.std.specs.Prelude.{◌≡◌, map}
use Rattle.hs_collect.specs.Collected.{AreCollected}
use Rattle.hs_records.specs.Books.{client_book_of, agent_book_of}
use Rattle.hs_records.specs.Journals.{PlainJournal, journal_of}
use Rattle.hs_law_journal.specs.Following.{followed}
use Rattle.hs_law_journal.specs.Lawful.{IsLawful}
use Rattle.hs_ledger.specs.Totals.{totals_of}
use Rattle.hs_law_outcome.specs.Outcomes.{client_books, agent_books, outcome_of}
use Rattle.hs_records.specs.Plain.{PlainWorkload}
use Rattle.hs_records.specs.Validity.{IsValid}
use Rattle.hs_outcome.specs.declared.outcome.Books.{Books}
use Rattle.hs_outcome.specs.declared.outcome.Outcome.{Outcome}

-- These books were noted where the journal came about, which is lawful for the workload.
pub record AreBooksOf (W : PlainWorkload) (J : PlainJournal) (books : Books) : Type 0 where
  pub valid : IsValid W
  pub lawful : IsLawful W J
  pub version : books.version ≡ W.version
  pub nodes : books.nodes ≡ W.settings.nodes
  pub each : books.each ≡ W.settings.clients
  pub clients : map client_book_of books.clients.items ≡ client_books W J
  pub agents : map agent_book_of books.agents.items ≡ agent_books (followed W J)
  pub told : books.told.items ≡ J.told

-- The outcome is what the workload and the journal come to.
pub record IsOutcome (W : PlainWorkload) (J : PlainJournal) (outcome : Outcome) : Type 0 where
  pub version : outcome.version ≡ W.version
  pub journal : journal_of outcome.journal ≡ J
  pub entries : outcome.ledger.entries.items ≡ (outcome_of W J).entries
  pub totals : outcome.ledger.totals ≡ totals_of (outcome_of W J).entries
  pub claimed : outcome.claimed.items ≡ (outcome_of W J).claimed
  pub collected : AreCollected (outcome_of W J).reported outcome.collector
