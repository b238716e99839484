-- That the books of a lawful journal fit together, so that a ledger can be made of them. A page for which a client got a buffer
-- is sent, and in the end its node's agent has taken all that was sent, each chunk once: so the page has one standing there.
use Rattle.std.specs.Prelude.{◌≡◌, ℕ, ◌<◌, ◌^◌, length, filter, All, refl}
use Rattle.hs_records.specs.Journals.{PlainJournal}
use Rattle.hs_ledger.specs.Books.{BooksFit, HaveStandings, is_of, standings_at}
use Rattle.hs_records.specs.Plain.{PlainWorkload}
use Rattle.hs_law_journal.specs.Following.{followed}
use Rattle.hs_law_journal.specs.Journals.{of_three_points, of_three_traces, of_short_of_pins}
use Rattle.hs_law_journal.specs.Lawful.{IsLawful}
use Rattle.hs_law_journal.specs.Workloads.{three_points, three_traces, short_of_pins}
use Rattle.hs_law_outcome.specs.Origins.{HasItsClients}
use Rattle.hs_law_outcome.specs.Outcomes.{client_books, agent_books}
use Rattle.hs_law_outcome.specs.Records.{EndsItsTraces, all_records}

-- Each page of a client for which a buffer was got has one standing at its node.
abbrev pub EachGotPageHasOneStanding : Type 0
EachGotPageHasOneStanding = (W : PlainWorkload) (J : PlainJournal) → EndsItsTraces W → HasItsClients W → IsLawful W J → All (HaveStandings (agent_books (followed W J))) (client_books W J)

-- All that a ledger asks of the books holds of those of a lawful journal, where records are few enough to be numbered.
abbrev pub BooksFitTogether : Type 0
BooksFitTogether =
    (W : PlainWorkload) (J : PlainJournal) → EndsItsTraces W → HasItsClients W → IsLawful W J → length (all_records W) < 2 ^ 32 → BooksFit (client_books W J) (agent_books (followed W J))

-- ---- examples

-- how many standings a page of a node's client has
abbrev standings_of : PlainWorkload → PlainJournal → (node number page : ℕ) → ℕ
standings_of W J node number page = length (filter (is_of (record { node = node; number = number }) page) (standings_at (agent_books (followed W J)) node))

-- the first page had a buffer, the second had none, and there is no third
one_and_none : (standings_of three_points of_three_points 0 0 0 ≡ 1) × (standings_of three_points of_three_points 0 0 1 ≡ 0) × (standings_of three_points of_three_points 0 0 2 ≡ 0)
one_and_none = (refl, refl, refl)

-- a page whose chunk was evicted has a standing as well
evicted_too : (standings_of three_traces of_three_traces 0 0 0 ≡ 1) × (standings_of three_traces of_three_traces 0 0 2 ≡ 1)
evicted_too = (refl, refl)

-- each node has the standings of its own clients
at_their_nodes : (standings_of short_of_pins of_short_of_pins 0 0 2 ≡ 1) × (standings_of short_of_pins of_short_of_pins 1 0 2 ≡ 1)
    × (length (filter (is_of (record { node = 1; number = 0 }) 2) (standings_at (agent_books (followed short_of_pins of_short_of_pins)) 0)) ≡ 0)
at_their_nodes = (refl, refl, refl)
