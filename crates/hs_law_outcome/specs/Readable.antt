-- That a lawful journal is valid, so that it has a text. It has as many lists as its numbers of nodes and clients say; the clients,
-- nodes and buffers that it names are there; and a stamp is below the count of what happened at its pool, where each give and each
-- miss answers a draw.
use Rattle.std.specs.Prelude.{◌≡◌, ◌≤◌, ◌^◌, true, List, length, map, refl}
use Rattle.std.specs.List.{AllByRecursion}
use Rattle.hs_base.specs.declared.limits.TheConstants.{MAX_NODES, MAX_CLIENTS, MAX_BUFFERS}
use Rattle.hs_base.specs.Ranges.{Within}
use Rattle.hs_records.specs.Journals.{PlainJournal, IsJournal}
use Rattle.hs_records.specs.Pages.{pages_of}
use Rattle.hs_records.specs.Plain.{Operation, PlainWorkload}
use Rattle.hs_law_journal.specs.Journals.{of_three_points, of_four_nodes}
use Rattle.hs_law_journal.specs.Lawful.{IsLawful}
use Rattle.hs_law_journal.specs.Played.{played}
use Rattle.hs_law_journal.specs.Shape.{has_shape}
use Rattle.hs_law_journal.specs.Workloads.{three_points, four_nodes}
use Rattle.hs_law_outcome.specs.Origins.{HasItsClients}
use Rattle.hs_law_outcome.specs.Records.{EndsItsTraces}

-- The numbers of nodes, clients and buffers are within their limits, and no client has more pages than can be numbered. Every valid
-- workload keeps this.
pub record HasRoom (W : PlainWorkload) : Type 0 where
  pub nodes : Within 1 MAX_NODES W.settings.nodes
  pub clients : Within 1 MAX_CLIENTS W.settings.clients
  pub buffers : W.settings.buffers ≤ MAX_BUFFERS
  pub pages : AllByRecursion (λ (operations : List Operation). length (pages_of W.settings.size operations) ≤ 2 ^ 32) W.clients

-- A journal has the shape of a workload: the same nodes and clients, a log for each node, and a list of draws for each client.
pub record HasShape (W : PlainWorkload) (J : PlainJournal) : Type 0 where
  pub nodes : J.nodes ≡ W.settings.nodes
  pub clients : J.clients ≡ W.settings.clients
  pub logs : length J.logs ≡ W.settings.nodes
  pub draws : length J.draws ≡ length W.clients

-- That is what the first clause of the lawful journal asks of the lists.
abbrev pub JournalsHaveTheShape : Type 0
JournalsHaveTheShape = (W : PlainWorkload) (J : PlainJournal) → has_shape (played W J) ≡ true → HasShape W J

-- All numbers of a lawful journal are in their ranges.
abbrev pub LawfulJournalsAreJournals : Type 0
LawfulJournalsAreJournals = (W : PlainWorkload) (J : PlainJournal) → EndsItsTraces W → HasItsClients W → HasRoom W → IsLawful W J → IsJournal J

-- ---- examples

-- the two draws of the one client, of which the second found nothing, and its two pages
one_list : (map length of_three_points.draws ≡ map (λ (ops : List Operation). length (pages_of three_points.settings.size ops)) three_points.clients) × (length of_three_points.logs ≡ three_points.settings.nodes)
one_list = (refl, refl)

-- four nodes with a client each
four_lists : HasShape four_nodes of_four_nodes
four_lists = record { nodes = refl; clients = refl; logs = refl; draws = refl }
