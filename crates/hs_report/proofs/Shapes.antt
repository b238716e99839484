-- What a journal has that has a text.
use Rattle.hs_report.proofs.Prelude.{HasItsLists, PlainJournal}
use Rattle.hs_records.specs.Journals.{IsJournal}

-- a journal that has a text has its lists
pub has_its_lists : (J : PlainJournal) → IsJournal J → HasItsLists J
has_its_lists J is = record { nodes = is.nodes; clients = is.clients; draw_lists = is.draw_lists; log_lists = is.log_lists }
