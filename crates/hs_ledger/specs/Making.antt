-- What the ledger's making keeps by the way: the newest standing of a page among those that came so far, and the
-- entries that a page adds or changes.
use Rattle.std.specs.Prelude.{ℕ, ◌-◌, ◌==◌, ◌&&◌, nat_lt, Bool, List, [], ◌∷◌, ◌++◌, map, Option, Some, unwrap_or, if◌then◌else◌}
use Rattle.std.specs.List.{flat_map, range_with_len}
use Rattle.hs_base.specs.declared.ids.ClientId.{ClientId}
use Rattle.hs_base.specs.declared.told.Fate.{Fate}
use Rattle.hs_base.specs.declared.told.Fate.TheVariants.{Null, Live}
use Rattle.hs_records.specs.declared.journal.Draw.{Draw}
use Rattle.hs_records.specs.declared.journal.Draw.TheVariants.{Got, Empty}
use Rattle.hs_records.specs.declared.books.Standing.{Standing}
use Rattle.hs_records.specs.Books.{PlainAgentBook}
use Rattle.hs_ledger.specs.declared.ledger.Entry.{Entry}
use Rattle.hs_ledger.specs.declared.standings.PageId.{PageId}
use Rattle.hs_ledger.specs.Books.{is_of, end_of}
use Rattle.hs_ledger.specs.Fates.{FatedPage, is_discarded}

-- the standings of all nodes
abbrev pub all_standings : List PlainAgentBook → List Standing
all_standings agents = flat_map (λ book. book.standings) agents

abbrev pub page_eq : PageId → PageId → Bool
page_eq a b = a.client.node == b.client.node && a.client.number == b.client.number && a.page == b.page

-- the fate of a page after these standings, of which the later ones count
abbrev pub newest : Option Fate → ClientId → ℕ → List Standing → Option Fate
newest fate client page [] = fate
newest fate client page (standing ∷ standings) = newest (if is_of client page standing then Some standing.fate else fate) client page standings

-- the fate of a page with this draw, where a standing has this fate
abbrev pub drawn_fate : Option Fate → Draw → Fate
drawn_fate standing (Empty stamp) = Null stamp
drawn_fate standing (Got buffer stamp) = unwrap_or standing Live

-- the fate of a record with one more piece of this fate
abbrev pub joined_fate : Fate → Fate → Fate
joined_fate fate more = if is_discarded fate then fate else (if is_discarded more then more else fate)

-- an entry whose record has one more piece of this fate
abbrev pub joined : Fate → Entry → Entry
joined more entry = record { id = entry.id; trace = entry.trace; fate = joined_fate entry.fate more }

-- the entries with one more piece of the last record
abbrev pub last_joined : Fate → List Entry → List Entry
last_joined more [] = []
last_joined more (entry ∷ []) = joined more entry ∷ []
last_joined more (entry ∷ next ∷ entries) = entry ∷ last_joined more (next ∷ entries)

-- a record all of whose pieces so far stand on this page
abbrev pub entry_of : ClientId → FatedPage → ℕ → Entry
entry_of client page number = record { id = record { client = client; number = number }; trace = page.note.trace; fate = page.fate }

-- the entries with those of one more page, where the next record has this number
abbrev pub with_page : ClientId → ℕ → FatedPage → List Entry → List Entry
with_page client next page entries =
    (if nat_lt page.note.first next then last_joined page.fate entries else entries) ++ map (entry_of client page) (range_with_len next (end_of page.note - next))
