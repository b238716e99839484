-- The rows of what a hub gives out. Where each page that came is one, whatever calls the hub has had, the pages that are out are pages in
-- the order of their keys, and a cursor comes by all their rows.
use Rattle.std.specs.Prelude.{◌≡◌, ℕ, List, take}
use Rattle.std.specs.List.{AllByRecursion}
use Rattle.hs_words.specs.Pages.{Sheet}
use Rattle.hs_words.specs.Reading.{Spells}
use Rattle.hs_traces.specs.declared.key.PageKey.{PageKey}
use Rattle.hs_cursor.specs.Rows.{rows_of}
use Rattle.hs_cursor.specs.Walking.{start, walked, AreSheets}
use Rattle.hs_hub.specs.Hub.{PlainHub, pages_out}
use Rattle.hs_hub.specs.Life.{HubAct, Hears, Tells, Reports, Says, Asks, Passes, Gives, LetsGo, Names}

-- what a call brings as a page is one
abbrev pub BringsPages : HubAct → Type 0
BringsPages (Hears node epoch) = Unit {0}
BringsPages (Tells message told) = Unit {0}
BringsPages (Reports message trace key bytes) = (sheet : Sheet) × Spells sheet bytes
BringsPages (Says message standing) = Unit {0}
BringsPages Asks = Unit {0}
BringsPages Passes = Unit {0}
BringsPages Gives = Unit {0}
BringsPages LetsGo = Unit {0}
BringsPages Names = Unit {0}

abbrev pub AllBringPages : List HubAct → Type 0
AllBringPages acts = AllByRecursion BringsPages acts

-- the bytes that are out are those of these pages, and any number of steps of a cursor answers as many of their rows from the front
abbrev pub GivesRows : PlainHub → Type 0
GivesRows h = (sheets : List (PageKey × Sheet)) × AreSheets sheets (pages_out h) × ((steps : ℕ) → walked (pages_out h) steps start ≡ take steps (rows_of sheets))
