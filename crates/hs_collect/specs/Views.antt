-- A collector without where it lies in memory: its traces, in the order of their first pages, with their records.
use Rattle.std.specs.Prelude.{List, map}
use Rattle.hs_base.specs.declared.ids.TraceId.{TraceId}
use Rattle.hs_words.specs.declared.page.Header.{Header}
use Rattle.hs_words.specs.declared.page.Point.{Point}
use Rattle.hs_words.specs.Pages.{Sheet, piece_of}
use Rattle.hs_collect.specs.declared.records.TraceRecord.{TraceRecord}
use Rattle.hs_collect.specs.declared.records.TraceRecords.{TraceRecords}
use Rattle.hs_collect.specs.Collected.{Placed}

abbrev pub placed_of : TraceRecord → Placed
placed_of entry = record { id = entry.id; moment = entry.moment; payload = entry.payload.items }

abbrev pub wholes_of : TraceRecords → List Placed
wholes_of records = map placed_of records.entries.items

abbrev pub Pieces : Type 0
Pieces = List Placed

-- a page without where it lies in memory, of its parts
abbrev pub sheet_with : Header → List Point → Sheet
sheet_with header points = record { header = header; pieces = map piece_of points }

-- added pages, in the order of adding
abbrev pub Sheets : Type 0
Sheets = List Sheet

abbrev pub Collection : Type 0
Collection = List (TraceId × List Placed)

abbrev pub collection_of : List (TraceId × TraceRecords) → Collection
collection_of traces = map (λ entry. (entry.0, wholes_of entry.1)) traces
