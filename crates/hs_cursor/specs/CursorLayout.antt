-- How a cursor lies in memory, and a row that lends its payload.
use Rattle.std.specs.Prelude.{◌+◌, ◌≤◌, ◌^◌}
use Rattle.hs_cursor.specs.declared.cursor.Row.{Row}
use Rattle.hs_cursor.specs.declared.cursor.Cursor.TheInside.{Inside}
use Rattle.hs_cursor.specs.Rows.{PlainRow}
use Rattle.hs_cursor.specs.Walking.{PlainCursor}

abbrev pub plain : Row → PlainRow
plain row = record {
  page = row.page;
  number = row.number;
  moment = row.moment;
  payload = row.payload.now;
  continues = row.continues;
  missing_pages = row.missing_pages;
  missing_records = row.missing_records;
}

abbrev pub place_in : Inside → PlainCursor
place_in a = record { page = a.page; at = a.at; number = a.number }

-- each record before it took bytes of the page
pub record IsSmall (a : Inside) : Type 0 where
  pub number : a.number ≤ 2 ^ 32 + a.at
