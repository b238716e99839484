use Rattle.hs_hub.proofs.RowsOut.{gives_rows}
use Rattle.hs_hub.proofs.laws.rows_are_of_what_came.Goals as goal

pub returns : goal.returns
returns c = gives_rows
