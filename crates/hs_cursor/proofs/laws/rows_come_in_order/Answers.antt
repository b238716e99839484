use Rattle.hs_cursor.proofs.Walks.{walks}
use Rattle.hs_cursor.proofs.laws.rows_come_in_order.Goals as goal

pub returns : goal.returns
returns c = walks
