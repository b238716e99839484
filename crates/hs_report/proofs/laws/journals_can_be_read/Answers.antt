use Rattle.hs_report.proofs.Readable.{readable}
use Rattle.hs_report.proofs.laws.journals_can_be_read.Goals as goal

pub returns : goal.returns
returns c = readable c.pages_carry_the_records.ensures c.pages_hold_the_pieces.ensures c.pieces_are_counted.ensures c.lawful_journals_can_be_read.ensures
