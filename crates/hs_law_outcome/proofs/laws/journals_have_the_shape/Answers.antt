use Rattle.hs_law_outcome.proofs.Readable.{shape_of}
use Rattle.hs_law_outcome.proofs.laws.journals_have_the_shape.Goals as goal

pub returns : goal.returns
returns c = shape_of
