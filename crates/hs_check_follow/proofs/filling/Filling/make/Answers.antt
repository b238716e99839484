use Rattle.std.proofs.Common.{refl}
use Rattle.hs_check_follow.proofs.filling.Filling.make.Goals as goal

pub returns-then-keeping : goal.returns-then-keeping
returns-then-keeping c = record { client_is = refl; left = c.requires.kept c.if-keeping.true }

pub returns : goal.returns
returns c = record { client_is = refl; left = c.in_ok-play.ensures }
