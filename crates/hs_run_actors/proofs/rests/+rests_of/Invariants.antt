use Rattle.std.proofs.Common.{length}
use Rattle.hs_run_actors.proofs.rests.+rests_of.Given as goal

abbrev pub decreases-rests_of : goal.decreases-rests_of
decreases-rests_of g l = length l.senders.items
