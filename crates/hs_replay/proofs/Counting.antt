-- What one step more takes from the queues.
use Rattle.std.proofs.Common.{◌≡◌, ◌+◌, true, List, [], ◌∷◌, ◌++◌, ap, arith}
use Rattle.hs_replay.proofs.Prelude.{one_if, Step, takes, taken}
use Rattle.hs_law_journal.specs.Following.{Queue}
use Rattle.hs_law_journal.proofs.Logs.{taken_push}

pub taken_once : (queue : Queue) (log : List Step) (step : Step) → takes queue step ≡ true → taken queue (log ++ step ∷ []) ≡ taken queue log + 1
taken_once queue log step own = let more = taken_push queue log step in let here = ap one_if own in omega (arith, more, here)
