use Rattle.std.proofs.Common.{refl}
use Rattle.hs_check_follow.proofs.Prelude.{followed}
use Rattle.hs_check_follow.proofs.FoundAll.{all_found}
use Rattle.hs_check_follow.proofs.run.FollowedRun.part.Goals as goal

pub returns-clause-found : goal.returns-clause-found
returns-clause-found c = λ W J at done.
    all_found c.runs_are_of_the_journal.ensures W J (followed W J) c.args.self.nodes.items c.args.self.hearing at done c.in_ok-found.found.items c.in_ok-found.ensures.found _ refl refl
