-- The first ready trace over groups that lie in two slices.
use Rattle.std.proofs.Common.{◌≡◌, List, [], ◌∷◌, ◌++◌, Option, Some, None, refl}
use Rattle.hs_base.specs.declared.ids.TraceId.{TraceId}
use Rattle.hs_groups.specs.declared.followed_group.FollowedGroup.{FollowedGroup}
use Rattle.hs_groups.specs.Groups.{PlainGroups}
use Rattle.hs_standings.specs.Standing.{PlainStandings}
use Rattle.hs_traces.specs.Traces.{PlainTraces}
use Rattle.hs_hub.specs.Ready.{ready_of, or_else, first_ready}

pub first_of_both : (g : PlainGroups) (s : PlainStandings) (p : PlainTraces) (xs ys : List FollowedGroup) → first_ready g s p (xs ++ ys) ≡ or_else (first_ready g s p xs) (first_ready g s p ys)
first_of_both g s p [] ys = refl
first_of_both g s p (x ∷ xs) ys = by_head (ready_of g s p x) (first_of_both g s p xs ys)
  where
    by_head : (o : Option TraceId) → first_ready g s p (xs ++ ys) ≡ or_else (first_ready g s p xs) (first_ready g s p ys)
        → or_else o (first_ready g s p (xs ++ ys)) ≡ or_else (or_else o (first_ready g s p xs)) (first_ready g s p ys)
    by_head None e = e
    by_head (Some trace) e = refl
