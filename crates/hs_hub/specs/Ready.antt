-- Which trace nothing more is to come of: the first such trace of the oldest group that has one. A group's traces are its lead and its
-- laterals.
use Rattle.std.specs.Prelude.{Bool, ◌&&◌, ◌==◌, List, [], ◌∷◌, find, Option, Some, None, if◌then◌else◌}
use Rattle.hs_base.specs.declared.ids.TraceId.{TraceId}
use Rattle.hs_groups.specs.declared.followed_group.FollowedGroup.{FollowedGroup}
use Rattle.hs_groups.specs.Groups.{PlainGroups}
use Rattle.hs_standings.specs.Standing.{PlainStandings}
use Rattle.hs_traces.specs.Traces.{PlainTraces, is_waiting, keys_in}
use Rattle.hs_verdict.specs.Pages.{are_full}
use Rattle.hs_verdict.specs.Verdict.{has_all}

-- whether pages of a trace wait, all that lives say they handed out, and nothing more is to come of it
abbrev pub is_ready : PlainGroups → PlainStandings → PlainTraces → TraceId → Bool
is_ready g s p trace = is_waiting p trace && (are_full s trace (keys_in p.waiting trace) && has_all g s trace)

abbrev pub traces_of : FollowedGroup → List TraceId
traces_of followed = followed.ask.group.lead ∷ followed.ask.laterals

-- the first trace of a group that is ready; none is where the group waits for an answer
abbrev pub ready_of : PlainGroups → PlainStandings → PlainTraces → FollowedGroup → Option TraceId
ready_of g s p followed = if followed.waiting.0 == 0 then find (is_ready g s p) (traces_of followed) else None

-- the first of the first of these groups that has one
abbrev pub or_else : Option TraceId → Option TraceId → Option TraceId
or_else (Some trace) other = Some trace
or_else None other = other

abbrev pub first_ready : PlainGroups → PlainStandings → PlainTraces → List FollowedGroup → Option TraceId
first_ready g s p [] = None
first_ready g s p (followed ∷ groups) = or_else (ready_of g s p followed) (first_ready g s p groups)
