-- What a turn reports: what the trigger ids may send, each in its place in the rising order of ids. Of what is pinned for an id
-- the group that matters most comes first, and within a group what was pinned first. A visit reports as many of these, from the
-- front, as the id's deficit and its weight in pages pay for.
use Rattle.std.specs.Prelude.{ℕ, Bool, false, not, ◌==◌, List, ◌++◌, map, filter, take, fold, slice_get}
use Rattle.std.specs.Option.{option_map_or}
use Rattle.hs_words.specs.Chunks.{used_of}
use Rattle.hs_pins.specs.Choosing.{put_by, ordered_by}
use Rattle.hs_records.specs.Plain.{PlainSettings}
use Rattle.hs_sched.specs.declared.share.Share.{Share}
use Rattle.hs_sched.specs.Visits.{count_sent, visited}
use Rattle.hs_law_agent.specs.Standings.{ChunkStanding, Indexed, Pinned, Reported, Evicted, Abandoned, Taken, stands, pinned_for, is_among, moved}
use Rattle.hs_law_agent.specs.State.{AgentState}
use Rattle.hs_law_agent.specs.Abandoning.{is_no_greater}

-- whether a chunk is pinned for a group of the trigger id
abbrev pub is_pinned_under : ℕ → ChunkStanding → Bool
is_pinned_under id Indexed = false
is_pinned_under id (Pinned group) = group.trigger.0 == id
is_pinned_under id (Reported group) = false
is_pinned_under id (Evicted chunks traces) = false
is_pinned_under id (Abandoned group) = false

-- whether the group of one place is of no greater priority than that of the other
abbrev pub place_is_no_greater : List Taken → ℕ → ℕ → Bool
place_is_no_greater taken place other =
    option_map_or (λ group. option_map_or (is_no_greater group) (pinned_for taken other) false) (pinned_for taken place) false

-- a place stands before the first that is of no greater priority
abbrev pub put_before : List Taken → ℕ → List ℕ → List ℕ
put_before taken place places = put_by (place_is_no_greater taken) place places

-- by falling priority, and equal ones in the order in which they stand here
abbrev pub by_priority : List Taken → List ℕ → List ℕ
by_priority taken places = ordered_by (place_is_no_greater taken) places

-- what waits for a trigger id
abbrev pub order_of : AgentState → ℕ → List ℕ
order_of state id = by_priority state.taken (filter (stands (is_pinned_under id) state.taken) state.pinned)

-- the used bytes of the page at a place
abbrev pub used_at : List Taken → ℕ → ℕ
used_at taken place = option_map_or (λ (chunk : Taken). used_of chunk.sheet) (slice_get taken place) 0

abbrev pub costs_of : AgentState → ℕ → List ℕ
costs_of state id = map (used_at state.taken) (order_of state id)

-- a pinned chunk is reported for its group
abbrev pub reported_standing : ChunkStanding → ChunkStanding
reported_standing Indexed = Indexed
reported_standing (Pinned group) = Reported group
reported_standing (Reported group) = Reported group
reported_standing (Evicted chunks traces) = Evicted chunks traces
reported_standing (Abandoned group) = Abandoned group

abbrev pub report : List ℕ → AgentState → AgentState
report places state =
    record state {
      taken = moved places reported_standing state.taken;
      pinned = filter (λ place. not (is_among places place)) state.pinned;
      hand = state.hand ++ places;
      reported = state.reported ++ places;
    }

-- what a visit of a trigger id reports
abbrev pub visit : PlainSettings → AgentState → Share → AgentState
visit settings state share =
    report (take (count_sent settings.size share (costs_of state share.trigger.0)) (order_of state share.trigger.0)) state

-- the shares after a turn: no id changes what waits for another
abbrev pub shares_after : PlainSettings → AgentState → List Share
shares_after settings state = map (λ share. visited settings.size share (costs_of state share.trigger.0)) state.shares

abbrev pub with_shares : List Share → AgentState → AgentState
with_shares shares state = record state { shares = shares }

abbrev pub turn : PlainSettings → AgentState → AgentState
turn settings state = with_shares (shares_after settings state) (fold (visit settings) state state.shares)
