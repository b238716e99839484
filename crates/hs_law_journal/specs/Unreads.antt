-- The clause L7 of the lawful journal: an offer is unread only where it could be. An offer is unread where the entry of the pool
-- that it would fill still has a draw in it that nobody has collected. A journal shows that this could be: the offer's place is
-- that of an earlier draw, which got a buffer whose chunk was not given yet, and whose client has not drawn again as far as the
-- log can tell.
use Rattle.std.specs.Prelude.{◌≡◌, ℕ, ◌+◌, ◌-◌, ◌*◌, ◌/◌, Bool, false, not, ◌&&◌, ◌==◌, nat_lt, nat_le, List, length, map, take, filter, zip, count_by, slice_get, refl}
use Rattle.std.specs.List.{range_with_len, list_all, list_any}
use Rattle.std.specs.Option.{option_map_or}
use Rattle.hs_records.specs.declared.journal.Step.{Step}
use Rattle.hs_law_agent.specs.State.{AgentState, GivenPlace}
use Rattle.hs_records.specs.Plain.{PlainSettings}
use Rattle.hs_client.specs.Drawn.{DrawnPage, has_buffer, stamp_of}
use Rattle.hs_law_journal.specs.Following.{NodeRun}
use Rattle.hs_law_journal.specs.Passes.{is_turn, is_unread}
use Rattle.hs_law_journal.specs.Played.{Played, state_behind}
use Rattle.hs_law_journal.specs.Pooled.{by_stamp, node_pages, given_page, pool_events}
use Rattle.hs_law_journal.specs.Shape.{log_stamps}

-- the round of an operation
abbrev pub round_of : ℕ → ℕ → ℕ
round_of stride operation = operation / stride + 1

-- the pages of a node by the stamps of their draws
abbrev pub pages_by_stamp : NodeRun → List DrawnPage
pages_by_stamp run = by_stamp (λ (d : DrawnPage). stamp_of d.draw) (length (pool_events run)) (node_pages run)

abbrev pub same_page : DrawnPage → DrawnPage → Bool
same_page a b = a.client.number == b.client.number && a.number == b.number

-- whether the chunk of a page was given, where the agent stands so
abbrev pub is_given_in : NodeRun → AgentState → DrawnPage → Bool
is_given_in run state page = list_any (λ (given : GivenPlace). option_map_or (same_page page) (given_page run state given.place) false) state.given

-- whether the client of a page drew for a later page before one of these stamps
abbrev pub is_drawn_past : NodeRun → List ℕ → DrawnPage → Bool
is_drawn_past run stamps page =
    list_any (λ (d : DrawnPage). d.client.number == page.client.number && nat_lt page.number d.number && list_any (λ stamp. nat_lt (stamp_of d.draw) stamp) stamps) (node_pages run)

-- the place of the next offer in the pool's order of gives, which begin behind the buffers that it starts with
abbrev pub offer_place : PlainSettings → List Step → ℕ
offer_place settings earlier = settings.buffers + length (log_stamps earlier)

-- whether the page of that place's draw may still be uncollected behind these steps, in the pass that they are in
abbrev pub may_be_uncollected : PlainSettings → NodeRun → List Step → DrawnPage → Bool
may_be_uncollected settings run earlier page =
    has_buffer page.draw && not (is_given_in run (state_behind settings run (length earlier)) page) && not (is_drawn_past run (log_stamps earlier) page)
    && round_of settings.stride page.started == count_by is_turn earlier

-- whether an offer behind these steps may be unread
abbrev pub may_be_unread : PlainSettings → NodeRun → List Step → Bool
may_be_unread settings run earlier =
    let place = offer_place settings earlier in
    nat_le (2 * settings.buffers) place && option_map_or (may_be_uncollected settings run earlier) (slice_get (pages_by_stamp run) (place - 2 * settings.buffers)) false

-- the steps before each unread offer
abbrev pub before_unreads : List Step → List (List Step)
before_unreads log =
    map (λ (at : ℕ × Step). take at.0 log) (filter (λ (at : ℕ × Step). is_unread at.1) (zip (range_with_len 0 (length log)) log))

-- L7: what is unread
abbrev pub has_unreads : Played → Bool
has_unreads p = list_all (λ (run : NodeRun). list_all (may_be_unread p.workload.settings run) (before_unreads run.state.log)) p.run.nodes

-- operations of a stride of 8
rounds_of_operations : (round_of 8 0 ≡ 1) × (round_of 8 7 ≡ 1) × (round_of 8 8 ≡ 2) × (round_of 1 4 ≡ 5)
rounds_of_operations = (refl, refl, refl, refl)
