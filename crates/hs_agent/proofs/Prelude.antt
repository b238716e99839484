-- What several proofs of this crate take from other crates and from its own specs: each imports it from here.
pub use Rattle.hs_agent.specs.Arriving.{indexed, noted}
pub use Rattle.hs_agent.specs.Keeping.{all_held, AreApart, behind, first_point, crumbs_known, HasPage, Holds, IsIndexed, IsKept, Kept, pinned_place, plain_claim, PlainAgent, Point, RemembersAs, unoffered, waiting_chunks, with_state}
pub use Rattle.hs_agent.specs.KeptLayout.{kept_in}
pub use Rattle.hs_agent.specs.Leaving.{abandoned_for, AreLeft, back_after, came_back, evicted_of, left_at, left_of, mark_of, reported_for, standing_by, standing_of, with_left}
pub use Rattle.hs_agent.specs.LettingGo.{abandoned_going, evicted_going, let_go, let_go_all, page_in, reported, reported_going}
pub use Rattle.hs_agent.specs.Offering.{answered, back_at}
pub use Rattle.hs_agent.specs.Parting.{Going, going_buffer, going_left, going_of, hand_of, sent_pin}
pub use Rattle.hs_agent.specs.Placing.{place_of, Placed, placed_at, untagged}
pub use Rattle.hs_agent.specs.Points.{chunk_taken, claimed_for, crumb_taken, sheet_in}
pub use Rattle.hs_agent.specs.Reporting.{costs_of, id_of, SendsNext}
pub use Rattle.hs_agent.specs.Runs.{after_offer, Follows, input_of, IsTakable, point_of, AgentRun, StandsAt, state_of, taken_in}
pub use Rattle.hs_agent.specs.declared.input.Input.{Input}
pub use Rattle.hs_agent.specs.declared.hand.Left.{Left}
pub use Rattle.hs_agent.specs.declared.hand.ChunkNote.{ChunkNote}
pub use Rattle.hs_agent.specs.declared.hand.Out.{Out}
pub use Rattle.hs_agent.specs.declared.placed.ArrivalPlace.{ArrivalPlace}
pub use Rattle.hs_agent.specs.declared.placed.Tagged.{Tagged}
pub use Rattle.hs_base.specs.Ids.{same_trace}
pub use Rattle.hs_base.specs.NodeSetLaws.{has-no_nodes, has-with_node}
pub use Rattle.hs_base.specs.NodeSets.{has_node, no_nodes, with_node}
pub use Rattle.hs_base.specs.declared.ids.NodeId.{NodeId}
pub use Rattle.hs_base.specs.declared.ids.TraceId.{TraceId}
pub use Rattle.hs_base.specs.declared.ids.TriggerId.{TriggerId}
pub use Rattle.hs_base.specs.declared.node_set.NodeSet.{NodeSet}
pub use Rattle.hs_base.specs.declared.told.Ask.{Ask}
pub use Rattle.hs_base.specs.declared.told.Crumb.{Crumb}
pub use Rattle.hs_base.specs.declared.told.Fate.{Fate}
pub use Rattle.hs_base.specs.declared.told.Group.{Group}
pub use Rattle.hs_base.specs.declared.told.Told.{Told}
pub use Rattle.hs_base.specs.declared.told.Trigger.{Trigger}
pub use Rattle.hs_index.specs.Index.{chunk_count, chunks_left, count_chunks, evicted, going, Index, Indexed, is_of, kept, Leaving, leaving_of, PlainIndexedTrace, noted_of, nothing, others, settled, touch, with_chunk}
pub use Rattle.hs_law_agent.proofs.Traces.{same_trace-refl, same_trace-true}
pub use Rattle.hs_law_agent.specs.Abandoning.{abandon}
pub use Rattle.hs_law_agent.specs.Books.{book_of, bytes_at, claim_note, fate_of, page_standing}
pub use Rattle.hs_law_agent.specs.Claiming.{claim_each, claim_trace, claim_unclaimed, traces_of}
pub use Rattle.hs_law_agent.specs.Evicting.{evict, evict_trace}
pub use Rattle.hs_law_agent.specs.Laws.{count_of, IsInOnePlace, PlacesMatch}
pub use Rattle.hs_law_agent.specs.Lives.{EventsLeadOn, ListsGoOn, forget_group, is_settled}
pub use Rattle.hs_law_agent.specs.Messages.{crumb_nodes, has_crumb, late_of, same_crumb, told_of, with_crumb}
pub use Rattle.hs_law_agent.specs.Standings.{Abandoned, ChunkStanding, Evicted, indexed_count, indexed_places, is_among, is_indexed, is_indexed_of, moved, moved_from, Pinned, pinned_for, pinning_group, places_from, Reported, stands, Taken, trace_of}
pub use Rattle.hs_law_agent.specs.State.{AgentState, ClaimedTrace, is_abandoned, is_claimed, start}
pub use Rattle.hs_law_agent.specs.Stepping.{admit, admits, after, after_event, after_from, after_gave, AgentEvent, Answered, Asked, Chunk, claim_for, count_admitted, Crumbed, Gave, give_back, Given, group_of, late_crumb, Missed, note, note_trigger, pin_chunk, step_of, step_of_answer, take_answer, take_ask, take_chunk, take_crumb, take_input, take_trigger, tell_late, Took, Triggered, Turn, Unread, with_abandoned, with_indexed, with_pinned, with_touched}
pub use Rattle.hs_law_agent.specs.Turning.{report, reported_standing, turn, visit}
pub use Rattle.hs_base.proofs.Alls.{all_and, all_append, all_back, all_front, all_map, all_unmap, all_weaker}
pub use Rattle.hs_base.proofs.Bools.{by_answer}
pub use Rattle.hs_base.proofs.Counts.{one_if}
pub use Rattle.hs_base.proofs.Lent.{written_back}
pub use Rattle.hs_pins.proofs.Order.{same_group-true}
pub use Rattle.hs_pins.proofs.Sound.{staying_few}
pub use Rattle.hs_pins.specs.Abandoning.{drops, leaving, relieved}
pub use Rattle.hs_pins.specs.Choosing.{ordered_by, put_by}
pub use Rattle.hs_pins.specs.PinsLayout.{Pinning, Remembers, waiting}
pub use Rattle.hs_pins.specs.Priorities.{is_no_greater}
pub use Rattle.hs_pins.specs.Remembered.{arrived, Claim, claim_of, claimed, comes_back, crumbed, is_claim_of, is_for, is_under, Pin, pin_for, pin_of, pins_for, pins_under, Remembered, with_pin, without_group}
pub use Rattle.hs_pins.specs.Waiting.{goes_behind, used_bytes}
pub use Rattle.hs_records.specs.Books.{agent_book_of, PlainAgentBook}
pub use Rattle.hs_records.specs.Plain.{PlainSettings}
pub use Rattle.hs_records.specs.declared.books.Standing.{Standing}
pub use Rattle.hs_records.specs.declared.journal.Step.{Step}
pub use Rattle.hs_sched.specs.Sending.{SendsEach}
pub use Rattle.hs_sched.specs.Turns.{after_turn, IsSchedule, Schedule}
pub use Rattle.hs_sched.specs.Visits.{visited}
pub use Rattle.hs_sched.specs.declared.share.Share.{Share}
pub use Rattle.hs_words.specs.Buffers.{Buffer, buffer_in, buffer_of}
pub use Rattle.hs_words.specs.Chunks.{header_of, used_in, used_of}
pub use Rattle.hs_words.specs.Pages.{page_bytes, Sheet}
pub use Rattle.hs_words.specs.declared.page.Header.{Header}
pub use Rattle.std.proofs.Math.Bool.{or-false, or-true}
pub use Rattle.std.proofs.lemmas.Bool.{eqb-true, true≢false}
pub use Rattle.std.proofs.lemmas.List.{append_assoc, length-append, length-map, map-append}
pub use Rattle.std.proofs.lemmas.List.Elements.{All-from_recursion, All-tail, recursion_from_All}
pub use Rattle.std.proofs.lemmas.List.Sums.{fold-append, sum_by-cons}
pub use Rattle.std.proofs.lemmas.Option.{slice_get-get_or, slice_get-map, slice_get_within}
pub use Rattle.std.proofs.lemmas.Result.{on_ok_weaker}
pub use Rattle.std.proofs.lemmas.Simd.{map-map}
pub use Rattle.std.specs.List.{AllByRecursion, cons_option, list_any}
pub use Rattle.std.specs.Option.{is_some, IsSome, option_and_then, option_map, option_map_or, option_to_list}
pub use Rattle.std.specs.Prelude.{Err, filter_map, find, flat_map, IfOk, IfSome, Ok, OnOk, Result, ◌≢◌}
pub use borrow.Author.Tests.{ne_eqb}
