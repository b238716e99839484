-- What several proofs of this crate take from other crates and from its own specs: each imports it from here.
pub use Rattle.hs_base.proofs.Alls.{all_append, all_at, all_back, all_by_place, all_each, all_flat_map, all_front, all_map, all_replicate, all_reverse}
pub use Rattle.hs_base.proofs.Counts.{count_append, count_cons, one_if}
pub use Rattle.hs_base.proofs.Filters.{filter_all, filter_few}
pub use Rattle.hs_base.proofs.Options.{option_unmap}
pub use Rattle.hs_base.proofs.Parts.{drop_length, map_flat, reverse_cons, take_length}
pub use Rattle.hs_base.proofs.Places.{get_front, get_mid, get_some, get_there, unwrap_other, unwrap_set}
pub use Rattle.hs_base.proofs.Ranges.{flat_range_alike, list_all_range_below, map_range_at, range_at}
pub use Rattle.hs_base.proofs.Tests.{list_all_from, list_any_none}
pub use Rattle.hs_base.specs.Rules.{is_declared}
pub use Rattle.hs_base.specs.declared.ids.ClientId.{ClientId}
pub use Rattle.hs_base.specs.declared.ids.NodeId.{NodeId}
pub use Rattle.hs_base.specs.declared.ids.TraceId.{TraceId}
pub use Rattle.hs_base.specs.declared.limits.TheConstants.{MAX_OPERATIONS, MAX_TAKEN, MIN_SIZE}
pub use Rattle.hs_base.specs.declared.settings.TriggerRule.{TriggerRule}
pub use Rattle.hs_base.specs.declared.told.Ask.{Ask}
pub use Rattle.hs_client.proofs.Order.{length_next}
pub use Rattle.hs_client.specs.Drawn.{drawn_from, drawn_pages, DrawnPage, has_buffer, stamp_of}
pub use Rattle.hs_client.specs.Draws.{count_started}
pub use Rattle.hs_client.specs.Laws.{IsTimely, TimedPagesAreTimely}
pub use Rattle.hs_client.specs.OneMore.{items_of}
pub use Rattle.hs_client.specs.Sending.{client_sends, ClientSends, draws_at, node_sends, operations_at, ops_of, place_of, Sent, sent_chunks, sent_within, sheet_of}
pub use Rattle.hs_client.specs.Timing.{timed_pages, TimedPage}
pub use Rattle.hs_coord.specs.Messages.{Message, message, Messages}
pub use Rattle.hs_law_agent.specs.Laws.{brought_by, CanReport, count_of, EventsAddThis, ListsHaveTheirChunks, noted_as, PlacesMatch, sheets_of}
pub use Rattle.hs_law_agent.specs.Standings.{stands, Taken}
pub use Rattle.hs_law_agent.specs.State.{AgentState, GivenPlace, start}
pub use Rattle.hs_law_agent.specs.Stepping.{after, after_event, after_from, AgentEvent, Answered, Asked, Chunk, Crumbed, Gave, Input, Missed, step_of_answer, Took, Triggered, Turn, Unread}
pub use Rattle.hs_law_journal.proofs.FewSent.{drawn_few}
pub use Rattle.hs_law_journal.proofs.Groups.{admitted_at, is_known, Speaks}
pub use Rattle.hs_law_journal.proofs.Passes.{passes_are}
pub use Rattle.hs_law_journal.proofs.Shares.{HaveWeights}
pub use Rattle.hs_law_journal.proofs.Sizes.{all_few}
pub use Rattle.hs_law_journal.proofs.Steps.{asks_more}
pub use Rattle.hs_law_journal.proofs.Sums.{sum_le, sum_lt, sum_to}
pub use Rattle.hs_law_journal.proofs.Supplied.{same_supply}
pub use Rattle.hs_law_journal.proofs.Workloads.{ends_at, place_low}
pub use Rattle.hs_law_journal.specs.Doings.{all_events, all_heard, asks_in, chunk_in, chunks_in, crumb_in, crumbs_in, Doings, events_in, joined, journal_of, last_state, node_at_end, NodeDoings, run_of, state_after, steps_of, trigger_in, triggers_in}
pub use Rattle.hs_law_journal.specs.Ends.{is_bare, rounds_for, rounds_of}
pub use Rattle.hs_law_journal.specs.Extending.{IsOfJournal, node_behind, run_behind, StepsAreNoted}
pub use Rattle.hs_law_journal.specs.Following.{ask_by, Asks, asks_behind, asks_to, Chunks, Crumbs, event_of, followed, hear, is_done, is_from, log_at, message_of, next_of, node_start, NodeRun, perform, Queue, Run, run_start, step_node, step_of, taken, takes, Triggers}
pub use Rattle.hs_law_journal.specs.Known.{Known}
pub use Rattle.hs_law_journal.specs.Laws.{ComesByEvents}
pub use Rattle.hs_law_journal.specs.LoopPasses.{EndsPass, HandsReady, IsOwn, IsPass}
pub use Rattle.hs_law_journal.specs.Orders.{FollowingPlaysOut, Goes, Leads, Performs, Stays}
pub use Rattle.hs_law_journal.specs.Passes.{is_offer, is_turn, is_unread, passes_of, queues_of, steps_in}
pub use Rattle.hs_law_journal.specs.Performing.{after_steps}
pub use Rattle.hs_law_journal.specs.Played.{played, state_behind}
pub use Rattle.hs_law_journal.specs.Pooled.{answers_draw, buffer_of, by_stamp, drawn_event, event_drawn, given_page, missed_event, node_pages, page_of, pool_events, pool_history, StampedPoolEvent}
pub use Rattle.hs_law_journal.specs.Shape.{log_stamps, rise, rise_above, step_stamp}
pub use Rattle.hs_law_journal.specs.Supply.{said_at, sent_to, supply}
pub use Rattle.hs_law_journal.specs.Turns.{AreTurns, Lent}
pub use Rattle.hs_law_journal.specs.Unreads.{round_of}
pub use Rattle.hs_law_run.specs.Clauses.{IsLaidOut, IsRunnable, ScheduleIsBare, ValidWorkloadsRun}
pub use Rattle.hs_law_run.specs.Ends.{done_by, PoolEndsGoOn}
pub use Rattle.hs_law_run.specs.Facts.{ArePlayable, AsksInPace, EndsPasses, HasNothingLeft, HaveRounds, IsFront, IsPlayable, IsToldInRounds, KeepsPace, MeetsInRounds, pages_at, TakesInPace}
pub use Rattle.hs_law_run.specs.Laws.{agent_of}
pub use Rattle.hs_law_run.specs.Lockstep.{agents_give, agents_take, client_goes, clients_go, closing, closing_limit, coordinator_hears, done_at, draws_by, draws_in, extended, give_steps, lockstep, Machine, machine_start, next_draws, pages_started, pass_steps, passes, round, rounds, takes_all, takes_from, takes_of, told_of, with_steps}
pub use Rattle.hs_law_run.specs.Parts.{heard_in, node_at}
pub use Rattle.hs_law_run.specs.Playing.{DoingsAreFollowed}
pub use Rattle.hs_law_run.specs.Pools.{draw_answer, give_at, give_of, IsPooled, miss_in}
pub use Rattle.hs_law_run.specs.Reaching.{IsReached}
pub use Rattle.hs_law_run.specs.Stories.{added, doings_of, draws_of, IsQueueStory, IsStory, node_doings, sends_at, sent_by, Story}
pub use Rattle.hs_law_run.specs.Unread.{IsPooledUnread, IsUnreadAt}
pub use Rattle.hs_records.specs.Journals.{PlainJournal}
pub use Rattle.hs_records.specs.Pages.{pages_of}
pub use Rattle.hs_records.specs.Plain.{Operation, PlainSettings, PlainWorkload}
pub use Rattle.hs_records.specs.Records.{AreBracketed, numbered_from, NumberedOperation, open_behind}
pub use Rattle.hs_records.specs.Validity.{IsValid}
pub use Rattle.hs_records.specs.declared.journal.Draw.{Draw}
pub use Rattle.hs_records.specs.declared.journal.Step.{Step}
pub use Rattle.hs_words.proofs.Deeds.{at_below, draw_is_at}
pub use Rattle.hs_words.specs.Ends.{Answer, answer_to, answered, answers_by, answers_in, Deed, drawn_in, events_of, GiverTurn, is_any_given, IsDeedAt, IsDraw, IsTogether, met, put_if, told_in, unread}
pub use Rattle.hs_words.specs.Pages.{Sheet}
pub use Rattle.hs_words.specs.PoolHistory.{Empty, Given, Got, is_given, is_got, is_missed, IsHistoryBack, MayFollow, PoolEvent, queue_after}
pub use Rattle.std.proofs.Math.Nat.{div-lt_iff_lt-mul, mul-le-mul_right, suc-mul}
pub use Rattle.std.proofs.lemmas.Bool.{and_from, and_parts, leb-true}
pub use Rattle.std.proofs.lemmas.Grind.{flat_map-append}
pub use Rattle.std.proofs.lemmas.List.{length-append, length-map, length-replicate, length-reverse, map-append, reverse-append, take-map}
pub use Rattle.std.proofs.lemmas.List.Elements.{filter-append, filter_map-append}
pub use Rattle.std.proofs.lemmas.List.FromFn.{length-range_with_len}
pub use Rattle.std.proofs.lemmas.List.Sums.{length-filter}
pub use Rattle.std.proofs.lemmas.Nat.{div-mul-add, mul-add-lt}
pub use Rattle.std.proofs.lemmas.Option.{same_Some, slice_get-map, slice_get_within}
pub use Rattle.std.specs.Cmp.Derive.{both_true}
pub use Rattle.std.specs.List.{AllByRecursion, cons_option, filter_map, flat_map, list_all, list_any, range_with_len}
pub use Rattle.std.specs.Option.{option_and_then, option_map_or}
