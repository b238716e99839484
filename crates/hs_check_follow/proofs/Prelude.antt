-- What several proofs of this crate take from other crates and from its own specs: each imports it from here.
pub use Rattle.hs_agent.specs.Points.{sheet_in}
pub use Rattle.hs_agent.specs.Runs.{after_offer, Follows, offered_next, state_of}
pub use Rattle.hs_agent.specs.declared.input.Input.{Input}
pub use Rattle.hs_base.proofs.Alls.{all_append, all_at, all_each}
pub use Rattle.hs_base.proofs.Counts.{count_append, count_cons, one_if}
pub use Rattle.hs_base.proofs.Filters.{filter_none}
pub use Rattle.hs_base.proofs.Lent.{lent_from, lent_is}
pub use Rattle.hs_base.proofs.Parts.{map_self, nil_behind}
pub use Rattle.hs_base.proofs.Places.{get_front, get_set_cases, get_there, row_is, set_same}
pub use Rattle.hs_base.proofs.Ranges.{list_all_range, range_append}
pub use Rattle.hs_base.specs.Changing.{ChangesAt}
pub use Rattle.hs_base.specs.Listing.{Listing}
pub use Rattle.hs_base.specs.NodeSets.{has_node}
pub use Rattle.hs_base.specs.declared.ids.ClientId.{ClientId}
pub use Rattle.hs_base.specs.declared.ids.NodeId.{NodeId}
pub use Rattle.hs_base.specs.declared.limits.TheConstants.{MAX_OPERATIONS, MAX_TAKEN}
pub use Rattle.hs_base.specs.declared.node_set.NodeSet.{NodeSet}
pub use Rattle.hs_base.specs.declared.told.Ask.{Ask}
pub use Rattle.hs_base.specs.declared.told.Crumb.{Crumb}
pub use Rattle.hs_base.specs.declared.told.Told.{Told}
pub use Rattle.hs_base.specs.declared.told.Trigger.{Trigger}
pub use Rattle.hs_check_follow.specs.Answering.{answers_last, answers_through, is_got}
pub use Rattle.hs_check_follow.specs.Beginning.{AreFirst}
pub use Rattle.hs_check_follow.specs.Clients.{ClientsStand, ClientStands, FillsAt, own_operations, Pops, PopsChunk}
pub use Rattle.hs_check_follow.specs.Ends.{ends_within}
pub use Rattle.hs_check_follow.specs.Filling.{opened, payload_costs, room_behind, started_from}
pub use Rattle.hs_check_follow.specs.Fillings.{Fills, IsFilled, IsFilling, IsSecondPlay, LeftAt, MayFill, MayPlay, Plays}
pub use Rattle.hs_check_follow.specs.Finding.{AreAsked, AreFound, given_name, IsFound, IsFoundClient, IsFoundNode, named, numbers_of}
pub use Rattle.hs_check_follow.specs.Gathering.{AreNumbers, AtChunk, AtCrumb, AtTrigger, chunks_at, count_within, crumbs_at, HasChunks, HasItems, IsSentBy, starts_within, triggers_at, WereChunks, WereCrumbs, WereTriggers, Where}
pub use Rattle.hs_check_follow.specs.Happening.{draw_at, drawn_from, earlier_with, event_of, events_below, node_timed, pool_event, timed_draw, timed_give, timed_gives, timed_miss}
pub use Rattle.hs_check_follow.specs.Keepings.{HavePages, KeepsAll}
pub use Rattle.hs_check_follow.specs.Nodes.{agent_run, FollowedNodeStands, HasPerformed, IsNotReady, IsReadied, name_of, named_at}
pub use Rattle.hs_check_follow.specs.Noting.{behind_at, hand_of, noted_if, Notes, said_of}
pub use Rattle.hs_check_follow.specs.Offering.{ends_front, ends_through, may_stand}
pub use Rattle.hs_check_follow.specs.Parting.{books_left, IsFoundOf}
pub use Rattle.hs_check_follow.specs.Replaying.{ReplayStands}
pub use Rattle.hs_check_follow.specs.Rising.{rise_behind}
pub use Rattle.hs_check_follow.specs.Rounds.{are_enough}
pub use Rattle.hs_check_follow.specs.Scripts.{script_way}
pub use Rattle.hs_check_follow.specs.Walking.{at_start, goes_through, walk_behind}
pub use Rattle.hs_check_follow.specs.Whole.{AllAt, AreSent, HasHeard, HasNotHeard, HasNotStepped, HasStepped, HearsOn, left_of, left_steps, MayHearAt, MayStepAt, NodeAt, NodeSteppedIf, sent_by, SteppedAnyIf, StepsOn}
pub use Rattle.hs_check_follow.specs.declared.agent.FollowedAgent.{FollowedAgent}
pub use Rattle.hs_check_follow.specs.declared.client.FollowedClient.{FollowedClient}
pub use Rattle.hs_check_follow.specs.declared.coordinator.FollowedCoordinator.{FollowedCoordinator}
pub use Rattle.hs_check_follow.specs.declared.filling.Filling.{Filling}
pub use Rattle.hs_check_follow.specs.declared.found.Found.{Found}
pub use Rattle.hs_check_follow.specs.declared.found.FoundClient.{FoundClient}
pub use Rattle.hs_check_follow.specs.declared.found.FoundNode.{FoundNode}
pub use Rattle.hs_check_follow.specs.declared.found.FoundPage.{FoundPage}
pub use Rattle.hs_check_follow.specs.declared.gathering.Gathering.{Gathering}
pub use Rattle.hs_check_follow.specs.declared.happened.NotedEvent.{NotedEvent}
pub use Rattle.hs_check_follow.specs.declared.happened.StampedEvent.{StampedEvent}
pub use Rattle.hs_check_follow.specs.declared.keeping.Keeping.{Keeping}
pub use Rattle.hs_check_follow.specs.declared.node.FollowedNode.{FollowedNode}
pub use Rattle.hs_check_follow.specs.declared.passes.PassWalk.{PassWalk}
pub use Rattle.hs_check_follow.specs.declared.script.DrawScript.{DrawScript}
pub use Rattle.hs_check_follow.specs.declared.second_play.SecondPlay.{SecondPlay}
pub use Rattle.hs_client.specs.Calls.{note_of}
pub use Rattle.hs_client.specs.Drawn.{DrawnPage, has_buffer, stamp_of}
pub use Rattle.hs_client.specs.Draws.{count_started}
pub use Rattle.hs_client.specs.Laws.{IsTimely, TimedPagesAreThePages, TimedPagesAreTimely}
pub use Rattle.hs_client.specs.OneMore.{items_of}
pub use Rattle.hs_client.specs.Order.{AreInOrder, ChunksAreInOrder}
pub use Rattle.hs_client.specs.Sending.{client_sends, ClientSends, draws_at, node_sends, operations_at, place_of, sends_of, Sent, sent_chunks, sent_within}
pub use Rattle.hs_client.specs.SoFar.{AllChunksAreSent, done_behind, started_within}
pub use Rattle.hs_client.specs.Timing.{timed_pages, TimedPage}
pub use Rattle.hs_coord.specs.Following.{Message, Messages}
pub use Rattle.hs_law_agent.specs.Standings.{Taken}
pub use Rattle.hs_law_agent.specs.State.{AgentState, GivenPlace}
pub use Rattle.hs_law_agent.specs.Stepping.{after, AgentEvent, Gave, Given, Missed, Took, Unread}
pub use Rattle.hs_law_journal.proofs.Logs.{IsTake, taken_still}
pub use Rattle.hs_law_journal.specs.Ends.{is_followed, is_left_bare, rounds_for, rounds_of, took_all}
pub use Rattle.hs_law_journal.specs.Extending.{RunsAreOfTheJournal}
pub use Rattle.hs_law_journal.specs.Fitting.{MayTake}
pub use Rattle.hs_law_journal.specs.Following.{Asks, asks_to, Chunks, Crumbs, followed, is_done, is_from, log_at, node_start, NodeRun, perform, Queue, Run, run_start, step_node, taken, takes, Triggers}
pub use Rattle.hs_law_journal.specs.Gives.{given_stamp, GivesAreNoted}
pub use Rattle.hs_law_journal.specs.Orders.{FollowingPlaysOut, Stays}
pub use Rattle.hs_law_journal.specs.Passes.{client_queues, ends_between, is_offer, is_turn, is_whole_pass, offers_end, passes_of, put_step, queues_of}
pub use Rattle.hs_law_journal.specs.Played.{nodes_of, played}
pub use Rattle.hs_law_journal.specs.Pooled.{by_stamp, given_page, gives_answer, is_history, is_touched, may_follow, page_of, pool_events, pool_history, StampedPoolEvent}
pub use Rattle.hs_law_journal.specs.Shape.{are_numbered, draw_stamps, has_stamps, log_stamps, node_draws, node_has_stamps, node_stamps, rise}
pub use Rattle.hs_records.proofs.Sizes.{operations_few}
pub use Rattle.hs_records.specs.Books.{PlainClientBook}
pub use Rattle.hs_records.specs.Journals.{journal_of, PlainJournal}
pub use Rattle.hs_records.specs.Pages.{pages_of}
pub use Rattle.hs_records.specs.Plain.{Operation, PlainSettings, PlainWorkload, settings_of}
pub use Rattle.hs_records.specs.Records.{AreBracketed, piece_limit}
pub use Rattle.hs_records.specs.Validity.{client_pieces, IsValid, workload_pieces}
pub use Rattle.hs_records.specs.Views.{operation_of, operations_of, workload_of}
pub use Rattle.hs_records.specs.declared.journal.Draw.{Draw}
pub use Rattle.hs_records.specs.declared.journal.Step.{Step}
pub use Rattle.hs_records.specs.declared.operation.Op.{Op}
pub use Rattle.hs_replay_client.specs.Places.{ReplayClientIsAt, WentOn}
pub use Rattle.hs_replay_client.specs.ReplayClients.{PlainReplayClient, Unleased}
pub use Rattle.hs_replay_client.specs.Wells.{DrawsAll}
pub use Rattle.hs_words.specs.Buffers.{buffer_in, buffer_of}
pub use Rattle.hs_words.specs.Pages.{Sheet}
pub use Rattle.hs_words.specs.PoolHistory.{Got, PoolEvent}
pub use Rattle.std.proofs.lemmas.Bool.{and_from, and_left, and_parts, and_right, cases_Bool, cases_eq, cases_lt, eq-eqb, eqb-false, eqb-true, false_from_ne_true, le-leb, le-ltb, leb-true, lt-leb, lt-ltb, ltb-false, ltb-true, ne_eqb, OnTrue_at, or_cases, true≢false}
pub use Rattle.std.proofs.lemmas.Iterator.Adapters.{YieldsList-from_vec}
pub use Rattle.std.proofs.lemmas.Iterator.Consumers.{YieldsList-end}
pub use Rattle.std.proofs.lemmas.List.{append-nil, append_assoc, drop_all, drop_more, get_or-set_other, get_or-set_same, get_or_default, length-map, length-set, map-append, nil_from_length}
pub use Rattle.std.proofs.lemmas.List.Elements.{filter-append, filter_agree}
pub use Rattle.std.proofs.lemmas.List.FromFn.{length-range_with_len}
pub use Rattle.std.proofs.lemmas.List.Sums.{count_by-le-length, count_by_more_yes}
pub use Rattle.std.proofs.lemmas.Option.{same_Some, slice_get-get_or, slice_get-map, slice_get_within}
pub use Rattle.std.proofs.lemmas.Result.{on_ok_weaker}
pub use Rattle.std.specs.List.{AllByRecursion, flat_map, list_all, list_any, range_with_len}
pub use Rattle.std.specs.List.Sorted.{IsNonDecreasingBy, IsPermutation}
pub use Rattle.std.specs.Option.{option_and_then, option_map_or, option_to_list}
pub use Rattle.std.specs.Prelude.{count_by, filter, filter_map, IsTrue, MatchOption, nat_lt, not, option_map, replicate, slice_get, unwrap_or, zip, ◌&&◌, ◌||◌}
