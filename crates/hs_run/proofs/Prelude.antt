-- What several proofs of this crate take from other crates and from its own specs: each imports it from here.
pub use Rattle.hs_agent.specs.Points.{sheet_in}
pub use Rattle.hs_base.proofs.Alls.{all_each}
pub use Rattle.hs_base.proofs.Lent.{indexed, lent_from, lent_is, lent_whole, lent_whole_is}
pub use Rattle.hs_base.proofs.Numbers.{same_or_less}
pub use Rattle.hs_base.proofs.Parts.{drop_front, map_self, reverse_cons}
pub use Rattle.hs_base.proofs.Places.{get_other, get_set, get_set_cases, get_some, get_there, get_unmap, HasItem}
pub use Rattle.hs_base.proofs.Sequences.{same_everywhere}
pub use Rattle.hs_base.proofs.Updates.{put, put_else, put_here}
pub use Rattle.hs_base.specs.Ids.{client_of}
pub use Rattle.hs_base.specs.Listing.{Listing}
pub use Rattle.hs_base.specs.NodeSets.{has_node}
pub use Rattle.hs_base.specs.declared.ids.ClientId.{ClientId}
pub use Rattle.hs_base.specs.declared.ids.NodeId.{NodeId}
pub use Rattle.hs_base.specs.declared.limits.TheConstants.{MAX_OPERATIONS, MAX_TAKEN}
pub use Rattle.hs_base.specs.declared.settings.Settings.{Settings}
pub use Rattle.hs_base.specs.declared.told.Ask.{Ask}
pub use Rattle.hs_base.specs.declared.told.Crumb.{Crumb}
pub use Rattle.hs_base.specs.declared.told.Told.{Told}
pub use Rattle.hs_base.specs.declared.told.Trigger.{Trigger}
pub use Rattle.hs_board.specs.Shown.{first, IsLast}
pub use Rattle.hs_board.specs.Watching.{IsLater, Showing}
pub use Rattle.hs_board.specs.declared.progress.Progress.{Progress}
pub use Rattle.hs_client.specs.Core.{is_null}
pub use Rattle.hs_client.specs.Drawn.{has_buffer}
pub use Rattle.hs_client.specs.Draws.{count_started}
pub use Rattle.hs_client.specs.Sending.{ClientSends, draws_at, operations_at, ops_of, place_of, sends_of, Sent}
pub use Rattle.hs_client.specs.Timing.{timed_pages, TimedPage}
pub use Rattle.hs_coord.specs.Messages.{Message, message, Messages}
pub use Rattle.hs_coord.specs.declared.asks.Asks.{Asks}
pub use Rattle.hs_law_agent.specs.Books.{book_of}
pub use Rattle.hs_law_agent.specs.Laws.{brought_by, EventsAddThis, ListsHaveTheirChunks, noted_as, sheets_of}
pub use Rattle.hs_law_agent.specs.State.{AgentState, start}
pub use Rattle.hs_law_agent.specs.Stepping.{after, AgentEvent}
pub use Rattle.hs_law_journal.proofs.Joined.{grown_all}
pub use Rattle.hs_law_journal.specs.Doings.{asks_in, chunks_in, crumbs_in, steps_of, triggers_in}
pub use Rattle.hs_law_journal.specs.Following.{asks_to, is_from}
pub use Rattle.hs_law_journal.specs.LoopPasses.{HandsReady}
pub use Rattle.hs_law_journal.specs.Passes.{passes_of}
pub use Rattle.hs_law_journal.specs.Shape.{log_stamps}
pub use Rattle.hs_law_journal.specs.Turns.{AreTurns}
pub use Rattle.hs_law_outcome.specs.Outcomes.{client_book}
pub use Rattle.hs_law_run.specs.Ends.{done_by, PoolEnds, PoolEndsMeet}
pub use Rattle.hs_law_run.specs.Pools.{draw_answer}
pub use Rattle.hs_law_run.specs.Stories.{added, sent_by, Story}
pub use Rattle.hs_link.specs.Contents.{Incoming, Outgoing, Remaining, sent}
pub use Rattle.hs_live.specs.Calls.{AreMates}
pub use Rattle.hs_live.specs.Keys.{Key}
pub use Rattle.hs_live.specs.Live.{IsMate, PlainClient, Port}
pub use Rattle.hs_live.specs.Writing.{draws_by}
pub use Rattle.hs_outcome.specs.declared.outcome.Books.{Books}
pub use Rattle.hs_records.proofs.Sizes.{few_nodes, last_low, product_few}
pub use Rattle.hs_records.specs.Books.{agent_book_of, client_book_of, PlainAgentBook, PlainClientBook}
pub use Rattle.hs_records.specs.Journals.{PlainJournal}
pub use Rattle.hs_records.specs.Plain.{Operation, PlainSettings, PlainWorkload, settings_of}
pub use Rattle.hs_records.specs.Validity.{client_pieces, IsValid}
pub use Rattle.hs_records.specs.Views.{operation_of, operations_of, workload_of}
pub use Rattle.hs_records.specs.declared.journal.Draw.{Draw}
pub use Rattle.hs_records.specs.declared.journal.Step.{Step}
pub use Rattle.hs_records.specs.declared.operation.Op.{Op}
pub use Rattle.hs_records.specs.declared.operation.Workload.{Workload}
pub use Rattle.hs_ring.specs.Parts.{AreAllEnds, Drawing, Giving, Leased}
pub use Rattle.hs_run.specs.Acting.{NodeActorsAct}
pub use Rattle.hs_run.specs.Changing.{EachChanged, FirstChanged}
pub use Rattle.hs_run.specs.Closing.{Closing, IsOver}
pub use Rattle.hs_run.specs.Coming.{Came, NoRoundsCome}
pub use Rattle.hs_run.specs.CountLaws.{TheseAreAllRounds}
pub use Rattle.hs_run.specs.Counts.{AreCounts, client_count, log_count, PlainRunTally, progress_of}
pub use Rattle.hs_run.specs.Ended.{CanFinish, HasFinished, HaveClosedLinks, HaveFinished, items_of, MayFinish}
pub use Rattle.hs_run.specs.Finished.{AreBooksBehind, AreGathered}
pub use Rattle.hs_run.specs.Going.{AllHaveGone, AllMayGo}
pub use Rattle.hs_run.specs.Laws.{AllBegin, ClosingBegins, PoolOf, PoolsAreKept, RoundsAreNoted, RunsAreLawful}
pub use Rattle.hs_run.specs.Layout.{site_of}
pub use Rattle.hs_run.specs.Making.{AreMade}
pub use Rattle.hs_run.specs.Meeting.{ClientActorMet, NodeActorsMeet, told_of}
pub use Rattle.hs_run.specs.Moments.{ActedTo, AreFew, CanBegin, DoneIn, IsHere, MetTo, MovedTo, RoundsMade, RoundsOver}
pub use Rattle.hs_run.specs.Moving.{IsSameDoing}
pub use Rattle.hs_run.specs.Movings.{HasMet, Moving}
pub use Rattle.hs_run.specs.Nodes.{AllHaveActed, NoneFailed, sites_of, TellsLeft, TellsNodeLeft}
pub use Rattle.hs_run.specs.Noted.{books_of, first_books, IsNoted}
pub use Rattle.hs_run.specs.Noting.{JournalsNoteRounds, NotesRounds}
pub use Rattle.hs_run.specs.Progress.{done_after, is_chunk, is_given, is_point, nulls_after, points_after, progress_after, steps_after}
pub use Rattle.hs_run.specs.RunStates.{asked_by, IsBegun, moved_by, NodeActorsStand, PlainNodeActors, RunStands, RunState}
pub use Rattle.hs_run.specs.Seen.{IsTotal, IsTotalBehind, ShownIsSeen}
pub use Rattle.hs_run.specs.Shutting.{AllSents, AreClosedAgentsFrom, Asked, ClosedAgentsStand, ClosedAt, ClosingAt, ClosingStands, IsAsked, IsClosedAgentAt, PassedAlone, Passing, sents_at}
pub use Rattle.hs_run.specs.Sites.{AreClients, HasActed, HaveMet, MeetsOne}
pub use Rattle.hs_run.specs.Spans.{IsNodeBetweenPasses, IsStep, NodeBetweenPasses}
pub use Rattle.hs_run.specs.Tallying.{FitTotals, MayCount}
pub use Rattle.hs_run.specs.TallyingNodes.{CountedFirst, CountedNodes, LogCounted, MayCountClient, MayCountLog, MayCountNodes, no_operations, no_steps}
pub use Rattle.hs_run.specs.Watched.{AllWatched, RoundsWatched, shown_on}
pub use Rattle.hs_run.specs.declared.client.ClientCount.{ClientCount}
pub use Rattle.hs_run.specs.declared.log.LogCount.{LogCount}
pub use Rattle.hs_run.specs.declared.node.ActingNode.{ActingNode}
pub use Rattle.hs_run_actors.specs.AgentActors.{IsAgentActor, PlainAgentActor}
pub use Rattle.hs_run_actors.specs.Agents.{IsAskable, IsPageThere, IsWithin}
pub use Rattle.hs_run_actors.specs.ClientActors.{PlainClientActor}
pub use Rattle.hs_run_actors.specs.ClosedAgents.{AllSent, AreMatesOf, IsClosedAgent, IsClosedAgentBare, PlainClosedAgent}
pub use Rattle.hs_run_actors.specs.Coordinators.{asked_all, asks_for, Brings, heard_of, Hears, IsCoordinatorActor, PlainCoordinatorActor}
pub use Rattle.hs_run_actors.specs.Intakes.{closed, linked}
pub use Rattle.hs_run_actors.specs.Standing.{ClientActorIsAt, Goes, HasSentSoFar}
pub use Rattle.hs_run_actors.specs.Turns.{lent_of}
pub use Rattle.hs_run_actors.specs.Work.{came_of, is_of, IsFew, NodeWork, with_asks, with_events, with_moved}
pub use Rattle.hs_words.specs.Buffers.{Buffer}
pub use Rattle.hs_words.specs.Ends.{Answer}
pub use Rattle.hs_words.specs.Pages.{Sheet}
pub use Rattle.std.proofs.Math.Nat.{mod-lt, mul-le-mul_right, suc-mul}
pub use Rattle.std.proofs.iter.Serving.{serving}
pub use Rattle.std.proofs.lemmas.Bool.{cases_lt}
pub use Rattle.std.proofs.lemmas.Iterator.Adapters.{YieldsList-from_vec}
pub use Rattle.std.proofs.lemmas.Iterator.Consumers.{YieldsList-end, YieldsList-turn}
pub use Rattle.std.proofs.lemmas.List.{append-nil, length-append, length-map, map-append}
pub use Rattle.std.proofs.lemmas.List.Sums.{sum_by-cons}
pub use Rattle.std.proofs.lemmas.Option.{same_Some, slice_get-get_or, slice_get-map, slice_get_within}
pub use Rattle.std.proofs.lemmas.Result.{IfOk-weaker, on_ok_weaker}
pub use Rattle.std.proofs.lemmas.Simd.{map-map}
pub use Rattle.std.specs.List.{AllByRecursion, flat_map, range_with_len}
pub use Rattle.std.specs.Option.{option_map_or}
pub use Rattle.std.specs.Prelude.{Err, IfOk, Ok, OnOk, Result, slice_get}
