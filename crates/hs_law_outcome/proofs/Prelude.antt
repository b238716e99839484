-- What several proofs of this crate take from other crates and from its own specs: each imports it from here.
pub use Rattle.hs_base.specs.Ids.{same_trace}
pub use Rattle.hs_base.specs.NodeSets.{has_node}
pub use Rattle.hs_base.specs.declared.ids.ClientId.{ClientId}
pub use Rattle.hs_base.specs.declared.ids.GroupId.{GroupId}
pub use Rattle.hs_base.specs.declared.ids.NodeId.{NodeId}
pub use Rattle.hs_base.specs.declared.ids.RecordId.{RecordId}
pub use Rattle.hs_base.specs.declared.ids.TraceId.{TraceId}
pub use Rattle.hs_base.specs.declared.limits.TheConstants.{MIN_SIZE}
pub use Rattle.hs_base.specs.declared.told.Ask.{Ask}
pub use Rattle.hs_base.specs.declared.told.Crumb.{Crumb}
pub use Rattle.hs_base.specs.declared.told.Fate.{Fate}
pub use Rattle.hs_base.specs.declared.told.Fate.TheVariants.{Live}
pub use Rattle.hs_base.specs.declared.told.Group.{Group}
pub use Rattle.hs_base.specs.declared.told.Told.{Told}
pub use Rattle.hs_base.specs.declared.told.Trigger.{Trigger}
pub use Rattle.hs_base.specs.declared.told.Why.TheVariants.{Fired}
pub use Rattle.hs_client.specs.Calls.{note_of, sheet_for, written}
pub use Rattle.hs_collect.specs.Collected.{GoesOn, is_piece_of, is_same, KeepsRuns, page_pieces, pieces_from, Placed, Precedes}
pub use Rattle.hs_coord.proofs.KeptLemmas.{first_bit, same_group-true}
pub use Rattle.hs_coord.specs.Following.{first_of, has_ask, has_crumb, is_answer, is_asked, is_first_sender, is_newly_asked, Message, message, Messages, same_group}
pub use Rattle.hs_law_agent.specs.Books.{book_of, page_standing}
pub use Rattle.hs_law_agent.specs.Laws.{ClientsPagesRise, count_of, EventsAddFew, EventsGoOn, LimitsHold, PlacesMatch, sheets_at, sheets_of, StepsSayWhatTheyTell}
pub use Rattle.hs_law_agent.specs.Messages.{told_of}
pub use Rattle.hs_law_agent.specs.Standings.{Abandoned, ChunkStanding, Evicted, Indexed, is_of_trace, Pinned, Reported, stands, Taken, trace_of}
pub use Rattle.hs_law_agent.specs.State.{AgentState, claim_of, ClaimedTrace, GivenPlace, is_claimed}
pub use Rattle.hs_law_agent.specs.Stepping.{admits, after, after_event, AgentEvent, Asked, Chunk, Crumbed, Gave, group_of, Input, Took, Triggered, Turn}
pub use Rattle.hs_law_journal.proofs.Steps.{step_from}
pub use Rattle.hs_law_journal.specs.Ends.{is_left_bare, took_all}
pub use Rattle.hs_law_journal.specs.Extending.{IsOfJournal, NodesAreOfJournal, RunsAreOfTheJournal}
pub use Rattle.hs_law_journal.specs.Following.{ask_by, Asks, asks_behind, asks_to, Chunks, Crumbs, event_of, followed, is_done, is_from, log_at, next_of, node_start, NodeRun, perform, Run, run_start, step_node, taken, Triggers}
pub use Rattle.hs_law_journal.specs.Gives.{GivesAreNoted}
pub use Rattle.hs_law_journal.specs.Lawful.{IsLawful}
pub use Rattle.hs_law_journal.specs.Laws.{AgentsComeByEvents, ComesByEvents}
pub use Rattle.hs_law_journal.specs.Orders.{FollowingPlaysOut, Goes, Leads, Performs, Stays}
pub use Rattle.hs_law_journal.specs.Played.{played}
pub use Rattle.hs_law_journal.specs.Pooled.{by_stamp, drawn_event, event_drawn, given_buffer, given_event, missed_event, node_pages, pool_events, pool_history, StampedPoolEvent}
pub use Rattle.hs_law_journal.specs.Shape.{draw_stamps, has_shape, log_stamps, node_draws, node_stamps, same_counts}
pub use Rattle.hs_law_journal.specs.Taking.{ChunksAreTakenInOrder, is_by, TakenPagesRise, TakesInOrder}
pub use Rattle.hs_law_outcome.specs.Causes.{AgentsKeepTheirModel, EmptyOnlyWhereEmpty, KeepsItsModel, NoBufferIsOutTwice}
pub use Rattle.hs_law_outcome.specs.ClientBooks.{BooksOfClientsFit, StandingsAreOfGotPages, StandsAlone}
pub use Rattle.hs_law_outcome.specs.CollectedReports.{HasAllItsPages, IsClientsPage, ReportedRecordsHaveAllPages}
pub use Rattle.hs_law_outcome.specs.Origins.{Gives, HasItsClients, IsOfDrawnPage, TakenPagesWereDrawn, WasTaken}
pub use Rattle.hs_law_outcome.specs.Outcomes.{agent_books, client_at, client_book, client_books, outcome_of, reported_at}
pub use Rattle.hs_law_outcome.specs.Records.{all_records, client_records, ComeInOrder, EachRecordHasOneEntry, EndsItsTraces, name_of, Named, named_from, placed_ids}
pub use Rattle.hs_law_outcome.specs.Reports.{is_of, report_of, reported_traces, whole_of}
pub use Rattle.hs_client.specs.Drawn.{drawn_from, DrawnPage, has_buffer, stamp_of}
pub use Rattle.hs_client.specs.Laws.{TimedPagesAreThePages}
pub use Rattle.hs_client.specs.Sending.{client_sends, ClientSends, draws_at, node_sends, operations_at, place_of, Sent, sent_chunks, sheet_of}
pub use Rattle.hs_client.specs.Timing.{timed_pages, TimedPage}
pub use Rattle.hs_ledger.specs.Books.{record_count, standings_at, standings_if}
pub use Rattle.hs_ledger.specs.Fates.{book_entries, entry_on, fated_by, fated_pages, FatedPage, has_piece_of, is_discarded, page_fate, record_entry, record_fate}
pub use Rattle.hs_ledger.specs.Totals.{is_reported}
pub use Rattle.hs_ledger.specs.declared.ledger.Entry.{Entry}
pub use Rattle.hs_base.proofs.Alls.{all_append, all_at, all_back, all_by_place, all_each, all_each_both, all_filter, all_flat_map, all_flat_range, all_front, all_unmap}
pub use Rattle.hs_base.proofs.Counts.{count_append, count_cons, one_if}
pub use Rattle.hs_base.proofs.Options.{mapped_from, option_map_parts, option_unmap}
pub use Rattle.hs_base.proofs.Parts.{map_flat}
pub use Rattle.hs_base.proofs.Places.{get_front, get_there, IsIn}
pub use Rattle.hs_base.proofs.Ranges.{range_at, range_found}
pub use Rattle.hs_records.specs.Books.{PlainAgentBook, PlainClientBook}
pub use Rattle.hs_records.specs.Journals.{PlainJournal}
pub use Rattle.hs_records.specs.Laws.{AllFollow, AreNumberedFrom, CarriesRecords, end_from, end_of, PagesHoldThePieces, pieces_of_records, pieces_on, RiseFrom, Traces, traces_of}
pub use Rattle.hs_records.specs.Pages.{first_record, pages_of, PlainPage}
pub use Rattle.hs_records.specs.Plain.{Operation, PlainSettings, PlainWorkload}
pub use Rattle.hs_records.specs.Records.{AreBracketed, payload_pieces, Piece, Record, record_pieces, records_of}
pub use Rattle.hs_records.specs.declared.books.PageNote.{PageNote}
pub use Rattle.hs_records.specs.declared.books.Standing.{Standing}
pub use Rattle.hs_records.specs.declared.journal.Draw.{Draw}
pub use Rattle.hs_records.specs.declared.journal.Draw.TheVariants.{Got}
pub use Rattle.hs_records.specs.declared.journal.Step.{Step}
pub use Rattle.hs_words.specs.Pages.{Sheet}
pub use Rattle.hs_words.specs.PoolHistory.{Empty, Given, is_empty, is_given, is_got, is_missed, IsHistoryBack, IsPoolHistory, Missed, PoolEvent, queue_after}
pub use Rattle.std.proofs.Math.Bool.{or-false}
pub use Rattle.std.proofs.Math.Nat.{mod-lt}
pub use Rattle.std.proofs.lemmas.Bool.{and_from, and_parts, cond_both, eqb-true, ltb-true, or_cases, or_left, or_right}
pub use Rattle.std.proofs.lemmas.List.{length-append, length-map, map-append, nil_from_length}
pub use Rattle.std.proofs.lemmas.List.Elements.{All-from_recursion, recursion_from_All}
pub use Rattle.std.proofs.lemmas.List.Folds.{flat_map-map, list_any-append}
pub use Rattle.std.proofs.lemmas.List.FromFn.{length-range_with_len}
pub use Rattle.std.proofs.lemmas.List.Sums.{sum_by-append, sum_by-cons}
pub use Rattle.std.proofs.lemmas.Nat.{div-add-mod'}
pub use Rattle.std.proofs.lemmas.Option.{same_Some, slice_get-map, slice_get_within}
pub use Rattle.std.specs.List.{AllByRecursion, AllPairs, concat, cons_option, flat_map, list_all, list_any, range_with_len}
pub use Rattle.std.specs.Option.{option_and_then, option_map_or}
pub use Rattle.std.specs.Prelude.{nat_lt, slice_index_or}
