-- What several proofs of this crate take from other crates and from its own specs: each imports it from here.
pub use Rattle.hs_base.specs.declared.ids.NodeId.{NodeId}
pub use Rattle.hs_base.specs.declared.limits.TheConstants.{MAX_TAKEN}
pub use Rattle.hs_base.specs.declared.node_set.NodeSet.{NodeSet}
pub use Rattle.hs_check.specs.Asking.{first_among, of_the_journal}
pub use Rattle.hs_check.specs.Besides.{all_beside, clients_beside}
pub use Rattle.hs_check.specs.Clauses.{number_of}
pub use Rattle.hs_check.specs.CountedAsks.{all_ask_enough, ask_enough_at, asks_behind_each, heard_for, heard_until, heard_with, most_passes, places_behind, said_behind}
pub use Rattle.hs_check.specs.Counting.{behind_each, is_of, one_more}
pub use Rattle.hs_check.specs.Leaving.{AreAgentsOf, book_at, IsAgentOf}
pub use Rattle.hs_check.specs.Pacing.{all_enough, enough_at, numbers_in_pace, sent_in}
pub use Rattle.hs_check.specs.PageDraws.{all_page_draws, first_stamp, page_draws}
pub use Rattle.hs_check.specs.Parts.{length_with}
pub use Rattle.hs_check.specs.Showing.{HasGiven, is_give, is_named, is_passed, IsShown}
pub use Rattle.hs_check.specs.declared.clause.Clause.{Clause}
pub use Rattle.hs_check.specs.declared.page_draws.PageDraw.{PageDraw}
pub use Rattle.hs_check.specs.declared.shown.Shown.{Shown}
pub use Rattle.hs_check_follow.proofs.Bared.{clients_counted}
pub use Rattle.hs_check_follow.proofs.Knowing.{found_as_many, found_at, found_counted, known_at, nodes_counted}
pub use Rattle.hs_check_follow.proofs.NodeEvents.{drawn_lists, lists_are}
pub use Rattle.hs_check_follow.proofs.Ranges.{each_holds, step_fails, step_more}
pub use Rattle.hs_check_follow.specs.Finding.{AreFound, IsFoundClient, IsFoundNode, starts_of}
pub use Rattle.hs_check_follow.specs.Happening.{drawn_from}
pub use Rattle.hs_check_follow.specs.declared.found.FoundClient.{FoundClient}
pub use Rattle.hs_check_follow.specs.declared.found.FoundNode.{FoundNode}
pub use Rattle.hs_check_follow.specs.declared.found.FoundPage.{FoundPage}
pub use Rattle.hs_coord.specs.Following.{Message, Messages}
pub use Rattle.hs_law_agent.specs.Laws.{EventsAddThis, EventsGoOn, ListsHaveTheirChunks}
pub use Rattle.hs_law_agent.specs.Standings.{Taken}
pub use Rattle.hs_law_agent.specs.State.{AgentState, GivenPlace}
pub use Rattle.hs_law_journal.specs.Ends.{is_followed}
pub use Rattle.hs_law_journal.specs.Extending.{RunsAreOfTheJournal}
pub use Rattle.hs_law_journal.specs.Following.{Chunks, Crumbs, followed, log_at, NodeRun, Run, takes, Triggers}
pub use Rattle.hs_law_journal.specs.Laws.{ComesByEvents}
pub use Rattle.hs_law_journal.specs.Orders.{FollowingPlaysOut}
pub use Rattle.hs_law_journal.specs.Pace.{asks_in_pace, client_in_pace, due_of, gives_in_pace, items_in_pace, said_in}
pub use Rattle.hs_law_journal.specs.Passes.{ends_between, is_turn, is_unread, passes_of, put_step}
pub use Rattle.hs_law_journal.specs.Played.{Played, played, state_behind}
pub use Rattle.hs_law_journal.specs.Pooled.{given_page, node_pages, page_of}
pub use Rattle.hs_law_journal.specs.Shape.{are_numbered, draw_stamps, has_stamps, log_stamps, node_draws, node_has_stamps, node_stamps, rise, rise_above, step_stamp}
pub use Rattle.hs_law_journal.specs.Unreads.{before_unreads, may_be_unread, same_page}
pub use Rattle.hs_client.specs.Drawn.{DrawnPage, has_buffer, stamp_of}
pub use Rattle.hs_client.specs.Sending.{ClientSends, draws_at, place_of}
pub use Rattle.hs_base.proofs.Alls.{all_append, all_each}
pub use Rattle.hs_base.proofs.Counts.{count_cons, count_map, one_if}
pub use Rattle.hs_records.specs.Books.{agent_book_of}
pub use Rattle.hs_records.specs.Journals.{journal_of, PlainJournal}
pub use Rattle.hs_records.specs.Plain.{PlainSettings, PlainWorkload, settings_of}
pub use Rattle.hs_records.specs.Views.{workload_of}
pub use Rattle.hs_records.specs.declared.books.AgentBook.{AgentBook}
pub use Rattle.hs_records.specs.declared.journal.Draw.{Draw}
pub use Rattle.hs_records.specs.declared.journal.Step.{Step}
pub use Rattle.std.proofs.Math.Bool.{and-true}
pub use Rattle.std.proofs.Math.Nat.{min-le_right}
pub use Rattle.std.proofs.Math.Seq.{take-append_seam}
pub use Rattle.std.proofs.lemmas.Bool.{and_from, and_parts, and_right, cases_eq, cases_lt, eq-eqb, le-leb, le-ltb, lt-leb, lt-ltb, ne_eqb}
pub use Rattle.std.proofs.lemmas.List.{append-nil, append_assoc, drop_all, drop_more, length-append, length-map, length-take-le, map-append, take-append-drop, take-map, take_all, take_min}
pub use Rattle.std.proofs.lemmas.List.Elements.{filter_map-append}
pub use Rattle.std.proofs.lemmas.List.Folds.{list_all-append, list_any-append}
pub use Rattle.std.proofs.lemmas.List.FromFn.{get_or-map-range_with_len, length-map-range_with_len}
pub use Rattle.std.proofs.lemmas.List.Sums.{count_by-le-length, sum_by-cons}
pub use Rattle.std.proofs.lemmas.Option.{slice_get-map}
pub use Rattle.std.specs.List.{AllByRecursion, flat_map, list_all, list_any, range_with_len}
pub use Rattle.std.specs.Option.{option_and_then, option_map_or}
pub use Rattle.std.specs.Prelude.{count_by, filter, not, option_map, slice_get, zip, ◌&&◌, ◌||◌}
