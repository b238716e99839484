-- What several proofs of this crate take from other crates and from its own specs: each imports it from here.
pub use Rattle.hs_agent.specs.Keeping.{PlainAgent}
pub use Rattle.hs_agent.specs.Points.{sheet_in}
pub use Rattle.hs_agent.specs.Runs.{after_offer, Follows, Knows, new_run, offered_next, state_of}
pub use Rattle.hs_agent.specs.declared.input.Input.{Input}
pub use Rattle.hs_base.specs.Changing.{ChangesAt}
pub use Rattle.hs_base.specs.Listing.{Listing}
pub use Rattle.hs_base.specs.declared.ids.ClientId.{ClientId}
pub use Rattle.hs_base.specs.declared.ids.NodeId.{NodeId}
pub use Rattle.hs_base.specs.declared.limits.TheConstants.{MAX_NODES, MAX_TAKEN}
pub use Rattle.hs_base.specs.declared.told.Ask.{Ask}
pub use Rattle.hs_base.specs.declared.told.Crumb.{Crumb}
pub use Rattle.hs_base.specs.declared.told.Told.{Told}
pub use Rattle.hs_base.specs.declared.told.Trigger.{Trigger}
pub use Rattle.hs_coord.specs.Following.{Message, Messages}
pub use Rattle.hs_coord.specs.Kept.{HasTaken, PlainCoordinator}
pub use Rattle.hs_law_agent.specs.Books.{book_of}
pub use Rattle.hs_law_agent.specs.Laws.{EventsAddThis, EventsGoOn, sheets_of, StepsSayWhatTheyTell}
pub use Rattle.hs_law_agent.specs.State.{AgentState}
pub use Rattle.hs_law_agent.specs.Stepping.{after_event, AgentEvent, Chunk, Crumbed, Took, Triggered}
pub use Rattle.hs_law_journal.proofs.Logs.{taken_still}
pub use Rattle.hs_law_journal.specs.Ends.{is_left_bare, rounds_of}
pub use Rattle.hs_law_journal.specs.Following.{Asks, asks_to, Chunks, Crumbs, event_of, followed, is_from, message_of, NodeRun, perform, Run, taken, takes, Triggers}
pub use Rattle.hs_law_journal.specs.Performing.{after_names, after_steps, StepByStep}
pub use Rattle.hs_law_journal.specs.Pooled.{page_of, pool_history}
pub use Rattle.hs_law_run.proofs.Standing.{message_named}
pub use Rattle.hs_law_run.specs.Ending.{AllDone, behind_rounds, HasClosing, passed}
pub use Rattle.hs_law_run.specs.Lockstep.{agents_give, agents_take, client_goes, clients_go, done_at, lockstep, Machine, machine_start, rounds}
pub use Rattle.hs_law_run.specs.Parts.{AgentsGiveSo, AgentsTakeSo, ClientGoes, ClientsGoSo, heard_in, node_at}
pub use Rattle.hs_law_run.specs.Reaching.{IsReached, MachinesAreWhole, MachinesStartSo, Takes}
pub use Rattle.hs_law_outcome.specs.Outcomes.{client_book}
pub use Rattle.hs_client.specs.Drawn.{DrawnPage}
pub use Rattle.hs_client.specs.Sending.{client_sends, ClientSends, draws_at, node_sends, operations_at, place_of}
pub use Rattle.hs_base.proofs.Alls.{all_at, all_each}
pub use Rattle.hs_base.proofs.Counts.{count_push, one_if}
pub use Rattle.hs_base.proofs.Lent.{indexed, lent_from, lent_is}
pub use Rattle.hs_base.proofs.Numbers.{suc_le}
pub use Rattle.hs_base.proofs.Parts.{take_whole}
pub use Rattle.hs_base.proofs.Places.{get_mid, get_push_cases, get_set_cases, get_there, item_there}
pub use Rattle.hs_base.proofs.Ranges.{map_range_from, range_append}
pub use Rattle.hs_base.proofs.Tests.{list_all_by_place, list_all_fails}
pub use Rattle.hs_pool.specs.Pool.{IsAfter, Pool}
pub use Rattle.hs_records.specs.Books.{agent_book_of, client_book_of, PlainAgentBook, PlainClientBook}
pub use Rattle.hs_records.specs.Journals.{PlainJournal}
pub use Rattle.hs_records.specs.Plain.{Operation, PlainSettings, PlainWorkload, settings_of}
pub use Rattle.hs_records.specs.Validity.{IsValid}
pub use Rattle.hs_records.specs.Views.{operation_of, workload_of}
pub use Rattle.hs_records.specs.declared.books.ClientBook.{ClientBook}
pub use Rattle.hs_records.specs.declared.journal.Draw.{Draw}
pub use Rattle.hs_records.specs.declared.journal.Step.{Step}
pub use Rattle.hs_records.specs.declared.operation.Op.{Op}
pub use Rattle.hs_records.specs.declared.operation.Workload.{Workload}
pub use Rattle.hs_replay.specs.All.{AllAt, AllClosed, AllHeard, clients_gone, HasHeard, NodesAt, NodesBetween, TellsLeft}
pub use Rattle.hs_replay.specs.Finishing.{client_noted, HasEnded, HaveEnded, IsBookAt}
pub use Rattle.hs_replay.specs.Going.{AreOf, node_goes}
pub use Rattle.hs_replay.specs.Hearing.{AreAsked, HeardOf, HeardUpTo, HearsNode, name_of, waiting, with_ask}
pub use Rattle.hs_replay.specs.Left.{all_of, are_clients_bare, done_of, HasClients, IsNodeDone, TellsNodeLeft}
pub use Rattle.hs_replay.specs.Making.{AreMade, AreNew, IsNewNode}
pub use Rattle.hs_replay.specs.NodeLayout.{replay_node_in}
pub use Rattle.hs_replay.specs.Parts.{PlainReplayNode}
pub use Rattle.hs_replay.specs.Passing.{IsAmid, IsDrained, IsGiving, IsReady, IsThere, StandsStill, takes_by, takes_first, TakesNext, TookOne, TookSome, WentBy}
pub use Rattle.hs_replay.specs.Queues.{IsQueueOf, step_from}
pub use Rattle.hs_replay.specs.Standing.{IsLent, NodeIsAt, NodeIsHeard, PoolStands, Remain, ReplayAgentStands, ReplayClientsStand, ReplayClientStands, ReplayNodeStands, run_of}
pub use Rattle.hs_replay.specs.declared.queue.Queue.{Queue}
pub use Rattle.hs_replay_client.specs.Places.{IsWithin, ReplayClientIsAt, TakesChunk, TakesCrumb, TakesTrigger}
pub use Rattle.hs_replay_client.specs.ReplayClients.{PlainReplayClient}
pub use Rattle.hs_words.specs.Buffers.{Buffer, buffer_in, buffer_of}
pub use Rattle.hs_words.specs.Chunks.{clear_chunks}
pub use Rattle.hs_words.specs.Pages.{Sheet}
pub use Rattle.hs_words.specs.PoolHistory.{PoolEvent}
pub use Rattle.hs_words.specs.contracts.token.UnitToken.TheImpl.{ghosts}
pub use Rattle.hs_words.specs.declared.token.Held.{Held}
pub use Rattle.std.proofs.lemmas.Bool.{cases_lt, eqb-true, ne_eqb}
pub use Rattle.std.proofs.lemmas.Iterator.Adapters.{YieldsList-from_vec}
pub use Rattle.std.proofs.lemmas.Iterator.Consumers.{YieldsList-end, YieldsList-turn}
pub use Rattle.std.proofs.lemmas.List.{map-append}
pub use Rattle.std.proofs.lemmas.List.FromFn.{length-map-range_with_len}
pub use Rattle.std.proofs.lemmas.Nat.{div-mul-add}
pub use Rattle.std.proofs.lemmas.Option.{same_Some, slice_get-get_or, slice_get_within}
pub use Rattle.std.proofs.lemmas.Result.{on_ok_weaker}
pub use Rattle.std.specs.List.{AllByRecursion, flat_map, range_with_len}
pub use Rattle.std.specs.Option.{option_and_then}
pub use Rattle.std.specs.Prelude.{Err, IfOk, Ok, Result, slice_get, ◌↔◌}
