-- What several proofs of this crate take from other crates and from its own specs: each imports it from here.
pub use Rattle.hs_agent.specs.Keeping.{PlainAgent}
pub use Rattle.hs_agent.specs.Points.{sheet_in}
pub use Rattle.hs_agent.specs.Runs.{after_offer, AgentRun, Follows, Knows, offered_next, point_of, state_of}
pub use Rattle.hs_auto.specs.Watching.{Watch}
pub use Rattle.hs_base.proofs.Alls.{all_append, all_at, all_each, all_front, all_mid}
pub use Rattle.hs_base.proofs.Lent.{indexed, lent_from, lent_is}
pub use Rattle.hs_base.proofs.Options.{is_some_false}
pub use Rattle.hs_base.proofs.Places.{get_map, get_there}
pub use Rattle.hs_base.specs.Ids.{client_of}
pub use Rattle.hs_base.specs.Rules.{is_declared}
pub use Rattle.hs_base.specs.declared.ids.ClientId.{ClientId}
pub use Rattle.hs_base.specs.declared.ids.TraceId.{TraceId}
pub use Rattle.hs_base.specs.declared.limits.TheConstants.{MAX_CLIENTS, MAX_TAKEN}
pub use Rattle.hs_base.specs.declared.settings.AutoRule.{AutoRule}
pub use Rattle.hs_base.specs.declared.settings.TriggerRule.{TriggerRule}
pub use Rattle.hs_base.specs.declared.told.Ask.{Ask}
pub use Rattle.hs_base.specs.declared.told.Crumb.{Crumb}
pub use Rattle.hs_base.specs.declared.told.Told.{Told}
pub use Rattle.hs_base.specs.declared.told.Trigger.{Trigger}
pub use Rattle.hs_client.specs.Core.{Core, new_core}
pub use Rattle.hs_client.specs.OneMore.{open_after}
pub use Rattle.hs_client.specs.Playable.{IsPlayable}
pub use Rattle.hs_client.specs.Sending.{ops_of, place_of}
pub use Rattle.hs_client.specs.SoFar.{done_behind}
pub use Rattle.hs_coord.specs.Messages.{Messages}
pub use Rattle.hs_law_agent.specs.Laws.{brought_by, EventsAddFew, EventsGoOn, StepsSayWhatTheyTell}
pub use Rattle.hs_law_agent.specs.Leading.{CrumbsLeadBelow}
pub use Rattle.hs_law_agent.specs.State.{AgentState, start}
pub use Rattle.hs_law_agent.specs.Stepping.{admits, after, after_event, after_from, AgentEvent, Answered, Asked, Chunk, Crumbed, Gave, Input, step_of_answer, told_by, Took, Triggered, Turn}
pub use Rattle.hs_law_journal.specs.Doings.{ask_in, asks_in, crumb_in, crumbs_in, trigger_in, triggers_in}
pub use Rattle.hs_law_journal.specs.LoopPasses.{IsStamped}
pub use Rattle.hs_law_journal.specs.Turns.{AreTurns}
pub use Rattle.hs_link.specs.Contents.{AreEnds, AreNewEnds, Incoming, Outgoing, Remaining, sent}
pub use Rattle.hs_live.proofs.Cuts.{draws_none}
pub use Rattle.hs_live.specs.Calls.{made_of}
pub use Rattle.hs_live.specs.Done.{Does, DoesNothing, HasDone, HasSent}
pub use Rattle.hs_live.specs.Keys.{Key}
pub use Rattle.hs_live.specs.Live.{GoesOn, incoming, IsEnd, outgoing, PlainClient, Port}
pub use Rattle.hs_live.specs.Writing.{IsDrawn, Made}
pub use Rattle.hs_live.specs.declared.called.Called.TheVariants.{Done}
pub use Rattle.hs_records.specs.Books.{client_book_of, PlainClientBook}
pub use Rattle.hs_records.specs.Pages.{pages_of}
pub use Rattle.hs_records.specs.Plain.{Begin, End, Fire, Operation, PlainSettings, PlainWorkload, Point, Sample, settings_of}
pub use Rattle.hs_records.specs.Records.{AreBracketed}
pub use Rattle.hs_records.specs.Validity.{client_pieces}
pub use Rattle.hs_records.specs.Views.{operation_of, operations_of, workload_of}
pub use Rattle.hs_records.specs.declared.operation.Op.{Op}
pub use Rattle.hs_ring.proofs.Drawers.{new_drawers_length}
pub use Rattle.hs_ring.specs.Parts.{Drawing, Giving, Leased, new_drawers}
pub use Rattle.hs_run_actors.specs.AgentActors.{HasReceived, IsAgentActor, Passes, PlainAgentActor, working_agent_of}
pub use Rattle.hs_run_actors.specs.AgentLayout.{agent_actor_in}
pub use Rattle.hs_run_actors.specs.Agents.{AgentIs, AgentWorks, IsAskable, IsPageThere, IsPooled, IsTellable, IsWithin, Label, label_of, run_at, state_at}
pub use Rattle.hs_run_actors.specs.ClientActors.{PlainClientActor}
pub use Rattle.hs_run_actors.specs.ClosedAgentLayout.{closed_agent_in}
pub use Rattle.hs_run_actors.specs.ClosedAgents.{AreMatesOf, ClosedAgentPasses, IsClosedAgent, IsClosedAgentBare, PlainClosedAgent, remaining}
pub use Rattle.hs_run_actors.specs.Coordinators.{AllAskable, Askings, asks_for, Brings, coordinator_actor_of, HearsNode, IsCoordinatorActor, IsTakenOut, PlainCoordinatorActor, Tellings}
pub use Rattle.hs_run_actors.specs.Counting.{crumbs_of, triggers_of, Uses}
pub use Rattle.hs_run_actors.specs.Intakes.{AreIntakes, AreIntakesFor, closed, HandOutFirst, HandsAt, HandsOut, HandsOutAt, Intake, Intakes, intakes_of, IsIntakeAt, key_of, linked}
pub use Rattle.hs_run_actors.specs.Making.{IsConnected}
pub use Rattle.hs_run_actors.specs.Nodes.{AreBegun, AreNotes, drawer_for, lefts_of, NodeBegins, Receiving}
pub use Rattle.hs_run_actors.specs.Passing.{CanPass, events_made, MakesPass}
pub use Rattle.hs_run_actors.specs.Performing.{MayDo}
pub use Rattle.hs_run_actors.specs.Resting.{are_given, AreEndsOf, AreRests}
pub use Rattle.hs_run_actors.specs.Stages.{AgentCanTake, chunks_of, events_from, events_of, Helping, OffersNext, PlainWorkingAgent, stamps_of, TakesAsks, TakesChunks, TakesCrumbs, TakesFirst, TakesTriggers, WorkingAgentStands}
pub use Rattle.hs_run_actors.specs.Standing.{ClientActorIsAt, Goes, IsDone, IsDrawerFor, made_for, Notes}
pub use Rattle.hs_run_actors.specs.Turns.{GiverGoesOn, IsOffer, lent_of}
pub use Rattle.hs_run_actors.specs.Work.{ask_event, came_of, chunk_event, crumb_event, gave_event, is_of, is_triggered, IsFew, NodeWork, trigger_event, triggered, with_asks, with_events, with_moved}
pub use Rattle.hs_run_actors.specs.WorkingAgents.{plain_working_agent}
pub use Rattle.hs_run_actors.specs.declared.making.ConnectedClient.{ConnectedClient}
pub use Rattle.hs_words.specs.Buffers.{Buffer, buffer_in, buffer_of}
pub use Rattle.hs_words.specs.Ends.{Answer, answers_in, GiverTurn}
pub use Rattle.hs_words.specs.Pages.{Sheet}
pub use Rattle.hs_words.specs.Pools.{PoolName}
pub use Rattle.hs_words.specs.declared.token.Held.{Held}
pub use Rattle.hs_words.specs.declared.token.TheConstants.{MAX_PUBLISHED}
pub use Rattle.std.proofs.lemmas.Bool.{ne_eqb}
pub use Rattle.std.proofs.lemmas.Grind.{flat_map-append}
pub use Rattle.std.proofs.lemmas.Iterator.Adapters.{YieldsList-from_vec}
pub use Rattle.std.proofs.lemmas.Iterator.Consumers.{YieldsList-end, YieldsList-turn}
pub use Rattle.std.proofs.lemmas.List.{append-nil, length-map, map-append, take-append-drop}
pub use Rattle.std.proofs.lemmas.List.Sums.{sum_by-append}
pub use Rattle.std.proofs.lemmas.Option.{IfSome_then, same_Some, slice_get_within}
pub use Rattle.std.specs.List.{AllByRecursion, flat_map}
pub use Rattle.std.specs.Option.{option_and_then, option_map, option_map_or, option_to_list}
pub use Rattle.std.specs.Prelude.{IfNone, IfSome, is_some, IsSome, slice_get, slice_set}
