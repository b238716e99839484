-- What several proofs of this crate take from other crates and from its own specs: each imports it from here.
pub use Rattle.hs_auto.specs.Firing.{sampled}
pub use Rattle.hs_auto.specs.declared.sampled.Sampled.{Sampled}
pub use Rattle.hs_base.specs.Rules.{is_declared}
pub use Rattle.hs_base.specs.declared.ids.ClientId.{ClientId}
pub use Rattle.hs_base.specs.declared.ids.NodeId.{NodeId}
pub use Rattle.hs_base.specs.declared.ids.TraceId.{TraceId}
pub use Rattle.hs_base.specs.declared.settings.AutoRule.{AutoRule}
pub use Rattle.hs_base.specs.declared.told.Ask.{Ask}
pub use Rattle.hs_base.specs.declared.told.Crumb.{Crumb}
pub use Rattle.hs_base.specs.declared.told.Told.{Told}
pub use Rattle.hs_base.specs.declared.told.Trigger.{Trigger}
pub use Rattle.hs_coord.specs.Following.{Message, message, Messages}
pub use Rattle.hs_law_agent.specs.Laws.{EventsAddThis, noted_as, StepsSayWhatTheyTell}
pub use Rattle.hs_law_agent.specs.Leading.{CrumbsLeadBelow}
pub use Rattle.hs_law_agent.specs.State.{AgentState}
pub use Rattle.hs_law_agent.specs.Stepping.{after_event, AgentEvent, Answered, Asked, Chunk, Crumbed, Gave, Given, Input, Missed, step_of_answer, told_by, Took, Triggered, Turn, Unread}
pub use Rattle.hs_law_journal.specs.Extending.{IsOfJournal}
pub use Rattle.hs_law_journal.specs.Following.{ask_by, Asks, asks_behind, asks_to, Chunks, Crumbs, event_of, follow, followed, hear, is_from, message_of, next_of, node_start, NodeRun, perform, Queue, Run, run_start, step_count, step_lowest, step_node, step_of, step_run, taken, takes, Triggers}
pub use Rattle.hs_law_journal.specs.Orders.{FollowingPlaysOut, Goes, Leads, Performs, Stays}
pub use Rattle.hs_law_journal.specs.Passes.{is_offer, is_turn, same_steps}
pub use Rattle.hs_law_journal.specs.Supply.{sent_to, supply}
pub use Rattle.hs_client.specs.Drawn.{drawn_from, DrawnPage, has_buffer}
pub use Rattle.hs_client.specs.Sending.{client_sends, ClientSends, crumb_in, draws_at, node_sends, operations_at, place_of, samples_of, Sent, sent_chunks, sheet_of, trigger_in, trigger_of, triggers_behind}
pub use Rattle.hs_client.specs.Timing.{timed_pages, TimedPage}
pub use Rattle.hs_base.proofs.Alls.{all_append, all_at, all_each, all_set}
pub use Rattle.hs_base.proofs.Counts.{one_if}
pub use Rattle.hs_base.proofs.Options.{mapped_from, option_unmap}
pub use Rattle.hs_base.proofs.Places.{get_front, get_other, get_set}
pub use Rattle.hs_records.specs.Journals.{PlainJournal}
pub use Rattle.hs_records.specs.Plain.{Begin, End, Fire, Operation, PlainSettings, PlainWorkload, Point, Sample}
pub use Rattle.hs_records.specs.Records.{numbered_from, NumberedOperation, open_behind}
pub use Rattle.hs_records.specs.Validity.{IsValid}
pub use Rattle.hs_records.specs.declared.journal.Draw.{Draw}
pub use Rattle.hs_records.specs.declared.journal.Step.{Step}
pub use Rattle.hs_words.specs.Pages.{Sheet}
pub use Rattle.std.proofs.lemmas.Bool.{and_from, and_parts, cases_eq}
pub use Rattle.std.proofs.lemmas.List.{length-map, map-append, nil_from_length}
pub use Rattle.std.proofs.lemmas.List.Elements.{filter-append, filter_map-append}
pub use Rattle.std.proofs.lemmas.List.Sums.{sum_by-append, sum_by-cons}
pub use Rattle.std.proofs.lemmas.Option.{same_Some, slice_get-map, slice_get_within}
pub use Rattle.std.specs.Cmp.Derive.{both_true}
pub use Rattle.std.specs.List.{AllByRecursion, flat_map, list_all, range_with_len}
pub use Rattle.std.specs.Option.{option_and_then, option_map_or, option_to_list}
pub use Rattle.std.specs.Prelude.{count_by, option_map, reverse}
