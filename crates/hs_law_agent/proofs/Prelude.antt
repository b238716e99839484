-- What several proofs of this crate take from other crates and from its own specs: each imports it from here.
pub use Rattle.hs_base.specs.Ids.{same_trace}
pub use Rattle.hs_base.specs.declared.ids.TraceId.{TraceId}
pub use Rattle.hs_base.specs.declared.told.Ask.{Ask}
pub use Rattle.hs_base.specs.declared.told.Crumb.{Crumb}
pub use Rattle.hs_base.specs.declared.told.Group.{Group}
pub use Rattle.hs_base.specs.declared.told.Told.{Told}
pub use Rattle.hs_base.specs.declared.told.Trigger.{Trigger}
pub use Rattle.hs_base.specs.declared.told.Why.TheVariants.{Answer, Fired}
pub use Rattle.hs_law_agent.specs.Abandoning.{abandon, abandon_group, abandon_within, next_to_go, pinned_groups}
pub use Rattle.hs_law_agent.specs.Claiming.{claim_each, claim_trace, claim_unclaimed, traces_of}
pub use Rattle.hs_law_agent.specs.Evicting.{evict, evict_from, evict_trace, is_over, touch}
pub use Rattle.hs_law_agent.specs.Laws.{AreRising, borne, brought_by, claimed_traces, claiming_group, count_of, count_traces, given_places, MatchNextToGo, PlacesMatch, sheets_of, StandsByClaim, StepsSayWhatTheyTell}
pub use Rattle.hs_law_agent.specs.Messages.{has_crumb, late_of, told_of}
pub use Rattle.hs_law_agent.specs.Standings.{Abandoned, ChunkStanding, Evicted, Indexed, indexed_count, indexed_places, is_among, is_indexed, is_indexed_of, is_let_go, is_of_trace, is_pinned, is_pinned_for, is_pinned_to, is_reported, moved, moved_from, passes, Pinned, pinned_for, pinning_group, places_from, Reported, same_group, stands, Taken, trace_of}
pub use Rattle.hs_law_agent.specs.State.{AgentState, claim_of, ClaimedTrace, GivenPlace, is_abandoned, is_claimed, start, without_trace}
pub use Rattle.hs_law_agent.specs.Stepping.{admit, admits, after, after_event, after_from, AgentEvent, Answered, Asked, Chunk, claim_for, count_admitted, Crumbed, Gave, give_back, give_place, Given, group_of, Input, late_crumb, Missed, note_trigger, pin_chunk, take_answer, take_input, tell_late, told_by, Took, Triggered, Turn, Unread, with_abandoned, with_indexed, with_pinned, with_touched}
pub use Rattle.hs_law_agent.specs.Turning.{by_priority, costs_of, is_pinned_under, order_of, place_is_no_greater, put_before, report, reported_standing, used_at, visit}
pub use Rattle.hs_base.proofs.Alls.{all_append, all_append_option, all_filter, all_push}
pub use Rattle.hs_base.proofs.Counts.{one_few, one_if}
pub use Rattle.hs_base.proofs.Filters.{filter_all, filter_few, filter_none}
pub use Rattle.hs_records.specs.Plain.{PlainSettings}
pub use Rattle.hs_records.specs.declared.journal.Step.{Step}
pub use Rattle.hs_sched.specs.Visits.{count_sent}
pub use Rattle.hs_sched.specs.declared.share.Share.{Share}
pub use Rattle.hs_words.specs.Pages.{Sheet}
pub use Rattle.std.proofs.lemmas.Bool.{and_parts, cases_Bool, eq-eqb, eqb-true, ltb-false, ltb-true, ne_eqb, or_cases, or_parts, or_right, true≢false}
pub use Rattle.std.proofs.lemmas.Cmp.{tied_itself}
pub use Rattle.std.proofs.lemmas.List.{map-append}
pub use Rattle.std.proofs.lemmas.Option.{same_Some}
pub use Rattle.std.specs.List.{AllByRecursion, cons_option, list_any}
pub use Rattle.std.specs.Option.{option_and_then, option_map, option_map_or}
pub use Rattle.std.specs.Ordering.{is_le}
pub use Rattle.std.specs.Prelude.{filter, fold, nat_lt, slice_get, ◌==◌, ◌||◌, ◌⊎◌}
