-- What several proofs of this crate take from other crates and from its own specs: each imports it from here.
pub use Rattle.circular_buffer.specs.Buffer.{Buffer}
pub use Rattle.hs_base.specs.Ids.{is_among}
pub use Rattle.hs_base.specs.declared.ids.ClientId.{ClientId}
pub use Rattle.hs_base.specs.declared.ids.RecordId.{RecordId}
pub use Rattle.hs_base.specs.declared.ids.TraceId.{TraceId}
pub use Rattle.hs_base.specs.declared.limits.TheConstants.{MAX_OPERATIONS}
pub use Rattle.hs_base.specs.declared.settings.AutoRule.{AutoRule}
pub use Rattle.hs_base.specs.declared.told.Trigger.{Trigger}
pub use Rattle.hs_check_follow.specs.Asking.{MayBegin}
pub use Rattle.hs_compare.specs.Beginning.{AreFirstScripts, AreScripts, first_comings}
pub use Rattle.hs_compare.specs.Coming.{all_comings, Comes, comings_of, events_at, events_in_order, items_at, named_by, named_in, Names, names_in, SamplerEvent, sent_comings}
pub use Rattle.hs_compare.specs.Comparing.{comparison_by, line_of_marked, line_of_sent, marks_of_head, marks_of_named, marks_of_reported}
pub use Rattle.hs_compare.specs.Counting.{AreCounted, is_counted, is_same, is_whole_by, line_by, times, times_in}
pub use Rattle.hs_compare.specs.Happens.{comes_at, coming_of, name_at, names_by, points_by}
pub use Rattle.hs_compare.specs.Lines.{comparison_of, each_once, is_gap, is_limited, PlainComparison, PlainLine}
pub use Rattle.hs_compare.specs.Marked.{bytes_in, marked, traces_of}
pub use Rattle.hs_compare.specs.Plain.{plain_comparison, plain_line}
pub use Rattle.hs_compare.specs.Points.{brought, comes_in, HasGone, HasScript, IsScriptOf}
pub use Rattle.hs_compare.specs.Queues.{AreQueued, ids_of, queued}
pub use Rattle.hs_compare.specs.Ringing.{alive, comes, ids_in, is_noted_of, kept_by_rank, last_noted, names, Ringing, traces_in}
pub use Rattle.hs_compare.specs.Rounds.{all_rounds, IsSound, part_of, round_of}
pub use Rattle.hs_compare.specs.SamplerLaws.{brought_by, CanBeCompared, ClaimedTracesAreNamed, compared_by, EntriesStandByTheRecords, IsParted, KeptIsParted, name_of_coming, RingKeepsEachOnce, SumsToTail, TailIsTheSum}
pub use Rattle.hs_compare.specs.Samplers.{empty_ring, is_of, last_ones, ring_keeps, ring_step, SamplerRing, tail_keeps}
pub use Rattle.hs_compare.specs.Scripts.{event_of, IsClientScript, names_of, sent_names}
pub use Rattle.hs_compare.specs.Walking.{AreInTurn, AreLeft, AreOf, both_of, events_from, events_in, events_of, IsScript, rest_of, ring_after, rings_after, run_of}
pub use Rattle.hs_compare.specs.Whole.{ringing_by}
pub use Rattle.hs_compare.specs.declared.coming.Coming.{Coming}
pub use Rattle.hs_compare.specs.declared.comparison.Comparison.{Comparison}
pub use Rattle.hs_compare.specs.declared.happening.NumberedEvent.{NumberedEvent}
pub use Rattle.hs_compare.specs.declared.lines.Line.{Line}
pub use Rattle.hs_compare.specs.declared.points.RecordWalk.{RecordWalk}
pub use Rattle.hs_compare.specs.declared.ring.TracedRecord.{TracedRecord}
pub use Rattle.hs_compare.specs.declared.script.Script.{Script}
pub use Rattle.hs_law_agent.specs.Bringing.{ClaimsAreOfWhatIsBrought, ClaimsOnly}
pub use Rattle.hs_law_agent.specs.State.{ClaimedTrace}
pub use Rattle.hs_law_journal.specs.Ends.{rounds_for, rounds_of}
pub use Rattle.hs_law_journal.specs.Following.{followed, NodeRun, Run}
pub use Rattle.hs_law_journal.specs.Lawful.{IsLawful}
pub use Rattle.hs_law_outcome.proofs.Among.{in_filter, is_first}
pub use Rattle.hs_law_outcome.specs.Outcomes.{claimed_at, client_at, outcome_of, put_trace, rising_traces}
pub use Rattle.hs_law_outcome.specs.Records.{EachRecordHasOneEntry, name_of, Named}
pub use Rattle.hs_client.specs.OneMore.{OneMoreOperation}
pub use Rattle.hs_client.specs.Sending.{draws_at, operations_at, place_of, Sent, sent_triggers, trigger_in, triggers_behind}
pub use Rattle.hs_client.specs.SoFar.{AllTriggersAreSent}
pub use Rattle.hs_client.specs.Timing.{point_numbers}
pub use Rattle.hs_ledger.specs.Totals.{is_reported}
pub use Rattle.hs_ledger.specs.declared.ledger.Entry.{Entry}
pub use Rattle.hs_base.proofs.Alls.{all_append, all_at, all_each, all_flat_range, all_map}
pub use Rattle.hs_base.proofs.Counts.{count_alike, length_cons_if, one_if}
pub use Rattle.hs_base.proofs.Options.{on_ok_map}
pub use Rattle.hs_base.proofs.Parts.{length_map}
pub use Rattle.hs_base.proofs.Places.{IsIn, row_is}
pub use Rattle.hs_base.proofs.Ranges.{range_append}
pub use Rattle.hs_records.proofs.Sizes.{operations_few}
pub use Rattle.hs_records.specs.Journals.{PlainJournal}
pub use Rattle.hs_records.specs.Pages.{pages_of}
pub use Rattle.hs_records.specs.Plain.{Begin, Crumb, End, Fire, Operation, PlainWorkload, Point, Sample, settings_of}
pub use Rattle.hs_records.specs.Records.{numbered_from, numbered_of, NumberedOperation, open_behind, Record, record_at, records_of}
pub use Rattle.hs_records.specs.Validity.{IsValid}
pub use Rattle.hs_records.specs.Views.{operation_of, operations_of, workload_of}
pub use Rattle.hs_records.specs.declared.journal.Draw.{Draw}
pub use Rattle.hs_records.specs.declared.setting.Setting.TheVariants.{Nodes}
pub use Rattle.std.proofs.Math.Nat.{mod-lt}
pub use Rattle.std.proofs.Math.Seq.{drop-cons}
pub use Rattle.std.proofs.lemmas.Bool.{cases_lt, eqb-false, eqb-true, ne_eqb}
pub use Rattle.std.proofs.lemmas.List.{append-nil, length-drop, length-map, length_push, map-append, take_all, take_more}
pub use Rattle.std.proofs.lemmas.List.Concat.{flat_map-append}
pub use Rattle.std.proofs.lemmas.List.Elements.{filter-append}
pub use Rattle.std.proofs.lemmas.List.Folds.{list_any-append}
pub use Rattle.std.proofs.lemmas.List.Sums.{sum_by-cons, sum_by_push}
pub use Rattle.std.proofs.lemmas.Nat.{div-add-mod'}
pub use Rattle.std.proofs.lemmas.Option.{same_Some, slice_get_within}
pub use Rattle.std.proofs.lemmas.Result.{IfOk-weaker}
pub use Rattle.std.specs.List.{AllByRecursion, flat_map, list_any, range_with_len}
pub use Rattle.std.specs.Map.{lookup}
pub use Rattle.std.specs.Prelude.{count_by, fold, IsPermutation, nat_lt, not, slice_get, sum_by, unwrap_or, zip}
