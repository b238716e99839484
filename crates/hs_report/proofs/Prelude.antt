-- What several proofs of this crate take from other crates and from its own specs: each imports it from here.
pub use Rattle.hs_base.specs.Ids.{is_among, same_trace}
pub use Rattle.hs_base.specs.declared.ids.RecordId.{RecordId}
pub use Rattle.hs_base.specs.declared.ids.TraceId.{TraceId}
pub use Rattle.hs_base.specs.declared.told.Fate.{Fate}
pub use Rattle.hs_collect.specs.Collected.{AreCollected, AreWholes, is_same, pieces_of, Placed}
pub use Rattle.hs_collect.specs.Views.{placed_of, Sheets}
pub use Rattle.hs_journal.specs.Grammar.{journal_text}
pub use Rattle.hs_law_journal.specs.Lawful.{IsLawful}
pub use Rattle.hs_law_outcome.specs.CollectedReports.{CollectedRecordsAreWhole, reported_wholes, was_reported}
pub use Rattle.hs_law_outcome.specs.Outcomes.{outcome_of}
pub use Rattle.hs_law_outcome.specs.Reports.{is_of}
pub use Rattle.hs_ledger.specs.Totals.{is_reported}
pub use Rattle.hs_ledger.specs.declared.ledger.Entry.{Entry}
pub use Rattle.hs_base.proofs.Bools.{first_true, second_true}
pub use Rattle.hs_base.proofs.Filters.{filter_weaker}
pub use Rattle.hs_outcome.specs.Outcomes.{IsOutcome}
pub use Rattle.hs_outcome.specs.declared.outcome.Outcome.{Outcome}
pub use Rattle.hs_records.specs.Journals.{HasItsLists, journal_of, PlainJournal}
pub use Rattle.hs_records.specs.Plain.{PlainWorkload}
pub use Rattle.hs_records.specs.Validity.{IsValid}
pub use Rattle.hs_report.specs.Fates.{AreFatesOf, has_entry}
pub use Rattle.hs_report.specs.Kept.{is_kept, kept_of}
pub use Rattle.hs_report.specs.OutcomeText.{entry_line, fate_words, gap_line, placed_line, report_lines}
pub use Rattle.hs_report.specs.Sorted.{AreSorted, count_line, records_by}
pub use Rattle.hs_report.specs.Sources.{gaps_of, Hold, report_by}
pub use Rattle.hs_report.specs.declared.fates.Sorted.{Sorted}
pub use Rattle.hs_report.specs.declared.form.Form.TheVariants.{Text}
pub use Rattle.hs_text.specs.Text.{hex_text, line_of, text_of}
pub use Rattle.hs_text.specs.Writing.{line_written, spaced_one, trace_word}
pub use Rattle.std.proofs.lemmas.Bool.{or_left}
pub use Rattle.std.proofs.lemmas.Bool.Decides.{nat_tests}
pub use Rattle.std.proofs.lemmas.Fn.{always_returns_same}
pub use Rattle.std.proofs.lemmas.List.{get_or-drop, get_or-take, length-map, length-take, map-append, take-append-drop, take_all, take_more}
pub use Rattle.std.proofs.lemmas.List.Concat.{flat_map-append}
pub use Rattle.std.proofs.lemmas.List.Elements.{filter-append}
pub use Rattle.std.proofs.lemmas.Result.{IfOk-weaker, on_ok_weaker}
pub use Rattle.std.specs.HashSet.{contains}
pub use Rattle.std.specs.List.{filter, flat_map, list_any}
pub use Rattle.std.specs.List.Sorted.{IsNonDecreasingBy, ties}
