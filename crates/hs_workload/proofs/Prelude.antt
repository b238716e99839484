-- What several proofs of this crate take from other crates and from its own specs: each imports it from here.
pub use Rattle.hs_base.proofs.Numbers.{nat_eq_from, nat_le_false}
pub use Rattle.hs_base.proofs.Parts.{length_map}
pub use Rattle.hs_base.specs.Ranges.{is_out, Within}
pub use Rattle.hs_base.specs.Rules.{AreAutoRules, AreRules, fired_by, is_declared, IsAutoRule, IsRule}
pub use Rattle.hs_base.specs.declared.ids.TraceId.{TraceId}
pub use Rattle.hs_base.specs.declared.limits.TheConstants.{MAX_AUTOS, MAX_BURST, MAX_CLIENTS, MAX_LATERALS, MAX_NODES, MAX_OPERATIONS, MAX_PAYLOAD, MAX_RATE, MAX_TRIGGER, MAX_WEIGHT, MAX_WINDOW, MIN_WINDOW, WHOLE_SHARE}
pub use Rattle.hs_base.specs.declared.settings.AutoRule.{AutoRule}
pub use Rattle.hs_base.specs.declared.settings.AutoRule.TheVariants.{Category, Exception, Percentile, Queue}
pub use Rattle.hs_base.specs.declared.settings.TriggerRule.{TriggerRule}
pub use Rattle.hs_records.specs.Plain.{Begin, Crumb, End, Fire, Operation, PlainSettings, PlainWorkload, Point, Sample}
pub use Rattle.hs_records.specs.Records.{AreBracketed}
pub use Rattle.hs_records.specs.Settings.{least, most, setting_of, setting_place}
pub use Rattle.hs_records.specs.Validity.{client_pieces, HasDigits, IsClient, IsOperation, IsValid, operation_pieces, workload_pieces}
pub use Rattle.hs_records.specs.Views.{operation_of, operations_of, workload_of}
pub use Rattle.hs_records.specs.declared.setting.Setting.{Setting}
pub use Rattle.hs_text.specs.Agreement.{Agrees}
pub use Rattle.hs_text.specs.Judging.{first_fault_in}
pub use Rattle.hs_text.specs.JudgingLaws.{IsReading, run}
pub use Rattle.hs_text.specs.Spelling.{spelled-every, spelled-text}
pub use Rattle.hs_text.specs.Steps.{value_or, ◌>>=◌}
pub use Rattle.hs_text.specs.Text.{number_of, numbers_of, payload_of}
pub use Rattle.hs_text.specs.TextLaws.{payload_of-payload_text}
pub use Rattle.hs_text.specs.WordsLeft.{words_in}
pub use Rattle.hs_text.specs.Writing.{line_written, spaced, spaced_more, spaced_one, trace_word}
pub use Rattle.hs_workload.specs.Faults.{before_words, begins_while_open, has_no_kind, has_wrong_count, has_wrong_hex, has_wrong_number, is_auto_out, is_one_too_many, is_out_of_order, is_out_of_range, is_rule_out, is_window_out, judging, keyword_reasons, lacks_trace, leaves_open, may_stand, names_unknown, Refuses, statement_reasons, version_of}
unfoldable pub use Rattle.hs_workload.specs.Faults.{fault_at, first_fault}
pub use Rattle.hs_workload.specs.Forward.{after, closed, Draft, draft_of, error_at, fresh, IsSound, open_after, past_of, workload_drafted}
unfoldable pub use Rattle.hs_workload.specs.Forward.{line_step, point_step}
pub use Rattle.hs_workload.specs.Grammar.{auto_statements, client_statements, head_statements, Reads, statements_text, workload_statements}
pub use Rattle.hs_workload.specs.LookBack.{Past}
pub use Rattle.hs_workload.specs.Settings.{all_settings, setting_in}
pub use Rattle.hs_workload.specs.Statements.{all_keywords, auto_numbers, auto_rule, Declare, Finish, fire, keyword_of, keyword_text, keywords_told_apart, kind_count, kind_of, kind_text, kinds_told_apart, number_count, numbers_at, numbers_say, Operate, Put, rule_numbers, says, Start, Statement, statement_line, statement_of, statement_words, trace_of, traces_of, Watch, watch_said}
pub use Rattle.hs_workload.specs.declared.refusal.ReadError.{ReadError}
pub use Rattle.hs_workload.specs.declared.refusal.Reason.{Reason}
pub use Rattle.hs_workload.specs.declared.word.Keyword.{Keyword}
pub use Rattle.hs_workload.specs.declared.word.Kind.{Kind}
pub use Rattle.std.proofs.Math.ListN.{get_or-append, get_or-eq_default}
pub use Rattle.std.proofs.Math.Nat.{mul-le-mul}
pub use Rattle.std.proofs.Math.Seq.{get_or-append_seam}
pub use Rattle.std.proofs.lemmas.Bool.{and_from, le-ltb, ltb-false, not-false, or_from}
pub use Rattle.std.proofs.lemmas.List.{map_push, nil_from_length}
pub use Rattle.std.proofs.lemmas.List.Folds.{list_any_none}
pub use Rattle.std.specs.List.{All, AllByRecursion}
pub use Rattle.std.specs.Prelude.{decimal, IfSome, is_none, option_and_then, option_map}
pub use borrow.Author.Tests.{eqb-true, leb-true, ltb-true, ne_eqb}
