-- What several proofs of this crate take from other crates and from its own specs: each imports it from here.
pub use Rattle.hs_auto.specs.Watching.{HasSampled, Watch}
pub use Rattle.hs_base.proofs.Alls.{all_append}
pub use Rattle.hs_base.specs.declared.ids.ClientId.{ClientId}
pub use Rattle.hs_base.specs.declared.ids.TraceId.{TraceId}
pub use Rattle.hs_base.specs.declared.limits.TheConstants.{MIN_SIZE}
pub use Rattle.hs_base.specs.declared.settings.AutoRule.{AutoRule}
pub use Rattle.hs_base.specs.declared.told.Trigger.{Trigger}
pub use Rattle.hs_client.specs.Calls.{sheet_for}
pub use Rattle.hs_client.specs.Drawn.{drawn_from}
pub use Rattle.hs_client.specs.Laws.{IsTimely, TimedPagesAreTimely}
pub use Rattle.hs_client.specs.OneMore.{AreWatching}
pub use Rattle.hs_client.specs.Sending.{crumb_in, samples_of, Sent, sent_chunks, sent_crumbs, sent_triggers, trigger_in, triggers_behind}
pub use Rattle.hs_client.specs.SoFar.{FirstChunksAreSent, FirstOperationsSend, has_open_page, pages_within}
pub use Rattle.hs_client.specs.Timing.{end_numbers, is_end, point_numbers, started_by, timed, timed_pages, TimedPage}
pub use Rattle.hs_records.specs.Fronts.{count_beside}
pub use Rattle.hs_records.specs.Laws.{CarriesRecords, CarryRecords, traces_of}
pub use Rattle.hs_records.specs.Pages.{cost_of, fits, page_room, pages_of, PlainPage, runs_within, segment_pages}
pub use Rattle.hs_records.specs.Plain.{Begin, Crumb, End, Fire, Operation, Point, Sample}
pub use Rattle.hs_records.specs.Records.{AreBracketed, coming, numbered_from, numbered_of, NumberedOperation, open_behind, payload_pieces, Piece, pieces_until_end, records_of, Segment, segments_from, segments_of}
pub use Rattle.hs_records.specs.declared.journal.Draw.{Draw}
pub use Rattle.hs_records.specs.declared.journal.Draw.TheVariants.{Empty, Got}
pub use Rattle.hs_words.specs.Pages.{Sheet}
pub use Rattle.std.proofs.lemmas.Bool.{le-ltb, lt-ltb}
pub use Rattle.std.proofs.lemmas.List.{append-nil}
pub use Rattle.std.proofs.lemmas.List.Elements.{filter-append}
pub use Rattle.std.proofs.lemmas.Option.{same_Some}
pub use Rattle.std.specs.List.{AllByRecursion, flat_map}
pub use Rattle.std.specs.Prelude.{is_some, slice_get}
