-- What several proofs of this crate take from other crates and from its own specs: each imports it from here.
pub use Rattle.hs_auto.specs.Watching.{HasSampled, Watch}
pub use Rattle.hs_base.specs.Rules.{fired_by}
pub use Rattle.hs_base.specs.declared.ids.ClientId.{ClientId}
pub use Rattle.hs_base.specs.declared.ids.TraceId.{TraceId}
pub use Rattle.hs_base.specs.declared.limits.TheConstants.{MIN_SIZE}
pub use Rattle.hs_base.specs.declared.settings.AutoRule.{AutoRule}
pub use Rattle.hs_base.specs.declared.told.Crumb.{Crumb}
pub use Rattle.hs_base.specs.declared.told.Trigger.{Trigger}
pub use Rattle.hs_client.specs.Calls.{after, AreSteps, draws_supplied, filled_chunks, IsBook, May, segments_of_steps, with_all}
pub use Rattle.hs_client.specs.Core.{after_step, Began, Core, draw_of, Ended_, handed, Needed, new_core, number_after, Refused, CoreStep, Supplied, supplied, Wrote}
pub use Rattle.hs_client.proofs.Adding.{at, OneMore}
pub use Rattle.hs_client.proofs.Order.{length_next}
pub use Rattle.hs_client.specs.Drawn.{DrawnPage}
pub use Rattle.hs_client.specs.Draws.{count_started, draws_behind, event_drawn}
pub use Rattle.hs_client.specs.OneMore.{AreWatching, items_of}
pub use Rattle.hs_client.specs.Order.{AreInOrder, ChunksAreInOrder}
pub use Rattle.hs_client.specs.Playable.{IsPlayable}
pub use Rattle.hs_client.specs.Sending.{sends_of, Sent, sent_within, trigger_in}
pub use Rattle.hs_client.specs.SoFar.{done_behind, has_open_page, pages_within}
pub use Rattle.hs_client.specs.Timing.{timed_pages}
pub use Rattle.hs_base.proofs.Options.{is_some_false}
pub use Rattle.hs_base.proofs.Places.{get_front}
pub use Rattle.hs_pool.specs.Pool.{IsAfter, Pool}
pub use Rattle.hs_records.proofs.Payloads.{AreCut}
pub use Rattle.hs_records.proofs.Sizes.{client_more}
pub use Rattle.hs_records.specs.Plain.{Begin, End, Fire, Operation, PlainSettings, Point, Sample}
pub use Rattle.hs_records.specs.Records.{coming, numbered_of, Piece, piece_count, piece_limit, record_pieces, Segment, segments_from, segments_of}
pub use Rattle.hs_records.specs.Validity.{client_pieces, operation_pieces}
pub use Rattle.hs_records.specs.Views.{operation_of}
pub use Rattle.hs_records.specs.declared.journal.Draw.{Draw}
pub use Rattle.hs_records.specs.declared.operation.Op.{Op}
pub use Rattle.hs_replay_client.specs.Doing.{Does, Gone, HasDone, MayDo}
pub use Rattle.hs_replay_client.specs.Inside.{working_in, writing_in}
pub use Rattle.hs_replay_client.specs.Places.{chunk_of, chunks_within, gone_of, IsDone, made_for, ReplayClientIsAt, TakesChunk, TakesCrumb, TakesTrigger, TellsBare, Waits, WentOn}
pub use Rattle.hs_replay_client.specs.Pooled.{OnlyDraws}
pub use Rattle.hs_replay_client.specs.ReplayClientInside.{replay_client_in}
pub use Rattle.hs_replay_client.specs.ReplayClients.{PlainReplayClient, Unleased, Working}
pub use Rattle.hs_replay_client.specs.Wells.{DrawsAll, IsClear, IsReadyFor, note_drawn, Way}
pub use Rattle.hs_replay_client.specs.Writing.{buffer_got, CountsOne, EndsTrace, IsSound, IsWriting, Made, new_of, Records, Spends, Writing}
pub use Rattle.hs_words.specs.Buffers.{buffer_of}
pub use Rattle.hs_words.specs.Chunks.{clear_chunk, Contents}
pub use Rattle.hs_words.specs.PoolHistory.{PoolEvent, queue_after}
pub use Rattle.hs_words.specs.declared.token.Drawn.{Drawn}
pub use Rattle.std.proofs.lemmas.Bool.{le-ltb, ltb-false}
pub use Rattle.std.proofs.lemmas.List.{append-nil, drop_at, length-map, length-take-le, map-append, reverse-append, take-append-drop, take_all, take_at}
pub use Rattle.std.proofs.lemmas.Option.{same_Some, slice_get-map}
pub use Rattle.std.proofs.lemmas.Result.{on_ok_weaker}
pub use Rattle.std.specs.List.{AllByRecursion, flat_map}
pub use Rattle.std.specs.Option.{option_map, option_to_list}
pub use Rattle.std.specs.Prelude.{is_some, nat_lt, slice_get}
