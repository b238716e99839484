-- What several proofs of this crate take from other crates and from its own specs: each imports it from here.
pub use Rattle.hs_auto.specs.Watching.{HasSampled, Watch}
pub use Rattle.hs_base.specs.Rules.{fired_by, is_declared}
pub use Rattle.hs_base.specs.declared.ids.ClientId.{ClientId}
pub use Rattle.hs_base.specs.declared.ids.TraceId.{TraceId}
pub use Rattle.hs_base.specs.declared.told.Crumb.{Crumb}
pub use Rattle.hs_base.specs.declared.told.Trigger.{Trigger}
pub use Rattle.hs_client.specs.Calls.{after, AreSteps, IsBook, May, segments_of_steps, with_all}
pub use Rattle.hs_client.specs.Core.{after_step, Began, closed, Core, Current, handed, CoreStep, supplied}
pub use Rattle.hs_client.proofs.Adding.{OneMore}
pub use Rattle.hs_client.specs.OneMore.{AreWatching}
pub use Rattle.hs_client.specs.Sending.{trigger_in}
pub use Rattle.hs_link.specs.Contents.{IsBeginning, IsSameSender, OneBegins, Outgoing, sent}
pub use Rattle.hs_base.proofs.Lent.{lent, lent_from, lent_is}
pub use Rattle.hs_base.proofs.Parts.{option_to_list_short}
pub use Rattle.hs_live.specs.Calls.{IsOf, made_of}
pub use Rattle.hs_live.specs.ClientInside.{live_of}
pub use Rattle.hs_live.specs.Done.{Does, DoesNothing, HasDone}
pub use Rattle.hs_live.specs.Inside.{writing_in}
pub use Rattle.hs_live.specs.Keys.{Key}
pub use Rattle.hs_live.specs.Live.{Flushes, GoesOn, incoming, IsEnd, IsMate, outgoing, PlainClient, Port, ReceivesAt}
pub use Rattle.hs_live.specs.Writing.{buffer_got, buffers_by, IsSound, IsWriting, Made, new_of, noted, WritesPieces, Writing, writing_of}
pub use Rattle.hs_live.specs.declared.called.Called.TheVariants.{Done}
pub use Rattle.hs_live.specs.declared.writer.Writer.{Writer}
pub use Rattle.hs_records.specs.Plain.{Begin, End, Fire, Operation, Point, Sample}
pub use Rattle.hs_records.specs.Records.{numbered_of, Piece, piece_limit, record_pieces, Segment, segments_from, segments_of}
pub use Rattle.hs_ring.specs.Parts.{after_draw, Drawing, DrawsAs, Giving, Leased}
pub use Rattle.hs_words.specs.Buffers.{Buffer, buffer_in, buffer_of}
pub use Rattle.hs_words.specs.Chunks.{Contents}
pub use Rattle.hs_words.specs.Ends.{Answer}
pub use Rattle.hs_words.specs.PoolHistory.{Empty, Got, PoolEvent}
pub use Rattle.hs_words.specs.declared.token.Drawn.{Drawn}
pub use Rattle.hs_words.specs.declared.token.Held.{Held}
pub use Rattle.std.proofs.lemmas.List.{append-nil, length-map, map-append, reverse-append}
pub use Rattle.std.proofs.lemmas.Option.{IfSome_then, same_Some, slice_get-map, slice_get_within}
pub use Rattle.std.specs.List.{AllByRecursion}
pub use Rattle.std.specs.Option.{option_map, option_to_list}
pub use Rattle.std.specs.Prelude.{is_some, slice_get}
