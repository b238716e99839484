-- What several proofs of this crate take from other crates and from its own specs: each imports it from here.
pub use Rattle.hs_base.specs.declared.ids.TraceId.{TraceId}
pub use Rattle.hs_base.specs.declared.told.Ask.{Ask}
pub use Rattle.hs_base.specs.declared.told.Told.{Told}
pub use Rattle.hs_wire.specs.Messages.{AreBytes, FitTraces, IsMessage, IsSaid, message_bytes, plain, PlainHello, PlainMessage, PlainReported, Said, said_bytes, SaysAsk, SaysHello, SaysReported, SaysStanding, SaysTold, trace_bytes}
unfoldable pub use Rattle.hs_wire.specs.Messages.{ask_bytes, group_bytes, head_bytes, hello_bytes, id_bytes, losses_bytes, reported_bytes, standing_bytes, told_bytes, traces_bytes}
pub use Rattle.hs_wire.specs.Reading.{all, both, by, byte_at, bytes_at, making, number_at, only_if, Reader}
unfoldable pub use Rattle.hs_wire.specs.Reading.{message_at, traces_at}
pub use Rattle.hs_wire.specs.Writing.{Puts}
pub use Rattle.hs_wire.specs.declared.message.Standing.{Standing}
pub use Rattle.hs_words.proofs.Numbers.{IsBytes}
pub use Rattle.std.proofs.lemmas.Bool.{eqb-true}
pub use Rattle.std.proofs.lemmas.List.{drop_at, length-append, length-take-le, take-append-drop, take_at}
pub use Rattle.std.specs.Int.{to_be_bytes, w128, w16, w32, w64}
pub use Rattle.std.specs.List.{AllByRecursion, flat_map}
