-- What several proofs of this crate take from other crates and from its own specs: each imports it from here.
pub use Rattle.hs_base.specs.Ids.{client_of}
pub use Rattle.hs_base.specs.declared.ids.ClientId.{ClientId}
pub use Rattle.hs_base.specs.declared.ids.RecordId.{RecordId}
pub use Rattle.hs_base.specs.declared.ids.TraceId.{TraceId}
pub use Rattle.hs_collect.specs.Clients.{is_behind}
pub use Rattle.hs_collect.specs.Collected.{AreCollected, AreInOrder, AreWholes, CanBeAdded, CanPrecede, end_of, first_seen, GoesOn, is_of, is_piece_of, is_same, IsWhole, page_pieces, pieces_from, pieces_of, Placed, Precedes}
pub use Rattle.hs_collect.specs.Joining.{GoesBehind, is_before, IsPlaceBehind, join_at, Joins}
pub use Rattle.hs_collect.specs.Views.{Collection, collection_of, placed_of, wholes_of}
pub use Rattle.hs_collect.specs.declared.records.TraceRecord.{TraceRecord}
pub use Rattle.hs_collect.specs.declared.records.TraceRecords.{TraceRecords}
pub use Rattle.hs_base.proofs.Alls.{pairs_head, pairs_tail}
pub use Rattle.hs_words.specs.Pages.{Piece, piece_of, Sheet}
pub use Rattle.hs_words.specs.declared.page.Header.{Header}
pub use Rattle.hs_words.specs.declared.page.Point.{Point}
pub use Rattle.std.proofs.lemmas.Bool.Decides.{nat_tests}
pub use Rattle.std.proofs.lemmas.List.{append-nil, append_assoc, drop-map, length-map, map-append, take-append-le, take-map}
pub use Rattle.std.proofs.lemmas.List.Concat.{flat_map-append}
pub use Rattle.std.proofs.lemmas.List.Elements.{All-append, All-cons, All-head, All-nil, All-push, All-tail, All-weaker, filter-append}
pub use Rattle.std.specs.List.{AllPairs, Any, find, flat_map, list_any}
unfoldable pub use Rattle.std.specs.List.{IsDistinct}
pub use Rattle.std.specs.Map.{lookup, set_value}
pub use Rattle.std.specs.Prelude.{slice_get}
