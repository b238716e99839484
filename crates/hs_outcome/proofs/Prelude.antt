-- What several proofs of this crate take from other crates and from its own specs: each imports it from here.
pub use Rattle.hs_base.specs.declared.ids.ClientId.{ClientId}
pub use Rattle.hs_base.specs.declared.ids.TraceId.{TraceId}
pub use Rattle.hs_collect.specs.Collected.{AreCollected, CanBeAdded, first_seen}
pub use Rattle.hs_collect.specs.Views.{Sheets}
pub use Rattle.hs_law_outcome.specs.Outcomes.{outcome_of, rising_traces}
pub use Rattle.hs_law_outcome.specs.Records.{all_records}
pub use Rattle.hs_base.proofs.Bools.{first_true, second_true}
pub use Rattle.hs_base.proofs.Filters.{filter_weaker}
pub use Rattle.hs_outcome.specs.Claims.{all_claimed, claimed_by}
pub use Rattle.hs_outcome.specs.Pages.{all_sent, AreRead, bytes_of, Note, note_of, noted, sent_by, SpellAll, Traces, with_trace}
pub use Rattle.hs_outcome.specs.declared.pages.Reported.{Reported}
pub use Rattle.hs_records.specs.Books.{agent_book_of, PlainAgentBook, PlainClientBook}
pub use Rattle.hs_records.specs.Journals.{PlainJournal}
pub use Rattle.hs_records.specs.Plain.{PlainWorkload}
pub use Rattle.hs_records.specs.Validity.{IsValid}
pub use Rattle.hs_records.specs.declared.books.AgentBook.{AgentBook}
pub use Rattle.hs_records.specs.declared.books.Claim.{Claim}
pub use Rattle.hs_words.specs.Pages.{IsPage, page_bytes, Sheet}
pub use Rattle.hs_words.specs.Reading.{Spells}
pub use Rattle.std.proofs.lemmas.Bool.{or_left}
pub use Rattle.std.proofs.lemmas.Bool.Decides.{nat_tests}
pub use Rattle.std.proofs.lemmas.Fn.{always_returns_same}
pub use Rattle.std.proofs.lemmas.List.{get_or-drop, get_or-take, length-map, length-take, map-append, take-append-drop, take_all, take_more}
pub use Rattle.std.proofs.lemmas.List.Concat.{flat_map-append}
pub use Rattle.std.proofs.lemmas.List.Elements.{All-filter, All-from_recursion, filter-append, recursion_from_All}
pub use Rattle.std.proofs.lemmas.Option.{slice_get_within}
pub use Rattle.std.proofs.lemmas.Result.{IfOk-weaker}
pub use Rattle.std.specs.List.{AllByRecursion, filter, flat_map, list_any, range_with_len}
unfoldable pub use Rattle.std.specs.List.{IsDistinct}
pub use Rattle.std.specs.List.Sorted.{IsNonDecreasingBy, IsPermutation, IsSortedBy, IsStableBy, ties}
pub use Rattle.std.specs.Prelude.{option_map, slice_get}
