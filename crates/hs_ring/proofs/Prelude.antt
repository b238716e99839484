-- What several proofs of this crate take from other crates and from its own specs: each imports it from here.
pub use Rattle.atomic_table.proofs.Lists.{at_set, set_else, set_here}
pub use Rattle.atomic_table.specs.Seated.{TableId}
pub use Rattle.atomic_table.specs.Table.{Act, Allows, gives, Joins, keeps, Me, opening, Splits, State, step, stepped, takes}
pub use Rattle.hs_base.proofs.Updates.{put, put_cases, put_else, put_here}
pub use Rattle.hs_base.specs.declared.limits.TheConstants.{MOST_AHEAD, MOST_BUFFERS, MOST_DRAWS}
pub use Rattle.hs_base.proofs.Counts.{count_cons}
pub use Rattle.hs_base.proofs.Places.{elem_push_cases}
pub use Rattle.hs_ring.specs.Making.{closed_giver_seat, IsMaking}
pub use Rattle.hs_ring.specs.Parts.{answers_of_all, Drawing, new_drawers}
pub use Rattle.hs_ring.specs.Rule.{Allowed, Cell, CellOk, DeskOk, drawn, Facts, first_view, free, HandOk, IsLaid, IsLastOf, IsSettled, Kept, Knows, laid, PalmOk, PostOk, published, RingRule, SpotOk, waits}
pub use Rattle.hs_ring.specs.Seats.{drawing_of, IsFree, IsSameSeat, name_of, PoolSeat}
pub use Rattle.hs_ring.specs.Steps.{did_collect, did_draw, did_lay, did_look, did_publish, did_refill, did_retake, drawn_of, Over, packed, published_of}
pub use Rattle.hs_ring.specs.Views.{all_left, all_most, bare, drawer_note, drawer_seat_of, DrawerSeat, drawing, drew, giver_note, giver_seat_after, giver_seat_of, GiverSeat, giving, Hand, Has, having_closed, holds, InHand, kept, lays, leasing, left_in, most_in, new_drawer, nobody, note_of, nothing, Palm, refilled_seat, retakes, View, with_lease}
pub use Rattle.hs_ring.specs.declared.board.TheConstants.{DRAWN, LEVEL, ONE_DRAW, ONE_GIVE}
pub use Rattle.hs_words.proofs.Deeds.{all_of, answers_and, answers_below, are_answers_more, draw_is_at, unread_more}
pub use Rattle.hs_words.proofs.Waiting.{drawn_kinds, given_kinds}
pub use Rattle.hs_words.specs.Chunks.{clear_chunk, clear_chunks, Contents}
pub use Rattle.hs_words.specs.Ends.{Answer, answer_to, answers_by, answers_in, Deed, drawn_in, events_of, given_in, got_by, is_any_given, is_any_got, IsDeedAt, queue_of, told_in}
pub use Rattle.hs_words.specs.Plans.{Plan, Within}
pub use Rattle.hs_words.specs.PoolHistory.{is_empty, is_missed}
pub use Rattle.hs_words.specs.Pools.{PoolName}
pub use Rattle.hs_words.specs.Seats.{AtSeat}
pub use Rattle.hs_words.specs.Spots.{HasLease, in_queue, leased, Spot, with_drawer, with_giver}
pub use Rattle.std.proofs.lemmas.Grind.{get_or-set_at}
pub use Rattle.std.proofs.lemmas.List.{nil_from_length, set-get_or}
pub use Rattle.std.proofs.lemmas.List.FromFn.{length-range_with_len}
pub use Rattle.std.specs.Arc.{arc_value}
pub use Rattle.std.specs.List.{AllByRecursion, range_with_len}
pub use Rattle.std.specs.Prelude.{count_by, Option, slice_get, sum, vec_capacity, ◌==◌}
pub use lib.ListN.{get_elem?, length-map, length-replicate}
pub use mathlib.Core.Logic.{dite}
pub use mathlib.Core.Option.{some, some-injective, some-ne-none}
pub use native.Mathlib.Decide.{dec_le, ℕ_discrete}
pub use native.Mathlib.Nat.{add-mod_right}
pub use prog.Atomic.{either}
