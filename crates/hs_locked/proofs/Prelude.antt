-- What several proofs of this crate take from other crates and from its own specs: each imports it from here.
pub use Rattle.atomic_table.proofs.Lists.{at_set, set_else, set_here}
pub use Rattle.atomic_table.specs.Seated.{TableId}
pub use Rattle.atomic_table.specs.Table.{Allows, Joins, opening, Splits, step, stepped}
pub use Rattle.hs_base.specs.declared.limits.TheConstants.{MOST_AHEAD}
pub use Rattle.hs_base.proofs.Places.{elem_push_cases}
pub use Rattle.hs_locked.specs.Making.{closed_giver_seat, IsMaking}
pub use Rattle.hs_locked.specs.Rule.{DeskOk, Facts, first_giver_seat, first_view, gots_in, HandOk, home, InLine, Kept, Knows, LockedRule, out, OutOk, PalmOk, PostOk, Slot, SlotOk, SpotOk, StandOk, StoreOk}
pub use Rattle.hs_locked.specs.Seats.{drawing_of, IsFree, MayTurn, PoolSeat, stand_of, StandsInside, StandsQueued}
pub use Rattle.hs_locked.specs.Steps.{did_close, did_leave, did_look, did_take_ticket}
pub use Rattle.hs_locked.specs.Stored.{GoesOn, next_draw}
pub use Rattle.hs_locked.specs.Views.{all_left, away, bare, closing, drawer_note, drawer_seat_after, drawer_seat_of, DrawerSeat, drawing, event_of, giver_note, giver_seat_after, giver_seat_of, GiverSeat, giving, Hand, hand_after, Has, HasStore, having_closed, having_left, holds, inside, kept, leasing, left_in, new_drawer, nobody, note_of, nothing, Palm, queued, size_of, Stand, View, without_lease}
pub use Rattle.hs_locked.specs.declared.store.Store.{Store}
pub use Rattle.hs_pool.specs.Pool.{HasSize, IsAfter, waiting}
pub use Rattle.hs_ring.proofs.Closings.{answers_length}
pub use Rattle.hs_ring.proofs.Spots.{now_with, still_with, with_more}
pub use Rattle.hs_ring.specs.Parts.{answers_of_all, Drawing, new_drawers}
pub use Rattle.hs_ring.specs.Seats.{IsSameSeat, name_of}
pub use Rattle.hs_words.proofs.Deeds.{all_of, answers_below, are_answers_more, unread_more}
pub use Rattle.hs_words.specs.Chunks.{clear_chunks, Contents}
pub use Rattle.hs_words.specs.Ends.{Answer, AreAnswers, Deed, events_of, is_any_got, queue_of}
pub use Rattle.hs_words.specs.Plans.{Plan, total, Within}
pub use Rattle.hs_words.specs.PoolHistory.{Empty, Given, Got, PoolEvent}
pub use Rattle.hs_words.specs.Pools.{PoolName}
pub use Rattle.hs_words.specs.Seats.{AtSeat}
pub use Rattle.hs_words.specs.Spots.{HasLease, in_queue, leased, Spot, with_drawer, with_giver}
pub use Rattle.hs_words.specs.declared.token.Tally.{Tally}
pub use Rattle.std.specs.Arc.{arc_value}
pub use Rattle.std.specs.List.{AllByRecursion, range_with_len}
pub use Rattle.std.specs.Prelude.{sum}
pub use lib.ListN.{get_elem?}
pub use mathlib.Core.Option.{some, some-injective, some-ne-none}
pub use native.Mathlib.Decide.{ℕ_discrete}
