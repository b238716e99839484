-- The places of a buffer and of the store stay where a step changes one seat's view or adds a seat. What holds of a seat then has its
-- lemmas in `hs_ring`.
use Rattle.std.proofs.Common.{ℕ, List}
use mathlib.Core.Option as maybe
use Rattle.hs_locked.proofs.Prelude.{Deed, AtSeat, Spot, in_queue, with_drawer, leased, with_giver, Store, View, Has, HasStore, Slot, home, out, OutOk, InLine, SpotOk}

pub spot_stays : (n : ℕ) (log log' : List Deed) (seats : ℕ → ℕ) (giver : ℕ) (views views' : List View) (buffer : ℕ)
    → ((number : ℕ) → InLine n log buffer number → InLine n log' buffer number)
    → ((j : ℕ) → AtSeat views (Has buffer) j → AtSeat views' (Has buffer) j)
    → (spot : Spot) → SpotOk n log seats giver views buffer spot → SpotOk n log' seats giver views' buffer spot
spot_stays n log log' seats giver views views' buffer on_line on_seat (in_queue number) is = on_line number is
spot_stays n log log' seats giver views views' buffer on_line on_seat (with_drawer drawer) is = on_seat (seats drawer) is
spot_stays n log log' seats giver views views' buffer on_line on_seat (leased j) is = on_seat j is
spot_stays n log log' seats giver views views' buffer on_line on_seat with_giver is = on_seat giver is

pub out_stays : (place : maybe.Option (maybe.Option Store)) (views views' : List View) (stored : Store)
    → ((j : ℕ) → AtSeat views (HasStore stored) j → AtSeat views' (HasStore stored) j)
    → (slot : Slot) → OutOk place views stored slot → OutOk place views' stored slot
out_stays place views views' stored on_seat home ok = tt
out_stays place views views' stored on_seat (out end) ok = (ok.0, (ok.1.0, on_seat ok.1.0 ok.1.1))
