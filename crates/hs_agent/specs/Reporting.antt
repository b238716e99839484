-- What waits to be reported, as a turn sees it: the pinned chunks of each trigger id in the order of the pins. A send moves
-- the next one of an id behind what was sent, and leaves everything else that is kept.
use Rattle.std.specs.Prelude.{◌≡◌, ℕ, List}
use Rattle.hs_base.specs.declared.ids.TriggerId.{TriggerId}
use Rattle.hs_pins.specs.Remembered.{Pin, Remembered}
use Rattle.hs_pins.specs.PinsLayout.{Remembers, waiting}
use Rattle.hs_pins.specs.Waiting.{used_bytes, taken}
use Rattle.hs_sched.specs.Moving.{ItemQueues, costs_in, MovesNext}
use Rattle.hs_agent.specs.declared.placed.Tagged.{Tagged}
use Rattle.hs_agent.specs.Keeping.{Kept}

abbrev pub id_of : ℕ → TriggerId
id_of id = record { 0 = id }

abbrev pub pin_lanes : {L : Type 0} → ItemQueues (Kept L) (Pin (Tagged L))
pin_lanes = record { waiting = λ kept id. waiting kept.pins (id_of id); sent = λ kept. kept.sent; cost = λ pin. used_bytes pin.chunk }

abbrev pub costs_of : {L : Type 0} → Kept L → ℕ → List ℕ
costs_of kept id = costs_in pin_lanes kept id

-- one send
pub record SendsNext {L : Type 0} (old : Kept L) (id : ℕ) (new : Kept L) : Type 0 where
  pub moves : MovesNext pin_lanes old id new
  pub remembers : (memory : Remembered (Tagged L)) → Remembers old.pins memory → Remembers new.pins (taken memory (id_of id))
  pub others : new ≡ record old { pins = new.pins; sent = new.sent }
