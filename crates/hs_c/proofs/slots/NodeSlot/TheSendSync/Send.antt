use Rattle.std.proofs.Common.{◌≡◌, Option, Some, None}
use mir.Raw.{raw}
use base.Shift.{Keyless}
use denote.Memory.{lone}
use denote.RawPtr.{Ptr}
use denote.Struct.Struct.{exits_of}
use denote.Struct.Owning.{shape, fields, to}
use denote.Param.Send.{IsSend, AllSend, owning_send, struct_send, sendable}
use Rattle.std_alloc.proofs.SendSync.{quiet, lies}
use Rattle.std.proofs.Crossing.{frees}
use Rattle.hs_c.specs.Holds.{heap, node_owns as held_owns}
use Rattle.hs_c.specs.declared.cells.NodeCell.{NodeCell}
use Rattle.hs_c.specs.contracts.cells.NodeCell as plain'
use Rattle.hs_c.proofs.cells.NodeCell.TheSendSync.{the_send as plain-send}
use Rattle.hs_c.specs.contracts.slots.NodeSlot.{the_row, the_type}

held : (p : Ptr) (x : Option NodeCell) → Keyless (held_owns p x)
held p None = tt
held p (Some x) = (lies plain'.the_row plain-send p x, frees.frees heap (raw (lone plain'.the_row.mir)) p)

pub send : IsSend the_row
send =
    let all : AllSend (fields the_type) = (search sendable, tt) in
    owning_send the_type all (λ d. held d.at d.held)
    (λ k. quiet (to the_type) (exits_of k (fields the_type)) ((struct_send (shape the_type) all).leaving k))
