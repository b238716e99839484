-- What a slot owns.
use Rattle.std.specs.Prelude.{Option, None, Some}
use base.Fml.{Fml, ftrue}
use denote.RattleType.{RattleType}
use denote.RawPtr.{Ptr}
use Rattle.std.specs.Box.Ownership.{box_owns}
use Rattle.std.specs.Global.{Global}
use Rattle.std_heap.specs.contracts.GlobalAllocator.TheImpl.{ghosts}
use Rattle.hs_c.specs.declared.cells.ClientCell.{ClientCell}
use Rattle.hs_c.specs.declared.cells.HubCell.{HubCell}
use Rattle.hs_c.specs.declared.cells.NodeCell.{NodeCell}
use Rattle.hs_c.specs.declared.cells.PortCell.{PortCell}
use Rattle.hs_c.specs.contracts.cells.ClientCell.{the_row as client_row}
use Rattle.hs_c.specs.contracts.cells.HubCell.{the_row as hub_row}
use Rattle.hs_c.specs.contracts.cells.NodeCell.{the_row as node_row}
use Rattle.hs_c.specs.contracts.cells.PortCell.{the_row as port_row}

-- A handle to the heap: all free a block alike.
abbrev pub heap : Global
heap = record { memory = record { seal = tt } }

abbrev pub client_owns : Ptr → Option ClientCell → Fml
client_owns p None = ftrue
client_owns p (Some x) = box_owns (ghosts.dealloc_token heap) client_row p x

abbrev pub port_owns : Ptr → Option PortCell → Fml
port_owns p None = ftrue
port_owns p (Some x) = box_owns (ghosts.dealloc_token heap) port_row p x

abbrev pub hub_owns : Ptr → Option HubCell → Fml
hub_owns p None = ftrue
hub_owns p (Some x) = box_owns (ghosts.dealloc_token heap) hub_row p x

abbrev pub node_owns : Ptr → Option NodeCell → Fml
node_owns p None = ftrue
node_owns p (Some x) = box_owns (ghosts.dealloc_token heap) node_row p x
