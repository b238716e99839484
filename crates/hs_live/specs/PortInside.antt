-- How a port lies in its fields.
use Rattle.std.specs.Prelude.{map}
use Rattle.hs_live.specs.declared.port.AgentPort.TheInside.{Inside}
use Rattle.hs_live.specs.Live.{Port, incoming}
use Rattle.hs_live.specs.Calls.{IsPort}

abbrev pub port_of : Inside → Port
port_of s = record { giver = s.giver; chunks = map incoming s.chunks.items; crumbs = s.crumbs.items; triggers = s.triggers.items }

abbrev pub IsPortInside : Inside → Type 0
IsPortInside s = IsPort (port_of s)
