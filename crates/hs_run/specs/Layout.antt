-- How a node lies in its fields, and where nodes and a coordinator stand.
use Rattle.hs_run.specs.RunStates.{PlainNodeActors}
use Rattle.hs_run.specs.declared.node_actors.NodeActors.TheInside.{Inside}

abbrev pub site_of : Inside → PlainNodeActors
site_of s = record { callers = s.callers.items; agent = s.agent }
