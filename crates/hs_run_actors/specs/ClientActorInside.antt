-- How a client of a run lies in its fields. Its number among the actors is for the gate alone.
use Rattle.hs_run_actors.specs.declared.client_actor.ClientActor.TheInside.{Inside}
use Rattle.hs_run_actors.specs.ClientActors.{PlainClientActor}

abbrev pub client_actor_of : Inside → PlainClientActor
client_actor_of s = record { done = s.done; client = s.client }
