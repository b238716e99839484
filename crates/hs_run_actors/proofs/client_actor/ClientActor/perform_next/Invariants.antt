use Rattle.std.proofs.Common.{◌≡◌, map}
use Rattle.hs_run_actors.proofs.Prelude.{settings_of, operation_of}
use Rattle.hs_run_actors.proofs.Coming.{HasCome}
use Rattle.hs_run_actors.proofs.client_actor.ClientActor.perform_next.Given as goal

abbrev pub invariant-loop-place : goal.invariant-loop-place
invariant-loop-place g l =
    (l.self-inside.done ≡ l.initial.self-inside.done)
    × HasCome (settings_of l.settings) (map operation_of l.operations) l.initial.self-inside.done l.place l.initial.self-inside.client l.self-inside.client
