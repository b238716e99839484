use Rattle.std.proofs.Common.{◌≡◌, map, take}
use Rattle.hs_replay_client.proofs.Prelude.{operation_of, working_in}
use Rattle.hs_replay_client.proofs.Going.{HasGone}
use Rattle.hs_replay_client.proofs.client.ReplayClient.play_from.Given as goal

abbrev pub invariant-loop-operation : goal.invariant-loop-operation
invariant-loop-operation g l =
    (l.self-inside.done ≡ l.initial.self-inside.done)
    × HasGone g.W.Well.way (map operation_of (take l.operation-index l.operation-items)) (working_in l.initial.self-inside.doing) (working_in l.self-inside.doing) l.initial.well l.well
