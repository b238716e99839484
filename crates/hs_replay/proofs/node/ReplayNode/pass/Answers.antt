use Rattle.hs_replay.proofs.Prelude.{Takes, agents_take}
use Rattle.hs_replay.proofs.node.ReplayNode.pass.Goals as goal

pub give_all-requires : goal.give_all-requires
give_all-requires c =
    let (W, m, n, still) = c.requires in
    (W, agents_take W m, n, record { valid = still.valid; reached = Takes m still.reached; at = c.in_ok-agent_takes.ensures W m n still })

pub returns : goal.returns
returns c = λ W m n still. c.in_ok-give_all.ensures W (agents_take W m) n (record { valid = still.valid; reached = Takes m still.reached; at = c.in_ok-agent_takes.ensures W m n still })
