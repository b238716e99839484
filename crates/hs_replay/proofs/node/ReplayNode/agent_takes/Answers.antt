use Rattle.hs_replay.proofs.Looping.{pass_taken}
use Rattle.hs_replay.proofs.Passed.{began, passed}
use Rattle.hs_replay.proofs.node.ReplayNode.agent_takes.Goals as goal

pub take_all-requires : goal.take_all-requires
take_all-requires c =
    let (W, m, n, still) = c.requires in
    record { amid = (W, m, n, still.at.run, began W m n c.args.self.now still) }

pub take_from-requires-clause-amid : goal.take_from-requires-clause-amid
take_from-requires-clause-amid c =
    let (W, m, n, still) = c.requires in
    let w = c.in_ok-take_all.ensures W m n still.at.run (began W m n c.args.self.now still) in
    (W, m, n, w.next, w.amid)

pub turn-requires : goal.turn-requires
turn-requires c =
    let (W, m, n, still) = c.requires in
    let w = c.in_ok-take_all.ensures W m n still.at.run (began W m n c.args.self.now still) in
    let v = c.in_ok-take_from.ensures W m n w.next w.amid in
    (W, m, n, v.next, v.amid)

pub returns : goal.returns
returns c = λ W m n still.
    let w = c.in_ok-take_all.ensures W m n still.at.run (began W m n c.args.self.now still) in
    let v = c.in_ok-take_from.ensures W m n w.next w.amid in
    let u = c.in_ok-turn.ensures W m n v.next v.amid in
    passed W m n c.args.self.now c.turn.new.self still c.agents_take_so.ensures
    (pass_taken c.step_by_step.ensures W m n still.at.run c.take_all.new.self c.take_from.new.self c.turn.new.self still.at.number w v u)
