use Rattle.hs_replay.specs.declared.queue.Queue.TheVariants as queues
use Rattle.hs_replay.proofs.Looping.{queue_there, client_taken}
use Rattle.hs_replay.proofs.node.ReplayNode.take_of.Goals as goal

pub take_from-requires-2-clause-queue : goal.take_from-requires-2-clause-queue
take_from-requires-2-clause-queue c =
    let (W, m, n, run, amid) = c.requires.amid in
    let w = c.in_ok-take_from.ensures W m n run amid in
    queue_there W m n run w.next c.args.self.now c.take_from.new.self (queues.Crumbs c.args.client) amid w.amid c.requires.client

pub take_from-requires-2-clause-amid : goal.take_from-requires-2-clause-amid
take_from-requires-2-clause-amid c =
    let (W, m, n, run, amid) = c.requires.amid in
    let w = c.in_ok-take_from.ensures W m n run amid in
    (W, m, n, w.next, w.amid)

pub take_from-requires-3-clause-queue : goal.take_from-requires-3-clause-queue
take_from-requires-3-clause-queue c =
    let (W, m, n, run, amid) = c.requires.amid in
    let w = c.in_ok-take_from.ensures W m n run amid in
    let v = c.in_ok-take_from-2.ensures W m n w.next w.amid in
    queue_there W m n run v.next c.args.self.now c.take_from-2.new.self (queues.Triggers c.args.client) amid v.amid c.requires.client

pub take_from-requires-3-clause-amid : goal.take_from-requires-3-clause-amid
take_from-requires-3-clause-amid c =
    let (W, m, n, run, amid) = c.requires.amid in
    let w = c.in_ok-take_from.ensures W m n run amid in
    let v = c.in_ok-take_from-2.ensures W m n w.next w.amid in
    (W, m, n, v.next, v.amid)

pub returns : goal.returns
returns c = λ W m n run amid.
    let w = c.in_ok-take_from.ensures W m n run amid in
    let v = c.in_ok-take_from-2.ensures W m n w.next w.amid in
    let u = c.in_ok-take_from-3.ensures W m n v.next v.amid in
    client_taken c.step_by_step.ensures W m n c.args.client run c.take_from.new.self c.take_from-2.new.self c.take_from-3.new.self amid.comes.number w v u
