use Rattle.std.proofs.Common.{◌<◌, length, Option, subst, sym}
use Rattle.hs_agent.specs.declared.input.Input.TheVariants as inputs
use Rattle.hs_replay.proofs.Prelude.{Crumb, ChangesAt, Input, TakesCrumb, ghosts, replay_node_in, PlainReplayNode, IsAmid}
use Rattle.hs_records.specs.declared.journal.Step.TheVariants as steps
use Rattle.hs_replay.specs.declared.queue.Queue.TheVariants as queues
use Rattle.hs_replay.proofs.TakingOut.{crumb_there, crumbs_out}
use Rattle.hs_replay.proofs.Taken.{took_one}
use Rattle.hs_replay.proofs.node.ReplayNode.take_crumb.Goals as goal

pub take-requires : goal.take-requires
take-requires c =
    let (W, m, n, run, amid) = c.requires.amid in
    let low : c.args.client < length c.self.inside.players.items = subst (λ (p : PlainReplayNode). c.args.client < length p.players) (sym c.self.view_is) c.requires.client in
    let there = crumb_there W m n run (replay_node_in c.self.inside) (subst (IsAmid W m n run) (sym c.self.view_is) amid) c.args.client low c.next_crumb.new.players.items {g = ghosts} c.in-Some.crumb
    (subst (λ (r : Option Crumb). ChangesAt c.args.client c.self.inside.players.items c.next_crumb.new.players.items (λ before now. TakesCrumb before r now)) c.in-Some.is c.next_crumb.ensures) in
    (W, m, n, run, steps.Crumb c.args.client, there.ready)

pub returns-in_ok-take-in-Some : goal.returns-in_ok-take-in-Some
returns-in_ok-take-in-Some c = λ W m n run amid.
    let low : c.args.client < length c.self.inside.players.items = subst (λ (p : PlainReplayNode). c.args.client < length p.players) (sym c.self.view_is) c.requires.client in
    let there = crumb_there W m n run (replay_node_in c.self.inside) (subst (IsAmid W m n run) (sym c.self.view_is) amid) c.args.client low c.next_crumb.new.players.items {g = ghosts} c.in-Some.crumb
    (subst (λ (r : Option Crumb). ChangesAt c.args.client c.self.inside.players.items c.next_crumb.new.players.items (λ before now. TakesCrumb before r now)) c.in-Some.is c.next_crumb.ensures) in
    let mid : PlainReplayNode = record (replay_node_in c.self.inside) { players = c.next_crumb.new.players.items } in
    let input : Input (Unit {0}) ghosts = inputs.Crumb c.args.client c.in-Some.crumb in
    took_one c.events_add_this.ensures W m n (queues.Crumbs c.args.client) run input mid c.take.new.self there (c.in_ok-take-in-Some.ensures W m n run (steps.Crumb c.args.client) there.ready)

pub returns-in-None : goal.returns-in-None
returns-in-None c = λ W m n run amid.
    let low : c.args.client < length c.self.inside.players.items = subst (λ (p : PlainReplayNode). c.args.client < length p.players) (sym c.self.view_is) c.requires.client in
    crumbs_out W m n run (replay_node_in c.self.inside) (subst (IsAmid W m n run) (sym c.self.view_is) amid) c.args.client low c.next_crumb.new.players.items
    (subst (λ (r : Option Crumb). ChangesAt c.args.client c.self.inside.players.items c.next_crumb.new.players.items (λ before now. TakesCrumb before r now)) c.in-None.is c.next_crumb.ensures)
