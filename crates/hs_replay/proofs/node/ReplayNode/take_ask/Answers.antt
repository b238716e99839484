use Rattle.std.proofs.Common.{◌≡◌, [], subst, sym, ◌∙◌}
use Rattle.hs_replay.proofs.Prelude.{Input, ghosts, replay_node_in, PlainReplayNode, IsAmid}
use Rattle.hs_base.proofs.Parts.{nil_of_rest}
use Rattle.hs_agent.specs.declared.input.Input.TheVariants as inputs
use Rattle.hs_records.specs.declared.journal.Step.TheVariants as steps
use Rattle.hs_replay.specs.declared.queue.Queue.TheVariants as queues
use Rattle.hs_replay.proofs.TakingOut.{ask_there, asks_gone}
use Rattle.hs_replay.proofs.Taken.{took_one}
use Rattle.hs_replay.proofs.node.ReplayNode.take_ask.Goals as goal

pub take-requires : goal.take-requires
take-requires c =
    let (W, m, n, run, amid) = c.requires in
    let there = ask_there W m n run (replay_node_in c.self.inside) (subst (IsAmid W m n run) (sym c.self.view_is) amid) {g = ghosts} c.in-Some.ask c.pop_front.new.self.items c.in-Some.ensures.items in
    (W, m, n, run, steps.Ask, there.ready)

pub returns-in_ok-take-in-Some : goal.returns-in_ok-take-in-Some
returns-in_ok-take-in-Some c = λ W m n run amid.
    let there = ask_there W m n run (replay_node_in c.self.inside) (subst (IsAmid W m n run) (sym c.self.view_is) amid) {g = ghosts} c.in-Some.ask c.pop_front.new.self.items c.in-Some.ensures.items in
    let mid : PlainReplayNode = record (replay_node_in c.self.inside) { asks = c.pop_front.new.self.items } in
    let input : Input (Unit {0}) ghosts = inputs.Ask c.in-Some.ask in
    took_one c.events_add_this.ensures W m n queues.Asks run input mid c.take.new.self there (c.in_ok-take-in-Some.ensures W m n run steps.Ask there.ready)

pub returns-in-None : goal.returns-in-None
returns-in-None c = λ W m n run amid.
    let gone : c.self.inside.asks.items ≡ [] = nil_of_rest c.self.inside.asks.items (c.in-None.ensures.items ∙ c.in-None.ensures.rest) in
    asks_gone W m n run (replay_node_in c.self.inside) (subst (IsAmid W m n run) (sym c.self.view_is) amid) c.pop_front.new.self.items gone (sym c.in-None.ensures.items ∙ gone)
