use Rattle.std.proofs.Common.{◌<◌, length, Option, None, refl, subst, sym, append-nil}
use Rattle.hs_agent.specs.declared.input.Input.TheVariants as inputs
use Rattle.hs_replay.proofs.Prelude.{ChangesAt, TakesChunk, ghosts, buffer_in, Held, run_of, replay_node_in, PlainReplayNode, IsAmid}
use Rattle.hs_records.specs.declared.journal.Step.TheVariants as steps
use Rattle.hs_replay.specs.declared.queue.Queue.TheVariants as queues
use Rattle.hs_replay.proofs.TakingOut.{chunk_there, chunks_out}
use Rattle.hs_replay.proofs.Taken.{stood, takable, taken_amid, took_one}
use Rattle.hs_replay.proofs.node.ReplayNode.take_chunk.Goals as goal

pub take_chunk-requires : goal.take_chunk-requires
take_chunk-requires c =
    let (W, m, n, run, amid) = c.requires.amid in
    let low : c.args.client < length c.self.inside.players.items = subst (λ (p : PlainReplayNode). c.args.client < length p.players) (sym c.self.view_is) c.requires.client in
    let there = chunk_there W m n run (replay_node_in c.self.inside) (subst (IsAmid W m n run) (sym c.self.view_is) amid) c.args.client low c.next_chunk.new.players.items c.in-Some.held
    (subst (λ (r : Option (Held (Unit {0}) ghosts)). ChangesAt c.args.client c.self.inside.players.items c.next_chunk.new.players.items (λ before now. TakesChunk before (buffer_in r) now)) c.in-Some.is c.next_chunk.ensures) in
    takable W m n run (steps.Chunk c.args.client) (inputs.Chunk c.args.client c.in-Some.held) (record (replay_node_in c.self.inside) { players = c.next_chunk.new.players.items }) there.ready c.machines_fit.ensures

pub returns-in_ok-take_chunk-in-Some : goal.returns-in_ok-take_chunk-in-Some
returns-in_ok-take_chunk-in-Some c = λ W m n run amid.
    let low : c.args.client < length c.self.inside.players.items = subst (λ (p : PlainReplayNode). c.args.client < length p.players) (sym c.self.view_is) c.requires.client in
    let there = chunk_there W m n run (replay_node_in c.self.inside) (subst (IsAmid W m n run) (sym c.self.view_is) amid) c.args.client low c.next_chunk.new.players.items c.in-Some.held
    (subst (λ (r : Option (Held (Unit {0}) ghosts)). ChangesAt c.args.client c.self.inside.players.items c.next_chunk.new.players.items (λ before now. TakesChunk before (buffer_in r) now)) c.in-Some.is c.next_chunk.ensures) in
    let mid : PlainReplayNode = record (replay_node_in c.self.inside) { players = c.next_chunk.new.players.items } in
    let stands = stood W m n run (steps.Chunk c.args.client) (inputs.Chunk c.args.client c.in-Some.held) mid there.ready in
    let new : PlainReplayNode = record mid { agent = c.take_chunk.new.self } in
    took_one c.events_add_this.ensures W m n (queues.Chunks c.args.client) run (inputs.Chunk c.args.client c.in-Some.held) mid new there
    (taken_amid W m n run (steps.Chunk c.args.client) (inputs.Chunk c.args.client c.in-Some.held) mid there.ready c.step_by_step.ensures c.events_go_on.ensures c.events_add_this.ensures c.steps_say_what_they_tell.ensures
    c.take_chunk.new.self None mid.said (c.in_ok-take_chunk-in-Some.ensures.after (run_of W.settings run stands.buffers None) stands.follows) refl (sym (append-nil mid.said)))

pub returns-in-None : goal.returns-in-None
returns-in-None c = λ W m n run amid.
    let low : c.args.client < length c.self.inside.players.items = subst (λ (p : PlainReplayNode). c.args.client < length p.players) (sym c.self.view_is) c.requires.client in
    chunks_out W m n run (replay_node_in c.self.inside) (subst (IsAmid W m n run) (sym c.self.view_is) amid) c.args.client low c.next_chunk.new.players.items
    (subst (λ (r : Option (Held (Unit {0}) ghosts)). ChangesAt c.args.client c.self.inside.players.items c.next_chunk.new.players.items (λ before now. TakesChunk before (buffer_in r) now)) c.in-None.is c.next_chunk.ensures)
