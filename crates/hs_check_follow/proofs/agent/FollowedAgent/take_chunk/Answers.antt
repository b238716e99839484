use Rattle.std.proofs.Common.{None, refl, sym, subst, append-nil}
use Rattle.hs_agent.specs.declared.input.Input.TheVariants as inputs
use Rattle.hs_records.specs.declared.journal.Step.TheVariants as steps
use Rattle.hs_check_follow.proofs.Prelude.{buffer_in, workload_of, Pops, PopsChunk, FollowedAgent}
use Rattle.hs_check_follow.proofs.Performing.{at_run, takable, performed}
use Rattle.hs_check_follow.proofs.Popping.{may_fill_any}
use Rattle.hs_check_follow.proofs.Readying.{chunk_readied, no_chunk_readied}
use Rattle.hs_check_follow.proofs.agent.FollowedAgent.take_chunk.Goals as goal

pub next_chunk-requires : goal.next_chunk-requires
next_chunk-requires c =
    let may = c.requires.1 in
    let (J, heard, run, asks, s, next) = may in
    may_fill_any (workload_of c.args.workload.now) J run.node run.state.log c.args.self.now.clients.items s.clients

pub take_chunk-requires : goal.take_chunk-requires
take_chunk-requires c =
    let W = workload_of c.args.workload.now in
    let client = c.args.client in
    let may = c.requires.1 in
    let (J, heard, run, asks, s, next) = may in
    let mid : FollowedAgent = record c.args.self.now { clients = c.next_chunk.new.clients } in
    let r = chunk_readied W J heard run c.args.self.now s client c.in-Some.held c.next_chunk.new.clients
    (subst (λ o. Pops (PopsChunk W) client c.args.self.now.clients.items (buffer_in o) c.next_chunk.new.clients.items) c.in-Some.is c.in_ok-next_chunk.ensures) in
    takable c.events_go_on.ensures c.events_add_this.ensures c.steps_say_what_they_tell.ensures W J run heard (steps.Chunk client) (inputs.Chunk client c.in-Some.held) mid r next

pub returns-in_ok-take_chunk-in-Some : goal.returns-in_ok-take_chunk-in-Some
returns-in_ok-take_chunk-in-Some c = λ all J heard run asks s next.
    let W = workload_of c.args.workload.now in
    let client = c.args.client in
    let mid : FollowedAgent = record c.args.self.now { clients = c.next_chunk.new.clients } in
    let r = chunk_readied W J heard run c.args.self.now s client c.in-Some.held c.next_chunk.new.clients
    (subst (λ o. Pops (PopsChunk W) client c.args.self.now.clients.items (buffer_in o) c.next_chunk.new.clients.items) c.in-Some.is c.in_ok-next_chunk.ensures) in
    let at = at_run c.events_go_on.ensures c.events_add_this.ensures c.steps_say_what_they_tell.ensures W J run heard (steps.Chunk client) (inputs.Chunk client c.in-Some.held) mid r in
    performed c.events_go_on.ensures c.events_add_this.ensures c.steps_say_what_they_tell.ensures W J run heard (steps.Chunk client) (inputs.Chunk client c.in-Some.held) mid r _ None
    (c.in_ok-take_chunk-in-Some.ensures.after at r.stands.agent.follows) refl (sym (append-nil mid.said.items)) refl refl refl

pub returns-in-None : goal.returns-in-None
returns-in-None c = λ all J heard run asks s next.
    let W = workload_of c.args.workload.now in
    no_chunk_readied W J heard run c.args.self.now s c.args.client c.next_chunk.new.clients
    (subst (λ o. Pops (PopsChunk W) c.args.client c.args.self.now.clients.items (buffer_in o) c.next_chunk.new.clients.items) c.in-None.is c.in_ok-next_chunk.ensures)
