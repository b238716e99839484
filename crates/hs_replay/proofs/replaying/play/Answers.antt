use Rattle.std.proofs.Common.{◌∙◌, ◌++◌, List, refl, ap}
use Rattle.hs_replay.proofs.Prelude.{NodeId, workload_of}
use Rattle.hs_replay.proofs.Booked.{told_is}
use Rattle.hs_replay.proofs.replaying.play.Goals as goal

pub books_of-requires : goal.books_of-requires
books_of-requires c = (workload_of c.args.workload.now, c.close.new.coordinator, c.in_ok-close.ensures)

pub returns : goal.returns
returns c =
    let W = workload_of c.args.workload.now in
    let closed = c.in_ok-close.ensures in
    let are = c.in_ok-noted.ensures W c.close.new.coordinator closed in
    let clients = are.clients_are in
    let agents = are.agents_are in
    record {
      valid = c.requires;
      lawful = c.schedule_is_lawful.ensures W c.requires;
      version = refl;
      nodes = refl;
      each = refl;
      clients = clients;
      agents = agents;
      told =
          c.in_ok-append_slice.ensures.ok ∙ ap (λ (l : List NodeId). l ++ c.as_slice.result.now) c.new-told.ensures.items ∙ c.as_slice.ensures
          ∙ told_is c.machines_are_whole.ensures W c.close.new.nodes.items c.close.new.coordinator closed c.log.result.now.items c.log.ensures;
    }
