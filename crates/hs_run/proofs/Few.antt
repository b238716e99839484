-- No agent takes more triggers than its clients sent, so no more than the workload has, behind a meeting too.
use Rattle.std.proofs.Common.{ℕ, ◌+◌, ◌<◌, ◌≤◌, List, ◌++◌, length, ap, arith, length-append}
use Rattle.hs_run.proofs.Prelude.{get_there, triggers_in, ClientId, client_of, PlainClientActor, ClientActorIsAt, HasSentSoFar, Operation, PlainSettings, PlainWorkload, operations_at, place_of, IsValid, client_pieces, NodeWork, IsFew, PlainNodeActors, NodeActorsStand, NodeActorsMeet}
use Rattle.hs_run.proofs.FewTaken.{few_of_sent}

module _ (W : PlainWorkload) (valid : IsValid W) (n : ℕ) (low : n < W.settings.nodes) (work : NodeWork) (old new : PlainNodeActors) (stands : NodeActorsStand W n work old) (meets : NodeActorsMeet W n work old new)
    (sent_so : (settings : PlainSettings) (client : ClientId) (ops : List Operation) (caller : PlainClientActor) → ClientActorIsAt settings client ops caller → HasSentSoFar settings client ops caller) where
  received : (number : ℕ) → number < W.settings.clients → length (triggers_in number work.events) ≤ client_pieces W.settings.size (operations_at W (place_of W.settings.clients n number))
  received number below =
      let old_count = stands.count in
      let new_count = meets.stands.count in
      let (caller, at) = get_there old.callers number (omega (arith, below, old_count)) in
      let (caller', at') = get_there new.callers number (omega (arith, below, new_count)) in
      let met = meets.callers number caller caller' at at' in
      let (r, end, ends) = (stands.mates number caller at).triggers in
      let (r', end', ends') = (meets.stands.mates number caller' at').triggers in
      let link = met.triggers r r' end end' in
      let (ring, all, put) = link.contents in
      let parts = ap length all in
      let long = length-append r.received (ring ++ caller.client.triggers.outbox) in
      let is = ap length (stands.agent.received.triggers number r end) in
      let few = (sent_so W.settings (client_of n number) (operations_at W (place_of W.settings.clients n number)) caller (stands.callers number caller at)).few in
      omega (arith, parts, long, is, few)

  pub few_met : IsFew W work
  few_met = few_of_sent W valid n low work stands.agent.stands.works.is.within received
