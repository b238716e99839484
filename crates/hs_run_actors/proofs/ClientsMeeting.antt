-- A client that meets its port stands where it stood.
use Rattle.std.proofs.Common.{ℕ, List, ap}
use Rattle.hs_run_actors.proofs.Prelude.{Outgoing, Incoming, DoesNothing, Key, PlainClient, Port, Drawing}
use Rattle.hs_live.specs.Calls.{MeetsAt}
use Rattle.hs_live.specs.Live.{MeetAt}
use Rattle.hs_run_actors.proofs.Going.{Stays, StaysSo}

heard : {T : Type 0} (number : ℕ) (receivers receivers' : List (Incoming T Key)) (s s' : Outgoing T Key) → MeetAt number receivers s receivers' s' → Stays s s'
heard number receivers receivers' s s' met =
    record {
      key = ap (λ (o : Outgoing _ Key). o.key) met.sender_is;
      room = ap (λ (o : Outgoing _ Key). o.room) met.sender_is;
      items = ap (λ (o : Outgoing _ Key). Rattle.hs_link.specs.Contents.sent o) met.sender_is;
    }

pub meets_so : (number : ℕ) (port port' : Port) (client client' : PlainClient) → MeetsAt number port client port' client' → DoesNothing client client' → StaysSo client client'
meets_so number port port' client client' met nothing =
    record {
      nothing = nothing;
      core = met.core;
      left = ap (λ (d : Drawing). d.left) met.pool.drawer_hears;
      answers = ap (λ (d : Drawing). d.answers) met.pool.drawer_hears;
      chunks = heard number port.chunks port'.chunks client.chunks client'.chunks met.chunks;
      crumbs = heard number port.crumbs port'.crumbs client.crumbs client'.crumbs met.crumbs;
      triggers = heard number port.triggers port'.triggers client.triggers client'.triggers met.triggers;
    }
