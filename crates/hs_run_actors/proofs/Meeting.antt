-- A client meets the port of its node's agent: nothing is received, and the giver has one turn more.
use Rattle.std.proofs.Common.{◌≡◌, ℕ, List, length, inl, inr, refl, sym, ap, subst, ◌∙◌, length-set, map}
use Rattle.hs_run_actors.proofs.Prelude.{length-map, slice_get, crumbs_in, triggers_in, AreTurns, Incoming, Outgoing, Key, Port, IsEnd, PlainWorkload, Giving, GiverTurn, PoolName, linked, AreIntakesFor, key_of, PlainAgentActor, IsAgentActor, lent_of, NodeWork, came_of}
use Rattle.hs_law_journal.specs.Turns.{Meets}
use Rattle.hs_live.specs.Calls.{MeetsAt}
use Rattle.hs_live.specs.Live.{PlainClient, MeetAt, is_told}
use Rattle.hs_words.specs.Ends.{stamps_in}
use Rattle.hs_run_actors.proofs.Hearing.{found_set}
use Rattle.hs_run_actors.proofs.Ports.{lined, line_at, end_at}

module _ {T : Type 0} (number : ℕ) (receivers receivers' : List (Incoming T Key)) (s s' : Outgoing T Key) (met : MeetAt number receivers s receivers' s') where
  -- each receiver was one that had received as much, with the same key
  met_end : (client : ℕ) (q : Incoming T Key) → IsEnd client receivers' q → (r : Incoming T Key) × IsEnd client receivers r × (q.received ≡ r.received) × (q.key ≡ r.key)
  met_end client q end =
      elim (found_set receivers number client (is_told met.receiver s) q (ap (λ l. slice_get l client) (sym met.receivers_are) ∙ end)) [
        | inl h ↦ (met.receiver, ap (λ n. slice_get receivers n) (sym h.0) ∙ met.end, ap (λ (x : Incoming T Key). x.received) (sym h.1), ap (λ (x : Incoming T Key). x.key) (sym h.1))
        | inr h ↦ (q, h.1, refl, refl)
      ]

  pub still_received : (before : ℕ → List T) → ((client : ℕ) (r : Incoming T Key) → IsEnd client receivers r → r.received ≡ before client) → (client : ℕ) (q : Incoming T Key) → IsEnd client receivers' q → q.received ≡ before client
  still_received before was client q end = let (r, end_r, same, key) = met_end client q end in same ∙ was client r end_r

  pub still_lines : (W : PlainWorkload) (node : ℕ) (pool : PoolName) → AreIntakesFor W node pool (lined receivers) → AreIntakesFor W node pool (lined receivers')
  still_lines W node pool are =
      record {
        count = length-map receivers' (λ (r : Incoming T Key). linked r) ∙ ap length met.receivers_are ∙ length-set receivers number (is_told met.receiver s) ∙ sym (length-map receivers (λ (r : Incoming T Key). linked r)) ∙ are.count;
        keys = λ client l at.
            let (q, end, is) = end_at receivers' client l at in
            let (r, end_r, same, key) = met_end client q end in
            ap key_of is ∙ key ∙ are.keys client (linked r) (line_at receivers client r end_r);
      }

pub met_manned : (W : PlainWorkload) (work : NodeWork) (number : ℕ) (old : PlainAgentActor) (client client' : PlainClient) (port' : Port) → MeetsAt number old.port client port' client' → IsAgentActor W work old → IsAgentActor W work (record old { port = port' })
met_manned W work number old client client' port' met manned =
    let giver = met.pool.giver_hears in
    let lines = manned.stands.lines_are in
    record {
      stands =
          record {
            works = manned.stands.works;
            asks_are = manned.stands.asks_are;
            askable = manned.stands.askable;
            lines_are =
                record {
                  pool_is = ap (λ (g : Giving). g.pool) giver ∙ lines.pool_is;
                  size = ap (λ (g : Giving). g.size) giver ∙ lines.size;
                  chunks = still_lines number old.port.chunks port'.chunks client.chunks client'.chunks met.chunks W work.node work.pool lines.chunks;
                  crumbs = still_lines number old.port.crumbs port'.crumbs client.crumbs client'.crumbs met.crumbs W work.node work.pool lines.crumbs;
                  triggers = still_lines number old.port.triggers port'.triggers client.triggers client'.triggers met.triggers W work.node work.pool lines.triggers;
                };
            turns =
                subst (λ (turns : List GiverTurn). AreTurns W.settings work.node (map lent_of work.came) work.events turns) (sym (ap (λ (g : Giving). g.turns) giver))
                (Meets work.events old.port.giver.turns (stamps_in client.drawer.answers) manned.stands.turns);
          };
      received =
          record {
            chunks = still_received number old.port.chunks port'.chunks client.chunks client'.chunks met.chunks (λ c. came_of c work) manned.received.chunks;
            crumbs = still_received number old.port.crumbs port'.crumbs client.crumbs client'.crumbs met.crumbs (λ c. crumbs_in c work.events) manned.received.crumbs;
            triggers = still_received number old.port.triggers port'.triggers client.triggers client'.triggers met.triggers (λ c. triggers_in c work.events) manned.received.triggers;
          };
      clients_are = manned.clients_are;
    }
