-- Where the rounds end, closing begins.
use Rattle.std.proofs.Common.{◌≡◌, ℕ, zero, suc, ◌<◌, ◌≤◌, List, [], ◌∷◌, ◌++◌, length, map, Option, Some, sym, ap, subst, ◌∙◌, arith, slice_get, option_map}
use Rattle.hs_run.proofs.Prelude.{option_map_or, slice_get-map, slice_get_within, get_there, ClientId, client_of, Outgoing, sent, Key, after, Operation, PlainSettings, PlainWorkload, Giving, operations_at, place_of, client_pieces, PlainClientActor, ClientActorIsAt, HasSentSoFar, PlainClosedAgent, AllSent, IsClosedAgent, NodeWork, PlainNodeActors, RunState, RunStands, Came, NodeBetweenPasses, ClosingBegins, ClosingAt, AreClosedAgentsFrom, sents_at}
use Rattle.hs_run_actors.specs.ClosedAgents.{sent_at}
use Rattle.hs_run.specs.Closing.{left_at}
use Rattle.hs_run.specs.Shutting.{AreSentsOf}
use Rattle.hs_run.proofs.FewShut.{few_shut}
use Rattle.hs_run.specs.Ended.{sents_of}

abbrev pub HaveSent : Type 0
HaveSent = (settings : PlainSettings) (client : ClientId) (ops : List Operation) (caller : PlainClientActor) → ClientActorIsAt settings client ops caller → HasSentSoFar settings client ops caller

sent_there : {T : Type 0} (part : PlainClientActor → Outgoing T Key) (callers : List PlainClientActor) (client : ℕ) (caller : PlainClientActor) → slice_get callers client ≡ Some caller → sent_at (map part callers) client ≡ sent (part caller)
sent_there part callers client caller there = ap (λ o. option_map_or sent o []) (slice_get-map part callers client ∙ ap (option_map part) there)

pub sents_there : (m : RunState) (node : ℕ) (site : PlainNodeActors) → slice_get m.standing.nodes node ≡ Some site → sents_at m node ≡ sents_of site.callers
sents_there m node site there = ap (λ (o : Option PlainNodeActors). option_map_or (λ (s : PlainNodeActors). sents_of s.callers) o (sents_of [])) there

pub are_sents : (m : RunState) → AreSentsOf m (sents_at m)
are_sents m =
    record {
      chunks = λ node client site caller there mine. ap (λ (a : AllSent). a.chunks client) (sents_there m node site there) ∙ sent_there (λ (c : PlainClientActor). c.client.chunks) site.callers client caller mine;
      crumbs = λ node client site caller there mine. ap (λ (a : AllSent). a.crumbs client) (sents_there m node site there) ∙ sent_there (λ (c : PlainClientActor). c.client.crumbs) site.callers client caller mine;
      triggers = λ node client site caller there mine. ap (λ (a : AllSent). a.triggers client) (sents_there m node site there) ∙ sent_there (λ (c : PlainClientActor). c.client.triggers) site.callers client caller mine;
    }

none_behind : {X : Type 0} (xs ys : List X) → xs ++ ys ≡ [] → ys ≡ []
none_behind [] ys h = h
none_behind (x ∷ xs) ys h = absurd cc

module _ (begins : ClosingBegins) (sends : HaveSent) (W : PlainWorkload) (rounds : ℕ) (m : RunState) (came : Came W rounds m) (nodes : List PlainClosedAgent) (shut : AreClosedAgentsFrom m nodes) where
  stands_by : (k : ℕ) → k ≤ rounds → RunStands W (came.at k)
  stands_by zero low = came.begun.stands
  stands_by (suc k) low = (came.moves k (omega (arith, low))).stands

  stands : RunStands W m
  stands = subst (RunStands W) came.last (stands_by rounds (omega arith))

  -- no message waits behind a round
  said_by : (k : ℕ) → k ≤ rounds → (node : ℕ) (site : PlainNodeActors) → slice_get (came.at k).standing.nodes node ≡ Some site → site.agent.said ≡ []
  said_by zero low node site there =
      let s = came.begun.stands.each node site there in
      let none = came.begun.works node in
      none_behind ((came.at 0).works node).moved site.agent.said
      (s.agent.stands.works.said_is ∙ ap (λ (w : NodeWork). (after W.settings w.node w.events).said) none)
  said_by (suc k) low node site there =
      let moves = came.moves k (omega (arith, low)) in
      let met = (came.meets k (omega (arith, low))).stands in
      let inside = slice_get_within (came.at (suc k)).standing.nodes node site there in
      let count = moves.stands.count in
      let before = met.count in
      let other = get_there (came.met k).standing.nodes node (omega (arith, inside, count, before)) in
      (moves.each node other.0 site other.1 there).said

  said : (node : ℕ) (site : PlainNodeActors) → slice_get m.standing.nodes node ≡ Some site → site.agent.said ≡ []
  said node site there = said_by rounds (omega arith) node site (ap (λ (moment : RunState). slice_get moment.standing.nodes node) came.last ∙ there)

  low_node : (node : ℕ) (site : PlainNodeActors) → slice_get m.standing.nodes node ≡ Some site → node < W.settings.nodes
  low_node node site there = let inside = slice_get_within m.standing.nodes node site there in let count = stands.count in omega (arith, inside, count)

  few : (node client : ℕ) → node < W.settings.nodes → client < W.settings.clients → length ((sents_at m node).triggers client) ≤ client_pieces W.settings.size (operations_at W (place_of W.settings.clients node client))
  few node client low own =
      let count = stands.count in
      let site = get_there m.standing.nodes node (omega (arith, low, count)) in
      let s = stands.each node site.0 site.1 in
      let many = s.count in
      let caller = get_there site.0.callers client (omega (arith, own, many)) in
      let all = ap length ((are_sents m).triggers node client site.0 caller.0 site.1 caller.1) in
      let most = (sends W.settings (client_of node client) (operations_at W (place_of W.settings.clients node client)) caller.0 (s.callers client caller.0 caller.1)).few in
      omega (arith, all, most)

  no_giver : Giving
  no_giver = record { pool = []; buffers = 0; size = 0; drawers = 0; floor = 0; turns = [] }

  abbrev posts : ℕ → NodeBetweenPasses
  posts node = record { work = m.works node; giver = option_map_or (λ (s : PlainNodeActors). s.agent.port.giver) (slice_get m.standing.nodes node) no_giver }

  post_is : (node : ℕ) (site : PlainNodeActors) → slice_get m.standing.nodes node ≡ Some site → posts node ≡ left_at m node site
  post_is node site there = ap (λ (o : Option PlainNodeActors). record { work = m.works node; giver = option_map_or (λ (s : PlainNodeActors). s.agent.port.giver) o no_giver }) there

  site_for : (node : ℕ) (x : PlainClosedAgent) → slice_get nodes node ≡ Some x → (site : PlainNodeActors) × (slice_get m.standing.nodes node ≡ Some site)
  site_for node x there = let inside = slice_get_within nodes node x there in let count = shut.count in get_there m.standing.nodes node (omega (arith, inside, count))

  pub closing_starts : ClosingAt W rounds m (sents_at m) nodes m.standing.coordinator
  closing_starts =
      record {
        clients = λ node site there. (low_node node site there, (stands.each node site there).count);
        sents_are = are_sents m;
        passes = rounds;
        posts = posts;
        heard = m.heard;
        closing = begins W rounds m posts post_is;
        stand =
            record {
              valid = stands.valid;
              few = few_shut W stands.valid (sents_at m) few;
              count = shut.count ∙ stands.count;
              stands =
                  record {
                    each = λ node x there.
                        let site = site_for node x there in
                        let s = stands.each node site.0 site.1 in
                        record {
                          node_is = s.node_is;
                          is = subst (λ (a : AllSent). IsClosedAgent W (m.works node) a x) (sym (sents_there m node site.0 site.1)) ((shut.each node site.0 x site.1 there).shut W (m.works node) s.agent);
                        };
                  };
              coordinates = stands.coordinator;
            };
        givers = λ node x there. let site = site_for node x there in ap (λ (q : NodeBetweenPasses). q.giver) (post_is node site.0 site.1) ∙ sym (shut.each node site.0 x site.1 there).giver;
        said = λ node x there. let site = site_for node x there in (shut.each node site.0 x site.1 there).said ∙ said node site.0 site.1;
        kept = λ node site x stood there.
            let same = (shut.each node site x stood there).giver in
            record { pool = ap (λ g. g.pool) same; buffers = ap (λ g. g.buffers) same; drawers = ap (λ g. g.drawers) same };
      }
