-- The input of a step is taken out of its queue where the step is ready.
use Rattle.std.proofs.Common.{◌≡◌, inl, inr, ℕ, ◌+◌, ◌<◌, ◌≤◌, false, List, [], ◌∷◌, ◌++◌, drop, Option, Some, None, IsSome, refl, sym, ap, subst, ◌∙◌, arith, option_map}
use Rattle.hs_check_follow.proofs.Prelude.{slice_get_within, slice_get, sheet_in, Input, Listing, Ask, Crumb, Trigger, Messages, Filling, FollowedClient, PlainJournal, Step, Asks, Chunks, Crumbs, Triggers, takes, taken, asks_to, NodeRun, taken_still, Took, Unleased, PlainWorkload, ClientSends, client_sends, buffer_of, Sheet, ClientsStand, FillsAt, Pops, PopsChunk, IsNotReady, IsReadied, FollowedNodeStands, FollowedAgent}
use Rattle.std.proofs.lemmas.Bool.{ne_eqb}
use Rattle.hs_base.proofs.Parts.{nil_of_rest}
use Rattle.hs_agent.specs.declared.input.Input.TheVariants as inputs
use Rattle.hs_records.specs.declared.journal.Step.TheVariants as steps
use Rattle.hs_law_agent.specs.Stepping.{Chunk, Crumbed, Triggered, Asked}
use Rattle.hs_words.specs.declared.token.Held.{Held}
use Rattle.hs_check_follow.specs.Clients.{IsNoClient, PopsCrumb, PopsTrigger}
use Rattle.hs_check_follow.proofs.QueuesLeft.{taken_once}
use Rattle.hs_check_follow.proofs.Popping.{next_item, none_left, fills_there, clients_as, one_moves, one_same, client_same, chunk_gone, crumb_gone, trigger_gone, event_there, event_none, event_past}

module _ (W : PlainWorkload) (J : PlainJournal) (heard : Messages) (run : NodeRun) (f : FollowedAgent) (s : FollowedNodeStands W J run run.state.log f) where
  -- the node with other queues, or with the count of one ask more
  abbrev pub with_clients : Listing FollowedClient → FollowedAgent
  with_clients clients = record f { clients = clients }

  low_client : (client : ℕ) (x : FollowedClient) → slice_get f.clients.items client ≡ Some x → client < W.settings.clients
  low_client client x at = let within = slice_get_within f.clients.items client x at in let count = s.clients.count in omega (arith, within, count)

  -- ---- where nothing is taken

  same_stands : (clients : Listing FollowedClient) → ClientsStand W J run.node run.state.log clients.items → FollowedNodeStands W J run run.state.log (with_clients clients)
  same_stands clients stand = record { sends = s.sends; clients = stand; agent = s.agent; asked = s.asked; said = s.said; gives = s.gives }

  no_client : (client : ℕ) (clients : Listing FollowedClient) → IsNoClient client f.clients.items clients.items → FollowedNodeStands W J run run.state.log (with_clients clients)
  no_client client clients gap = same_stands clients (subst (ClientsStand W J run.node run.state.log) (sym gap.same) s.clients)

  high_client : (client : ℕ) (clients : Listing FollowedClient) → IsNoClient client f.clients.items clients.items → W.settings.clients ≤ client
  high_client client clients gap = let high = gap.high in let count = s.clients.count in omega (arith, high, count)

  -- ---- where something is

  moved_stands : (step : Step) (clients : Listing FollowedClient) → takes Asks step ≡ false → ClientsStand W J run.node (run.state.log ++ step ∷ []) clients.items → FollowedNodeStands W J run (run.state.log ++ step ∷ []) (with_clients clients)
  moved_stands step clients other stand =
      record {
        sends = s.sends;
        clients = stand;
        agent = s.agent;
        asked = s.asked ∙ sym (taken_still Asks run.state.log step other);
        said = s.said;
        gives = s.gives;
      }

  -- ---- chunks

  pub chunk_readied : {g : _} (client : ℕ) (held : Held (Unit {0}) g) (clients : Listing FollowedClient) → Pops (PopsChunk W) client f.clients.items (Some (buffer_of held)) clients.items → IsReadied {g = g} W J heard run (steps.Chunk client) (inputs.Chunk client held) (with_clients clients)
  chunk_readied client held clients (inl gap) = let never : Some (buffer_of held) ≡ None = gap.0 in absurd cc
  chunk_readied {g = g} client held clients (inr ch) =
      let stands = s.clients.each client ch.before ch.stood in
      let low = low_client client ch.before ch.stood in
      let log = run.state.log in
      let sends = client_sends W J run.node client in
      let fills = fills_there W J run.node log client ch.before (Some (buffer_of held)) ch.now stands ch.became in
      let next = fills.0 in
      let gone = chunk_gone W J run.node log client ch.before ch.now stands fills.1 ch.became.crumbs ch.became.triggers ch.became.beside in
      let sheet : next.item.item ≡ sheet_in (buffer_of held) = sym (ap (λ (p : Option Sheet). sheet_in (record (buffer_of held) { chunk = record ((buffer_of held).chunk) { page = p } })) next.page) in
      record {
        stands =
            moved_stands (steps.Chunk client) clients refl
            (subst (ClientsStand W J run.node (log ++ steps.Chunk client ∷ [])) (sym ch.set)
            (one_moves W J run.node log (steps.Chunk client) client f.clients.items ch.before ch.now ch.stood (λ other apart. (ne_eqb client other apart, refl, refl)) gone s.clients));
        ready = event_there W J run s.sends (λ (sheet : Sheet). Took (Chunk client sheet)) (Chunks client) (λ (s : ClientSends). s.chunks) client next.item low next.next ∙ ap (λ (x : Sheet). Some (Took (Chunk client x))) sheet;
        noted = refl;
        chunk = (subst (λ (p : Option Sheet). IsSome p) (sym next.page) refl, next.size);
      }

  pub no_chunk_readied : (client : ℕ) (clients : Listing FollowedClient) → Pops {X = Unleased} (PopsChunk W) client f.clients.items None clients.items → IsNotReady W J heard run (steps.Chunk client) (with_clients clients)
  no_chunk_readied client clients (inl gap) = record { stands = no_client client clients gap.1; none = event_past W J run s.sends (λ (sheet : Sheet). Took (Chunk client sheet)) (Chunks client) (λ (s : ClientSends). s.chunks) client (high_client client clients gap.1) }
  no_chunk_readied client clients (inr ch) =
      let stands = s.clients.each client ch.before ch.stood in
      let low = low_client client ch.before ch.stood in
      let fills = fills_there W J run.node run.state.log client ch.before None ch.now stands ch.became in
      let same = client_same W J run.node run.state.log client ch.before ch.now fills.1 (ap (λ q. q.items) ch.became.crumbs) (ap (λ q. q.items) ch.became.triggers) ch.became.beside stands in
      record {
        stands = same_stands clients (subst (ClientsStand W J run.node run.state.log) (sym ch.set) (one_same W J run.node run.state.log client f.clients.items ch.before ch.now ch.stood same s.clients));
        none = event_none W J run s.sends (λ (sheet : Sheet). Took (Chunk client sheet)) (Chunks client) (λ (s : ClientSends). s.chunks) client low fills.0;
      }

  -- ---- crumbs

  pub crumb_readied : {g : _} (client : ℕ) (crumb : Crumb) (clients : Listing FollowedClient) → Pops PopsCrumb client f.clients.items (Some (crumb)) clients.items → IsReadied {g = g} W J heard run (steps.Crumb client) (inputs.Crumb client crumb) (with_clients clients)
  crumb_readied client crumb clients (inl gap) = let never : Some (crumb) ≡ None = gap.0 in absurd cc
  crumb_readied {g = g} client crumb clients (inr ch) =
      let stands = s.clients.each client ch.before ch.stood in
      let low = low_client client ch.before ch.stood in
      let log = run.state.log in
      let sends = client_sends W J run.node client in
      let next = next_item sends.crumbs (taken (Crumbs client) log) crumb ch.now.crumbs.items (sym ch.became.items ∙ stands.left.crumbs) in
      let gone = crumb_gone W J run.node log client ch.before ch.now stands next.rest ch.became.chunks ch.became.triggers ch.became.beside in
      record {
        stands =
            moved_stands (steps.Crumb client) clients refl
            (subst (ClientsStand W J run.node (log ++ steps.Crumb client ∷ [])) (sym ch.set)
            (one_moves W J run.node log (steps.Crumb client) client f.clients.items ch.before ch.now ch.stood (λ other apart. (refl, ne_eqb client other apart, refl)) gone s.clients));
        ready = event_there W J run s.sends (λ (crumb : Crumb). Took (Crumbed client crumb)) (Crumbs client) (λ (s : ClientSends). s.crumbs) client next.item low next.at ∙ ap (λ (x : Crumb). Some (Took (Crumbed client x))) next.is;
        noted = refl;
        chunk = tt;
      }

  pub no_crumb_readied : (client : ℕ) (clients : Listing FollowedClient) → Pops {X = Crumb} PopsCrumb client f.clients.items None clients.items → IsNotReady W J heard run (steps.Crumb client) (with_clients clients)
  no_crumb_readied client clients (inl gap) = record { stands = no_client client clients gap.1; none = event_past W J run s.sends (λ (crumb : Crumb). Took (Crumbed client crumb)) (Crumbs client) (λ (s : ClientSends). s.crumbs) client (high_client client clients gap.1) }
  no_crumb_readied client clients (inr ch) =
      let stands = s.clients.each client ch.before ch.stood in
      let low = low_client client ch.before ch.stood in
      let sends = client_sends W J run.node client in
      let none : ch.before.crumbs.items ≡ [] = nil_of_rest (ch.before.crumbs.items) (ch.became.items ∙ ch.became.rest) in
      let same = client_same W J run.node run.state.log client ch.before ch.now (subst (λ (f : Filling). FillsAt W J run.node client (taken (Chunks client) run.state.log) f) (sym ch.became.chunks) stands.chunks) (ch.became.rest ∙ ap (drop 1) none ∙ sym none) (ap (λ q. q.items) ch.became.triggers) ch.became.beside stands in
      record {
        stands = same_stands clients (subst (ClientsStand W J run.node run.state.log) (sym ch.set) (one_same W J run.node run.state.log client f.clients.items ch.before ch.now ch.stood same s.clients));
        none = event_none W J run s.sends (λ (crumb : Crumb). Took (Crumbed client crumb)) (Crumbs client) (λ (s : ClientSends). s.crumbs) client low (none_left sends.crumbs (taken (Crumbs client) run.state.log) (sym none ∙ stands.left.crumbs));
      }

  -- ---- triggers

  pub trigger_readied : {g : _} (client : ℕ) (trigger : Trigger) (clients : Listing FollowedClient) → Pops PopsTrigger client f.clients.items (Some (trigger)) clients.items → IsReadied {g = g} W J heard run (steps.Trigger client) (inputs.Trigger client trigger) (with_clients clients)
  trigger_readied client trigger clients (inl gap) = let never : Some (trigger) ≡ None = gap.0 in absurd cc
  trigger_readied {g = g} client trigger clients (inr ch) =
      let stands = s.clients.each client ch.before ch.stood in
      let low = low_client client ch.before ch.stood in
      let log = run.state.log in
      let sends = client_sends W J run.node client in
      let next = next_item sends.triggers (taken (Triggers client) log) trigger ch.now.triggers.items (sym ch.became.items ∙ stands.left.triggers) in
      let gone = trigger_gone W J run.node log client ch.before ch.now stands next.rest ch.became.chunks ch.became.crumbs ch.became.beside in
      record {
        stands =
            moved_stands (steps.Trigger client) clients refl
            (subst (ClientsStand W J run.node (log ++ steps.Trigger client ∷ [])) (sym ch.set)
            (one_moves W J run.node log (steps.Trigger client) client f.clients.items ch.before ch.now ch.stood (λ other apart. (refl, refl, ne_eqb client other apart)) gone s.clients));
        ready = event_there W J run s.sends (λ (trigger : Trigger). Took (Triggered client trigger)) (Triggers client) (λ (s : ClientSends). s.triggers) client next.item low next.at ∙ ap (λ (x : Trigger). Some (Took (Triggered client x))) next.is;
        noted = refl;
        chunk = tt;
      }

  pub no_trigger_readied : (client : ℕ) (clients : Listing FollowedClient) → Pops {X = Trigger} PopsTrigger client f.clients.items None clients.items → IsNotReady W J heard run (steps.Trigger client) (with_clients clients)
  no_trigger_readied client clients (inl gap) = record { stands = no_client client clients gap.1; none = event_past W J run s.sends (λ (trigger : Trigger). Took (Triggered client trigger)) (Triggers client) (λ (s : ClientSends). s.triggers) client (high_client client clients gap.1) }
  no_trigger_readied client clients (inr ch) =
      let stands = s.clients.each client ch.before ch.stood in
      let low = low_client client ch.before ch.stood in
      let sends = client_sends W J run.node client in
      let none : ch.before.triggers.items ≡ [] = nil_of_rest (ch.before.triggers.items) (ch.became.items ∙ ch.became.rest) in
      let same = client_same W J run.node run.state.log client ch.before ch.now (subst (λ (f : Filling). FillsAt W J run.node client (taken (Chunks client) run.state.log) f) (sym ch.became.chunks) stands.chunks) (ap (λ q. q.items) ch.became.crumbs) (ch.became.rest ∙ ap (drop 1) none ∙ sym none) ch.became.beside stands in
      record {
        stands = same_stands clients (subst (ClientsStand W J run.node run.state.log) (sym ch.set) (one_same W J run.node run.state.log client f.clients.items ch.before ch.now ch.stood same s.clients));
        none = event_none W J run s.sends (λ (trigger : Trigger). Took (Triggered client trigger)) (Triggers client) (λ (s : ClientSends). s.triggers) client low (none_left sends.triggers (taken (Triggers client) run.state.log) (sym none ∙ stands.left.triggers));
      }

  -- ---- by the step

  pub readied_at : {g : _} {input : Input (Unit {0}) g} {f' : FollowedAgent} (step step' : Step) → step ≡ step' → IsReadied W J heard run step' input f' → IsReadied W J heard run step input f'
  readied_at {g = g} {input = input} {f' = f'} step step' same r = subst (λ (step : Step). IsReadied W J heard run step input f') (sym same) r

  pub not_ready_at : {f' : FollowedAgent} (step step' : Step) → step ≡ step' → IsNotReady W J heard run step' f' → IsNotReady W J heard run step f'
  not_ready_at {f' = f'} step step' same r = subst (λ (step : Step). IsNotReady W J heard run step f') (sym same) r

  -- ---- asks and turns

  pub ask_readied : {g : _} (asks : List Ask) (ask : Ask) (asked : ℕ) → asks ≡ asks_to run.node heard → slice_get asks f.asked ≡ Some ask → asked ≡ f.asked + 1
      → IsReadied {g = g} W J heard run steps.Ask (inputs.Ask ask) (record f { asked = asked })
  ask_readied asks ask asked are there count =
      let once = taken_once Asks run.state.log steps.Ask refl in
      let had = s.asked in
      record {
        stands =
            record {
              sends = s.sends;
              clients = clients_as W J run.node run.state.log steps.Ask f.clients.items (λ client. (refl, refl, refl)) s.clients;
              agent = s.agent;
              asked = omega (arith, once, had, count);
              said = s.said;
              gives = s.gives;
            };
        ready = ap (option_map (λ (ask : Ask). Took (Asked ask))) (ap (λ k. slice_get (asks_to run.node heard) k) (sym s.asked) ∙ ap (λ (l : List Ask). slice_get l f.asked) (sym are) ∙ there);
        noted = refl;
        chunk = tt;
      }

  pub no_ask_readied : (asks : List Ask) → asks ≡ asks_to run.node heard → slice_get asks f.asked ≡ None → IsNotReady W J heard run steps.Ask f
  no_ask_readied asks are none =
      record {
        stands = s;
        none = ap (option_map (λ (ask : Ask). Took (Asked ask))) (ap (λ k. slice_get (asks_to run.node heard) k) (sym s.asked) ∙ ap (λ (l : List Ask). slice_get l f.asked) (sym are) ∙ none);
      }

  pub turn_readied : {g : _} → IsReadied {g = g} W J heard run steps.Turn inputs.Turn f
  turn_readied =
      record {
        stands =
            record {
              sends = s.sends;
              clients = clients_as W J run.node run.state.log steps.Turn f.clients.items (λ client. (refl, refl, refl)) s.clients;
              agent = s.agent;
              asked = s.asked ∙ sym (taken_still Asks run.state.log steps.Turn refl);
              said = s.said;
              gives = s.gives;
            };
        ready = refl;
        noted = refl;
        chunk = tt;
      }
