-- What each call that takes an item out of a queue leads to.
use Rattle.std.proofs.Common.{◌≡◌, ℕ, ◌<◌, false, List, [], ◌∷◌, ◌++◌, length, Option, Some, None, refl, sym, ap, subst, ◌∙◌, arith, option_map, append_assoc, append-nil, length-append}
use Rattle.hs_replay.proofs.Prelude.{slice_get, slice_get_within, get_mid, Input, Ask, Crumb, Trigger, ChangesAt, Step, Chunks, Crumbs, Triggers, Asks, takes, taken, NodeRun, asks_to, Machine, done_at, heard_in, Took, Chunk, Crumbed, Triggered, TakesChunk, TakesCrumb, TakesTrigger, PlainReplayClient, PlainWorkload, draws_at, operations_at, place_of, Held, buffer_of, sheet_in, pool_history, taken_still, Sheet, PlainReplayNode, IsAmid, IsReady, IsDrained, IsThere, Remain, ReplayClientsStand, ReplayNodeStands}
use Rattle.std.specs.Prelude.{IsSome}
use Rattle.hs_agent.specs.declared.input.Input.TheVariants as inputs
use Rattle.hs_records.specs.declared.journal.Step.TheVariants as steps
use Rattle.hs_law_agent.specs.Stepping.{Asked}
use Rattle.hs_replay.specs.declared.queue.Queue.TheVariants as queues
use Rattle.hs_replay.proofs.Counting.{taken_once}
use Rattle.hs_replay.proofs.Readying.{none_moves, sheet_is, chunk_ready, crumb_ready, trigger_ready, chunk_lent, chunk_moved, crumb_moved, trigger_moved, players_set, players_same, chunks_else, crumbs_else, triggers_else}

module _ (W : PlainWorkload) (m : Machine) (n : ℕ) (run : NodeRun) (old : PlainReplayNode) (amid : IsAmid W m n run old) where
  -- all but the clients and the asks stand where they stood
  others_stand : (log : List Step) (players : List PlainReplayClient) (asks : List Ask) → ReplayClientsStand W m run.node log players → Remain (taken Asks log) (asks_to run.node (heard_in W m.journal)) asks
      → ReplayNodeStands W m (heard_in W m.journal) (pool_history amid.comes.start) run log (record old { players = players; asks = asks })
  others_stand log players asks playing asking =
      record {
        sends = amid.stands.sends;
        players = playing;
        agent = amid.stands.agent;
        pool = amid.stands.pool;
        asks = asking;
        said = amid.stands.said;
      }

  -- what remains of the asks where no ask is taken
  asks_still : (step : Step) → takes Asks step ≡ false → Remain (taken Asks (run.state.log ++ step ∷ [])) (asks_to run.node (heard_in W m.journal)) old.asks
  asks_still step other = subst (λ k. Remain k (asks_to run.node (heard_in W m.journal)) old.asks) (sym (taken_still Asks run.state.log step other)) amid.stands.asks

  -- ---- clients

  module _ (client : ℕ) (low : client < length old.players) (new : List PlainReplayClient) where
    inside : client < W.settings.clients
    inside = let count = amid.stands.players.count in omega (arith, count)

    abbrev place : ℕ
    place = place_of W.settings.clients run.node client

    pub chunk_out : {g : _} (held : Held (Unit {0}) g) → ChangesAt client old.players new (λ before now. TakesChunk before (Some (buffer_of held)) now)
        → IsReady W m n run (steps.Chunk client) (inputs.Chunk client held) (record old { players = new })
    chunk_out held ch =
        let at = ch.became W.settings (record { node = run.node; number = client }) (operations_at W place) (draws_at m.journal place) (done_at m place)
        (taken (Chunks client) run.state.log) (taken (Crumbs client) run.state.log) (taken (Triggers client) run.state.log) (amid.stands.players.each client ch.before ch.stood) in
        let sheet : sheet_in (buffer_of held) ≡ at.0.item.item = sheet_is (buffer_of held) at.0.item.item at.0.sheet in
        record {
          comes = amid.comes;
          stands =
              others_stand (run.state.log ++ steps.Chunk client ∷ []) new old.asks
              (players_set W m run run.state.log client (steps.Chunk client) old.players new ch.before ch.now ch.stood ch.set (chunks_else W m run run.state.log client) (chunk_moved W m run run.state.log client ch.now at.1) amid.stands.players)
              (asks_still (steps.Chunk client) refl);
          ready = chunk_ready W m run client at.0.item amid.stands.sends inside at.0.next ∙ ap (λ (s : Sheet). Some (Took (Chunk client s))) (sym sheet);
          noted = refl;
          chunk = (
            record {
              started = subst (λ (page : Option Sheet). IsSome page) (sym at.0.sheet) refl;
              from = ap (λ (s : Sheet). s.header.client) sheet ∙ at.0.owner;
              size = at.0.size;
            },
            chunk_lent W m run client (done_at m place) (taken (Chunks client) run.state.log) (buffer_of held) amid.stands.sends inside at.0,
          );
        }

    pub chunks_out : ChangesAt client old.players new (λ before now. TakesChunk before None now) → IsDrained W m n (queues.Chunks client) run (record old { players = new })
    chunks_out ch =
        let at = ch.became W.settings (record { node = run.node; number = client }) (operations_at W place) (draws_at m.journal place) (done_at m place)
        (taken (Chunks client) run.state.log) (taken (Crumbs client) run.state.log) (taken (Triggers client) run.state.log) (amid.stands.players.each client ch.before ch.stood) in
        record {
          amid =
              record {
                comes = amid.comes;
                stands = others_stand run.state.log new old.asks (players_same W m run run.state.log client old.players new ch.before ch.now ch.stood ch.set at.1 amid.stands.players) amid.stands.asks;
              };
          none = at.0;
        }

    pub crumb_out : {g : _} (crumb : Crumb) → ChangesAt client old.players new (λ before now. TakesCrumb before (Some crumb) now)
        → IsReady {g = g} W m n run (steps.Crumb client) (inputs.Crumb client crumb) (record old { players = new })
    crumb_out crumb ch =
        let at = ch.became W.settings (record { node = run.node; number = client }) (operations_at W place) (draws_at m.journal place) (done_at m place)
        (taken (Chunks client) run.state.log) (taken (Crumbs client) run.state.log) (taken (Triggers client) run.state.log) (amid.stands.players.each client ch.before ch.stood) in
        record {
          comes = amid.comes;
          stands =
              others_stand (run.state.log ++ steps.Crumb client ∷ []) new old.asks
              (players_set W m run run.state.log client (steps.Crumb client) old.players new ch.before ch.now ch.stood ch.set (crumbs_else W m run run.state.log client) (crumb_moved W m run run.state.log client ch.now at.1) amid.stands.players)
              (asks_still (steps.Crumb client) refl);
          ready = crumb_ready W m run client at.0.item amid.stands.sends inside at.0.next ∙ ap (λ (x : Crumb). Some (Took (Crumbed client x))) at.0.is;
          noted = refl;
          chunk = tt;
        }

    pub crumbs_out : ChangesAt client old.players new (λ before now. TakesCrumb before None now) → IsDrained W m n (queues.Crumbs client) run (record old { players = new })
    crumbs_out ch =
        let at = ch.became W.settings (record { node = run.node; number = client }) (operations_at W place) (draws_at m.journal place) (done_at m place)
        (taken (Chunks client) run.state.log) (taken (Crumbs client) run.state.log) (taken (Triggers client) run.state.log) (amid.stands.players.each client ch.before ch.stood) in
        record {
          amid =
              record {
                comes = amid.comes;
                stands = others_stand run.state.log new old.asks (players_same W m run run.state.log client old.players new ch.before ch.now ch.stood ch.set at.1 amid.stands.players) amid.stands.asks;
              };
          none = at.0;
        }

    pub trigger_out : {g : _} (trigger : Trigger) → ChangesAt client old.players new (λ before now. TakesTrigger before (Some trigger) now)
        → IsReady {g = g} W m n run (steps.Trigger client) (inputs.Trigger client trigger) (record old { players = new })
    trigger_out trigger ch =
        let at = ch.became W.settings (record { node = run.node; number = client }) (operations_at W place) (draws_at m.journal place) (done_at m place)
        (taken (Chunks client) run.state.log) (taken (Crumbs client) run.state.log) (taken (Triggers client) run.state.log) (amid.stands.players.each client ch.before ch.stood) in
        record {
          comes = amid.comes;
          stands =
              others_stand (run.state.log ++ steps.Trigger client ∷ []) new old.asks
              (players_set W m run run.state.log client (steps.Trigger client) old.players new ch.before ch.now ch.stood ch.set (triggers_else W m run run.state.log client) (trigger_moved W m run run.state.log client ch.now at.1) amid.stands.players)
              (asks_still (steps.Trigger client) refl);
          ready = trigger_ready W m run client at.0.item amid.stands.sends inside at.0.next ∙ ap (λ (x : Trigger). Some (Took (Triggered client x))) at.0.is;
          noted = refl;
          chunk = tt;
        }

    pub triggers_out : ChangesAt client old.players new (λ before now. TakesTrigger before None now) → IsDrained W m n (queues.Triggers client) run (record old { players = new })
    triggers_out ch =
        let at = ch.became W.settings (record { node = run.node; number = client }) (operations_at W place) (draws_at m.journal place) (done_at m place)
        (taken (Chunks client) run.state.log) (taken (Crumbs client) run.state.log) (taken (Triggers client) run.state.log) (amid.stands.players.each client ch.before ch.stood) in
        record {
          amid =
              record {
                comes = amid.comes;
                stands = others_stand run.state.log new old.asks (players_same W m run run.state.log client old.players new ch.before ch.now ch.stood ch.set at.1 amid.stands.players) amid.stands.asks;
              };
          none = at.0;
        }

    -- ---- what was there

    pub chunk_there : {g : _} (held : Held (Unit {0}) g) → ChangesAt client old.players new (λ before now. TakesChunk before (Some (buffer_of held)) now)
        → IsThere W m n (queues.Chunks client) run (inputs.Chunk client held) (record old { players = new })
    chunk_there held ch =
        let at = ch.became W.settings (record { node = run.node; number = client }) (operations_at W place) (draws_at m.journal place) (done_at m place)
        (taken (Chunks client) run.state.log) (taken (Crumbs client) run.state.log) (taken (Triggers client) run.state.log) (amid.stands.players.each client ch.before ch.stood) in
        record { ready = chunk_out held ch; within = slice_get_within _ _ _ at.0.within }

    pub crumb_there : {g : _} (crumb : Crumb) → ChangesAt client old.players new (λ before now. TakesCrumb before (Some crumb) now)
        → IsThere {g = g} W m n (queues.Crumbs client) run (inputs.Crumb client crumb) (record old { players = new })
    crumb_there crumb ch =
        let at = ch.became W.settings (record { node = run.node; number = client }) (operations_at W place) (draws_at m.journal place) (done_at m place)
        (taken (Chunks client) run.state.log) (taken (Crumbs client) run.state.log) (taken (Triggers client) run.state.log) (amid.stands.players.each client ch.before ch.stood) in
        record { ready = crumb_out crumb ch; within = slice_get_within _ _ _ at.0.within }

    pub trigger_there : {g : _} (trigger : Trigger) → ChangesAt client old.players new (λ before now. TakesTrigger before (Some trigger) now)
        → IsThere {g = g} W m n (queues.Triggers client) run (inputs.Trigger client trigger) (record old { players = new })
    trigger_there trigger ch =
        let at = ch.became W.settings (record { node = run.node; number = client }) (operations_at W place) (draws_at m.journal place) (done_at m place)
        (taken (Chunks client) run.state.log) (taken (Crumbs client) run.state.log) (taken (Triggers client) run.state.log) (amid.stands.players.each client ch.before ch.stood) in
        record { ready = trigger_out trigger ch; within = slice_get_within _ _ _ at.0.within }

  -- ---- asks

  -- a step that takes from no client
  spares : (step : Step) → ((client : ℕ) → (takes (Chunks client) step ≡ false) × (takes (Crumbs client) step ≡ false) × (takes (Triggers client) step ≡ false))
      → ReplayClientsStand W m run.node (run.state.log ++ step ∷ []) old.players
  spares step none = none_moves W m run.node run.state.log step old.players none amid.stands.players

  pub ask_out : {g : _} (ask : Ask) (rest : List Ask) → old.asks ≡ ask ∷ rest → IsReady {g = g} W m n run steps.Ask (inputs.Ask ask) (record old { asks = rest })
  ask_out ask rest e =
      let asks = amid.stands.asks in
      let whole : asks_to run.node (heard_in W m.journal) ≡ asks.front ++ ask ∷ rest = asks.all_is ∙ ap (λ (l : List Ask). asks.front ++ l) e in
      record {
        comes = amid.comes;
        stands =
            others_stand (run.state.log ++ steps.Ask ∷ []) old.players rest (spares steps.Ask (λ client. (refl, refl, refl)))
            (record {
              front = asks.front ++ ask ∷ [];
              all_is = whole ∙ sym (append_assoc asks.front (ask ∷ []) rest);
              count = let more = length-append asks.front (ask ∷ []) in let once = taken_once Asks run.state.log steps.Ask refl in let count = asks.count in omega (arith, more, once, count);
            });
        ready =
            ap (λ (l : List Ask). option_map (λ (a : Ask). Took (Asked a)) (slice_get l (taken Asks run.state.log))) whole
            ∙ ap (λ k. option_map (λ (a : Ask). Took (Asked a)) (slice_get (asks.front ++ ask ∷ rest) k)) (sym asks.count) ∙ ap (option_map (λ (a : Ask). Took (Asked a))) (get_mid asks.front ask rest);
        noted = refl;
        chunk = tt;
      }

  pub ask_there : {g : _} (ask : Ask) (rest : List Ask) → old.asks ≡ ask ∷ rest → IsThere {g = g} W m n queues.Asks run (inputs.Ask ask) (record old { asks = rest })
  ask_there ask rest e =
      let asks = amid.stands.asks in
      let all = ap length (asks.all_is ∙ ap (λ (l : List Ask). asks.front ++ l) e) in
      let both = length-append asks.front (ask ∷ rest) in
      record { ready = ask_out ask rest e; within = let count = asks.count in omega (arith, all, both, count) }

  pub asks_out : old.asks ≡ [] → IsDrained W m n queues.Asks run old
  asks_out e =
      let asks = amid.stands.asks in
      record {
        amid = amid;
        none = sym asks.count ∙ ap length (sym (append-nil asks.front) ∙ ap (λ (l : List Ask). asks.front ++ l) (sym e) ∙ sym asks.all_is);
      }

  pub asks_gone : (rest : List Ask) → old.asks ≡ [] → rest ≡ [] → IsDrained W m n queues.Asks run (record old { asks = rest })
  asks_gone rest e f = subst (λ (l : List Ask). IsDrained W m n queues.Asks run (record old { asks = l })) (e ∙ sym f) (asks_out e)

  -- ---- the turn

  pub turn_comes : {g : _} → IsReady {g = g} W m n run steps.Turn inputs.Turn old
  turn_comes =
      record {
        comes = amid.comes;
        stands = others_stand (run.state.log ++ steps.Turn ∷ []) old.players old.asks (spares steps.Turn (λ client. (refl, refl, refl))) (asks_still steps.Turn refl);
        ready = refl;
        noted = refl;
        chunk = tt;
      }
