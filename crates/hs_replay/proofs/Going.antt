-- A client does its next operations: the node is where the machine says then.
use Rattle.std.proofs.Common.{◌≡◌, ℕ, zero, suc, ◌+◌, ◌*◌, ◌<◌, ◌^◌, List, [], ◌∷◌, ◌++◌, length, map, reverse, Option, Some, None, inl, inr, refl, sym, ap, subst, ◌∙◌, arith, slice_get, append-nil, length-set, count_by, fold, get_or, mul-le-mul_right}
use Rattle.hs_replay.proofs.Prelude.{range_with_len, option_and_then, same_Some, slice_get-get_or, slice_get_within, Listing, MachinesAreWhole, Op, operation_of, length-map-range_with_len, suc_le, get_set_cases, map_range_from, all_each, PlainJournal, sheet_in, ClientId, ChangesAt, Messages, Draw, Chunks, Crumbs, Triggers, Asks, taken, asks_to, is_from, NodeRun, followed, page_of, pool_history, Machine, done_at, client_goes, ClientGoes, ClientsGoSo, ReplayClientIsAt, IsWithin, PlainReplayClient, Pool, IsAfter, PlainWorkload, DrawnPage, ClientSends, client_sends, node_sends, draws_at, operations_at, place_of, Buffer, Sheet, PoolEvent, node_goes, AreOf, PlainReplayNode, StandsStill, Remain, ReplayClientStands, ReplayClientsStand, IsLent, NodeIsAt}
use Rattle.std.proofs.lemmas.Bool.{cases_eq}
use Rattle.hs_base.specs.declared.settings.Settings.{Settings}
use Rattle.hs_law_run.specs.Reaching.{Goes}
use Rattle.hs_base.specs.declared.limits.TheConstants.{MAX_OPERATIONS}
use Rattle.hs_law_journal.specs.Pooled.{buffer_of, event_drawn}
use Rattle.hs_law_run.specs.Lockstep.{next_draws}
use Rattle.hs_law_run.specs.Parts.{next_done, next_drawn, next_pages, sending}
use Rattle.hs_replay_client.specs.Places.{Goes as PlayerGoes, KeepsPool, Went}
use Rattle.hs_client.specs.Drawn.{drawn_from, drawn_pages}
use Rattle.hs_client.specs.Timing.{TimedPage, timed_pages}
use Rattle.hs_words.specs.PoolHistory.{queue_after}
use Rattle.hs_replay.specs.Going.{IsOneOf}

-- ---- pages

-- a page that was drawn is there when more was drawn
drawn_still : (client : ClientId) (number : ℕ) (pages : List TimedPage) (draws more : List Draw) (k : ℕ) (page : DrawnPage) → slice_get (drawn_from client number pages draws) k ≡ Some page
    → slice_get (drawn_from client number pages (draws ++ more)) k ≡ Some page
drawn_still client number [] draws more k page e = let none : None ≡ Some page = e in absurd cc
drawn_still client number (timed ∷ pages) [] more k page e = let none : None ≡ Some page = e in absurd cc
drawn_still client number (timed ∷ pages) (draw ∷ draws) more zero page e = e
drawn_still client number (timed ∷ pages) (draw ∷ draws) more (suc k) page e = drawn_still client (number + 1) pages draws more k page e

-- places of one node are apart
apart_places : (each node client other : ℕ) → (client ≡ other → ⊥) → place_of each node client ≡ place_of each node other → ⊥
apart_places each node client other apart e = apart (omega (arith, e))

there_in : (o : Option ClientSends) (k : ℕ) (page : DrawnPage) → option_and_then (λ (c : ClientSends). slice_get c.drawn k) o ≡ Some page
    → (c : ClientSends) × (o ≡ Some c) × (slice_get c.drawn k ≡ Some page)
there_in None k page e = let none : None ≡ Some page = e in absurd cc
there_in (Some c) k page e = (c, refl, e)

sent_at : (W : PlainWorkload) (J : PlainJournal) (n client : ℕ) → client < W.settings.clients → slice_get (node_sends W J n) client ≡ Some (client_sends W J n client)
sent_at W J n client low =
    let zero_on : 0 + client ≡ client = omega arith in
    map_range_from (client_sends W J n) 0 W.settings.clients client low ∙ ap (λ c. Some (client_sends W J n c)) zero_on

drawn_in_page : (page : Option DrawnPage) (number : ℕ) → option_and_then (λ (d : DrawnPage). buffer_of d.draw) page ≡ Some number → (d : DrawnPage) × (page ≡ Some d) × (buffer_of d.draw ≡ Some number)
drawn_in_page None number e = let none : None ≡ Some number = e in absurd cc
drawn_in_page (Some d) number e = (d, refl, e)

module _ (W : PlainWorkload) (m : Machine) (n client : ℕ) (old : PlainReplayNode) (still : StandsStill W m n old) (low : client < W.settings.clients) (so : ClientsGoSo) where
  abbrev pub run : NodeRun
  run = still.at.run

  abbrev pub place : ℕ
  place = place_of W.settings.clients n client

  abbrev pub new_machine : Machine
  new_machine = client_goes W m place

  abbrev law : ClientGoes W m (client_goes W m (place_of W.settings.clients n client)) n (place_of W.settings.clients n client) run
  law = so W still.valid m still.reached n client still.at.run low still.at.at

  -- the clients by the number of the node
  players_at : ReplayClientsStand W m n run.state.log old.players
  players_at = subst (λ i. ReplayClientsStand W m i run.state.log old.players) still.at.number still.at.stands.players

  -- ---- what the call asks

  pub is_low : client < length old.players
  is_low = let count = still.at.stands.players.count in omega (arith, count, low)

  pub is_within : (player : PlainReplayClient) → slice_get old.players client ≡ Some player → IsWithin W.settings.autos (operations_at W place) old.pool player
  is_within player stood =
      record {
        settings = W.settings;
        client = record { node = n; number = client };
        drawn = draws_at m.journal place;
        done = done_at m place;
        k = taken (Chunks client) run.state.log;
        l = taken (Crumbs client) run.state.log;
        m = taken (Triggers client) run.state.log;
        at = players_at.each client player stood;
        rules_are = refl;
        sized = still.at.stands.pool.size;
      }

  pub has_stamps : old.pool.events + MAX_OPERATIONS < 2 ^ 64
  has_stamps = let few = law.stamps in let events = still.at.stands.pool.after.events in omega (arith, few, events)

  -- ---- what stands then

  abbrev next : NodeRun
  next = sending W new_machine.journal n run

  -- a client's draws with what it drew
  draws_more : (other : ℕ) → (more : List Draw) × (draws_at new_machine.journal (place_of W.settings.clients n other) ≡ draws_at m.journal (place_of W.settings.clients n other) ++ more)
  draws_more other =
      elim (cases_eq client other) [
        | inl e ↦ (next_drawn W m place run, subst (λ c. draws_at new_machine.journal (place_of W.settings.clients n c) ≡ draws_at m.journal (place_of W.settings.clients n c) ++ next_drawn W m place run) e law.draws)
        | inr apart ↦ ([], law.others_draws (place_of W.settings.clients n other) (apart_places W.settings.clients n client other apart) ∙ sym (append-nil (draws_at m.journal (place_of W.settings.clients n other))))
      ]

  -- a page that was drawn is there
  page_still : (sheet : Sheet) (page : DrawnPage) → page_of run sheet ≡ Some page → page_of next sheet ≡ Some page
  page_still sheet page e =
      let other = sheet.header.client.number in
      let k = sheet.header.page in
      let found = there_in (slice_get run.sends other) k page e in
      let sends : run.sends ≡ node_sends W m.journal n = still.at.stands.sends ∙ ap (node_sends W m.journal) still.at.number in
      let within = slice_get_within run.sends other found.0 found.1 in
      let count = ap length sends ∙ length-map-range_with_len (client_sends W m.journal n) 0 W.settings.clients in
      let low' : other < W.settings.clients = omega (arith, within, count) in
      let same : found.0 ≡ client_sends W m.journal n other = same_Some found.0 (client_sends W m.journal n other) (sym found.1 ∙ ap (λ (l : List ClientSends). slice_get l other) sends ∙ sent_at W m.journal n other low') in
      let drawn : slice_get (client_sends W m.journal n other).drawn k ≡ Some page = ap (λ (c : ClientSends). slice_get c.drawn k) (sym same) ∙ found.2 in
      let more = draws_more other in
      let still_there : slice_get (client_sends W new_machine.journal n other).drawn k ≡ Some page =
      ap (λ (d : List Draw). slice_get (drawn_pages W.settings.size (record { node = n; number = other }) (operations_at W (place_of W.settings.clients n other)) d) k) more.1
      ∙ drawn_still (record { node = n; number = other }) 0 (timed_pages W.settings.size (operations_at W (place_of W.settings.clients n other))) (draws_at m.journal (place_of W.settings.clients n other)) more.0 k page drawn in
      ap (option_and_then (λ (c : ClientSends). slice_get c.drawn k)) (sent_at W new_machine.journal n other low') ∙ still_there

  module _ (pool : Pool) (new : List PlainReplayClient) (ch : ChangesAt client old.players new (λ before now. PlayerGoes W.settings.stride (operations_at W place) before old.pool now pool)) (keeps : KeepsPool old.pool pool) where
    -- what it drew where the pool has so many buffers
    abbrev drawn_by : ℕ → List Draw
    drawn_by buffers = next_draws (next_pages W m place) (length (pool_history run)) (queue_after buffers (reverse (pool_history run)))

    abbrev went : Went W.settings (record { node = n; number = client }) (operations_at W place) (draws_at m.journal place) (done_at m place) (next_done W m place) (taken (Chunks client) run.state.log) (taken (Crumbs client) run.state.log)
        (taken (Triggers client) run.state.log) (pool_history run) old.pool ch.now pool
    went =
        ch.became W.settings (record { node = n; number = client }) (draws_at m.journal place) (done_at m place) (taken (Chunks client) run.state.log) (taken (Crumbs client) run.state.log) (taken (Triggers client) run.state.log)
        (pool_history run) (players_at.each client ch.before ch.stood) still.at.stands.pool.after

    -- each client of the node
    each_there : (other : ℕ) (p : PlainReplayClient) → slice_get new other ≡ Some p → ReplayClientStands W new_machine n run.state.log other p
    each_there other p at =
        elim (get_set_cases old.players client other ch.before ch.now p ch.stood (ap (λ (l : List PlainReplayClient). slice_get l other) (sym ch.set) ∙ at)) [
          | inl h ↦
              let moved : ReplayClientStands W new_machine n run.state.log client ch.now =
              subst (λ (d : List Draw). ReplayClientIsAt W.settings (record { node = n; number = client }) (operations_at W place) d (done_at new_machine place) (taken (Chunks client) run.state.log) (taken (Crumbs client) run.state.log)
              (taken (Triggers client) run.state.log) ch.now) (sym law.draws)
              (subst (λ k. ReplayClientIsAt W.settings (record { node = n; number = client }) (operations_at W place) (draws_at m.journal place ++ next_drawn W m place run) k (taken (Chunks client) run.state.log) (taken (Crumbs client) run.state.log)
              (taken (Triggers client) run.state.log) ch.now) (sym law.done)
              (subst (λ b. ReplayClientIsAt W.settings (record { node = n; number = client }) (operations_at W place) (draws_at m.journal place ++ drawn_by b) (next_done W m place) (taken (Chunks client) run.state.log) (taken (Crumbs client) run.state.log)
              (taken (Triggers client) run.state.log) ch.now) still.at.stands.pool.buffers went.at)) in
              subst (λ (q : PlainReplayClient). ReplayClientStands W new_machine n run.state.log other q) h.1 (subst (λ c. ReplayClientStands W new_machine n run.state.log c ch.now) h.0 moved)
          | inr h ↦
              let apart = apart_places W.settings.clients n client other h.0 in
              let there = place_of W.settings.clients n other in
              subst (λ (d : List Draw). ReplayClientIsAt W.settings (record { node = n; number = other }) (operations_at W there) d (done_at new_machine there) (taken (Chunks other) run.state.log) (taken (Crumbs other) run.state.log)
              (taken (Triggers other) run.state.log) p) (sym (law.others_draws there apart))
              (subst (λ k. ReplayClientIsAt W.settings (record { node = n; number = other }) (operations_at W there) (draws_at m.journal there) k (taken (Chunks other) run.state.log) (taken (Crumbs other) run.state.log)
              (taken (Triggers other) run.state.log) p) (sym (law.others_done there apart)) (players_at.each other p h.1))
        ]

    lent_still : (b : Buffer (Unit {0})) → IsLent W.settings run b → IsLent W.settings next b
    lent_still b l =
        let d = drawn_in_page (page_of run (sheet_in b)) b.chunk.number l.drawn in
        record { drawn = ap (option_and_then (λ (d : DrawnPage). buffer_of d.draw)) (page_still (sheet_in b) d.0 d.1) ∙ d.2; size = l.size }

    pub went_at : NodeIsAt W new_machine n (record old { players = new; pool = pool })
    went_at =
        record {
          run = next;
          at = law.node;
          number = still.at.number;
          stands =
              record {
                sends = ap (node_sends W new_machine.journal) (sym still.at.number);
                players =
                    subst (λ i. ReplayClientsStand W new_machine i run.state.log new) (sym still.at.number)
                    (record { count = ap length ch.set ∙ length-set old.players client ch.now ∙ still.at.stands.players.count; each = each_there });
                agent =
                    record {
                      buffers = still.at.stands.agent.buffers;
                      follows = still.at.stands.agent.follows;
                      comes = still.at.stands.agent.comes;
                      lent = all_each (IsLent W.settings run) (IsLent W.settings next) still.at.stands.agent.buffers lent_still still.at.stands.agent.lent;
                      sheets = still.at.stands.agent.sheets;
                    };
                pool =
                    record {
                      after =
                          subst (λ (h : List PoolEvent). IsAfter h pool) (sym law.history)
                          (subst (λ b. IsAfter (pool_history run ++ map event_drawn (drawn_by b)) pool) still.at.stands.pool.buffers went.after);
                      buffers = keeps.0 ∙ still.at.stands.pool.buffers;
                      size = keeps.1 W.settings.size still.at.stands.pool.size;
                    };
                asks = subst (λ (h : Messages). Remain (taken Asks run.state.log) (asks_to run.node h) old.asks) (sym law.heard) still.at.stands.asks;
                said = subst (λ (h : Messages). Remain (count_by (is_from (record { 0 = run.node })) h) run.state.said old.said) (sym law.heard) still.at.stands.said;
              };
        }

-- ---- all clients of a node

fold_more : {A : Type 0} (f : A → ℕ → A) (a : A) (start count : ℕ) → fold f a (range_with_len start (suc count)) ≡ f (fold f a (range_with_len start count)) (start + count)
fold_more f a start zero = let same : start ≡ start + 0 = omega arith in ap (f a) same
fold_more f a start (suc count) =
    let same : start + 1 + count ≡ start + suc count = omega arith in
    fold_more f (f a start) (start + 1) count ∙ ap (f (fold f (f a start) (range_with_len (start + 1) count))) same

-- one client more
pub goes_more : (W : PlainWorkload) (m : Machine) (n count : ℕ) → node_goes W m n (count + 1) ≡ client_goes W (node_goes W m n count) (place_of W.settings.clients n count)
goes_more W m n count =
    let one_more : count + 1 ≡ suc count = omega arith in
    ap (node_goes W m n) one_more ∙ fold_more (client_goes W) m (n * W.settings.clients) count

pub place_there : (W : PlainWorkload) (n client : ℕ) → length W.clients ≡ W.settings.nodes * W.settings.clients → n < W.settings.nodes → client < W.settings.clients → place_of W.settings.clients n client < length W.clients
place_there W n client count low below =
    let rows = mul-le-mul_right W.settings.clients (suc_le n W.settings.nodes low) in
    let row : suc n * W.settings.clients ≡ n * W.settings.clients + W.settings.clients = omega arith in
    omega (arith, count, rows, row, below)

-- the operations of one of the clients
pub one_of : (W : PlainWorkload) (n : ℕ) (settings : Settings) (clients : List (Listing Op)) (client : ℕ) (item : Listing Op) (ops : List Op) → AreOf W n settings clients → client < length clients
    → item ≡ get_or clients client item → ops ≡ item.items → IsOneOf W n client settings ops
one_of W n settings clients client item ops are low e f =
    let count = are.count in
    record {
      settings_are = are.settings_are;
      low = omega (arith, low, count);
      ops_are = ap (map operation_of) f ∙ are.each client item (slice_get-get_or clients client item low ∙ ap (λ x. Some x) (sym e));
    }

-- the node behind one client more
pub still_more : MachinesAreWhole → (W : PlainWorkload) (m : Machine) (n count : ℕ) (old new : PlainReplayNode) (still : StandsStill W (node_goes W m n count) n old) → count < W.settings.clients
    → NodeIsAt W (client_goes W (node_goes W m n count) (place_of W.settings.clients n count)) n new → StandsStill W (node_goes W m n (count + 1)) n new
still_more whole W m n count old new still low at =
    let now = node_goes W m n count in
    let nodes = (whole W still.valid now still.reached).count in
    let there = slice_get_within (followed W now.journal).nodes n still.at.run still.at.at in
    let here : n < W.settings.nodes = omega (arith, nodes, there) in
    subst (λ (k : Machine). StandsStill W k n new) (sym (goes_more W m n count))
    (record { valid = still.valid; reached = Goes now (place_of W.settings.clients n count) (place_there W n count still.valid.count here low) still.reached; at = at })
