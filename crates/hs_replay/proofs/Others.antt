-- What the clients of one node do leaves all other nodes where they are.
use Rattle.std.proofs.Common.{◌≡◌, ◌≢◌, ◌⊎◌, inl, inr, ℕ, zero, suc, ◌+◌, ◌*◌, ◌/◌, ◌<◌, ◌≤◌, List, [], length, take, drop, fold, map, refl, sym, ap, subst, ◌∙◌, Some, arith, slice_get, unwrap_or, length-set, length-take, length-drop}
use Rattle.hs_replay.proofs.Prelude.{range_with_len, div-mul-add, slice_get_within, get_there, get_set_cases, range_append, MAX_NODES, Listing, ChangesAt, Messages, PlainCoordinator, Draw, Chunks, Crumbs, Triggers, taken, NodeRun, followed, Machine, client_goes, clients_go, agents_take, agents_give, done_at, node_at, heard_in, ClientGoes, ClientsGoSo, AgentsTakeSo, AgentsGiveSo, IsReached, MachinesAreWhole, ReplayClientIsAt, PlainReplayClient, PlainWorkload, draws_at, node_sends, operations_at, place_of, IsValid, workload_of, Workload, Op, HasHeard, AllAt, NodesAt, clients_gone, NodesBetween, node_goes, AreOf, PlainReplayNode, ReplayClientStands, NodeIsHeard, NodeIsAt}
use Rattle.std.proofs.lemmas.List.{length-map}
use Rattle.std.proofs.Math.Nat.{suc-mul}
use Rattle.std.proofs.lemmas.List.Sums.{fold-append}
use Rattle.hs_base.specs.declared.limits.TheConstants.{MAX_CLIENTS}
use Rattle.hs_law_journal.proofs.Workloads.{place_low}
use Rattle.hs_law_run.specs.Reaching as reaching
use Rattle.hs_records.specs.Views.{operations_of}
use Rattle.hs_records.specs.declared.setting.Setting.TheVariants as settings
use Rattle.hs_records.proofs.Sizes.{few_nodes, product_few, last_low, operations_sliced}

-- ---- a client's turn

module _ (whole : MachinesAreWhole) (goes : ClientsGoSo) (W : PlainWorkload) (valid : IsValid W) where
  abbrev pub each : ℕ
  each = W.settings.clients

  low_place : (n client : ℕ) → n < W.settings.nodes → client < each → place_of each n client < length W.clients
  low_place n client node_low low = place_low W valid n client node_low low

  pub run_at : (m : Machine) → IsReached W m → (n : ℕ) → n < W.settings.nodes → (run : NodeRun) × (node_at W m.journal n ≡ Some run)
  run_at m r n low = let count = (whole W valid m r).count in get_there (followed W m.journal).nodes n (omega (arith, low, count))

  module _ (m : Machine) (r : IsReached W m) (n client : ℕ) (node_low : n < W.settings.nodes) (low : client < each) where
    abbrev pub place : ℕ
    place = place_of each n client

    abbrev pub new : Machine
    new = client_goes W m place

    pub reached : IsReached W new
    reached = reaching.Goes m place (low_place n client node_low low) r

    pub gone : ClientGoes W m new n place (run_at m r n node_low).0
    gone = let run = run_at m r n node_low in goes W valid m r n client run.0 low run.1

    other_place : (other number : ℕ) → n ≢ other → number < each → place ≢ place_of each other number
    other_place other number ne below e = ne (sym (div-mul-add n each client low) ∙ ap (λ (p : ℕ). p / each) e ∙ div-mul-add other each number below)

    stays : (other : ℕ) (node : PlainReplayNode) → n ≢ other → NodeIsAt W m other node → NodeIsAt W new other node
    stays other node ne h =
        let s = h.stands in
        let at = gone.others other ne ∙ h.at in
        let performed = (whole W valid new reached).each other h.run at in
        subst (λ (heard : Messages). NodeIsHeard W new heard other node) (sym gone.heard)
        (record {
          run = h.run;
          at = at;
          number = h.number;
          stands =
              record {
                sends = performed.sends ∙ ap (node_sends W new.journal) (sym h.number);
                players = record { count = s.players.count; each = λ number player found. player_stays number player (slice_get_within node.players number player found) (s.players.each number player found) };
                agent = s.agent;
                pool = s.pool;
                asks = s.asks;
                said = s.said;
              };
        })
      where
        player_stays : (number : ℕ) (player : PlainReplayClient) → number < length node.players → ReplayClientStands W m h.run.node h.run.state.log number player → ReplayClientStands W new h.run.node h.run.state.log number player
        player_stays number player below p =
            let count = h.stands.players.count in
            let number_low : number < each = omega (arith, below, count) in
            let there = place_of each h.run.node number in
            let apart : place ≢ there = λ e. other_place other number ne number_low (e ∙ ap (λ (k : ℕ). place_of each k number) h.number) in
            subst
            (λ (done : ℕ).
            ReplayClientIsAt W.settings (record { node = h.run.node; number = number }) (operations_at W there) (draws_at new.journal there) done (taken (Chunks number) h.run.state.log) (taken (Crumbs number) h.run.state.log)
            (taken (Triggers number) h.run.state.log) player)
            (sym (gone.others_done there apart))
            (subst
            (λ (draws : List Draw).
            ReplayClientIsAt W.settings (record { node = h.run.node; number = number }) (operations_at W there) draws (done_at m there) (taken (Chunks number) h.run.state.log) (taken (Crumbs number) h.run.state.log)
            (taken (Triggers number) h.run.state.log) player)
            (sym (gone.others_draws there apart)) p)

  -- ---- all clients of a node

  abbrev gone_from : Machine → ℕ → ℕ → ℕ → Machine
  gone_from m n number count = fold (client_goes W) m (range_with_len (place_of each n number) count)

  next_place : (n number : ℕ) → place_of each n number + 1 ≡ place_of each n (number + 1)
  next_place n number = omega arith

  all_reached : (n number count : ℕ) (m : Machine) → IsReached W m → n < W.settings.nodes → number + count ≤ each → IsReached W (gone_from m n number count)
  all_reached n number zero m r node_low few = r
  all_reached n number (suc count) m r node_low few =
      let next = client_goes W m (place_of each n number) in
      let reached_next = reaching.Goes m (place_of each n number) (low_place n number node_low (omega (arith, few))) r in
      subst (λ (p : ℕ). IsReached W (fold (client_goes W) next (range_with_len p count))) (sym (next_place n number)) (all_reached n (number + 1) count next reached_next node_low (omega (arith, few)))

  all_stay : (n number count : ℕ) (m : Machine) (r : IsReached W m) → n < W.settings.nodes → number + count ≤ each → (other : ℕ) (node : PlainReplayNode) → n ≢ other → NodeIsAt W m other node → NodeIsAt W (gone_from m n number count) other node
  all_stay n number zero m r node_low few other node ne h = h
  all_stay n number (suc count) m r node_low few other node ne h =
      let low : number < each = omega (arith, few) in
      let next = client_goes W m (place_of each n number) in
      subst (λ (p : ℕ). NodeIsAt W (fold (client_goes W) next (range_with_len p count)) other node) (sym (next_place n number))
      (all_stay n (number + 1) count next (reached m r n number node_low low) node_low (omega (arith, few)) other node ne (stays m r n number node_low low other node ne h))

  from_zero : (m : Machine) (n : ℕ) → gone_from m n 0 each ≡ node_goes W m n each
  from_zero m n = let e : place_of each n 0 ≡ n * each = omega arith in ap (λ (p : ℕ). fold (client_goes W) m (range_with_len p each)) e

  -- ---- node after node

  module _ (m : Machine) (n : ℕ) (nodes : List PlainReplayNode) (at : NodesAt W m nodes) (low : n < length nodes) where
    node_low_here : n < W.settings.nodes
    node_low_here = let count = at.nodes_are.count in omega (arith, count, low)

    pub node_gone : (later : List PlainReplayNode) → ChangesAt n nodes later (λ old now. NodeIsAt W (node_goes W m n each) n now) → NodesAt W (node_goes W m n each) later
    node_gone later changes =
        record {
          valid = at.valid;
          reached = subst (IsReached W) (from_zero m n) (all_reached n 0 each m at.reached node_low_here (omega arith));
          nodes_are =
              record {
                count = ap length changes.set ∙ length-set nodes n changes.now ∙ at.nodes_are.count;
                each = λ other node found. either other node (get_set_cases nodes n other changes.before changes.now node changes.stood (ap (λ (l : List PlainReplayNode). slice_get l other) (sym changes.set) ∙ found));
              };
        }
      where
        either : (other : ℕ) (node : PlainReplayNode) → ((n ≡ other) × (changes.now ≡ node)) ⊎ ((n ≡ other → ⊥) × (slice_get nodes other ≡ Some node)) → NodeIsAt W (node_goes W m n each) other node
        either other node (inl e) = subst (λ (k : ℕ). NodeIsAt W (node_goes W m n each) k node) e.0 (subst (NodeIsAt W (node_goes W m n each) n) e.1 changes.became)
        either other node (inr o) = subst (λ (next : Machine). NodeIsAt W next other node) (from_zero m n) (all_stay n 0 each m at.reached node_low_here (omega arith) other node o.0 (at.nodes_are.each other node o.1))

module _ (W : PlainWorkload) where
  pub gone_next : (m : Machine) (n : ℕ) → node_goes W (clients_gone W m n) n W.settings.clients ≡ clients_gone W m (n + 1)
  gone_next m n =
      let product : (n + 1) * W.settings.clients ≡ n * W.settings.clients + W.settings.clients = let e : n + 1 ≡ suc n = omega arith in ap (λ (k : ℕ). k * W.settings.clients) e ∙ suc-mul n W.settings.clients in
      let zeroth : 0 + n * W.settings.clients ≡ n * W.settings.clients = omega arith in
      sym
      (ap (λ (k : ℕ). fold (client_goes W) m (range_with_len 0 k)) product
      ∙ ap (fold (client_goes W) m) (range_append 0 (n * W.settings.clients) W.settings.clients)
      ∙ fold-append (client_goes W) m (range_with_len 0 (n * W.settings.clients)) (range_with_len (0 + n * W.settings.clients) W.settings.clients)
      ∙ ap (λ (k : ℕ). fold (client_goes W) (fold (client_goes W) m (range_with_len 0 (n * W.settings.clients))) (range_with_len k W.settings.clients)) zeroth)

  pub gone_none : (m : Machine) → clients_gone W m 0 ≡ m
  gone_none m = let none : 0 * W.settings.clients ≡ 0 = omega arith in ap (λ (k : ℕ). fold (client_goes W) m (range_with_len 0 k)) none

  pub gone_all : IsValid W → (m : Machine) (n : ℕ) → n ≡ W.settings.nodes → clients_gone W m n ≡ clients_go W m
  gone_all valid m n same = ap (λ (k : ℕ). fold (client_goes W) m (range_with_len 0 (k * W.settings.clients))) same ∙ ap (λ (k : ℕ). fold (client_goes W) m (range_with_len 0 k)) (sym valid.count)

-- ---- passes

module _ (W : PlainWorkload) (m next : Machine) where
  pub between_start : (nodes : List PlainReplayNode) → NodesAt W m nodes → NodesBetween W m next 0 nodes
  between_start nodes at =
      record {
        valid = at.valid;
        reached = at.reached;
        count = at.nodes_are.count;
        before = λ n node found low. absurd (omega (arith, low));
        behind = λ n node found low. at.nodes_are.each n node found;
      }

  pub between_more : (first : ℕ) (nodes later : List PlainReplayNode) → NodesBetween W m next first nodes → ChangesAt first nodes later (λ old now. NodeIsAt W next first now) → NodesBetween W m next (first + 1) later
  between_more first nodes later b changes =
      record {
        valid = b.valid;
        reached = b.reached;
        count = ap length changes.set ∙ length-set nodes first changes.now ∙ b.count;
        before = λ n node found low. before_case n node low (there n node found);
        behind = λ n node found low. behind_case n node low (there n node found);
      }
    where
      there : (n : ℕ) (node : PlainReplayNode) → slice_get later n ≡ Some node → ((first ≡ n) × (changes.now ≡ node)) ⊎ ((first ≡ n → ⊥) × (slice_get nodes n ≡ Some node))
      there n node found = get_set_cases nodes first n changes.before changes.now node changes.stood (ap (λ (l : List PlainReplayNode). slice_get l n) (sym changes.set) ∙ found)

      before_case : (n : ℕ) (node : PlainReplayNode) → n < first + 1 → ((first ≡ n) × (changes.now ≡ node)) ⊎ ((first ≡ n → ⊥) × (slice_get nodes n ≡ Some node)) → NodeIsAt W next n node
      before_case n node low (inl e) = subst (λ (k : ℕ). NodeIsAt W next k node) e.0 (subst (NodeIsAt W next first) e.1 changes.became)
      before_case n node low (inr o) = b.before n node o.1 (apart first n low o.0)
        where
          apart : (first n : ℕ) → n < first + 1 → (first ≡ n → ⊥) → n < first
          apart zero zero low ne = absurd (ne refl)
          apart zero (suc n) low ne = absurd (omega (arith, low))
          apart (suc first) zero low ne = omega arith
          apart (suc first) (suc n) low ne = let rest = apart first n (omega (arith, low)) (λ e. ne (ap suc e)) in omega (arith, rest)

      behind_case : (n : ℕ) (node : PlainReplayNode) → first + 1 ≤ n → ((first ≡ n) × (changes.now ≡ node)) ⊎ ((first ≡ n → ⊥) × (slice_get nodes n ≡ Some node)) → NodeIsAt W m n node
      behind_case n node low (inl e) = let same = e.0 in absurd (omega (arith, low, same))
      behind_case n node low (inr o) = b.behind n node o.1 (omega (arith, low))

  pub between_end : IsReached W next → (first : ℕ) (nodes : List PlainReplayNode) → length nodes ≤ first → NodesBetween W m next first nodes → NodesAt W next nodes
  between_end reached first nodes all b =
      record {
        valid = b.valid;
        reached = reached;
        nodes_are = record { count = b.count; each = λ n node found. let low = slice_get_within nodes n node found in b.before n node found (omega (arith, low, all)) };
      }

-- the agents leave what was heard
pub heard_still : AgentsTakeSo → AgentsGiveSo → MachinesAreWhole → (W : PlainWorkload) → (valid : IsValid W) → 0 < W.settings.nodes → (m : Machine) → IsReached W m → heard_in W (agents_give W (agents_take W m)).journal ≡ heard_in W m.journal
heard_still takes gives whole W valid some m r =
    let taken = reaching.Takes m r in
    let count = (whole W valid m r).count in
    let run = get_there (followed W m.journal).nodes 0 (omega (arith, some, count)) in
    let took = takes W valid m r 0 run.0 run.1 in
    let gave = gives W valid (agents_take W m) taken 0 took.later took.node in
    gave.heard ∙ took.heard

-- ---- sizes

pub first_few : (W : PlainWorkload) → IsValid W → (n : ℕ) → n < W.settings.nodes → n * W.settings.clients ≤ MAX_NODES * MAX_CLIENTS
first_few W valid n low = let few = few_nodes W valid in product_few n W.settings.clients (omega (arith, low, few)) (valid.head settings.Clients).1

-- the operations of a node's clients, as they lie in the workload
pub clients_are : (w : Workload) → IsValid (workload_of w) → (n : ℕ) → n < w.settings.nodes → (given : List (Listing Op)) → given ≡ w.clients.items → (count : ℕ) → count ≡ w.settings.clients
    → AreOf (workload_of w) n w.settings (take count (drop (n * w.settings.clients) given))
clients_are w valid n low given same count is =
    let W = workload_of w in
    let most = last_low W valid n low in
    let mapped = length-map w.clients.items operations_of in
    let long = ap length same in
    let dropped = length-drop (n * w.settings.clients) given in
    let taken = length-take count (drop (n * w.settings.clients) given) in
    record {
      settings_are = refl;
      count = omega (arith, most, mapped, long, dropped, taken, is);
      each = λ client ops found.
          operations_sliced given (n * w.settings.clients) count client ops found ∙ ap (λ (l : List (Listing Op)). unwrap_or (slice_get (map operations_of l) (n * w.settings.clients + client)) []) same;
    }

-- ---- with the coordinator

pub nodes_only : (W : PlainWorkload) (m : Machine) (nodes : List PlainReplayNode) (coordinator : PlainCoordinator) → AllAt W m nodes coordinator → NodesAt W m nodes
nodes_only W m nodes coordinator all = record { valid = all.valid; reached = all.reached; nodes_are = all.nodes_are }

-- the coordinator stays where it is as long as nothing more is heard
pub all_still : (W : PlainWorkload) (m next : Machine) (nodes later : List PlainReplayNode) (coordinator : PlainCoordinator) → AllAt W m nodes coordinator → heard_in W next.journal ≡ heard_in W m.journal → NodesAt W next later → AllAt W next later coordinator
all_still W m next nodes later coordinator all same at =
    record {
      valid = at.valid;
      reached = at.reached;
      nodes_are = at.nodes_are;
      coordinator_is = subst (λ (heard : Messages). HasHeard W heard coordinator) (sym same) all.coordinator_is;
    }

pub all_passed : AgentsTakeSo → AgentsGiveSo → MachinesAreWhole → (W : PlainWorkload) (m : Machine) (nodes : List PlainReplayNode) (coordinator : PlainCoordinator) → AllAt W m nodes coordinator → (later : List PlainReplayNode)
    → NodesAt W (agents_give W (agents_take W m)) later → AllAt W (agents_give W (agents_take W m)) later coordinator
all_passed takes gives whole W m nodes coordinator all later at =
    all_still W m (agents_give W (agents_take W m)) nodes later coordinator all (heard_still takes gives whole W all.valid (all.valid.head settings.Nodes).0 m all.reached) at
