-- A message leaves its node, and the asks to which it leads go to theirs: then all stand where they do when it was heard too.
use Rattle.std.proofs.Common.{◌≡◌, ◌≢◌, ◌⊎◌, inl, inr, ℕ, zero, suc, ◌+◌, ◌<◌, ◌≤◌, Bool, true, false, cond, List, [], ◌∷◌, ◌++◌, length, refl, sym, ap, subst, ◌∙◌, Option, Some, None, arith, option_map, slice_get, count_by, replicate, append_assoc, append-nil, length-append, length-set, eqb, eqb-true, eq-eqb}
use Rattle.hs_replay.proofs.Prelude.{option_and_then, same_Some, slice_get_within, get_there, get_set_cases, get_mid, all_at, count_push, MAX_NODES, MAX_TAKEN, NodeId, Ask, Told, ChangesAt, Message, Messages, PlainCoordinator, HasTaken, PlainWorkload, node_sends, taken, asks_to, is_from, NodeRun, message_of, followed, pool_history, Machine, node_at, after_names, StepByStep, message_named, AllHeard, with_ask, AreAsked, name_of, HeardOf, waiting, HearsNode, PlainReplayNode, Remain, ReplayClientsStand, ReplayAgentStands, PoolStands, NodeIsHeard}
use Rattle.std.proofs.lemmas.Grind.{replicate_next}
use Rattle.std.proofs.lemmas.Option.{slice_get_past}
use Rattle.hs_base.specs.NodeSets.{has_node}
use Rattle.hs_coord.specs.Following.{message, first_of, is_newly_asked, AreAsks}
use Rattle.hs_coord.specs.declared.asks.Asks.{Asks}
use Rattle.hs_law_journal.specs.Following.{Asks as AskQueue, ask_by}
use Rattle.hs_law_run.specs.Conditions.{MachinesTellWithin}
use Rattle.hs_law_agent.specs.Leading.{IsToldBelow}
use Rattle.hs_records.specs.declared.setting.Setting.TheVariants as settings
use Rattle.hs_replay.specs.Hearing.{with_told, TellsNext, asked_by, IsHeardOut}
use Rattle.hs_replay.proofs.Taken.{more_remain}

-- ---- lists

module _ {X : Type 0} where
  remain_first : (gone : ℕ) (all rest : List X) (x : X) → Remain gone all (x ∷ rest) → slice_get all gone ≡ Some x
  remain_first gone all rest x r =
      ap (slice_get all) (sym r.count) ∙ ap (λ (l : List X). slice_get l (length r.front)) r.all_is ∙ get_mid r.front x rest

  remain_less : (gone : ℕ) (all rest : List X) (x : X) → Remain gone all (x ∷ rest) → Remain (gone + 1) all rest
  remain_less gone all rest x r =
      let long = length-append r.front (x ∷ []) in
      let count = r.count in
      record { front = r.front ++ x ∷ []; all_is = r.all_is ∙ sym (append_assoc r.front (x ∷ []) rest); count = omega (arith, long, count) }

  remain_none : (gone : ℕ) (all : List X) → Remain gone all [] → slice_get all gone ≡ None
  remain_none gone all r =
      let count = r.count in
      let long = ap length (r.all_is ∙ append-nil r.front) in
      slice_get_past all gone (omega (arith, count, long))

-- ---- one node

-- A node between a message and its asks: it was asked for by these messages, and these were heard.
record IsBetween (W : PlainWorkload) (m : Machine) (asked told : Messages) (n : ℕ) (node : PlainReplayNode) : Type 0 where
  run : NodeRun
  at : node_at W m.journal n ≡ Some run
  number : run.node ≡ n
  sends : run.sends ≡ node_sends W m.journal run.node
  players : ReplayClientsStand W m run.node run.state.log node.players
  agent : ReplayAgentStands W.settings run None node.agent
  pool : PoolStands W.settings (pool_history run) node.pool
  asks : Remain (taken AskQueue run.state.log) (asks_to run.node asked) node.asks
  said : Remain (count_by (is_from (record { 0 = run.node })) told) run.state.said node.said

-- the node of a message
module _ (W : PlainWorkload) (m : Machine) (heard : Messages) (n : ℕ) where
  own_count : (run : NodeRun) (told : Told) → run.node ≡ n → count_by (is_from (record { 0 = run.node })) heard + 1 ≡ count_by (is_from (record { 0 = run.node })) (heard ++ message (name_of n) told ∷ [])
  own_count run told number =
      let all = count_push (is_from (record { 0 = run.node })) heard (message (name_of n) told) in
      let own = ap {B = ℕ} (λ b. cond b 1 0) (eq-eqb n run.node (sym number)) in
      omega (arith, all, own)

  told_node : (told : Told) (node : PlainReplayNode) → NodeIsHeard W m heard n (with_told told node) → IsBetween W m heard (heard ++ message (name_of n) told ∷ []) n node
  told_node told node h =
      let s = h.stands in
      record {
        run = h.run;
        at = h.at;
        number = h.number;
        sends = s.sends;
        players = s.players;
        agent = s.agent;
        pool = s.pool;
        asks = s.asks;
        said =
            subst (λ (gone : ℕ). Remain gone h.run.state.said node.said) (own_count h.run told h.number)
            (remain_less (count_by (is_from (record { 0 = h.run.node })) heard) h.run.state.said node.said told s.said);
      }

  other_count : (run : NodeRun) (from : ℕ) (told : Told) → run.node ≡ n → from ≢ n → count_by (is_from (record { 0 = run.node })) heard ≡ count_by (is_from (record { 0 = run.node })) (heard ++ message (name_of from) told ∷ [])
  other_count run from told number ne =
      let all = count_push (is_from (record { 0 = run.node })) heard (message (name_of from) told) in
      let none = other (eqb from run.node) refl in
      omega (arith, all, none)
    where
      other : (b : Bool) → eqb from run.node ≡ b → cond {A = ℕ} b 1 0 ≡ 0
      other true e = absurd (ne (eqb-true from run.node e ∙ number))
      other false e = refl

  other_node : (from : ℕ) (told : Told) (node : PlainReplayNode) → from ≢ n → NodeIsHeard W m heard n node → IsBetween W m heard (heard ++ message (name_of from) told ∷ []) n node
  other_node from told node ne h =
      let s = h.stands in
      record {
        run = h.run;
        at = h.at;
        number = h.number;
        sends = s.sends;
        players = s.players;
        agent = s.agent;
        pool = s.pool;
        asks = s.asks;
        said = subst (λ (gone : ℕ). Remain gone h.run.state.said node.said) (other_count h.run from told h.number ne) s.said;
      }

  -- the message is the next one of its node
  next_message : (told : Told) (node : PlainReplayNode) → NodeIsHeard W m heard n (with_told told node) → message_of (followed W m.journal).nodes heard (name_of n) ≡ Some (message (name_of n) told)
  next_message told node h =
      let first = remain_first (count_by (is_from (record { 0 = h.run.node })) heard) h.run.state.said node.said told h.stands.said in
      ap (option_and_then (λ (run : NodeRun). option_map (message (name_of n)) (slice_get run.state.said (count_by (is_from (name_of n)) heard)))) h.at
      ∙ ap (λ (k : ℕ). option_map (message (name_of n)) (slice_get h.run.state.said (count_by (is_from (name_of k)) heard))) (sym h.number)
      ∙ ap (option_map (message (name_of n))) first

  no_message : (node : PlainReplayNode) → node.said ≡ [] → NodeIsHeard W m heard n node → message_of (followed W m.journal).nodes heard (name_of n) ≡ None
  no_message node none h =
      let gone = count_by (is_from (record { 0 = h.run.node })) heard in
      let past = remain_none gone h.run.state.said (subst (Remain gone h.run.state.said) none h.stands.said) in
      ap (option_and_then (λ (run : NodeRun). option_map (message (name_of n)) (slice_get run.state.said (count_by (is_from (name_of n)) heard)))) h.at
      ∙ ap (λ (k : ℕ). option_map (message (name_of n)) (slice_get h.run.state.said (count_by (is_from (name_of k)) heard))) (sym h.number)
      ∙ ap (option_map (message (name_of n))) past

-- ---- the asks of a message

module _ (steps : StepByStep) (W : PlainWorkload) (m : Machine) (heard : Messages) (msg : Message) (asks : Asks) (are : AreAsks heard msg asks) where
  abbrev the_ask : Ask
  the_ask = record { group = (first_of heard msg).told.group; laterals = (first_of heard msg).told.laterals }

  ask_is : asks.ask ≡ the_ask
  ask_is =
      ap (λ group. record { group = group; laterals = asks.ask.laterals }) are.group
      ∙ ap (λ laterals. record { group = (first_of heard msg).told.group; laterals = laterals }) are.laterals

  with_asks : PlainReplayNode → List Ask → PlainReplayNode
  with_asks node more = record node { asks = node.asks ++ more }

  asked_case : (node : PlainReplayNode) (b : Bool) → cond b (with_ask asks.ask node) node ≡ record node { asks = node.asks ++ cond b (the_ask ∷ []) [] }
  asked_case node true = ap (λ (ask : Ask). record node { asks = node.asks ++ ask ∷ [] }) ask_is
  asked_case node false = ap (λ (list : List Ask). record node { asks = list }) (sym (append-nil node.asks))

  asked_is : (n : ℕ) (node : PlainReplayNode) → asked_by asks n node ≡ record node { asks = node.asks ++ ask_by n heard msg }
  asked_is n node = ap (λ b. cond b (with_ask asks.ask node) node) (are.to n) ∙ asked_case node (is_newly_asked heard msg n)

  asked_node : (n : ℕ) (node : PlainReplayNode) → IsBetween W m heard (heard ++ msg ∷ []) n node → NodeIsHeard W m (heard ++ msg ∷ []) n (asked_by asks n node)
  asked_node n node b =
      let more = ask_by n heard msg in
      let asks_are : asks_to b.run.node heard ++ more ≡ asks_to b.run.node (heard ++ msg ∷ []) =
      ap (λ (k : ℕ). asks_to b.run.node heard ++ ask_by k heard msg) (sym b.number) ∙ sym (steps.asks b.run.node heard msg)
      in
      subst (NodeIsHeard W m (heard ++ msg ∷ []) n) (sym (asked_is n node))
      (record {
        run = b.run;
        at = b.at;
        number = b.number;
        stands =
            record {
              sends = b.sends;
              players = b.players;
              agent = b.agent;
              pool = b.pool;
              asks = subst (λ (all : List Ask). Remain (taken AskQueue b.run.state.log) all (node.asks ++ more)) asks_are (more_remain (taken AskQueue b.run.state.log) (asks_to b.run.node heard) node.asks more b.asks);
              said = b.said;
            };
      })

-- ---- all nodes

-- there are few nodes
pub few_nodes : (W : PlainWorkload) (m : Machine) (heard : Messages) (nodes : List PlainReplayNode) (coordinator : PlainCoordinator) → AllHeard W m heard nodes coordinator → length nodes ≤ MAX_NODES
few_nodes W m heard nodes coordinator all = let count = all.nodes_are.count in let most = (all.valid.head settings.Nodes).1 in omega (arith, count, most)

-- what a node tells leads to nodes that there are
pub tells_below : MachinesTellWithin → (W : PlainWorkload) (m : Machine) (heard : Messages) (from : ℕ) (nodes later : List PlainReplayNode) (coordinator : PlainCoordinator) (told : Told) → AllHeard W m heard nodes coordinator
    → ChangesAt from nodes later (λ old new. TellsNext old (Some told) new) → (n : ℕ) → has_node told.crumbs n ≡ true → n < coordinator.nodes
tells_below within W m heard from nodes later coordinator told all changes n has =
    let node = subst (NodeIsHeard W m heard from) changes.became (all.nodes_are.each from changes.before changes.stood) in
    let each = within W all.valid m all.reached from node.run node.at in
    let first = remain_first (count_by (is_from (record { 0 = node.run.node })) heard) node.run.state.said changes.now.said told node.stands.said in
    let low = all_at (IsToldBelow W.settings.nodes) node.run.state.said (count_by (is_from (record { 0 = node.run.node })) heard) told each first n has in
    let nodes_are = all.coordinator_is.nodes in
    omega (arith, low, nodes_are)

module _ (steps : StepByStep) (W : PlainWorkload) (m : Machine) (heard : Messages) (from : ℕ) (nodes : List PlainReplayNode) (coordinator : PlainCoordinator) (all : AllHeard W m heard nodes coordinator) where
  module _ (told : Told) (later : List PlainReplayNode) (changes : ChangesAt from nodes later (λ old new. TellsNext old (Some told) new)) where
    abbrev msg : Message
    msg = message (name_of from) told

    -- the node from which the message came
    from_node : NodeIsHeard W m heard from (with_told told changes.now)
    from_node = subst (NodeIsHeard W m heard from) changes.became (all.nodes_are.each from changes.before changes.stood)

    pub heard_next : message_of (followed W m.journal).nodes heard (name_of from) ≡ Some msg
    heard_next = next_message W m heard from told changes.now from_node

    between : (n : ℕ) (node : PlainReplayNode) → slice_get later n ≡ Some node → IsBetween W m heard (heard ++ msg ∷ []) n node
    between n node at = either (get_set_cases nodes from n changes.before changes.now node changes.stood (ap (λ (l : List PlainReplayNode). slice_get l n) (sym changes.set) ∙ at))
      where
        either : ((from ≡ n) × (changes.now ≡ node)) ⊎ ((from ≡ n → ⊥) × (slice_get nodes n ≡ Some node)) → IsBetween W m heard (heard ++ msg ∷ []) n node
        either (inl e) =
            subst (λ (k : ℕ). IsBetween W m heard (heard ++ msg ∷ []) k node) e.0 (subst (IsBetween W m heard (heard ++ msg ∷ []) from) e.1 (told_node W m heard from told changes.now from_node))
        either (inr o) = other_node W m heard n from told node o.0 (all.nodes_are.each n node o.1)

    count_later : length later ≡ length nodes
    count_later = ap length changes.set ∙ length-set nodes from changes.now

    pub heard_all : (asks : Asks) → AreAsks heard msg asks → (last : List PlainReplayNode) → AreAsked asks (length later) later last → (kept : PlainCoordinator) → HasTaken kept (heard ++ msg ∷ []) → kept.nodes ≡ coordinator.nodes → AllHeard W m (heard ++ msg ∷ []) last kept
    heard_all asks are last asked kept taken same =
        record {
          valid = all.valid;
          reached = all.reached;
          nodes_are =
              record {
                count = asked.count ∙ count_later ∙ all.nodes_are.count;
                each = λ n node at.
                    let below = slice_get_within last n node at in
                    let count = asked.count in
                    let was = get_there later n (omega (arith, below, count)) in
                    let now = asked.before n was.0 was.1 (omega (arith, below, count)) in
                    subst (NodeIsHeard W m (heard ++ msg ∷ []) n) (same_Some (asked_by asks n was.0) node (sym now ∙ at)) (asked_node steps W m heard msg asks are n was.0 (between n was.0 was.1));
              };
          coordinator_is = record { taken = taken; nodes = same ∙ all.coordinator_is.nodes };
        }

    pub heard_one : (asks : Asks) → AreAsks heard msg asks → (last : List PlainReplayNode) → AreAsked asks (length later) later last → (kept : PlainCoordinator) → HasTaken kept (heard ++ msg ∷ []) → kept.nodes ≡ coordinator.nodes → HeardOf W m heard from 1 last kept
    heard_one asks are last asked kept taken same =
        record {
          next = heard ++ msg ∷ [];
          by = ap (option_and_then (λ (m : Message). Some (heard ++ m ∷ []))) heard_next;
          all = heard_all asks are last asked kept taken same;
        }

  -- where there is none, all stays
  pub heard_none : (later : List PlainReplayNode) → ChangesAt from nodes later (λ old new. TellsNext old None new) → IsHeardOut W m heard from later coordinator
  heard_none later changes =
      let node = all.nodes_are.each from changes.before changes.stood in
      record {
        none = no_message W m heard from changes.before changes.became.0 node;
        all =
            record {
              valid = all.valid;
              reached = all.reached;
              nodes_are =
                  record {
                    count = ap length changes.set ∙ length-set nodes from changes.now ∙ all.nodes_are.count;
                    each = λ n node at. either n node (get_set_cases nodes from n changes.before changes.now node changes.stood (ap (λ (l : List PlainReplayNode). slice_get l n) (sym changes.set) ∙ at));
                  };
              coordinator_is = all.coordinator_is;
            };
      }
    where
      either : (n : ℕ) (node : PlainReplayNode) → ((from ≡ n) × (changes.now ≡ node)) ⊎ ((from ≡ n → ⊥) × (slice_get nodes n ≡ Some node)) → NodeIsHeard W m heard n node
      either n node (inl e) = all.nodes_are.each n node (ap (slice_get nodes) (sym e.0) ∙ changes.stood ∙ ap Some (sym changes.became.1 ∙ e.1))
      either n node (inr o) = all.nodes_are.each n node o.1

-- ---- one message after another

-- so many messages more of a node
names_counted : (runs : List NodeRun) (n k : ℕ) (heard next : Messages) → after_names runs (replicate k (name_of n)) heard ≡ Some next → count_by (is_from (name_of n)) next ≡ count_by (is_from (name_of n)) heard + k
names_counted runs n zero heard next h = let same = ap (count_by (is_from (name_of n))) (same_Some heard next h) in omega (arith, same)
names_counted runs n (suc k) heard next h = go (message_of runs heard (name_of n)) refl h (λ m. names_counted runs n k (heard ++ m ∷ []) next)
  where
    go : (o : Option Message) → message_of runs heard (name_of n) ≡ o → option_and_then (λ m. after_names runs (replicate k (name_of n)) (heard ++ m ∷ [])) o ≡ Some next
        → ((m : Message) → after_names runs (replicate k (name_of n)) (heard ++ m ∷ []) ≡ Some next → count_by (is_from (name_of n)) next ≡ count_by (is_from (name_of n)) (heard ++ m ∷ []) + k)
        → count_by (is_from (name_of n)) next ≡ count_by (is_from (name_of n)) heard + suc k
    go None e h on = let never : None ≡ Some next = h in absurd cc
    go (Some m) e h on =
        let rest = on m h in
        let last = count_push (is_from (name_of n)) heard m in
        let own = ap {B = ℕ} (λ (name : NodeId). cond (is_from (name_of n) (record { node = name; told = m.told })) 1 0) (message_named runs heard (name_of n) m e) in
        let same = ap {B = ℕ} (λ b. cond b 1 0) (eq-eqb n n refl) in
        omega (arith, rest, last, own, same)

module _ (steps : StepByStep) (W : PlainWorkload) (m : Machine) (heard : Messages) (n : ℕ) where
  pub heard_more : (count : ℕ) (nodes : List PlainReplayNode) (coordinator : PlainCoordinator) (h : HeardOf W m heard n count nodes coordinator) (later : List PlainReplayNode) (kept : PlainCoordinator) → HeardOf W m h.next n 1 later kept → HeardOf W m heard n (count + 1) later kept
  heard_more count nodes coordinator h later kept one =
      let runs = (followed W m.journal).nodes in
      record {
        next = one.next;
        by =
            ap (λ (names : List NodeId). after_names runs names heard) (replicate_next count (name_of n))
            ∙ steps.names runs (replicate count (name_of n)) (name_of n ∷ []) heard
            ∙ ap (option_and_then (after_names runs (name_of n ∷ []))) h.by
            ∙ one.by;
        all = one.all;
      }

  pub heard_nothing : (nodes : List PlainReplayNode) (coordinator : PlainCoordinator) → AllHeard W m heard nodes coordinator → HeardOf W m heard n 0 nodes coordinator
  heard_nothing nodes coordinator all = record { next = heard; by = refl; all = all }

  -- no more was heard than was said
  module _ (count : ℕ) (nodes : List PlainReplayNode) (coordinator : PlainCoordinator) (h : HeardOf W m heard n count nodes coordinator) (low : n < length nodes) where
    node_there : NodeIsHeard W m h.next n (get_there nodes n low).0
    node_there = let there = get_there nodes n low in h.all.nodes_are.each n there.0 there.1

    abbrev run_there : NodeRun
    run_there = node_there.run

    said_enough : count_by (is_from (name_of n)) heard + count ≤ length run_there.state.said
    said_enough =
        let counted = names_counted (followed W m.journal).nodes n count heard h.next h.by in
        let r = node_there.stands.said in
        let number = ap (λ (k : ℕ). count_by (is_from (name_of k)) h.next) node_there.number in
        let gone = r.count in
        let long = ap length r.all_is in
        let both = length-append r.front (get_there nodes n low).0.said in
        omega (arith, counted, number, gone, long, both)

    pub heard_full : count ≡ MAX_TAKEN → HearsNode W m heard n nodes coordinator
    heard_full full =
        let enough = said_enough in
        let same : count ≡ waiting heard n run_there = omega (arith, full, enough) in
        record { run = run_there; at = node_there.at; heard_of = subst (λ (k : ℕ). HeardOf W m heard n k nodes coordinator) same h }

    pub heard_out : count < MAX_TAKEN → (later : List PlainReplayNode) (kept : PlainCoordinator) → IsHeardOut W m h.next n later kept → HearsNode W m heard n later kept
    heard_out few later kept out =
        let enough = said_enough in
        let counted = names_counted (followed W m.journal).nodes n count heard h.next h.by in
        let most = all_said (slice_get run_there.state.said (count_by (is_from (name_of n)) h.next)) refl out.none in
        let same : count ≡ waiting heard n run_there = omega (arith, few, enough, counted, most) in
        record {
          run = run_there;
          at = node_there.at;
          heard_of = subst (λ (k : ℕ). HeardOf W m heard n k later kept) same (record { next = h.next; by = h.by; all = out.all });
        }
      where
        past : {X : Type 0} (xs : List X) (i : ℕ) → slice_get xs i ≡ None → length xs ≤ i
        past [] i e = omega arith
        past (x ∷ xs) zero e = let never : Some x ≡ None = e in absurd cc
        past (x ∷ xs) (suc i) e = let rest = past xs i e in omega (arith, rest)

        all_said : (o : Option Told) → slice_get run_there.state.said (count_by (is_from (name_of n)) h.next) ≡ o → message_of (followed W m.journal).nodes h.next (name_of n) ≡ None
            → length run_there.state.said ≤ count_by (is_from (name_of n)) h.next
        all_said None e none = past run_there.state.said (count_by (is_from (name_of n)) h.next) e
        all_said (Some told) e none =
            let some : message_of (followed W m.journal).nodes h.next (name_of n) ≡ Some (message (name_of n) told) =
            ap (option_and_then (λ (run : NodeRun). option_map (message (name_of n)) (slice_get run.state.said (count_by (is_from (name_of n)) h.next)))) node_there.at ∙ ap (option_map (message (name_of n))) e
            in
            let never : Some (message (name_of n) told) ≡ None = sym some ∙ none in absurd cc
