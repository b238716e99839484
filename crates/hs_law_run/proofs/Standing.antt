-- What stands at every machine on its way: each client has its draws, and each node is performed and holds what it should.
use Rattle.std.proofs.Common.{◌≡◌, inl, inr, ℕ, zero, suc, ◌+◌, ◌≤◌, List, [], ◌∷◌, ◌++◌, length, refl, sym, ap, ◌∙◌, Option, Some, None, arith, map, fold, option_map, slice_get, count_by, append-nil}
use Rattle.hs_law_run.proofs.Prelude.{range_with_len, option_and_then, option_unmap, all_at, NodeId, Message, Messages, message, after, PlainSettings, PlainWorkload, node_sends, NodeRun, Run, is_from, message_of, hear, run_start, followed, Performs, Leads, Stays, Goes, IsLaidOut, ValidWorkloadsRun, Known, Machine, machine_start, client_goes, clients_go, pass_steps, give_steps, agents_take, agents_give, passes, round, rounds, IsReached}
use Rattle.hs_law_run.specs.Reaching as reaching
use Rattle.hs_law_run.specs.Reaching.{IsPerformed, IsWhole, MachinesAreWhole, MachinesLeadOn}
use Rattle.hs_law_run.proofs.Followed.{count_nodes, number_is, log_of}
use Rattle.hs_law_run.proofs.Held.{IsHeld}
use Rattle.hs_law_run.proofs.Keeping.{Keeps, own_sends, starts_keep, client_keeps_held, take_keeps_held, give_keeps_held, hear_keeps_held}
use Rattle.hs_law_run.proofs.ExtendedLists.{length_extended}
use Rattle.hs_law_run.proofs.Shapes.{HasDrawn, IsWithin, begins, within_of, client_draws, at_most_all}
use Rattle.hs_law_run.proofs.Walks.{IsThrough}

-- ---- who told

abbrev names_of : Messages → List NodeId
names_of heard = map (λ (m : Message). m.node) heard

names_more : (heard : Messages) (m : Message) (rest : List NodeId) → names_of (heard ++ m ∷ []) ++ rest ≡ names_of heard ++ m.node ∷ rest
names_more [] m rest = refl
names_more (x ∷ heard) m rest = ap (λ (names : List NodeId). x.node ∷ names) (names_more heard m rest)

-- the message of a node is its own
pub message_named : (runs : List NodeRun) (heard : Messages) (node : NodeId) (m : Message) → message_of runs heard node ≡ Some m → m.node ≡ node
message_named runs heard node m h = go (slice_get runs node.0) h
  where
    go : (o : Option NodeRun) → option_and_then (λ (run : NodeRun). option_map (message node) (slice_get run.state.said (count_by (is_from node) heard))) o ≡ Some m → m.node ≡ node
    go None h = let never : None ≡ Some m = h in absurd cc
    go (Some run) h = let t = option_unmap (message node) (slice_get run.state.said (count_by (is_from node) heard)) m h in ap (λ (m : Message). m.node) (sym t.2)

abbrev all_names : Run → List NodeId
all_names run = names_of run.heard ++ run.left

hear_named : (run next : Run) (left : List NodeId) → run.left ≡ left → hear run left ≡ Some next → all_names next ≡ all_names run
hear_named run next [] e h = let never : None ≡ Some next = h in absurd cc
hear_named run next (node ∷ rest) e h =
    let t = option_unmap (λ (m : Message). record run { left = rest; heard = run.heard ++ m ∷ [] }) (message_of run.nodes run.heard node) next h in
    ap all_names (sym t.2)
    ∙ names_more run.heard t.0 rest
    ∙ ap (λ (n : NodeId). names_of run.heard ++ n ∷ rest) (message_named run.nodes run.heard node t.0 t.1)
    ∙ ap (λ (left : List NodeId). names_of run.heard ++ left) (sym e)

performs_named : (settings : PlainSettings) (run next : Run) → Performs settings run next → all_names next ≡ all_names run
performs_named settings run next (inl s) = ap all_names s.result
performs_named settings run next (inr heard) = hear_named run next run.left refl heard

pub leads_named : (settings : PlainSettings) (run last : Run) → Leads settings run last → all_names last ≡ all_names run
leads_named settings run last (Stays r) = refl
leads_named settings run last (Goes r next l p leads) = leads_named settings next last leads ∙ performs_named settings r next p

-- ---- every machine on its way

module _ (k : Known) (W : PlainWorkload) where
  abbrev pub Kept : Machine → Type 0
  Kept m = Keeps k W m

  pub kept : (m : Machine) → IsReached W m → Kept m
  kept m reaching.Starts = starts_keep k W
  kept m (reaching.Goes n place low r) = client_keeps_held k W n place (kept n r)
  kept m (reaching.Takes n r) = take_keeps_held k W n (kept n r)
  kept m (reaching.Gives n r) = give_keeps_held k W n (kept n r)
  kept m (reaching.Hears n r) = hear_keeps_held k W n (kept n r)

  -- a node of a machine holds what it should
  pub held_at : (m : Machine) → IsReached W m → (i : ℕ) (run : NodeRun) → slice_get (followed W m.journal).nodes i ≡ Some run → IsHeld W.settings run
  held_at m r i run at = all_at (IsHeld W.settings) (followed W m.journal).nodes i run (kept m r).held at

  pub through_at : (m : Machine) → IsReached W m → (i : ℕ) (run : NodeRun) → slice_get (followed W m.journal).nodes i ≡ Some run → run.left ≡ []
  through_at m r i run at = all_at IsThrough (followed W m.journal).nodes i run (kept m r).done.over.nodes at

  pub number_at : (m : Machine) (i : ℕ) (run : NodeRun) → slice_get (followed W m.journal).nodes i ≡ Some run → run.node ≡ i
  number_at m i run at = number_is k W m.journal i run at

  -- whom the coordinator heard is noted
  pub told_is : (m : Machine) → IsReached W m → names_of (followed W m.journal).heard ≡ m.journal.told
  told_is m r =
      sym (append-nil (names_of (followed W m.journal).heard))
      ∙ ap (λ (left : List NodeId). names_of (followed W m.journal).heard ++ left) (sym (kept m r).done.over.left)
      ∙ leads_named W.settings (run_start W m.journal) (followed W m.journal) (k.plays W m.journal).leads

  module _ (laid : IsLaidOut W) where
    pub record Standing (m : Machine) : Type 0 where
      pub drawn : HasDrawn k W laid m
      pub within : IsWithin k W laid m

    pub standing : (m : Machine) → IsReached W m → Standing m
    standing m reaching.Starts =
        let b = begins k W laid in
        record { drawn = b.drawn; within = within_of k W laid 0 (machine_start W) b }
    standing m (reaching.Goes n place low r) =
        let s = standing n r in
        record {
          drawn = client_draws k W laid n place s.drawn s.within low;
          within = at_most_all k W laid n place s.drawn s.within low;
        }
    standing m (reaching.Takes n r) =
        let s = standing n r in
        let h = s.drawn in
        record {
          drawn =
              record {
                nodes = h.nodes;
                clients = h.clients;
                logs = length_extended n.journal.logs (map (pass_steps W n (followed W n.journal)) (followed W n.journal).nodes) ∙ h.logs;
                done = h.done;
                draws = h.draws;
                drawn = h.drawn;
              };
          within = s.within;
        }
    standing m (reaching.Gives n r) =
        let s = standing n r in
        let h = s.drawn in
        record {
          drawn =
              record {
                nodes = h.nodes;
                clients = h.clients;
                logs = length_extended n.journal.logs (map give_steps (followed W n.journal).nodes) ∙ h.logs;
                done = h.done;
                draws = h.draws;
                drawn = h.drawn;
              };
          within = s.within;
        }
    standing m (reaching.Hears n r) =
        let s = standing n r in
        let h = s.drawn in
        record {
          drawn =
              record {
                nodes = h.nodes;
                clients = h.clients;
                logs = h.logs;
                done = h.done;
                draws = h.draws;
                drawn = h.drawn;
              };
          within = s.within;
        }

    -- ---- the journal is performed

    performed_at : (m : Machine) → IsReached W m → (i : ℕ) (run : NodeRun) → slice_get (followed W m.journal).nodes i ≡ Some run → IsPerformed W m i run
    performed_at m r i run at =
        let number = number_at m i run at in
        record {
          number = number;
          sends = own_sends k W m.journal i run at ∙ ap (node_sends W m.journal) number;
          left = through_at m r i run at;
          log = log_of k W m (kept m r).done i run at;
          state = (held_at m r i run at).comes ∙ ap (λ (n : ℕ). after W.settings n run.events) number;
        }

    pub whole : (m : Machine) → IsReached W m → IsWhole W m
    whole m r =
        let s = standing m r in
        let left = (kept m r).done.over.left in
        record {
          nodes = s.drawn.nodes;
          clients = s.drawn.clients;
          done = s.drawn.done;
          draws = s.drawn.draws;
          logs = s.drawn.logs;
          count = count_nodes k W m.journal;
          each = performed_at m r;
          left = left;
          told = told_is m r;
          drawn = s.drawn.drawn;
          within = s.within;
        }

pub machines_are_whole : Known → ValidWorkloadsRun → MachinesAreWhole
machines_are_whole k run W valid m r = whole k W (run W valid).laid m r

-- ---- parts lead on

clients_reached : (W : PlainWorkload) (start places : ℕ) (m : Machine) → start + places ≤ length W.clients → IsReached W m → IsReached W (fold (client_goes W) m (range_with_len start places))
clients_reached W start zero m few r = r
clients_reached W start (suc places) m few r = clients_reached W (start + 1) places (client_goes W m start) (omega (arith, few)) (reaching.Goes m start (omega (arith, few)) r)

clients_on : (W : PlainWorkload) (m : Machine) → IsReached W m → IsReached W (clients_go W m)
clients_on W m r = clients_reached W 0 (length W.clients) m (omega arith) r

pub pass_on : (W : PlainWorkload) (m : Machine) → IsReached W m → IsReached W (passes W m)
pass_on W m r = reaching.Hears (agents_give W (agents_take W m)) (reaching.Gives (agents_take W m) (reaching.Takes m r))

round_on : (W : PlainWorkload) (m : Machine) → IsReached W m → IsReached W (round W m)
round_on W m r = pass_on W (clients_go W m) (clients_on W m r)

pub rounds_on : (W : PlainWorkload) (n : ℕ) (m : Machine) → IsReached W m → IsReached W (rounds n W m)
rounds_on W zero m r = r
rounds_on W (suc n) m r = rounds_on W n (round W m) (round_on W m r)

pub machines_lead_on : MachinesLeadOn
machines_lead_on W =
    record {
      each = λ m r. record { clients = clients_on W m r; pass = pass_on W m r; round = round_on W m r };
      rounds = λ n. rounds_on W n (machine_start W) reaching.Starts;
    }
