-- A pass of a node's agent up to its turn is what the machine says of it.
use Rattle.std.proofs.Common.{◌≡◌, ℕ, zero, suc, ◌+◌, List, [], ◌∷◌, ◌++◌, length, map, zip, Some, refl, sym, ap, subst, ◌∙◌}
use Rattle.hs_replay.proofs.Prelude.{flat_map, range_with_len, same_Some, Messages, Step, NodeRun, followed, pool_history, Machine, done_at, agents_take, heard_in, AgentsTakeSo, after_steps, PlainWorkload, ClientSends, client_sends, place_of, PoolEvent, PlainReplayNode, IsAmid, WentBy, StandsStill, takes_by, takes_first, NodeIsAt, ReplayNodeStands}
use Rattle.hs_records.specs.declared.journal.Step.TheVariants as steps
use Rattle.hs_law_run.specs.Lockstep.{with_steps, takes_of, takes_all, pass_steps}
use Rattle.hs_law_run.specs.Parts.{AgentTakes}
use Rattle.hs_replay.specs.declared.queue.Queue.TheVariants as queues
use Rattle.hs_replay.proofs.Looping.{takes_in_pass}

-- a node that stands still, before its pass
abbrev pub began : (W : PlainWorkload) (m : Machine) (n : ℕ) (node : PlainReplayNode) (still : StandsStill W m n node) → IsAmid W m n still.at.run node
began W m n node still =
    record {
      comes =
          record {
            valid = still.valid;
            reached = still.reached;
            start = still.at.run;
            at = still.at.at;
            steps = [];
            came = refl;
            number = still.at.number;
          };
      stands = still.at.stands;
    }

-- ---- the steps

zip_mapped : (f : ℕ × ClientSends → List Step) (g : ℕ → ClientSends) (start count : ℕ)
    → flat_map f (zip (range_with_len start (length (map g (range_with_len start count)))) (map g (range_with_len start count))) ≡ flat_map (λ c. f (c, g c)) (range_with_len start count)
zip_mapped f g start zero = refl
zip_mapped f g start (suc count) = ap (λ (l : List Step). f (start, g start) ++ l) (zip_mapped f g (start + 1) count)

all_takes : (W : PlainWorkload) (m : Machine) (run : NodeRun) → run.sends ≡ map (client_sends W m.journal run.node) (range_with_len 0 W.settings.clients) → takes_all W m run ≡ takes_first W m run W.settings.clients
all_takes W m run e =
    let f : ℕ × ClientSends → List Step = λ c. takes_of run c.0 c.1 (done_at m (place_of W.settings.clients run.node c.0)) in
    ap (λ (sends : List ClientSends). flat_map f (zip (range_with_len 0 (length sends)) sends)) e ∙ zip_mapped f (client_sends W m.journal run.node) 0 W.settings.clients

pub pass_is : (W : PlainWorkload) (m : Machine) (run : NodeRun) → run.sends ≡ map (client_sends W m.journal run.node) (range_with_len 0 W.settings.clients) → takes_in_pass W m run ≡ pass_steps W m (followed W m.journal) run
pass_is W m run e = ap (λ (l : List Step). l ++ takes_by W m run queues.Asks ++ steps.Turn ∷ []) (sym (all_takes W m run e))

-- ---- what stands

-- steps more in the logs leave what clients did and drew
pub with_steps_stand : (W : PlainWorkload) (m : Machine) (new : List (List Step)) (heard : Messages) (history : List PoolEvent) (run : NodeRun) (log : List Step) (node : PlainReplayNode) → ReplayNodeStands W m heard history run log node
    → ReplayNodeStands W (with_steps m new) heard history run log node
with_steps_stand W m new heard history run log node stands =
    record {
      sends = stands.sends;
      players = record { count = stands.players.count; each = stands.players.each };
      agent = stands.agent;
      pool = stands.pool;
      asks = stands.asks;
      said = stands.said;
    }

pub restand : (W : PlainWorkload) (m : Machine) (heard heard' : Messages) (history history' : List PoolEvent) (run run' : NodeRun) (node : PlainReplayNode) → heard ≡ heard' → history ≡ history' → run ≡ run'
    → ReplayNodeStands W m heard history run run.state.log node → ReplayNodeStands W m heard' history' run' run'.state.log node
restand W m heard heard' history history' run run' node a b c stands =
    subst (λ (r : NodeRun). ReplayNodeStands W m heard' history' r r.state.log node) c
    (subst (λ (h : List PoolEvent). ReplayNodeStands W m heard' h run run.state.log node) b (subst (λ (h : Messages). ReplayNodeStands W m h history run run.state.log node) a stands))

pub passed : (W : PlainWorkload) (m : Machine) (n : ℕ) (old new : PlainReplayNode) (still : StandsStill W m n old) → AgentsTakeSo → WentBy W m n still.at.run (takes_in_pass W m still.at.run) new → NodeIsAt W (agents_take W m) n new
passed W m n old new still so w =
    let run = still.at.run in
    let law : AgentTakes W m (agents_take W m) n run = so W still.valid m still.reached n run still.at.at in
    let by : Some w.next ≡ Some law.later = sym w.by ∙ ap (λ (l : List Step). after_steps W.settings (heard_in W m.journal) l run) (pass_is W m run still.at.stands.sends) ∙ law.takes in
    let same : w.next ≡ law.later = same_Some w.next law.later by in
    let begun : w.amid.comes.start ≡ run = same_Some w.amid.comes.start run (sym w.amid.comes.at ∙ still.at.at) in
    record {
      run = law.later;
      at = law.node;
      number = ap (λ (r : NodeRun). r.node) (sym same) ∙ w.amid.comes.number;
      stands =
          with_steps_stand W m _ (heard_in W (agents_take W m).journal) (pool_history law.later) law.later law.later.state.log new
          (restand W m (heard_in W m.journal) (heard_in W (agents_take W m).journal) (pool_history w.amid.comes.start) (pool_history law.later) w.next law.later new (sym law.heard) (ap pool_history begun ∙ sym law.history) same
          w.amid.stands);
    }
