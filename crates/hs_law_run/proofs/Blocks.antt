-- What an agent of the schedule does in a pass is a pass of the loop: of each queue so many items, a turn, and offers.
use Rattle.std.proofs.Common.{◌≡◌, ℕ, zero, suc, ◌+◌, ◌-◌, ◌≤◌, min, List, [], ◌∷◌, ◌++◌, length, replicate, refl, sym, ap, ◌∙◌, arith, map, zip, append-nil, append_assoc}
use Rattle.hs_law_run.proofs.Prelude.{flat_map, range_with_len, flat_map-append, MAX_TAKEN, Step, PlainWorkload, Sent, ClientSends, client_sends, node_sends, place_of, sent_within, Queue, Chunks, Crumbs, Triggers, Asks, taken, asks_to, NodeRun, followed, queues_of, Machine, done_at, takes_of, takes_all, pass_steps}
use Rattle.hs_law_agent.specs.Stepping.{Given, step_of_answer}
use Rattle.hs_law_journal.specs.LoopPasses.{step_from}
use Rattle.hs_law_journal.specs.Passes.{client_queues}
use Rattle.hs_law_journal.specs.Played.{clients_of}
use Rattle.hs_records.specs.declared.journal.Step.TheVariants as steps

module _ (W : PlainWorkload) (m : Machine) (node : NodeRun) (i : ℕ) where
  abbrev takes_count : {A : Type 0} → Queue → List (Sent A) → ℕ → ℕ
  takes_count queue items client = min (length (sent_within (done_at m (place_of W.settings.clients node.node client)) items) - taken queue node.state.log) MAX_TAKEN

  abbrev pub counts : Queue → ℕ
  counts (Chunks c) = takes_count (Chunks c) (client_sends W m.journal i c).chunks c
  counts (Crumbs c) = takes_count (Crumbs c) (client_sends W m.journal i c).crumbs c
  counts (Triggers c) = takes_count (Triggers c) (client_sends W m.journal i c).triggers c
  counts Asks = min (length (asks_to node.node (followed W m.journal).heard) - taken Asks node.state.log) MAX_TAKEN

  pub few : (queue : Queue) → counts queue ≤ MAX_TAKEN
  few (Chunks c) = omega arith
  few (Crumbs c) = omega arith
  few (Triggers c) = omega arith
  few Asks = omega arith

  abbrev block : Queue → List Step
  block queue = replicate (counts queue) (step_from queue)

  abbrev taken_of : ℕ × ClientSends → List Step
  taken_of c = takes_of node c.0 c.1 (done_at m (place_of W.settings.clients node.node c.0))

  clients_are : (first count : ℕ) → flat_map taken_of (zip (range_with_len first (length (map (client_sends W m.journal i) (range_with_len first count)))) (map (client_sends W m.journal i) (range_with_len first count)))
      ≡ flat_map block (flat_map client_queues (range_with_len first count))
  clients_are first zero = refl
  clients_are first (suc count) =
      let rest = flat_map taken_of (zip (range_with_len (first + 1) (length (map (client_sends W m.journal i) (range_with_len (first + 1) count)))) (map (client_sends W m.journal i) (range_with_len (first + 1) count))) in
      append_assoc (block (Chunks first) ++ block (Crumbs first)) (block (Triggers first)) rest
      ∙ append_assoc (block (Chunks first)) (block (Crumbs first)) (block (Triggers first) ++ rest)
      ∙ ap (λ (rest : List Step). block (Chunks first) ++ (block (Crumbs first) ++ (block (Triggers first) ++ rest))) (clients_are (first + 1) count)

  pub pass_is : node.sends ≡ node_sends W m.journal i → (offers : List Step)
      → pass_steps W m (followed W m.journal) node ++ offers ≡ flat_map (λ queue. replicate (counts queue) (step_from queue)) (queues_of W) ++ steps.Turn ∷ offers
  pass_is sends offers =
      append_assoc (takes_all W m node ++ block Asks) (steps.Turn ∷ []) offers
      ∙ ap (λ (front : List Step). front ++ steps.Turn ∷ offers)
      (ap (λ (front : List Step). front ++ block Asks) (ap (λ (ss : List ClientSends). flat_map taken_of (zip (range_with_len 0 (length ss)) ss)) sends ∙ clients_are 0 W.settings.clients)
      ∙ ap (λ (last : List Step). flat_map block (flat_map client_queues (clients_of W)) ++ last) (sym (append-nil (block Asks)))
      ∙ sym (flat_map-append block (flat_map client_queues (clients_of W)) (Asks ∷ [])))

pub given_steps : (stamps : List ℕ) → map (λ (stamp : ℕ). steps.Given stamp) stamps ≡ map step_of_answer (map (λ (stamp : ℕ). Given stamp) stamps)
given_steps [] = refl
given_steps (stamp ∷ stamps) = ap (λ (rest : List Step). steps.Given stamp ∷ rest) (given_steps stamps)
