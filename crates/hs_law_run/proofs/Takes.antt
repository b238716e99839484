-- What an agent takes in a pass: steps that take from a queue, and no others before its turn.
use Rattle.std.proofs.Common.{ℕ, List, map, ◌++◌, length, zip}
use Rattle.hs_law_run.proofs.Prelude.{AllByRecursion, range_with_len, all_append, all_replicate, all_flat_map, Step, PlainWorkload, ClientSends, place_of, sent_within, Chunks, Crumbs, Triggers, Asks, NodeRun, Run, asks_to, Machine, takes_from, takes_of, takes_all, done_at}
use Rattle.hs_records.specs.declared.journal.Step.TheVariants as steps

-- what is taken before the turn
abbrev pub before_turn : PlainWorkload → Machine → Run → NodeRun → List Step
before_turn W m run node = takes_all W m node ++ takes_from node Asks steps.Ask (length (asks_to node.node run.heard))

module _ (P : Step → Type 0) (chunk : (client : ℕ) → P (steps.Chunk client)) (crumb : (client : ℕ) → P (steps.Crumb client)) (trigger : (client : ℕ) → P (steps.Trigger client)) where
  client_takes : (node : NodeRun) (client : ℕ) (sends : ClientSends) (done : ℕ) → AllByRecursion P (takes_of node client sends done)
  client_takes node client sends done =
      let chunks = takes_from node (Chunks client) (steps.Chunk client) (length (sent_within done sends.chunks)) in
      let crumbs = takes_from node (Crumbs client) (steps.Crumb client) (length (sent_within done sends.crumbs)) in
      let triggers = takes_from node (Triggers client) (steps.Trigger client) (length (sent_within done sends.triggers)) in
      all_append P (chunks ++ crumbs) triggers (all_append P chunks crumbs (all_replicate P _ (steps.Chunk client) (chunk client)) (all_replicate P _ (steps.Crumb client) (crumb client)))
      (all_replicate P _ (steps.Trigger client) (trigger client))

  pub all_takes : P steps.Ask → (W : PlainWorkload) (m : Machine) (run : Run) (node : NodeRun) → AllByRecursion P (before_turn W m run node)
  all_takes ask W m run node =
      all_append P (takes_all W m node) (takes_from node Asks steps.Ask (length (asks_to node.node run.heard)))
      (all_flat_map P (λ (c : ℕ × ClientSends). takes_of node c.0 c.1 (done_at m (place_of W.settings.clients node.node c.0))) (zip (range_with_len 0 (length node.sends)) node.sends)
      (λ c. client_takes node c.0 c.1 (done_at m (place_of W.settings.clients node.node c.0))))
      (all_replicate P _ steps.Ask ask)

-- what an agent gives, by its stamps
abbrev pub gives : List ℕ → List Step
gives stamps = map (λ (stamp : ℕ). steps.Given stamp) stamps
