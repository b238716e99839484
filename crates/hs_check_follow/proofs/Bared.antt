-- A node at which nothing is left over, by what was counted at it.
use Rattle.std.proofs.Common.{◌≡◌, ℕ, ◌+◌, ◌<◌, ◌≤◌, Bool, true, eqb, List, [], length, map, refl, sym, ap, ◌∙◌, arith}
use Rattle.hs_check_follow.proofs.Prelude.{count_by, zip, ◌&&◌, list_all, range_with_len, length-map, length-range_with_len, NodeId, NodeSet, has_node, Message, Step, PlainJournal, is_followed, is_left_bare, took_all, RunsAreOfTheJournal, Asks, taken, asks_to, is_from, log_at, NodeRun, followed, FollowingPlaysOut, played, PlainSettings, PlainWorkload, ClientSends, client_sends, Found, FoundNode, IsFound, IsFoundNode, IsFoundClient}
use Rattle.hs_base.proofs.Counts.{count_map}
use Rattle.hs_check_follow.proofs.Knowing.{KnownAt, found_as_many, heard_is_told, asks_counted}

-- how many clients were found at a node
pub clients_counted : (W : PlainWorkload) (J : PlainJournal) (i : ℕ) (f : FoundNode) → KnownAt W J i f → length f.clients.items ≡ W.settings.clients
clients_counted W J i f k =
    let many = found_as_many IsFoundClient k.run.sends f.clients.items k.is.clients in
    sym many ∙ ap length k.sends ∙ length-map (range_with_len 0 W.settings.clients) (client_sends W J i) ∙ length-range_with_len 0 W.settings.clients

module _ (W : PlainWorkload) (J : PlainJournal) (found : Found) (plays : FollowingPlaysOut) (runs : RunsAreOfTheJournal) (done : is_followed (played W J) ≡ true) (is : IsFound W.settings (followed W J) found) where
  pub bare_is : (i : ℕ) (f : FoundNode) (k : KnownAt W J i f) (log : List Step) (asks heard : ℕ) (result : Bool) → i < W.settings.nodes → log ≡ log_at J i
      → asks ≡ count_by (λ (to : NodeSet). has_node to i) found.asked.items → heard ≡ count_by (λ (other : NodeId). eqb other.0 i) J.told
      → ((settings : PlainSettings) (run : NodeRun) → IsFoundNode settings run f → run.state.log ≡ log
      → result ≡ (list_all (λ (c : ℕ × ClientSends). took_all run.state.log c.0 c.1) (zip (range_with_len 0 (length run.sends)) run.sends)
      && eqb (taken Asks run.state.log) asks && eqb heard (length run.state.said) && eqb (length run.state.pinned) 0))
      → result ≡ is_left_bare (followed W J) k.run
  bare_is i f k log asks heard result low same counted told answer =
      let run = k.run in
      let R = followed W J in
      let sent = asks_counted W.settings.nodes i [] R.heard found.asked.items low is.asked in
      let asked : asks ≡ length (asks_to run.node R.heard) = counted ∙ sent ∙ sym (ap (λ n. length (asks_to n R.heard)) k.node) in
      let hears : heard ≡ count_by (is_from (record { 0 = run.node })) R.heard =
      told ∙ sym (ap (count_by (λ (other : NodeId). eqb other.0 i)) (heard_is_told W J found plays runs done is))
      ∙ count_map (λ (other : NodeId). eqb other.0 i) (λ (m : Message). m.node) R.heard
      ∙ sym (ap (λ n. count_by (λ (m : Message). eqb m.node.0 n) R.heard) k.node) in
      answer W.settings run k.is (k.log ∙ sym same)
      ∙ ap (λ n. list_all (λ (c : ℕ × ClientSends). took_all run.state.log c.0 c.1) (zip (range_with_len 0 (length run.sends)) run.sends)
      && eqb (taken Asks run.state.log) n && eqb heard (length run.state.said) && eqb (length run.state.pinned) 0) asked
      ∙ ap (λ n. list_all (λ (c : ℕ × ClientSends). took_all run.state.log c.0 c.1) (zip (range_with_len 0 (length run.sends)) run.sends)
      && eqb (taken Asks run.state.log) (length (asks_to run.node R.heard)) && eqb n (length run.state.said) && eqb (length run.state.pinned) 0) hears
