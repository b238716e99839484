-- What following a journal found, beside the run that it led to: the numbers and names of that run at which the clauses look that
-- are asked once the journal was followed.
use Rattle.std.specs.Prelude.{◌≡◌, ℕ, ◌<◌, List, [], ◌∷◌, ◌++◌, length, map, Option, Some, option_map, slice_get}
use Rattle.std.specs.List.{range_with_len}
use Rattle.hs_base.specs.declared.node_set.NodeSet.{NodeSet}
use Rattle.hs_base.specs.NodeSets.{has_node}
use Rattle.hs_coord.specs.Following.{Messages, is_newly_asked}
use Rattle.hs_law_agent.specs.Standings.{Taken}
use Rattle.hs_law_agent.specs.State.{GivenPlace}
use Rattle.hs_records.specs.Plain.{PlainSettings}
use Rattle.hs_client.specs.Drawn.{DrawnPage}
use Rattle.hs_client.specs.Sending.{Sent, ClientSends}
use Rattle.hs_law_journal.specs.Following.{NodeRun, Run}
use Rattle.hs_law_journal.specs.Pace.{said_in}
use Rattle.hs_law_journal.specs.Passes.{passes_of, steps_in}
use Rattle.hs_law_journal.specs.Played.{state_behind}
use Rattle.hs_check_follow.specs.declared.found.Found.{Found}
use Rattle.hs_check_follow.specs.declared.found.FoundClient.{FoundClient}
use Rattle.hs_check_follow.specs.declared.found.FoundNode.{FoundNode}
use Rattle.hs_check_follow.specs.declared.found.FoundPage.{FoundPage}

-- ---- clients

-- the operations that send these items
abbrev pub numbers_of : {A : Type 0} → List (Sent A) → List ℕ
numbers_of items = map (λ item. item.number) items

-- the operations that start these pages
abbrev pub starts_of : List DrawnPage → List ℕ
starts_of pages = map (λ (page : DrawnPage). page.started) pages

pub record IsFoundClient (sends : ClientSends) (found : FoundClient) : Type 0 where
  pub started : found.started.items ≡ starts_of sends.drawn
  pub chunks : found.chunks.items ≡ numbers_of sends.chunks
  pub crumbs : found.crumbs.items ≡ numbers_of sends.crumbs
  pub triggers : found.triggers.items ≡ numbers_of sends.triggers

-- these are found of those, one for one
abbrev pub AreFound : {A B : Type 0} → (A → B → Type 0) → List A → List B → Type 0
AreFound IsOf [] [] = Unit {0}
AreFound IsOf (x ∷ xs) (found ∷ more) = IsOf x found × AreFound IsOf xs more
AreFound IsOf _ _ = ⊥

-- ---- nodes

-- the name of a chunk's page
abbrev pub named : Taken → FoundPage
named chunk = record { client = chunk.sheet.header.client.number; page = chunk.sheet.header.page }

-- the name of the page of a chunk that was given back
abbrev pub given_name : NodeRun → GivenPlace → Option FoundPage
given_name run given = option_map named (slice_get run.state.taken given.place)

-- how many buffers the hand has behind the first so many passes
abbrev pub hand_behind : PlainSettings → NodeRun → ℕ → ℕ
hand_behind settings run k = length (state_behind settings run (steps_in (passes_of run.state.log) k)).hand

-- something behind each pass
abbrev pub behind_passes : NodeRun → (ℕ → ℕ) → List ℕ
behind_passes run count = map count (range_with_len 1 (length (passes_of run.state.log)))

pub record IsFoundNode (settings : PlainSettings) (run : NodeRun) (found : FoundNode) : Type 0 where
  pub clients : AreFound IsFoundClient run.sends found.clients.items
  pub gives : map (given_name run) run.state.given ≡ map (λ page. Some page) found.gives.items
  pub hands : found.hands.items ≡ behind_passes run (hand_behind settings run)
  pub said : found.said.items ≡ behind_passes run (said_in settings run)
  pub told : found.told ≡ length run.state.said
  pub pinned : found.pinned ≡ length run.state.pinned

-- ---- the coordinator

-- the nodes that are asked by each message, behind those before it
abbrev pub AreAsked : ℕ → Messages → Messages → List NodeSet → Type 0
AreAsked nodes before [] [] = Unit {0}
AreAsked nodes before (m ∷ later) (to ∷ more) =
    ((node : ℕ) → node < nodes → has_node to node ≡ is_newly_asked before m node) × AreAsked nodes (before ++ m ∷ []) later more
AreAsked nodes before _ _ = ⊥

-- all that was found
pub record IsFound (settings : PlainSettings) (run : Run) (found : Found) : Type 0 where
  pub nodes : AreFound (IsFoundNode settings) run.nodes found.nodes.items
  pub asked : AreAsked settings.nodes [] run.heard found.asked.items
