-- What the clients and the agents of all nodes leave, node by node.
use Rattle.std.specs.Prelude.{◌≡◌, ℕ, List, [], ◌∷◌, ◌++◌, length, map, slice_get, Some}
use Rattle.hs_base.specs.Listing.{Listing}
use Rattle.hs_records.specs.Books.{PlainAgentBook, PlainClientBook}
use Rattle.hs_law_agent.specs.Books.{book_of}
use Rattle.hs_records.specs.Plain.{PlainWorkload}
use Rattle.hs_ring.specs.Parts.{Drawing, AreAllEnds, Closes}
use Rattle.hs_client.specs.Sending.{operations_at, place_of}
use Rattle.hs_words.specs.declared.token.Tally.{Tally}
use Rattle.hs_run_actors.specs.ClientActors.{PlainClientActor}
use Rattle.hs_run_actors.specs.Nodes.{AreNotes}
use Rattle.hs_run_actors.specs.Agents.{state_at}
use Rattle.hs_run_actors.specs.AgentActors.{IsAgentActor}
use Rattle.hs_run_actors.specs.ClosedAgents.{PlainClosedAgent, AllSent, IsClosedAgent, all_sent}
use Rattle.hs_run_actors.specs.Work.{NodeWork}
use Rattle.hs_run.specs.RunStates.{PlainNodeActors, NodeActorsStand}

abbrev pub items_of : {A : Type 0} → List (Listing A) → List (List A)
items_of lists = map (λ list. list.items) lists

-- ---- closing the links

-- all that these clients sent
abbrev pub sents_of : List PlainClientActor → AllSent
sents_of callers =
    all_sent (map (λ (c : PlainClientActor). c.client.chunks) callers) (map (λ (c : PlainClientActor). c.client.crumbs) callers) (map (λ (c : PlainClientActor). c.client.triggers) callers)

-- The node stands somewhere in a run, and its clients have done all of their operations.
pub record IsEnded (site : PlainNodeActors) : Type 0 where
  pub workload : PlainWorkload
  pub node : ℕ
  pub work : NodeWork
  pub stands : NodeActorsStand workload node work site
  pub all : (number : ℕ) (caller : PlainClientActor) → slice_get site.callers number ≡ Some caller → caller.done ≡ length (operations_at workload (place_of workload.settings.clients node number))

pub record AreEnded (sites : List PlainNodeActors) : Type 0 where
  pub each : (node : ℕ) (site : PlainNodeActors) → slice_get sites node ≡ Some site → IsEnded site

-- The clients noted what they did, their drawers are these, and the agent is the same one with closed links.
pub record HasClosedLinks (site : PlainNodeActors) (books : List PlainClientBook) (drawers : List Drawing) (shut : PlainClosedAgent) : Type 0 where
  pub notes : AreNotes site.callers books
  pub drawers_are : drawers ≡ map (λ (c : PlainClientActor). c.client.drawer) site.callers
  pub stands : (W : PlainWorkload) (work : NodeWork) → IsAgentActor W work site.agent → IsClosedAgent W work (sents_of site.callers) shut
  pub giver : shut.giver ≡ site.agent.port.giver
  pub asks : shut.asks ≡ site.agent.asks
  pub said : shut.said ≡ site.agent.said
  pub agent : shut.agent ≡ site.agent.agent

-- So did all nodes, and the books stand in their order.
abbrev pub HaveClosedLinks : List PlainNodeActors → List PlainClientBook → List (List Drawing) → List PlainClosedAgent → Type 0
HaveClosedLinks [] books [] [] = books ≡ []
HaveClosedLinks (site ∷ sites) books (drawers ∷ lists) (shut ∷ shuts) =
    (noted : List PlainClientBook) × (others : List PlainClientBook) × (books ≡ noted ++ others) × HasClosedLinks site noted drawers shut × HaveClosedLinks sites others lists shuts
HaveClosedLinks _ _ _ _ = ⊥

-- ---- closing the pools

-- Nothing is pinned, and these are all drawers of the pool.
pub record CanFinish (shut : PlainClosedAgent) (drawers : List Drawing) : Type 0 where
  pub workload : PlainWorkload
  pub work : NodeWork
  pub all : AllSent
  pub stands : IsClosedAgent workload work all shut
  pub pinned : (state_at workload work).pinned ≡ []
  pub ends : AreAllEnds shut.giver drawers

abbrev pub MayFinish : List PlainClosedAgent → List (List Drawing) → Type 0
MayFinish [] [] = Unit {0}
MayFinish (shut ∷ shuts) (drawers ∷ lists) = CanFinish shut drawers × MayFinish shuts lists
MayFinish _ _ = ⊥

-- The book is the agent's, and the pool is closed.
pub record HasFinished (shut : PlainClosedAgent) (drawers : List Drawing) (book : PlainAgentBook) : Type 0 where
  pub book_is : (W : PlainWorkload) (work : NodeWork) (all : AllSent) → IsClosedAgent W work all shut → book ≡ book_of work.node (state_at W work)
  pub tally : Tally
  pub closes : Closes shut.giver drawers tally

abbrev pub HaveFinished : List PlainClosedAgent → List (List Drawing) → List PlainAgentBook → Type 0
HaveFinished [] [] [] = Unit {0}
HaveFinished (shut ∷ shuts) (drawers ∷ lists) (book ∷ books) = HasFinished shut drawers book × HaveFinished shuts lists books
HaveFinished _ _ _ = ⊥
