-- That rounds, and the passes behind them, make a lawful journal, and what is noted of them.
use Rattle.std.specs.Prelude.{◌≡◌, ℕ, suc, ◌<◌, ◌≤◌, List, [], ◌++◌, length, map, slice_get, take, Some}
use Rattle.std.specs.List.{range_with_len, flat_map}
use Rattle.hs_law_journal.specs.Doings.{steps_of}
use Rattle.hs_law_journal.specs.Passes.{passes_of}
use Rattle.hs_base.specs.declared.limits.TheConstants.{MAX_TAKEN}
use Rattle.hs_coord.specs.Messages.{Message, Messages}
use Rattle.hs_records.specs.Journals.{PlainJournal}
use Rattle.hs_law_journal.specs.Following.{NodeRun, asks_to, followed, log_at}
use Rattle.hs_law_journal.specs.Lawful.{IsLawful}
use Rattle.hs_link.specs.Contents.{Outgoing, Incoming}
use Rattle.hs_live.specs.Keys.{Key}
use Rattle.hs_live.specs.Live.{IsEnd}
use Rattle.hs_law_agent.specs.Books.{book_of}
use Rattle.hs_law_agent.specs.Stepping.{after}
use Rattle.hs_records.specs.Plain.{PlainWorkload}
use Rattle.hs_client.specs.Sending.{draws_at, place_of}
use Rattle.hs_records.specs.Validity.{IsValid}
use Rattle.hs_run_actors.specs.ClientActors.{PlainClientActor}
use Rattle.hs_run_actors.specs.Coordinators.{heard_of}
use Rattle.hs_run_actors.specs.Intakes.{Intakes}
use Rattle.hs_run_actors.specs.Stages.{PlainWorkingAgent, WorkingAgentStands as DeskStands}
use Rattle.hs_run_actors.specs.Work.{NodeWork}
use Rattle.hs_run.specs.RunStates.{PlainNodeActors, RunState}
use Rattle.hs_run.specs.Coming.{Came}
use Rattle.hs_run.specs.Spans.{NodeBetweenPasses, IsNodeBetweenPasses}
use Rattle.hs_run.specs.Closing.{left_at, IsPassAlone, Closing, IsOver}

-- ---- the beginning

-- Nothing went through the link, and its ring has as many entries as a pass takes.
pub record LinkIsNew {T : Type 0} (number : ℕ) (ends : List (Incoming T Key)) (s : Outgoing T Key) : Type 0 where
  pub capacity : s.capacity ≡ MAX_TAKEN
  pub taken : s.taken ≡ 0
  pub told : (r : Incoming T Key) → IsEnd number ends r → r.told ≡ []

pub record LinksBegin (number : ℕ) (site : PlainNodeActors) (caller : PlainClientActor) : Type 0 where
  pub chunks : LinkIsNew number site.agent.port.chunks caller.client.chunks
  pub crumbs : LinkIsNew number site.agent.port.crumbs caller.client.crumbs
  pub triggers : LinkIsNew number site.agent.port.triggers caller.client.triggers

abbrev pub AllLinksBegin : RunState → Type 0
AllLinksBegin m = (node number : ℕ) (site : PlainNodeActors) (caller : PlainClientActor) → slice_get m.standing.nodes node ≡ Some site → slice_get site.callers number ≡ Some caller → LinksBegin number site caller

-- The pool of a node has the workload's buffers, and its clients' drawers by their numbers.
pub record PoolOf (W : PlainWorkload) (site : PlainNodeActors) : Type 0 where
  pub buffers : site.agent.port.giver.buffers ≡ W.settings.buffers
  pub drawers : site.agent.port.giver.drawers ≡ W.settings.clients
  pub numbers : (client : ℕ) (caller : PlainClientActor) → slice_get site.callers client ≡ Some caller → caller.client.drawer.number ≡ client

pub record AllBegin (W : PlainWorkload) (m : RunState) : Type 0 where
  pub links : AllLinksBegin m
  pub pools : (node : ℕ) (site : PlainNodeActors) → slice_get m.standing.nodes node ≡ Some site → PoolOf W site

-- And so it stays.
abbrev pub PoolsAreKept : Type 0
PoolsAreKept =
    (W : PlainWorkload) (rounds : ℕ) (m : RunState) → IsValid W → (came : Came W rounds m) → AllBegin W (came.at 0) → (node : ℕ) (site : PlainNodeActors) → slice_get m.standing.nodes node ≡ Some site → PoolOf W site

-- ---- passes behind the rounds

-- An agent whose messages were all fetched is a node between two passes, if all that was asked of it was sent to it.
abbrev pub AgentsAreBetweenPasses : Type 0
AgentsAreBetweenPasses =
    (W : PlainWorkload) (node : ℕ) (heard : Messages) (work : NodeWork) (desk : PlainWorkingAgent) (lines : Intakes) → work.node ≡ node → DeskStands W work desk lines → desk.said ≡ [] → asks_to node heard ≡ work.asked
    → length (heard_of node heard) ≤ length work.moved → IsNodeBetweenPasses W node heard (record { work = work; giver = lines.giver })

-- No pass was made behind the rounds.
abbrev pub ClosingBegins : Type 0
ClosingBegins =
    (W : PlainWorkload) (rounds : ℕ) (m : RunState) (nodes : ℕ → NodeBetweenPasses) → ((node : ℕ) (site : PlainNodeActors) → slice_get m.standing.nodes node ≡ Some site → nodes node ≡ left_at m node site)
    → Closing W rounds m rounds nodes m.heard

-- A pass more.
abbrev pub ClosingGoesOn : Type 0
ClosingGoesOn =
    (W : PlainWorkload) (rounds : ℕ) (m : RunState) (passes : ℕ) (nodes nodes' : ℕ → NodeBetweenPasses) (heard more : Messages) → Closing W rounds m passes nodes heard
    → ((node : ℕ) (site : PlainNodeActors) → slice_get m.standing.nodes node ≡ Some site → IsPassAlone W node site heard (heard ++ more) (nodes node) (nodes' node))
    → Closing W rounds m (suc passes) nodes' (heard ++ more)

-- ---- the end

-- The journal is lawful. It notes what each client drew, what each agent did and whom the coordinator heard, and to follow it leads each
-- agent to where its events led it.
pub record IsRecounted (W : PlainWorkload) (m : RunState) (nodes : ℕ → NodeBetweenPasses) (heard : Messages) (J : PlainJournal) : Type 0 where
  pub lawful : IsLawful W J
  pub draws : (node client : ℕ) (site : PlainNodeActors) (caller : PlainClientActor) → slice_get m.standing.nodes node ≡ Some site → slice_get site.callers client ≡ Some caller
      → draws_at J (place_of W.settings.clients node client) ≡ caller.client.core.draws
  pub logs : (node : ℕ) → node < W.settings.nodes → log_at J node ≡ steps_of (nodes node).work.events
  pub agents : map (λ (run : NodeRun). book_of run.node run.state) (followed W J).nodes
      ≡ map (λ node. book_of node (after W.settings node (nodes node).work.events)) (range_with_len 0 W.settings.nodes)
  pub told : J.told ≡ map (λ (m : Message). m.node) heard

abbrev pub RunsAreLawful : Type 0
RunsAreLawful =
    (W : PlainWorkload) (rounds : ℕ) (m : RunState) (passes : ℕ) (nodes : ℕ → NodeBetweenPasses) (heard : Messages) → IsValid W → (came : Came W rounds m) → AllBegin W (came.at 0) → Closing W rounds m passes nodes heard
    → IsOver W m nodes heard → (J : PlainJournal) × IsRecounted W m nodes heard J

-- Behind each round the log of a node, as it is in the end, has noted in its first so many passes what was done by then.
abbrev pub RoundsAreNoted : Type 0
RoundsAreNoted =
    (W : PlainWorkload) (rounds : ℕ) (m : RunState) (passes : ℕ) (nodes : ℕ → NodeBetweenPasses) (heard : Messages) → IsValid W → (came : Came W rounds m) → Closing W rounds m passes nodes heard
    → (node : ℕ) → node < W.settings.nodes → (k : ℕ) → k ≤ rounds → flat_map (λ pass. pass) (take k (passes_of (steps_of (nodes node).work.events))) ≡ steps_of ((came.at k).works node).events
