-- Machines on their way through the schedule, and what stands of their journals: whatever a machine noted is performed, and nothing
-- is left over. So a node of the run that is followed is known by what its clients send and by its log.
use Rattle.std.specs.Prelude.{◌≡◌, ℕ, ◌<◌, ◌≤◌, [], length, map, Some, slice_get}
use Rattle.hs_coord.specs.Following.{Message}
use Rattle.hs_records.specs.Plain.{PlainWorkload}
use Rattle.hs_client.specs.Sending.{draws_at, node_sends, operations_at}
use Rattle.hs_law_agent.specs.Stepping.{after}
use Rattle.hs_records.specs.Validity.{IsValid}
use Rattle.hs_law_journal.specs.Following.{NodeRun, log_at, run_start, followed}
use Rattle.hs_law_journal.specs.Pooled.{pool_history}
use Rattle.hs_law_run.specs.Lockstep.{Machine, machine_start, client_goes, clients_go, agents_take, agents_give, coordinator_hears, done_at, pages_started, passes, round, rounds}

-- A machine that comes from the start by what clients, agents and the coordinator do.
pub data IsReached (W : PlainWorkload) : Machine → Type 0 where
  Starts : IsReached W (machine_start W)
  Goes : (m : Machine) (place : ℕ) → place < length W.clients → IsReached W m → IsReached W (client_goes W m place)
  Takes : (m : Machine) → IsReached W m → IsReached W (agents_take W m)
  Gives : (m : Machine) → IsReached W m → IsReached W (agents_give W m)
  Hears : (m : Machine) → IsReached W m → IsReached W (coordinator_hears W m)

-- This node of the run stands at the place of its number. All steps of its log were performed, and its agent is where its events lead.
pub record IsPerformed (W : PlainWorkload) (m : Machine) (i : ℕ) (run : NodeRun) : Type 0 where
  pub number : run.node ≡ i
  pub sends : run.sends ≡ node_sends W m.journal i
  pub left : run.left ≡ []
  pub log : run.state.log ≡ log_at m.journal i
  pub state : run.state ≡ after W.settings i run.events

-- The journal of a machine is performed as a whole.
pub record IsWhole (W : PlainWorkload) (m : Machine) : Type 0 where
  pub nodes : m.journal.nodes ≡ W.settings.nodes
  pub clients : m.journal.clients ≡ W.settings.clients
  pub done : length m.done ≡ length W.clients
  pub draws : length m.journal.draws ≡ length W.clients
  pub logs : length m.journal.logs ≡ W.settings.nodes
  pub count : length (followed W m.journal).nodes ≡ W.settings.nodes
  pub each : (i : ℕ) (run : NodeRun) → slice_get (followed W m.journal).nodes i ≡ Some run → IsPerformed W m i run
  pub left : (followed W m.journal).left ≡ []
  -- the messages that were heard are those of these nodes
  pub told : map (λ (message : Message). message.node) (followed W m.journal).heard ≡ m.journal.told
  -- each client has a draw for each page that it started
  pub drawn : (place : ℕ) → place < length W.clients → length (draws_at m.journal place) ≡ pages_started W place (done_at m place)
  pub within : (place : ℕ) → done_at m place ≤ length (operations_at W place)

abbrev pub MachinesAreWhole : Type 0
MachinesAreWhole = (W : PlainWorkload) → IsValid W → (m : Machine) → IsReached W m → IsWhole W m

-- At the start nothing was performed, and no pool was drawn from.
pub record StartsSo (W : PlainWorkload) : Type 0 where
  pub run : followed W (machine_start W).journal ≡ run_start W (machine_start W).journal
  pub pools : (i : ℕ) (run : NodeRun) → slice_get (followed W (machine_start W).journal).nodes i ≡ Some run → pool_history run ≡ []

abbrev pub MachinesStartSo : Type 0
MachinesStartSo = (W : PlainWorkload) → StartsSo W

-- A turn of every client, a pass and a round lead on, and so does any number of rounds from the start.
pub record LeadsOn (W : PlainWorkload) (m : Machine) : Type 0 where
  pub clients : IsReached W (clients_go W m)
  pub pass : IsReached W (passes W m)
  pub round : IsReached W (round W m)

pub record PartsLeadOn (W : PlainWorkload) : Type 0 where
  pub each : (m : Machine) → IsReached W m → LeadsOn W m
  pub rounds : (n : ℕ) → IsReached W (rounds n W (machine_start W))

abbrev pub MachinesLeadOn : Type 0
MachinesLeadOn = (W : PlainWorkload) → PartsLeadOn W
