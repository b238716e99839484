-- A journal without where it lies in memory: the number of nodes and of clients of each node, the draws of each client,
-- the steps of each agent, and the nodes whose messages the coordinator took. It is valid where all of these are within
-- their limits, and has its lists where there are as many as it says.
use Rattle.std.specs.Prelude.{◌≡◌, ℕ, ◌*◌, ◌^◌, ◌<◌, List, length, map, ⊤}
use Rattle.std.specs.List.{AllByRecursion}
use Rattle.hs_base.specs.declared.ids.NodeId.{NodeId}
use Rattle.hs_base.specs.declared.limits.TheConstants.{MAX_NODES, MAX_CLIENTS, MAX_BUFFERS}
use Rattle.hs_base.specs.Ranges.{Within}
use Rattle.hs_records.specs.declared.journal.Draw.{Draw}
use Rattle.hs_records.specs.declared.journal.Draw.TheVariants as draws
use Rattle.hs_records.specs.declared.journal.Step.{Step}
use Rattle.hs_records.specs.declared.journal.Step.TheVariants as steps
use Rattle.hs_records.specs.declared.journal.Journal.{Journal}

pub record PlainJournal : Type 0 where
  pub nodes : ℕ
  pub clients : ℕ
  pub draws : List (List Draw)
  pub logs : List (List Step)
  pub told : List NodeId

abbrev pub journal_of : Journal → PlainJournal
journal_of j =
    record {
      nodes = j.nodes;
      clients = j.clients;
      draws = map (λ draws. draws.items) j.draws.items;
      logs = map (λ log. log.items) j.logs.items;
      told = j.told.items;
    }

-- ---- which journals are valid

abbrev pub IsDraw : Draw → Type 0
IsDraw (draws.Got buffer stamp) = (buffer < MAX_BUFFERS) × (stamp < 2 ^ 64)
IsDraw (draws.Empty stamp) = stamp < 2 ^ 64

-- a step of an agent whose node has so many clients
abbrev pub IsStep : ℕ → Step → Type 0
IsStep clients (steps.Chunk client) = client < clients
IsStep clients (steps.Crumb client) = client < clients
IsStep clients (steps.Trigger client) = client < clients
IsStep clients steps.Ask = ⊤
IsStep clients steps.Turn = ⊤
IsStep clients (steps.Given stamp) = stamp < 2 ^ 64
IsStep clients (steps.Missed stamp) = stamp < 2 ^ 64
IsStep clients steps.Unread = ⊤

abbrev pub IsNodeBelow : ℕ → NodeId → Type 0
IsNodeBelow nodes node = node.0 < nodes

-- The counts that the first line names are in their ranges, and there are as many lists of draws and logs as they say.
pub record HasItsLists (J : PlainJournal) : Type 0 where
  pub nodes : Within 1 MAX_NODES J.nodes
  pub clients : Within 1 MAX_CLIENTS J.clients
  pub draw_lists : length J.draws ≡ J.nodes * J.clients
  pub log_lists : length J.logs ≡ J.nodes

pub record IsJournal (J : PlainJournal) : Type 0 where
  pub nodes : Within 1 MAX_NODES J.nodes
  pub clients : Within 1 MAX_CLIENTS J.clients
  pub draw_lists : length J.draws ≡ J.nodes * J.clients
  pub log_lists : length J.logs ≡ J.nodes
  pub draws : AllByRecursion (AllByRecursion IsDraw) J.draws
  pub logs : AllByRecursion (AllByRecursion (IsStep J.clients)) J.logs
  pub told : AllByRecursion (IsNodeBelow J.nodes) J.told
