-- A node between two passes, in rounds or behind them, and what a pass does to it. Between passes all messages of the agent were moved to
-- the coordinator, and all asks to the agent.
use Rattle.std.specs.Prelude.{[], ◌≡◌, ℕ, ◌+◌, ◌≤◌, min, List, ◌++◌, length, map}
use Rattle.std.specs.List.{AllByRecursion, flat_map}
use Rattle.hs_agent.specs.Points.{sheet_in}
use Rattle.hs_base.specs.declared.limits.TheConstants.{MAX_TAKEN}
use Rattle.hs_coord.specs.Messages.{Messages}
use Rattle.hs_law_agent.specs.Laws.{brought_by}
use Rattle.hs_law_agent.specs.State.{start}
use Rattle.hs_law_agent.specs.Stepping.{AgentEvent, after}
use Rattle.hs_records.specs.Plain.{PlainWorkload}
use Rattle.hs_ring.specs.Parts.{Leased, Giving}
use Rattle.hs_words.specs.Buffers.{Buffer}
use Rattle.hs_words.specs.Ends.{GiverTurn}
use Rattle.hs_law_journal.specs.Following.{asks_to}
use Rattle.hs_law_journal.specs.Shape.{log_stamps}
use Rattle.hs_law_journal.specs.Doings.{asks_in, steps_of}
use Rattle.hs_law_journal.specs.LoopPasses.{HandsReady, EndsPass}
use Rattle.hs_law_journal.specs.Turns.{AreTurns}
use Rattle.hs_run_actors.specs.Agents.{IsPageThere, IsWithin, state_at}
use Rattle.hs_run_actors.specs.Coordinators.{heard_of}
use Rattle.hs_run_actors.specs.Turns.{lent_of}
use Rattle.hs_run_actors.specs.Work.{NodeWork, with_events}

-- what was done at a node, and the giver of its pool
pub record NodeBetweenPasses : Type 0 where
  pub work : NodeWork
  pub giver : Giving

-- The node stands so when these messages were heard.
pub record IsNodeBetweenPasses (W : PlainWorkload) (node : ℕ) (heard : Messages) (post : NodeBetweenPasses) : Type 0 where
  pub node_is : post.work.node ≡ node
  pub turns : AreTurns W.settings node (map lent_of post.work.came) post.work.events post.giver.turns
  pub pages : AllByRecursion (IsPageThere W node post.work.pool) post.work.came
  pub sheets : map sheet_in post.work.came ≡ flat_map brought_by post.work.events
  pub within : AllByRecursion (IsWithin W node) post.work.events
  pub hands : HandsReady W.settings node (start W.settings) post.work.events
  pub moved : post.work.moved ≡ (after W.settings node post.work.events).said
  pub asked : asks_to node heard ≡ post.work.asked
  pub hears : length (heard_of node heard) ≤ length post.work.moved

-- A pass leads on. Of the asks that were moved before it the agent takes all, and of the messages the coordinator, or as many as a pass
-- takes.
pub record IsStep (W : PlainWorkload) (node : ℕ) (heard heard' : Messages) (old new : NodeBetweenPasses) : Type 0 where
  pub pass : List AgentEvent
  pub events : new.work.events ≡ old.work.events ++ pass
  pub came : List (Buffer Leased)
  pub came_is : new.work.came ≡ old.work.came ++ came
  pub ends : EndsPass W (state_at W (with_events pass [] old.work)) pass
  pub more : List GiverTurn
  pub turns : new.giver.turns ≡ more ++ old.giver.turns
  pub high : AllByRecursion (λ stamp. old.giver.floor ≤ stamp) (log_stamps (steps_of pass))
  pub floor : old.giver.floor ≤ new.giver.floor
  pub asks : min (length old.work.asked) (length (asks_in old.work.events) + MAX_TAKEN) ≤ length (asks_in new.work.events)
  pub few : length (asks_in new.work.events) ≤ length old.work.asked
  pub hears : min (length (heard_of node heard) + MAX_TAKEN) (length old.work.moved) ≤ length (heard_of node heard')
