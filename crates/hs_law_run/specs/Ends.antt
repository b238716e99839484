-- What the ends of a node's pool know, and what a pass of the agent and a meeting with a client change of it.
use Rattle.std.specs.Prelude.{◌≡◌, ℕ, ◌*◌, ◌<◌, ◌≤◌, ◌==◌, min, true, List, ◌++◌, length}
use Rattle.std.specs.List.{AllByRecursion, list_any}
use Rattle.hs_law_agent.specs.Stepping.{AgentEvent}
use Rattle.hs_records.specs.Plain.{PlainWorkload}
use Rattle.hs_client.specs.Sending.{ops_of}
use Rattle.hs_words.specs.Ends.{Answer, GiverTurn, answers_in, told_in}
use Rattle.hs_law_journal.specs.Shape.{log_stamps}
use Rattle.hs_law_journal.specs.Doings.{steps_of}

-- how many of its operations a client has done when so many rounds are over
abbrev pub done_by : PlainWorkload → (node client rounds : ℕ) → ℕ
done_by W node client rounds = min (rounds * W.settings.stride) (length (ops_of W node client))

-- what the ends of a pool know: the giver's turns and the answers of each client's drawer, the last of which stand first, and their floors
pub record PoolEnds : Type 0 where
  pub turns : List GiverTurn
  pub floor : ℕ
  pub answers : ℕ → List Answer
  pub floors : ℕ → ℕ

-- In a pass the giver was told of no stamp below its floor.
pub record PoolEndsGoOn (pass : List AgentEvent) (old new : PoolEnds) : Type 0 where
  pub more : List GiverTurn
  pub turns : new.turns ≡ more ++ old.turns
  pub high : AllByRecursion (λ stamp. old.floor ≤ stamp) (log_stamps (steps_of pass))
  pub floor : old.floor ≤ new.floor

-- A client's drawer was told of no stamp below its floor, and then met the giver. Each heard of all that the other had been told.
pub record PoolEndsMeet (client : ℕ) (old new : PoolEnds) : Type 0 where
  pub more : List Answer
  pub answers : new.answers client ≡ more ++ old.answers client
  pub high : AllByRecursion (λ (a : Answer). old.floors client ≤ a.stamp) more
  pub floor : old.floors client ≤ new.floors client
  pub drawn_below : AllByRecursion (λ (a : Answer). a.stamp < new.floor) (new.answers client)
  pub given_below : AllByRecursion (λ (a : Answer). a.stamp < new.floors client) (answers_in new.turns)
  pub told : AllByRecursion (λ (a : Answer). list_any (λ told. told == a.stamp) (told_in new.turns) ≡ true) (new.answers client)
