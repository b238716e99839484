-- What is first in an agent's hand: which chunk it is, with which lease it came last, why it left, and whether it was offered
-- before.
use Rattle.std.specs.Prelude.{◌≡◌, ℕ, Bool, false, Option, Some, option_map, slice_get}
use Rattle.hs_words.specs.Chunks.{Contents}
use Rattle.hs_law_agent.specs.Standings.{ChunkStanding, Taken}
use Rattle.hs_law_agent.specs.State.{AgentState}
use Rattle.hs_agent.specs.declared.hand.Left.{Left}
use Rattle.hs_agent.specs.Leaving.{standing_of, came_back}
use Rattle.hs_agent.specs.Runs.{AgentRun, state_of, first_place}

-- how the chunk at a place stands
abbrev pub standing_at : AgentState → ℕ → Option ChunkStanding
standing_at state place = option_map (λ (chunk : Taken). chunk.standing) (slice_get state.taken place)

pub record IsFirst {L : Type 0} (run : AgentRun L) (chunk : Contents) (lease : L) (left : Left) (again : Bool) : Type 0 where
  pub place : ℕ
  pub first : first_place (state_of run) ≡ Some place
  -- it is as it came last
  pub buffer : slice_get run.buffers place ≡ Some (record { chunk = chunk; lease = lease })
  -- so it stands in the model
  pub stands : standing_at (state_of run) place ≡ Some (standing_of left)
  -- whether it was offered before, and came back
  pub answered : again ≡ came_back (state_of run).log
  -- until then it has the page with which it was taken
  pub page : again ≡ false → chunk.page ≡ option_map (λ (taken : Taken). taken.sheet) (slice_get (state_of run).taken place)
