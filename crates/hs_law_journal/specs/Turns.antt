-- A giver's turns beside the events of its agent: each offer is one turn that is no meeting, in the same order, and meetings stand
-- anywhere among them. What is given is the buffer in which the first chunk of the hand came, for the draw that its lease names.
use Rattle.std.specs.Prelude.{◌≡◌, ℕ, List, [], ◌∷◌, ◌++◌, slice_get, Some, refl}
use Rattle.hs_base.specs.Samples.{one_rule}
use Rattle.hs_law_agent.specs.State.{AgentState}
use Rattle.hs_law_agent.specs.Samples.{settings_with}
use Rattle.hs_law_agent.specs.Stepping.{Input, Answered, Given, Missed, Unread, AgentEvent, Took, Gave, after}
use Rattle.hs_law_agent.specs.Stepping as model
use Rattle.hs_records.specs.Plain.{PlainSettings}
use Rattle.hs_words.specs.Ends.{GiverTurn, answered, unread, met}
use Rattle.hs_words.specs.Pages.{Sheet}
use Rattle.hs_words.specs.PoolHistory as pool

-- a chunk as it came to its agent: its page, and by its lease the buffer and the stamp of the draw that got it
pub record Lent : Type 0 where
  pub sheet : Sheet
  pub buffer : ℕ
  pub draw : ℕ

-- The first of the hand came as this chunk.
pub record IsFirst (lents : List Lent) (state : AgentState) (lent : Lent) : Type 0 where
  pub place : ℕ
  pub first : slice_get state.hand 0 ≡ Some place
  pub came : slice_get lents place ≡ Some lent

-- The turn is that of an offer in this state which was answered so.
abbrev pub IsOffered : List Lent → AgentState → Answered → GiverTurn → Type 0
IsOffered lents state (Given stamp) turn = (lent : Lent) × IsFirst lents state lent × (turn ≡ answered (record { stamp = stamp; event = pool.Given lent.buffer; draw = lent.draw }))
IsOffered lents state (Missed stamp) turn = turn ≡ answered (record { stamp = stamp; event = pool.Missed; draw = 0 })
IsOffered lents state Unread turn = turn ≡ unread

-- These turns, the last of which stands first, are those of the offers among these events.
pub data AreTurns (settings : PlainSettings) (node : ℕ) (lents : List Lent) : List AgentEvent → List GiverTurn → Type 0 where
  Begins : AreTurns settings node lents [] []
  Takes : (events : List AgentEvent) (turns : List GiverTurn) (input : Input) → AreTurns settings node lents events turns → AreTurns settings node lents (events ++ Took input ∷ []) turns
  Offers : (events : List AgentEvent) (turns : List GiverTurn) (answer : Answered) (turn : GiverTurn) → IsOffered lents (after settings node events) answer turn → AreTurns settings node lents events turns
      → AreTurns settings node lents (events ++ Gave answer ∷ []) (turn ∷ turns)
  Meets : (events : List AgentEvent) (turns : List GiverTurn) (stamps : List ℕ) → AreTurns settings node lents events turns → AreTurns settings node lents events (met stamps ∷ turns)

-- ---- examples

abbrev any_settings : PlainSettings
any_settings = settings_with 0 8 4 one_rule

-- an agent with nothing in its hand takes a turn, and misses; then it met a client
one_missed : AreTurns any_settings 0 [] (Took model.Turn ∷ Gave (Missed 4) ∷ []) (met (3 ∷ []) ∷ answered (record { stamp = 4; event = pool.Missed; draw = 0 }) ∷ [])
one_missed =
    Meets (Took model.Turn ∷ Gave (Missed 4) ∷ []) (answered (record { stamp = 4; event = pool.Missed; draw = 0 }) ∷ []) (3 ∷ [])
    (Offers (Took model.Turn ∷ []) [] (Missed 4) (answered (record { stamp = 4; event = pool.Missed; draw = 0 })) refl (Takes [] [] model.Turn Begins))

-- it met a client, took a turn, and its offer was not read
one_unread : AreTurns any_settings 0 [] (Took model.Turn ∷ Gave Unread ∷ []) (unread ∷ met (3 ∷ []) ∷ [])
one_unread = Offers (Took model.Turn ∷ []) (met (3 ∷ []) ∷ []) Unread unread refl (Meets (Took model.Turn ∷ []) [] (3 ∷ []) (Takes [] [] model.Turn Begins))

-- the lease of the chunk names the buffer and the draw of its give
one_given : (lents : List Lent) (state : AgentState) (lent : Lent) → IsFirst lents state lent → IsOffered lents state (Given 7) (answered (record { stamp = 7; event = pool.Given lent.buffer; draw = lent.draw }))
one_given lents state lent first = (lent, first, refl)
