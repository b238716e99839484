-- The turns of a giver stay as they are when more chunks come.
use Rattle.std.proofs.Common.{ℕ, List, ◌++◌}
use Rattle.hs_law_journal.proofs.Prelude.{get_front, AgentState, Answered, Given, Missed, Unread, AgentEvent, PlainSettings}
use Rattle.hs_law_agent.specs.Stepping.{after}
use Rattle.hs_words.specs.Ends.{GiverTurn}
use Rattle.hs_law_journal.specs.Turns.{Lent, IsOffered, AreTurns, Begins, Takes, Offers, Meets}

module _ (settings : PlainSettings) (node : ℕ) (lents more : List Lent) where
  offered_more : (state : AgentState) (answer : Answered) (turn : GiverTurn) → IsOffered lents state answer turn → IsOffered (lents ++ more) state answer turn
  offered_more state (Given stamp) turn is = (is.0, record { place = is.1.place; first = is.1.first; came = get_front lents more is.1.place is.0 is.1.came }, is.2)
  offered_more state (Missed stamp) turn is = is
  offered_more state Unread turn is = is

  pub turns_more : (events : List AgentEvent) (turns : List GiverTurn) → AreTurns settings node lents events turns → AreTurns settings node (lents ++ more) events turns
  turns_more _ _ Begins = Begins
  turns_more _ _ (Takes events turns input t) = Takes events turns input (turns_more events turns t)
  turns_more _ _ (Offers events turns answer turn is t) = Offers events turns answer turn (offered_more (after settings node events) answer turn is) (turns_more events turns t)
  turns_more _ _ (Meets events turns stamps t) = Meets events turns stamps (turns_more events turns t)
