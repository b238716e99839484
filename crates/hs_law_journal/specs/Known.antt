-- Laws on which others rest, those of the schedule among them, as one record: what a journal comes to when it is followed, what an event
-- does to an agent, and how a client's pages lie among its operations.
use Rattle.std.specs.Prelude.{◌≡◌, ℕ, List, length}
use Rattle.hs_law_agent.specs.Laws.{ChunksStandByTheirClaim, EventsAddFew, EventsAddThis, EventsGoOn, ListsHaveTheirChunks, StepsSayWhatTheyTell, TurnsReport}
use Rattle.hs_records.specs.Records.{payload_pieces, piece_count}
use Rattle.hs_client.specs.Laws.{PagesFit, TimedPagesAreThePages, TimedPagesAreTimely}
use Rattle.hs_law_journal.specs.Extending.{JournalsGoOn, RunsAreOfTheJournal, StepsAreNoted}
use Rattle.hs_law_journal.specs.Laws.{AgentsComeByEvents}
use Rattle.hs_law_journal.specs.Orders.{FollowingPlaysOut, OrdersAgree, DoneIsAtRest}
use Rattle.hs_law_journal.specs.Supply.{NothingIsTakenUnsent}

-- a payload has as many pieces as its bytes need
abbrev pub PiecesCounted : Type 0
PiecesCounted = (size : ℕ) (payload : List ℕ) → length (payload_pieces size payload) ≡ piece_count size (length payload)

pub record Known : Type 0 where
  -- of journals
  pub plays : FollowingPlaysOut
  pub agree : OrdersAgree
  pub rests : DoneIsAtRest
  pub goes_on : JournalsGoOn
  pub runs : RunsAreOfTheJournal
  pub noted : StepsAreNoted
  pub unsent : NothingIsTakenUnsent
  pub comes : AgentsComeByEvents
  -- of agents
  pub adds : EventsAddThis
  pub go_on : EventsGoOn
  pub places : ListsHaveTheirChunks
  pub few : EventsAddFew
  pub says : StepsSayWhatTheyTell
  pub reports : TurnsReport
  pub stands : ChunksStandByTheirClaim
  -- of what clients send
  pub paged : TimedPagesAreThePages
  pub timely : TimedPagesAreTimely
  pub fit : PagesFit
  pub counted : PiecesCounted
