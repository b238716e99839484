-- Where the chunks of a client's whole life stand, from the page that is written to what became of them at the node's agent.
use Rattle.std.specs.Prelude.{◌≡◌, ℕ, List, ◌++◌, slice_get, Some}
use Rattle.std.specs.Option.{option_to_list}
use Rattle.hs_records.specs.Plain.{PlainSettings}
use Rattle.hs_words.specs.Buffers.{Buffer}
use Rattle.hs_client.specs.Core.{handed}
use Rattle.hs_ring.specs.Parts.{Leased}
use Rattle.hs_live.specs.Live.{PlainClient}
use Rattle.hs_node_client.specs.Lives.{ClientLife}
use Rattle.hs_intake.specs.Intakes.{PlainIntake, IntakeAct}
use Rattle.hs_law_life.specs.ClientLives.{AllStand}
use Rattle.hs_law_life.specs.NodeLives.{chunks_of, front_of, state_by, IsFound, IsWell}

-- The chunks of the life of the client with this number, where these are the acts of its node's agent: those that the agent took, then the one that
-- waits at the front, then those in the link's ring, then those in the client's outbox, and last the one that is written. Each that was taken has its
-- fate in the agent's model.
pub record IsFollowed (life : ClientLife) (client : PlainClient) (number : ℕ) (settings : PlainSettings) (node : ℕ) (acts : List IntakeAct) (d : PlainIntake) : Type 0 where
  pub ring : List (Buffer Leased)
  pub put : client.chunks.put ≡ chunks_of number acts ++ (front_of number d ++ ring)
  pub stand : AllStand life client.drawer.answers (chunks_of number acts ++ (front_of number d ++ (ring ++ (client.chunks.outbox ++ option_to_list (handed client.core)))))
  pub fates : (n : ℕ) (buffer : Buffer Leased) → slice_get (chunks_of number acts) n ≡ Some buffer
      → (place : ℕ) × IsFound settings (state_by settings node acts) place (record { client = number; buffer = buffer })
  pub well : IsWell settings node acts
