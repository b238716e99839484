-- How an intake lies in memory.
use Rattle.std.specs.Prelude.{◌≡◌, false, length, option_map}
use Rattle.hs_ring.specs.Parts.{Leased}
use Rattle.hs_words.specs.Buffers.{buffer_of}
use Rattle.hs_agent.specs.Runs.{AgentRun}
use Rattle.hs_intake.specs.declared.took.Back.{Back}
use Rattle.hs_intake.specs.declared.took.Back.TheVariants as backs
use Rattle.hs_intake.specs.declared.intake.Intake.TheInside.{Inside}
use Rattle.hs_intake.specs.Intakes.{PlainIntake, Waiting, Chunk, Crumbs, Triggers, Stands}

abbrev pub waiting_of : Back → Waiting
waiting_of (backs.Chunk client held) = Chunk client (buffer_of held)
waiting_of (backs.Crumb client crumb) = Crumbs client crumb
waiting_of (backs.Trigger client trigger) = Triggers client trigger

abbrev pub intake_in : Inside → PlainIntake
intake_in d = record { agent = d.agent; port = d.port; late = d.late.items; mail = d.mail; inbox = d.inbox; claims = d.claims; clients = d.clients; back = option_map waiting_of d.back; unsaid = d.unsaid }

-- The four lines have an end of each client; and memory failed the agent in a turn, or the intake stands at some run.
pub record IsIntake (d : Inside) : Type 0 where
  pub chunks : length d.port.chunks ≡ d.clients
  pub crumbs : length d.port.crumbs ≡ d.clients
  pub triggers : length d.port.triggers ≡ d.clients
  pub late : length d.late.items ≡ d.clients
  pub stands : d.agent.spent ≡ false → (run : AgentRun Leased) × Stands run (intake_in d)
