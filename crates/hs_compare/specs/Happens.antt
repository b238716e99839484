-- The records that a client makes and the traces that it names, as what happens at its operations.
use Rattle.std.specs.Prelude.{ℕ, List, [], ◌∷◌, ◌++◌, map}
use Rattle.hs_base.specs.declared.ids.ClientId.{ClientId}
use Rattle.hs_base.specs.declared.ids.TraceId.{TraceId}
use Rattle.hs_base.specs.declared.told.Trigger.{Trigger}
use Rattle.hs_records.specs.Plain.{Operation}
use Rattle.hs_compare.specs.Coming.{names_in, sent_comings}
use Rattle.hs_compare.specs.Coming as samplers
use Rattle.hs_client.specs.Sending.{Sent}
use Rattle.hs_compare.specs.declared.coming.Coming.{Coming}
use Rattle.hs_compare.specs.declared.happening.ScriptEvent.TheVariants.{Comes, Names}
use Rattle.hs_compare.specs.declared.happening.NumberedEvent.{NumberedEvent}

-- ---- names

abbrev pub name_at : ℕ → TraceId → NumberedEvent
name_at number trace = record { number = number; event = Names trace }

abbrev pub names_at : ℕ → Trigger → List NumberedEvent
names_at number trigger = map (name_at number) (names_in trigger)

-- the names of these triggers, each of the operation beside it
abbrev pub names_by : List ℕ → List Trigger → List NumberedEvent
names_by (number ∷ numbers) (trigger ∷ triggers) = names_at number trigger ++ names_by numbers triggers
names_by _ _ = []

-- ---- records

abbrev pub coming_of : Coming → samplers.Coming
coming_of c = record { id = c.id; trace = c.trace; bytes = c.bytes }

abbrev pub comes_at : Sent samplers.Coming → NumberedEvent
comes_at sent = record { number = sent.number; event = Comes sent.item.id sent.item.trace }

abbrev pub points_by : ClientId → List Operation → List NumberedEvent
points_by client ops = map comes_at (sent_comings client ops)
