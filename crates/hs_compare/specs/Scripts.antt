-- The script of a client: all that happens in its operations, from their records and from the triggers that they send.
use Rattle.std.specs.Prelude.{Bool, true, false, List}
use Rattle.std.specs.List.{flat_map}
use Rattle.hs_base.specs.declared.ids.ClientId.{ClientId}
use Rattle.hs_base.specs.declared.settings.AutoRule.{AutoRule}
use Rattle.hs_base.specs.declared.told.Trigger.{Trigger}
use Rattle.hs_records.specs.Plain.{Operation, Fire, Sample}
use Rattle.hs_client.specs.Sending.{Sent, sent_triggers}
use Rattle.hs_compare.specs.Coming as samplers
use Rattle.hs_compare.specs.Happens.{names_at}
use Rattle.hs_compare.specs.Points.{IsScriptOf}
use Rattle.hs_compare.specs.declared.happening.ScriptEvent.{ScriptEvent}
use Rattle.hs_compare.specs.declared.happening.ScriptEvent.TheVariants.{Comes, Names}
use Rattle.hs_compare.specs.declared.happening.NumberedEvent.{NumberedEvent}
use Rattle.hs_compare.specs.declared.script.Script.{Script}

-- a trigger is sent at no other operation
abbrev pub may_trigger : Operation → Bool
may_trigger (Fire trigger) = true
may_trigger (Sample moment auto value) = true
may_trigger _ = false

-- the names of these triggers
abbrev pub sent_names : List (Sent Trigger) → List NumberedEvent
sent_names triggers = flat_map (λ (s : Sent Trigger). names_at s.number s.item) triggers

-- what is named in these operations
abbrev pub names_of : List AutoRule → List Operation → List NumberedEvent
names_of autos ops = sent_names (sent_triggers autos ops)

abbrev pub IsClientScript : List AutoRule → ClientId → List Operation → Script → Type 0
IsClientScript autos client ops script = IsScriptOf client (names_of autos ops) ops script

-- an event without its payload
abbrev pub event_of : samplers.SamplerEvent → ScriptEvent
event_of (samplers.Comes coming) = Comes coming.id coming.trace
event_of (samplers.Names trace) = Names trace
