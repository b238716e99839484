-- For the worked examples: settings with pages of 64 bytes, inputs of one client each, and what shows of a state.
use Rattle.std.specs.Prelude.{ℕ, List, [], map}
use Rattle.hs_base.specs.declared.ids.TraceId.{TraceId}
use Rattle.hs_base.specs.declared.settings.TriggerRule.{TriggerRule}
use Rattle.hs_base.specs.declared.told.Group.{Group}
use Rattle.hs_base.specs.Samples.{t}
use Rattle.hs_records.specs.Plain.{PlainSettings}
use Rattle.hs_sched.specs.declared.share.Share.{Share}
use Rattle.hs_law_agent.specs.Standings.{ChunkStanding, Taken, sample_sheet}
use Rattle.hs_law_agent.specs.State.{AgentState}
use Rattle.hs_law_agent.specs.Stepping.{AgentEvent, Took, Gave, Chunk, Crumbed, Triggered, Asked, Turn, Given, Missed, Unread}

abbrev pub settings_with : (threshold traces pins : ℕ) → List TriggerRule → PlainSettings
settings_with threshold traces pins rules =
    record { nodes = 4; clients = 2; buffers = 4; size = 64; threshold = threshold; traces = traces; pins = pins; stride = 16; triggers = rules; autos = [] }

-- client 0's page of this number, with one piece of 35 used bytes, comes
abbrev pub chunk : (trace page : ℕ) → AgentEvent
chunk trace page = Took (Chunk 0 (sample_sheet 0 0 trace page))

abbrev pub crumb : (trace node : ℕ) → AgentEvent
crumb trace node = Took (Crumbed 0 (record { trace = t trace; node = record { 0 = node } }))

abbrev pub trigger : (moment id lead : ℕ) → List TraceId → AgentEvent
trigger moment id lead laterals = Took (Triggered 0 (record { moment = moment; trigger = record { 0 = id }; lead = t lead; laterals = laterals }))

abbrev pub group : (node number id lead : ℕ) → Group
group node number id lead = record { id = record { node = node; number = number }; trigger = record { 0 = id }; lead = t lead }

abbrev pub asked : Group → List TraceId → AgentEvent
asked g laterals = Took (Asked (record { group = g; laterals = laterals }))

abbrev pub turned : AgentEvent
turned = Took Turn

abbrev pub given : ℕ → AgentEvent
given stamp = Gave (Given stamp)

abbrev pub missed : ℕ → AgentEvent
missed stamp = Gave (Missed stamp)

abbrev pub unread : AgentEvent
unread = Gave Unread

abbrev pub standings : AgentState → List ChunkStanding
standings state = map (λ (c : Taken). c.standing) state.taken

abbrev pub deficits : AgentState → List ℕ
deficits state = map (λ (s : Share). s.deficit) state.shares
