-- Which traces an agent claims: the leads and the laterals of the triggers and asks that it takes, and no others. It tells of
-- these alone. So where all that it takes is of traces that pass a test, all that it claims and tells is so too.
use Rattle.std.specs.Prelude.{◌≡◌, ℕ, Bool, true, false, ◌==◌, List, [], ◌∷◌, map, refl}
use Rattle.std.specs.List.{AllByRecursion}
use Rattle.hs_base.specs.declared.ids.TraceId.{TraceId}
use Rattle.hs_base.specs.declared.told.Told.{Told}
use Rattle.hs_base.specs.Samples.{one_rule, t}
use Rattle.hs_records.specs.Plain.{PlainSettings}
use Rattle.hs_law_agent.specs.Samples.{settings_with, chunk, crumb, trigger, asked, group}
use Rattle.hs_law_agent.specs.State.{AgentState, ClaimedTrace}
use Rattle.hs_law_agent.specs.Stepping.{Chunk, Crumbed, Triggered, Asked, Turn, AgentEvent, Took, Gave, after_event, after}

-- these traces pass the test
abbrev pub AllPass : (TraceId → Bool) → List TraceId → Type 0
AllPass test traces = AllByRecursion (λ (trace : TraceId). test trace ≡ true) traces

-- a trace that passes is claimed, for a group whose traces do
pub record IsClaimOf (test : TraceId → Bool) (claim : ClaimedTrace) : Type 0 where
  pub trace : test claim.trace ≡ true
  pub group : AllPass test (claim.group.lead ∷ claim.laterals)

-- a message is of a group whose traces pass
abbrev pub TellsOf : (TraceId → Bool) → Told → Type 0
TellsOf test told = AllPass test (told.group.lead ∷ told.laterals)

-- all claims are of traces that pass, and all messages of groups whose traces do
pub record ClaimsOnly (test : TraceId → Bool) (state : AgentState) : Type 0 where
  pub claims : AllByRecursion (IsClaimOf test) state.claims
  pub said : AllByRecursion (TellsOf test) state.said

-- the lead and the laterals that an event brings pass
abbrev pub BringsOnly : (TraceId → Bool) → AgentEvent → Type 0
BringsOnly test (Took (Chunk client sheet)) = Unit {0}
BringsOnly test (Took (Crumbed client crumb)) = Unit {0}
BringsOnly test (Took (Triggered client trigger)) = AllPass test (trigger.lead ∷ trigger.laterals)
BringsOnly test (Took (Asked ask)) = AllPass test (ask.group.lead ∷ ask.laterals)
BringsOnly test (Took Turn) = Unit {0}
BringsOnly test (Gave answer) = Unit {0}

-- Where all triggers and asks bring traces that pass, all that is claimed and told is of such traces.
abbrev pub ClaimsAreOfWhatIsBrought : Type 0
ClaimsAreOfWhatIsBrought =
    (settings : PlainSettings) (node : ℕ) (test : TraceId → Bool) (state : AgentState) (event : AgentEvent) → BringsOnly test event → ClaimsOnly test state
    → ClaimsOnly test (after_event settings node state event)

-- ---- examples

abbrev claimed : List AgentEvent → List TraceId
claimed events = map (λ (claim : ClaimedTrace). claim.trace) (after (settings_with 4 8 4 one_rule) 0 events).claims

-- the trace of a chunk or of a crumb is not claimed for that alone
lead_and_laterals : claimed (chunk 3 0 ∷ crumb 4 1 ∷ trigger 1 1 1 (t 2 ∷ []) ∷ []) ≡ t 1 ∷ t 2 ∷ []
lead_and_laterals = refl

of_an_ask : claimed (asked (group 1 0 1 7) (t 8 ∷ []) ∷ []) ≡ t 7 ∷ t 8 ∷ []
of_an_ask = refl

-- a trigger of the traces 1 and 2 brings a trace that is not the trace 1
brings_another : BringsOnly (λ trace. trace.0 == 1) (trigger 1 1 1 (t 2 ∷ [])) → false ≡ true
brings_another h = h.1.0
