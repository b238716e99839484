-- That an agent tells of no nodes but those to which crumbs led that it took.
use Rattle.std.specs.Prelude.{◌≡◌, ℕ, ◌<◌, true, List, [], ◌∷◌, map, filter, refl}
use Rattle.std.proofs.Common.{arith}
use Rattle.std.specs.List.{AllByRecursion, range_with_len}
use Rattle.hs_base.specs.NodeSets.{has_node}
use Rattle.hs_base.specs.declared.told.Crumb.{Crumb}
use Rattle.hs_base.specs.declared.told.Told.{Told}
use Rattle.hs_base.specs.Samples.{one_rule, t}
use Rattle.hs_records.specs.Plain.{PlainSettings}
use Rattle.hs_law_agent.specs.Samples.{settings_with, chunk, crumb, trigger}
use Rattle.hs_law_agent.specs.State.{AgentState}
use Rattle.hs_law_agent.specs.Stepping.{Chunk, Crumbed, Triggered, Asked, Turn, AgentEvent, Took, Gave, after_event, after}

-- a message names no node from this number on
abbrev pub IsToldBelow : ℕ → Told → Type 0
IsToldBelow nodes told = (n : ℕ) → has_node told.crumbs n ≡ true → n < nodes

-- what an agent remembers and what it told leads to nodes below this number
pub record LeadsBelow (nodes : ℕ) (state : AgentState) : Type 0 where
  pub crumbs : AllByRecursion (λ (crumb : Crumb). crumb.node.0 < nodes) state.crumbs
  pub said : AllByRecursion (IsToldBelow nodes) state.said

-- a crumb that an event takes leads there
abbrev pub BringsBelow : ℕ → AgentEvent → Type 0
BringsBelow nodes (Took (Chunk client sheet)) = Unit {0}
BringsBelow nodes (Took (Crumbed client crumb)) = crumb.node.0 < nodes
BringsBelow nodes (Took (Triggered client trigger)) = Unit {0}
BringsBelow nodes (Took (Asked ask)) = Unit {0}
BringsBelow nodes (Took Turn) = Unit {0}
BringsBelow nodes (Gave answer) = Unit {0}

-- Where all crumbs lead to nodes below a number, so does all that is remembered and told.
abbrev pub CrumbsLeadBelow : Type 0
CrumbsLeadBelow = (settings : PlainSettings) (node nodes : ℕ) (state : AgentState) (event : AgentEvent) → BringsBelow nodes event → LeadsBelow nodes state → LeadsBelow nodes (after_event settings node state event)

-- ---- examples

-- the nodes that the last message names
abbrev named : List AgentEvent → List (List ℕ)
named events = map (λ (told : Told). filter (has_node told.crumbs) (range_with_len 0 4)) (after (settings_with 4 8 4 one_rule) 0 events).said

-- a crumb of the lead to node 1, and one of another trace
one_node_told : named (crumb 1 1 ∷ crumb 2 3 ∷ trigger 1 1 1 [] ∷ []) ≡ (1 ∷ []) ∷ []
one_node_told = refl

laterals_told : named (crumb 1 1 ∷ crumb 2 3 ∷ trigger 1 1 1 (t 2 ∷ []) ∷ []) ≡ (1 ∷ 3 ∷ []) ∷ []
laterals_told = refl

-- a crumb that comes behind its claim is told by itself, and the same crumb not again
late_told : named (trigger 1 1 1 [] ∷ crumb 1 2 ∷ crumb 1 2 ∷ []) ≡ [] ∷ (2 ∷ []) ∷ []
late_told = refl

nothing_told : (named (crumb 1 1 ∷ []) ≡ []) × (named (chunk 1 0 ∷ trigger 1 1 1 [] ∷ []) ≡ [] ∷ [])
nothing_told = (refl, refl)

-- node 2 is below 3, and not below 2
brings_low : (BringsBelow 3 (crumb 1 2)) × (BringsBelow 2 (crumb 1 2) → ⊥)
brings_low = (omega arith, λ low. omega (arith, low))
