-- What is pinned can be reported: in a run each claim is of a declared trigger id.
use Rattle.std.proofs.Common.{◌≡◌, ℕ, ◌≤◌, Bool, true, false, cond, List, [], ◌∷◌, sym, subst, Some, None}
use Rattle.hs_run.proofs.Prelude.{AllByRecursion, Sheet, after, AgentEvent, PlainWorkload, ListsHaveTheirChunks}
use Rattle.hs_base.proofs.Alls.{all_at}
use Rattle.hs_base.specs.Rules.{is_declared}
use Rattle.hs_base.specs.declared.told.Group.{Group}
use Rattle.hs_law_agent.specs.Laws.{IsPassed, claimed_by, sheets_of, CanReport, EventsAddFew, ChunksStandByTheirClaim}
use Rattle.hs_law_agent.specs.State.{AgentState, start}
use Rattle.hs_law_agent.specs.Stepping.{Input, Chunk, Crumbed, Triggered, Asked, Turn, Took, Gave, admits, after_from, after_event, group_of}
use Rattle.hs_law_journal.proofs.Pinned.{AreDeclared, can_report}
use Rattle.hs_law_journal.proofs.Shares.{AreOfRules, HaveWeights, shares_event, shares_start}
use Rattle.hs_run_actors.specs.Agents.{IsWithin}
use Rattle.hs_words.specs.Chunks.{used_of}

-- ---- what is claimed

module _ (few : EventsAddFew) (W : PlainWorkload) (node : ℕ) where
  abbrev test : Group → Bool
  test group = is_declared W.settings.triggers group.trigger

  fired_passed : (b : Bool) (group : Group) → test group ≡ true → IsPassed test (cond b (Some group) None)
  fired_passed true group is = is
  fired_passed false group is = tt

  claim_passed : (state : AgentState) (input : Input) → IsWithin W node (Took input) → IsPassed test (claimed_by W.settings node state input)
  claim_passed state (Chunk client sheet) within = tt
  claim_passed state (Crumbed client crumb) within = tt
  claim_passed state (Triggered client trigger) within = fired_passed (admits W.settings state.tried trigger) (group_of node state trigger).group within.1
  claim_passed state (Asked ask) within = within
  claim_passed state Turn within = tt

  claims_event : (state : AgentState) (event : AgentEvent) → IsWithin W node event → AreDeclared W.settings state.claims → AreDeclared W.settings (after_event W.settings node state event).claims
  claims_event state (Took input) within all = (few W.settings node state).claims test input all (claim_passed state input within)
  claims_event state (Gave answer) within all = subst (AreDeclared W.settings) (sym ((few W.settings node state).kept answer)) all

  record Keeps (state : AgentState) : Type 0 where
    claims : AreDeclared W.settings state.claims
    shares : AreOfRules state.shares W.settings.triggers

  keeps_on : (state : AgentState) (events : List AgentEvent) → AllByRecursion (IsWithin W node) events → Keeps state → Keeps (after_from W.settings node state events)
  keeps_on state [] within k = k
  keeps_on state (event ∷ events) within k =
      keeps_on (after_event W.settings node state event) events within.1 (record { claims = claims_event state event within.0 k.claims; shares = shares_event few W.settings node state k.shares event })

-- ---- a pinned chunk

module _ (places : ListsHaveTheirChunks) (claims : ChunksStandByTheirClaim) (few : EventsAddFew) (W : PlainWorkload) (weights : HaveWeights W.settings.triggers) (node : ℕ) (events : List AgentEvent) (within : AllByRecursion (IsWithin W node) events) where
  abbrev state : AgentState
  state = after W.settings node events

  keeps : Keeps few W node state
  keeps = keeps_on few W node (start W.settings) events within (record { claims = tt; shares = shares_start W.settings.triggers })

  pub pins_report : AllByRecursion (λ (sheet : Sheet). used_of sheet ≤ W.settings.size) (sheets_of state.taken) → (place : ℕ) (others : List ℕ) → state.pinned ≡ place ∷ others → CanReport W.settings state
  pins_report fits =
      can_report W.settings state weights (places W.settings node events) (claims W.settings node events) keeps.claims keeps.shares
      (λ place sheet there. all_at (λ (sheet : Sheet). used_of sheet ≤ W.settings.size) (sheets_of state.taken) place sheet fits there)
