-- What agents tell may be heard, and what is told and asked between rounds.
use Rattle.std.proofs.Common.{◌≡◌, ℕ, Bool, true, false, cond, List, [], ◌∷◌, ◌++◌, Option, Some, None, refl, sym, ap, subst, ◌∙◌, append_assoc, append-nil}
use Rattle.hs_run_actors.proofs.Prelude.{AllByRecursion, option_and_then, option_to_list, all_append, asks_in, is_declared, Ask, Crumb, Told, EventsAddFew, StepsSayWhatTheyTell, CrumbsLeadBelow, AgentState, start, Input, Chunk, Crumbed, Triggered, Asked, Turn, AgentEvent, Took, Gave, after, after_from, after_event, admits, told_by, PlainWorkload, AgentIs, AllAskable, asks_for, IsAskable, IsTellable, IsWithin, PlainAgentActor, IsAgentActor, working_agent_of, PlainWorkingAgent, WorkingAgentStands, Intakes, intakes_of, NodeWork, with_asks, with_moved}
use Rattle.hs_base.proofs.Alls.{all_back, all_find}
use Rattle.hs_base.specs.NodeSets.{has_node}
use Rattle.hs_base.specs.declared.told.Group.{Group}
use Rattle.hs_base.specs.Ids.{same_trace}
use Rattle.hs_coord.specs.declared.asks.Asks.{Asks}
use Rattle.hs_law_agent.specs.Laws.{AllPass, IsPassed, claimed_by}
use Rattle.hs_law_agent.specs.Leading.{LeadsBelow, BringsBelow, IsToldBelow}
use Rattle.hs_law_agent.specs.Messages.{has_crumb, late_of}
use Rattle.hs_law_agent.specs.State.{ClaimedTrace, claim_of}
use Rattle.hs_law_agent.specs.Stepping.{group_of}
use Rattle.hs_run_actors.specs.Coordinators.{ask_for}

-- what is found is one of the list
found_step : {A : Type 0} (P : A → Type 0) (b : Bool) (x y : A) (rest : Option A) → P x → (rest ≡ Some y → P y) → cond b (Some x) rest ≡ Some y → P y
found_step P true x y rest here later e = let same : x ≡ y = cc in subst P same here
found_step P false x y rest here later e = later e

module _ (W : PlainWorkload) (node : ℕ) where
  -- whether a group's trigger id is declared
  abbrev test : Group → Bool
  test group = is_declared W.settings.triggers group.trigger

  abbrev IsDeclared : Told → Type 0
  IsDeclared told = test told.group ≡ true

  abbrev AllDeclared : Option Told → Type 0
  AllDeclared told = AllByRecursion IsDeclared (option_to_list told)

  claim_told : (crumb : Crumb) (state : AgentState) (o : Option ClaimedTrace) → ((claim : ClaimedTrace) → o ≡ Some claim → test claim.group ≡ true)
      → AllDeclared (option_and_then (λ (claim : ClaimedTrace). cond (has_crumb state.crumbs crumb) None (Some (late_of claim crumb))) o)
  claim_told crumb state None each = tt
  claim_told crumb state (Some claim) each = by_test (has_crumb state.crumbs crumb)
    where
      by_test : (b : Bool) → AllDeclared (cond b None (Some (late_of claim crumb)))
      by_test true = tt
      by_test false = (each claim refl, tt)

  fired_told : (b : Bool) (told : Told) → IsDeclared told → AllDeclared (cond b (Some told) None)
  fired_told true told is = (is, tt)
  fired_told false told is = tt

  -- what an input makes the agent tell has a declared id
  told_declared : (state : AgentState) (input : Input) → AllPass test state.claims → IsWithin W node (Took input) → AllDeclared (told_by W.settings node state input)
  told_declared state (Chunk client sheet) claims within = tt
  told_declared state (Crumbed client crumb) claims within =
      claim_told crumb state (claim_of state.claims crumb.trace) (λ claim e. all_find (λ (c : ClaimedTrace). test c.group ≡ true) (λ (c : ClaimedTrace). same_trace crumb.trace c.trace) state.claims claim claims e)
  told_declared state (Triggered client trigger) claims within = fired_told (admits W.settings state.tried trigger) _ within.1
  told_declared state (Asked ask) claims within = (within, tt)
  told_declared state Turn claims within = tt

  admitted_passed : (b : Bool) (group : Group) → test group ≡ true → IsPassed test (cond b (Some group) None)
  admitted_passed true group is = is
  admitted_passed false group is = tt

  -- and so has what it claims for
  claims_declared : (state : AgentState) (input : Input) → IsWithin W node (Took input) → IsPassed test (claimed_by W.settings node state input)
  claims_declared state (Chunk client sheet) within = tt
  claims_declared state (Crumbed client crumb) within = tt
  claims_declared state (Triggered client trigger) within = admitted_passed (admits W.settings state.tried trigger) (group_of node state trigger).group within.1
  claims_declared state (Asked ask) within = within
  claims_declared state Turn within = tt

  brings : (event : AgentEvent) → IsWithin W node event → BringsBelow W.settings.nodes event
  brings (Took (Chunk client sheet)) within = tt
  brings (Took (Crumbed client crumb)) within = within.1
  brings (Took (Triggered client trigger)) within = tt
  brings (Took (Asked ask)) within = tt
  brings (Took Turn) within = tt
  brings (Gave answer) within = tt

  module _ (below : CrumbsLeadBelow) (few : EventsAddFew) (says : StepsSayWhatTheyTell) where
    leads_from : (state : AgentState) (events : List AgentEvent) → LeadsBelow W.settings.nodes state → AllByRecursion (IsWithin W node) events → LeadsBelow W.settings.nodes (after_from W.settings node state events)
    leads_from state [] leads within = leads
    leads_from state (event ∷ events) leads within = leads_from (after_event W.settings node state event) events (below W.settings node W.settings.nodes state event (brings event within.0) leads) within.1

    declared_from : (state : AgentState) (events : List AgentEvent) → AllPass test state.claims → AllByRecursion IsDeclared state.said → AllByRecursion (IsWithin W node) events → AllByRecursion IsDeclared (after_from W.settings node state events).said
    declared_from state [] claims said within = said
    declared_from state (Took input ∷ events) claims said within =
        declared_from (after_event W.settings node state (Took input)) events ((few W.settings node state).claims test input claims (claims_declared state input within.0))
        (subst (λ (l : List Told). AllByRecursion IsDeclared l) (sym ((says W.settings node state).inputs input)) (all_append IsDeclared state.said (option_to_list (told_by W.settings node state input)) said (told_declared state input claims within.0))) within.1
    declared_from state (Gave answer ∷ events) claims said within =
        declared_from (after_event W.settings node state (Gave answer)) events (subst (λ (l : List ClaimedTrace). AllPass test l) (sym ((few W.settings node state).kept answer)) claims)
        (subst (λ (l : List Told). AllByRecursion IsDeclared l) (sym ((says W.settings node state).answers answer)) said) within.1

    tellable_both : (told : List Told) → AllByRecursion (IsToldBelow W.settings.nodes) told → AllByRecursion IsDeclared told → AllByRecursion (IsTellable W) told
    tellable_both [] nodes triggers = tt
    tellable_both (x ∷ told) nodes triggers = (record { nodes = nodes.0; trigger = triggers.0 }, tellable_both told nodes.1 triggers.1)

    pub all_tellable : (events : List AgentEvent) → AllByRecursion (IsWithin W node) events → AllByRecursion (IsTellable W) (after W.settings node events).said
    all_tellable events within =
        tellable_both (after W.settings node events).said (leads_from (start W.settings) events (record { crumbs = tt; said = tt }) within).said (declared_from (start W.settings) events tt tt within)

-- ---- between rounds

-- what may be asked of all may be asked of one node
pub these_askable : (W : PlainWorkload) (node : ℕ) (asks : List Asks) → AllAskable W asks → AllByRecursion (IsAskable W) (asks_for node asks)
these_askable W node [] all = tt
these_askable W node (x ∷ asks) all = all_append (IsAskable W) (ask_for node x) (asks_for node asks) (by_test (has_node x.to node)) (these_askable W node asks all.1)
  where
    by_test : (b : Bool) → AllByRecursion (IsAskable W) (cond b (x.ask ∷ []) [])
    by_test true = (all.0, tt)
    by_test false = tt

module _ (W : PlainWorkload) (work : NodeWork) (lines : Intakes) (desk : PlainWorkingAgent) (stands : WorkingAgentStands W work desk lines) where
  -- what waits to be fetched may be heard
  pub tellable : CrumbsLeadBelow → EventsAddFew → StepsSayWhatTheyTell → AllByRecursion (IsTellable W) desk.said
  tellable below few says =
      all_back (IsTellable W) work.moved desk.said (subst (λ (l : List Told). AllByRecursion (IsTellable W) l) (sym stands.works.said_is) (all_tellable W work.node below few says work.events stands.works.is.within))

  -- the agent follows the same events, whatever was asked and moved
  still : (asked : List Ask) (moved : List Told) → AgentIs W (record work { asked = asked; moved = moved }) None desk.agent
  still asked moved =
      let is = stands.works.is in
      record { buffers = is.buffers; follows = is.follows; labels = is.labels; pooled = is.pooled; pages = is.pages; sheets = is.sheets; within = is.within; hands = is.hands }

  -- all messages were fetched
  pub told : WorkingAgentStands W (with_moved desk.said work) (record desk { said = [] }) lines
  told =
      record {
        works = record { is = still work.asked (work.moved ++ desk.said); said_is = append-nil (work.moved ++ desk.said) ∙ stands.works.said_is };
        asks_are = stands.asks_are;
        askable = stands.askable;
        lines_are = stands.lines_are;
        turns = stands.turns;
      }

  -- asks were sent
  pub asked : (asks : List Ask) → AllByRecursion (IsAskable W) asks → WorkingAgentStands W (with_asks asks work) (record desk { asks = desk.asks ++ asks }) lines
  asked asks askable =
      record {
        works = record { is = still (work.asked ++ asks) work.moved; said_is = stands.works.said_is };
        asks_are = sym (append_assoc (asks_in work.events) desk.asks asks) ∙ ap (λ (l : List Ask). l ++ asks) stands.asks_are;
        askable = all_append (IsAskable W) work.asked asks stands.askable askable;
        lines_are = stands.lines_are;
        turns = stands.turns;
      }

module _ (W : PlainWorkload) (work : NodeWork) (old : PlainAgentActor) (manned : IsAgentActor W work old) where
  pub told_manned : IsAgentActor W (with_moved old.said work) (record old { said = [] })
  told_manned =
      record {
        stands = told W work (intakes_of old.port) (working_agent_of old) manned.stands;
        received = record { chunks = manned.received.chunks; crumbs = manned.received.crumbs; triggers = manned.received.triggers };
        clients_are = manned.clients_are;
      }

  pub asked_manned : (asks : List Ask) → AllByRecursion (IsAskable W) asks → IsAgentActor W (with_asks asks work) (record old { asks = old.asks ++ asks })
  asked_manned asks askable =
      record {
        stands = asked W work (intakes_of old.port) (working_agent_of old) manned.stands asks askable;
        received = record { chunks = manned.received.chunks; crumbs = manned.received.crumbs; triggers = manned.received.triggers };
        clients_are = manned.clients_are;
      }
