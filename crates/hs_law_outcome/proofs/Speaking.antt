-- An agent claims for a group, and speaks of it, only where it admitted the group's trigger or is in the group's asked set. And it
-- tells an `Answer` of the group only where it has an ask for it.
use Rattle.std.proofs.Common.{◌≡◌, ℕ, Bool, true, false, cond, not, ◌||◌, ◌&&◌, List, [], ◌∷◌, ◌++◌, Option, Some, None, option_map, refl, sym, subst, ◌∙◌, slice_get, eqb, true≢false}
use Rattle.hs_law_outcome.proofs.Prelude.{AllByRecursion, option_and_then, cond_both, all_append, mapped_from, GroupId, Crumb, Group, Told, Trigger, Fired, same_trace, Message, Messages, same_group, is_asked, has_ask, is_answer, Step, EventsAddFew, StepsSayWhatTheyTell, told_of, ClaimedTrace, claim_of, Input, Chunk, Crumbed, Triggered, Asked, Turn, AgentEvent, Took, Gave, admits, group_of, PlainSettings, ClientSends, Chunks, Crumbs, Triggers, Asks, taken, asks_to, NodeRun, next_of, event_of, perform, step_node, step_from}
use Rattle.std.specs.Option.{option_to_list}
use Rattle.hs_base.proofs.Alls.{all_find}
use Rattle.hs_records.specs.declared.journal.Step.TheVariants as steps
use Rattle.hs_law_agent.specs.Laws.{AllPass, IsPassed, claimed_by}
use Rattle.hs_law_agent.specs.Messages.{has_crumb, late_of}
use Rattle.hs_law_agent.specs.Stepping.{told_by}
use Rattle.hs_law_outcome.proofs.Asked.{IsHad, ask_asked, asked_stays, ask_stays, asked_for}

-- ---- of which groups a node may speak

own_bits : (own number asked : Bool) → (not (own && number) || (own || asked)) ≡ true
own_bits true true asked = refl
own_bits true false asked = refl
own_bits false number asked = refl

asked_bits : (same own asked : Bool) → (same ≡ true → asked ≡ true) → (not same || (own || asked)) ≡ true
asked_bits true true asked h = refl
asked_bits true false asked h = h refl
asked_bits false own asked h = refl

more_bits : (same own asked more : Bool) → (asked ≡ true → more ≡ true) → (not same || (own || asked)) ≡ true → (not same || (own || more)) ≡ true
more_bits true true asked more on h = refl
more_bits true false asked more on h = on h
more_bits false own asked more on h = refl

module _ (group : GroupId) where
  -- whether the other group is not this one, or the node admitted this one or is in its asked set
  abbrev pub may_speak : Messages → ℕ → Group → Bool
  may_speak heard node other = not (same_group group other.id) || (eqb group.node node || is_asked group heard node)

  -- what a node may say: it is of a group of which it may speak, and an `Answer` of this one only where it has an ask
  pub record MaySay (heard : Messages) (node : ℕ) (told : Told) : Type 0 where
    pub speaks : may_speak heard node told.group ≡ true
    pub answers : same_group group told.group.id ≡ true → is_answer told.why ≡ true → has_ask group heard node ≡ true

  -- all that a node claims is of groups of which it may speak, and all that it said is what it may say
  pub record KeepsToIt (heard : Messages) (run : NodeRun) : Type 0 where
    pub claims : AllPass (may_speak heard run.node) run.state.claims
    pub said : AllByRecursion (MaySay heard run.node) run.state.said

  -- of what it may speak it may speak when more was heard
  module _ (heard : Messages) (m : Message) (node : ℕ) where
    may_more : (other : Group) → may_speak heard node other ≡ true → may_speak (heard ++ m ∷ []) node other ≡ true
    may_more other h = more_bits (same_group group other.id) (eqb group.node node) (is_asked group heard node) (is_asked group (heard ++ m ∷ []) node) (asked_stays group heard m node) h

    claims_more : (claims : List ClaimedTrace) → AllPass (may_speak heard node) claims → AllPass (may_speak (heard ++ m ∷ []) node) claims
    claims_more [] all = tt
    claims_more (claim ∷ claims) all = (may_more claim.group all.0, claims_more claims all.1)

    said_more : (said : List Told) → AllByRecursion (MaySay heard node) said → AllByRecursion (MaySay (heard ++ m ∷ []) node) said
    said_more [] all = tt
    said_more (told ∷ said) all =
        let may = all.0 in
        (record { speaks = may_more told.group may.speaks; answers = λ own answer. ask_stays group heard m node (may.answers own answer) }, said_more said all.1)

  pub keeps_more : (heard : Messages) (m : Message) (run : NodeRun) → KeepsToIt heard run → KeepsToIt (heard ++ m ∷ []) run
  keeps_more heard m run k = record { claims = claims_more heard m run.node run.state.claims k.claims; said = said_more heard m run.node run.state.said k.said }

  -- ---- one step

  module _ (settings : PlainSettings) (heard : Messages) (run : NodeRun) where
    -- If an event takes an ask for the group, the node has one.
    abbrev Allowed : AgentEvent → Type 0
    Allowed (Took (Asked ask)) = IsHad group heard run.node ask
    Allowed _ = Unit {0}

    item_allowed : {A : Type 0} (f : A → AgentEvent) (event : AgentEvent) (o : Option A) → ((a : A) → Allowed (f a)) → option_map f o ≡ Some event → Allowed event
    item_allowed f event o each h = let m = mapped_from f o event h in subst Allowed (sym m.is) (each m.item)

    sent_allowed : {A : Type 0} (f : A → AgentEvent) (event : AgentEvent) (pick : ClientSends → Option A) (o : Option ClientSends) → ((a : A) → Allowed (f a))
        → option_and_then (λ (sends : ClientSends). option_map f (pick sends)) o ≡ Some event → Allowed event
    sent_allowed f event pick None each h = let no : None ≡ Some event = h in absurd cc
    sent_allowed f event pick (Some sends) each h = item_allowed f event (pick sends) each h

    -- a step that is ready takes no other ask
    allowed : (step : Step) (event : AgentEvent) → event_of run heard step ≡ Some event → Allowed event
    allowed (steps.Chunk client) event h =
        sent_allowed (λ sheet. Took (Chunk client sheet)) event (λ (s : ClientSends). next_of (Chunks client) run.state s.chunks) (slice_get run.sends client) (λ a. tt) h
    allowed (steps.Crumb client) event h =
        sent_allowed (λ crumb. Took (Crumbed client crumb)) event (λ (s : ClientSends). next_of (Crumbs client) run.state s.crumbs) (slice_get run.sends client) (λ a. tt) h
    allowed (steps.Trigger client) event h =
        sent_allowed (λ trigger. Took (Triggered client trigger)) event (λ (s : ClientSends). next_of (Triggers client) run.state s.triggers) (slice_get run.sends client) (λ a. tt) h
    allowed steps.Ask event h =
        let place = taken Asks run.state.log in
        let m = mapped_from (λ ask. Took (Asked ask)) (slice_get (asks_to run.node heard) place) event h in
        subst Allowed (sym m.is) (asked_for group run.node heard place m.item m.there)
    allowed steps.Turn event h = let is : Took Turn ≡ event = cc in subst Allowed is tt
    allowed (steps.Given stamp) event h = item_allowed (λ _. Gave _) event (slice_get run.state.hand 0) (λ a. tt) h
    allowed (steps.Missed stamp) event h = item_allowed (λ _. Gave _) event (slice_get run.state.hand 0) (λ a. tt) h
    allowed steps.Unread event h = item_allowed (λ _. Gave _) event (slice_get run.state.hand 0) (λ a. tt) h

    -- of the group for which it claims, if it does, its node may speak
    passed : (input : Input) → Allowed (Took input) → IsPassed (may_speak heard run.node) (claimed_by settings run.node run.state input)
    passed (Chunk client sheet) had = tt
    passed (Crumbed client crumb) had = tt
    passed (Triggered client trigger) had =
        cond_both (admits settings run.state.tried trigger) (Some (group_of run.node run.state trigger).group) None (IsPassed (may_speak heard run.node))
        (λ yes. own_bits (eqb group.node run.node) (eqb group.number run.state.admitted) (is_asked group heard run.node)) (λ no. tt)
    passed (Asked ask) had =
        asked_bits (same_group group ask.group.id) (eqb group.node run.node) (is_asked group heard run.node) (λ own. ask_asked group heard run.node (had own))
    passed Turn had = tt

    -- what is no `Answer` may be said of a group of which the node may speak
    no_answer : (told : Told) → may_speak heard run.node told.group ≡ true → is_answer told.why ≡ false → MaySay heard run.node told
    no_answer told speaks other = record { speaks = speaks; answers = λ own answer. absurd (true≢false (sym answer ∙ other)) }

    module _ (k : KeepsToIt heard run) where
      abbrev Says : Option Told → Type 0
      Says o = AllByRecursion (MaySay heard run.node) (option_to_list o)

      crumb_told : (crumb : Crumb) (o : Option ClaimedTrace) → claim_of run.state.claims crumb.trace ≡ o
          → Says (option_and_then (λ claim. cond (has_crumb run.state.crumbs crumb) None (Some (late_of claim crumb))) o)
      crumb_told crumb None e = tt
      crumb_told crumb (Some claim) e =
          let may =
          all_find (λ (claim : ClaimedTrace). may_speak heard run.node claim.group ≡ true) (λ (claim : ClaimedTrace). same_trace crumb.trace claim.trace) run.state.claims claim k.claims e
          in
          cond_both (has_crumb run.state.crumbs crumb) None (Some (late_of claim crumb)) Says (λ known. tt) (λ new. (no_answer (late_of claim crumb) may refl, tt))

      trigger_told : (trigger : Trigger) (b : Bool) → IsPassed (may_speak heard run.node) (cond b (Some (group_of run.node run.state trigger).group) None)
          → Says (cond b (Some (told_of run.state.crumbs (group_of run.node run.state trigger) Fired)) None)
      trigger_told trigger true may = (no_answer (told_of run.state.crumbs (group_of run.node run.state trigger) Fired) may refl, tt)
      trigger_told trigger false may = tt

      -- what it tells it may say
      told : (input : Input) → Allowed (Took input) → Says (told_by settings run.node run.state input)
      told (Chunk client sheet) had = tt
      told (Crumbed client crumb) had = crumb_told crumb (claim_of run.state.claims crumb.trace) refl
      told (Triggered client trigger) had = trigger_told trigger (admits settings run.state.tried trigger) (passed (Triggered client trigger) had)
      told (Asked ask) had = (record { speaks = passed (Asked ask) had; answers = λ own answer. had own }, tt)
      told Turn had = tt

      module _ (says : StepsSayWhatTheyTell) (few : EventsAddFew) where
        event_keeps : (rest : List Step) (event : AgentEvent) → Allowed event → KeepsToIt heard (perform settings rest run event)
        event_keeps rest (Took input) had =
            record {
              claims = (few settings run.node run.state).claims (may_speak heard run.node) input k.claims (passed input had);
              said =
                  subst (AllByRecursion (MaySay heard run.node)) (sym ((says settings run.node run.state).inputs input))
                  (all_append (MaySay heard run.node) run.state.said (option_to_list (told_by settings run.node run.state input)) k.said (told input had));
            }
        event_keeps rest (Gave answer) had =
            record {
              claims = subst (AllPass (may_speak heard run.node)) (sym ((few settings run.node run.state).kept answer)) k.claims;
              said = subst (AllByRecursion (MaySay heard run.node)) (sym ((says settings run.node run.state).answers answer)) k.said;
            }

        pub step_keeps : (stepped : NodeRun) → step_node settings heard run ≡ Some stepped → KeepsToIt heard stepped
        step_keeps stepped h =
            let s = step_from settings heard run stepped h in subst (KeepsToIt heard) (sym s.is) (event_keeps s.rest s.event (allowed s.step s.event s.met))
