-- Every group of which an agent or the coordinator speaks was admitted at its node, for a declared trigger id; and an agent admits no more
-- than the triggers that it took. Shares keep their ids and weights.
use Rattle.std.proofs.Common.{◌≡◌, inl, inr, ℕ, zero, suc, ◌+◌, ◌<◌, ◌≤◌, Bool, true, false, ◌&&◌, ◌||◌, cond, List, [], ◌∷◌, ◌++◌, length, set, refl, sym, ap, subst, ◌∙◌, Option, Some, None, arith, map, option_map, slice_get, unwrap_or, count_by, find, eqb, eq-eqb, ltb, ltb-true, lt-ltb, append-nil, nat_le}
use Rattle.hs_law_journal.proofs.Prelude.{AllByRecursion, range_with_len, option_and_then, option_map_or, option_to_list, both_true, and_parts, same_Some, all_append, all_each, all_at, option_unmap, one_if, is_declared, NodeId, Ask, Crumb, Told, Trigger, Message, Messages, message, Step, PlainJournal, noted_as, EventsAddThis, StepsSayWhatTheyTell, AgentState, Input, Chunk, Crumbed, Triggered, Asked, Turn, Given, Missed, Unread, AgentEvent, Took, Gave, told_by, after_event, PlainSettings, PlainWorkload, ClientSends, node_sends, Chunks, Crumbs, Triggers, Asks, takes, taken, ask_by, asks_behind, asks_to, is_from, NodeRun, Run, next_of, event_of, perform, step_of, step_node, node_start, run_start, message_of, hear, Performs, Leads, Stays, Goes}
use Rattle.std.specs.List.{list_any}
use Rattle.hs_base.proofs.Alls.{all_find}
use Rattle.hs_base.proofs.Counts.{count_cons, count_append}
use Rattle.hs_base.specs.declared.ids.TriggerId.{TriggerId}
use Rattle.hs_base.specs.declared.settings.TriggerRule.{TriggerRule}
use Rattle.hs_base.specs.declared.told.Group.{Group}
use Rattle.hs_base.specs.declared.told.Why.TheVariants.{Fired, Answer}
use Rattle.hs_coord.specs.Following.{is_of, first_of, is_newly_asked}
use Rattle.hs_records.specs.declared.journal.Step.TheVariants as steps
use Rattle.hs_law_agent.specs.Laws.{claimed_by, admitted_by, AllPass, IsPassed, AddsFew, EventsAddFew, SaysWhatItTells}
use Rattle.hs_law_agent.specs.Messages.{has_crumb, told_of, late_of}
use Rattle.hs_base.specs.declared.limits.TheConstants.{TOKEN}
use Rattle.hs_base.specs.Ids.{same_trace}
use Rattle.hs_pins.specs.Buckets.{level_found}
use Rattle.hs_pins.specs.Remembered.{Tried, moments_of}
use Rattle.hs_law_agent.specs.State.{ClaimedTrace, claim_of}
use Rattle.hs_law_agent.specs.Stepping.{rule_of, admits, group_of}
use Rattle.hs_law_journal.proofs.Shares.{AreOfRules, shares_start, shares_event}
use Rattle.hs_law_journal.proofs.Sums.{sum_to, sum_le, sum_lt}

-- ---- tests

abbrev pub admitted_at : List NodeRun → ℕ → ℕ
admitted_at nodes u = option_map_or (λ (run : NodeRun). run.state.admitted) (slice_get nodes u) 0

-- whether a group was admitted where its id says, for a declared id
abbrev pub is_known : PlainSettings → List NodeRun → Group → Bool
is_known settings nodes g = ltb g.id.number (admitted_at nodes g.id.node) && is_declared settings.triggers g.trigger

-- the triggers that these steps take of so many clients
abbrev pub triggers_in : ℕ → List Step → ℕ
triggers_in clients log = sum_to (λ c. taken (Triggers c) log) clients

abbrev AllTold : (Group → Bool) → List Told → Type 0
AllTold test said = AllByRecursion (λ (told : Told). test told.group ≡ true) said

-- ---- what an event says and claims

found_message : (P : Message → Type 0) (p : Message → Bool) (ms : Messages) (m : Message) → AllByRecursion P ms → find p ms ≡ Some m → P m
found_message P p [] m all h = let never : None ≡ Some m = h in absurd cc
found_message P p (x ∷ ms) m all h = either (p x) h (λ h. found_message P p ms m all.1 h)
  where
    either : (b : Bool) → cond b (Some x) (find p ms) ≡ Some m → (find p ms ≡ Some m → P m) → P m
    either true h on = subst P (same_Some x m h) all.0
    either false h on = on h

-- the asks that messages lead to are of their groups
module _ (test : Group → Bool) (v : ℕ) where
  abbrev KnownMessage : Message → Type 0
  KnownMessage m = test m.told.group ≡ true

  abbrev KnownAsk : Ask → Type 0
  KnownAsk ask = test ask.group ≡ true

  first_known : (before : Messages) (m : Message) → AllByRecursion KnownMessage before → KnownMessage m → KnownMessage (first_of before m)
  first_known before m a b = either (find (is_of m.told.group.id) before) refl
    where
      either : (o : Option Message) → find (is_of m.told.group.id) before ≡ o → KnownMessage (unwrap_or o m)
      either None e = b
      either (Some first) e = found_message KnownMessage (is_of m.told.group.id) before first a e

  one_ask : (before : Messages) (m : Message) (c : Bool) → KnownMessage (first_of before m)
      → AllByRecursion KnownAsk (cond c (record { group = (first_of before m).told.group; laterals = (first_of before m).told.laterals } ∷ []) [])
  one_ask before m true h = (h, tt)
  one_ask before m false h = tt

  pub asks_known : (before ms : Messages) → AllByRecursion KnownMessage before → AllByRecursion KnownMessage ms → AllByRecursion KnownAsk (asks_behind v before ms)
  asks_known before [] a b = tt
  asks_known before (m ∷ ms) a b =
      all_append KnownAsk (ask_by v before m) (asks_behind v (before ++ m ∷ []) ms) (one_ask before m (is_newly_asked before m v) (first_known before m a b.0))
      (asks_known (before ++ m ∷ []) ms (all_append KnownMessage before (m ∷ []) a (b.0, tt)) b.1)

module _ (test : Group → Bool) where
  -- an ask that an event takes passes the test
  abbrev AskPasses : AgentEvent → Type 0
  AskPasses (Took (Chunk client sheet)) = Unit {0}
  AskPasses (Took (Crumbed client crumb)) = Unit {0}
  AskPasses (Took (Triggered client trigger)) = Unit {0}
  AskPasses (Took (Asked ask)) = test ask.group ≡ true
  AskPasses (Took Turn) = Unit {0}
  AskPasses (Gave answer) = Unit {0}

  other_passes : {A : Type 0} (f : A → AgentEvent) (o : Option A) (event : AgentEvent) → ((a : A) → AskPasses (f a)) → option_map f o ≡ Some event → AskPasses event
  other_passes f o event each h = let t = option_unmap f o event h in subst AskPasses t.2 (each t.0)

  client_passes : {A : Type 0} (f : A → AgentEvent) (g : ClientSends → Option A) (o : Option ClientSends) (event : AgentEvent) → ((a : A) → AskPasses (f a)) → option_and_then (λ (s : ClientSends). option_map f (g s)) o ≡ Some event → AskPasses event
  client_passes f g None event each h = let never : None ≡ Some event = h in absurd cc
  client_passes f g (Some s) event each h = other_passes f (g s) event each h

  event_passes : (run : NodeRun) (heard : Messages) (step : Step) (event : AgentEvent) → AllByRecursion (λ (ask : Ask). test ask.group ≡ true) (asks_to run.node heard) → event_of run heard step ≡ Some event → AskPasses event
  event_passes run heard (steps.Chunk client) event asks h = client_passes (λ sheet. Took (Chunk client sheet)) (λ (s : ClientSends). next_of (Chunks client) run.state s.chunks) (slice_get run.sends client) event (λ a. tt) h
  event_passes run heard (steps.Crumb client) event asks h = client_passes (λ crumb. Took (Crumbed client crumb)) (λ (s : ClientSends). next_of (Crumbs client) run.state s.crumbs) (slice_get run.sends client) event (λ a. tt) h
  event_passes run heard (steps.Trigger client) event asks h = client_passes (λ trigger. Took (Triggered client trigger)) (λ (s : ClientSends). next_of (Triggers client) run.state s.triggers) (slice_get run.sends client) event (λ a. tt) h
  event_passes run heard steps.Ask event asks h =
      let t = option_unmap (λ ask. Took (Asked ask)) (slice_get (asks_to run.node heard) (taken Asks run.state.log)) event h in
      subst AskPasses t.2 (all_at (λ (ask : Ask). test ask.group ≡ true) (asks_to run.node heard) (taken Asks run.state.log) t.0 asks t.1)
  event_passes run heard steps.Turn event asks h = subst AskPasses (same_Some (Took Turn) event h) tt
  event_passes run heard (steps.Given stamp) event asks h = other_passes (λ _. Gave (Given stamp)) (slice_get run.state.hand 0) event (λ a. tt) h
  event_passes run heard (steps.Missed stamp) event asks h = other_passes (λ _. Gave (Missed stamp)) (slice_get run.state.hand 0) event (λ a. tt) h
  event_passes run heard steps.Unread event asks h = other_passes (λ _. Gave Unread) (slice_get run.state.hand 0) event (λ a. tt) h

  module _ (settings : PlainSettings) (node : ℕ) (state : AgentState) (add : AddsFew settings node state) (say : SaysWhatItTells settings node state) where
    -- a trigger that an event takes makes a group that passes, where it is admitted
    abbrev OwnPasses : AgentEvent → Type 0
    OwnPasses event = (client : ℕ) (trigger : Trigger) → event ≡ Took (Triggered client trigger) → admits settings state.tried trigger ≡ true → test (group_of node state trigger).group ≡ true

    record Passes (after : AgentState) : Type 0 where
      claims : AllPass test after.claims
      said : AllTold test after.said

    said_more : (said : List Told) (o : Option Told) → AllTold test said → ((told : Told) → o ≡ Some told → test told.group ≡ true) → AllTold test (said ++ option_to_list o)
    said_more said None all each = subst (AllTold test) (sym (append-nil said)) all
    said_more said (Some told) all each = all_append (λ (told : Told). test told.group ≡ true) said (told ∷ []) all (each told refl, tt)

    input_passes : (input : Input) → IsPassed test (claimed_by settings node state input) → ((told : Told) → told_by settings node state input ≡ Some told → test told.group ≡ true) → AllPass test state.claims → AllTold test state.said
        → Passes (after_event settings node state (Took input))
    input_passes input passed told claims said =
        record { claims = add.claims test input claims passed; said = subst (AllTold test) (sym (say.inputs input)) (said_more state.said (told_by settings node state input) said told) }

    late_told : (crumb : Crumb) (told : Told) → AllPass test state.claims → (o : Option ClaimedTrace) → claim_of state.claims crumb.trace ≡ o
        → option_and_then (λ claim. cond (has_crumb state.crumbs crumb) None (Some (late_of claim crumb))) o ≡ Some told → test told.group ≡ true
    late_told crumb told claims None e h = let never : None ≡ Some told = h in absurd cc
    late_told crumb told claims (Some claim) e h = either (has_crumb state.crumbs crumb) h
      where
        either : (b : Bool) → cond b None (Some (late_of claim crumb)) ≡ Some told → test told.group ≡ true
        either true h = let never : None ≡ Some told = h in absurd cc
        either false h =
            subst (λ (told : Told). test told.group ≡ true) (same_Some (late_of claim crumb) told h) (all_find (λ (claim : ClaimedTrace). test claim.group ≡ true) (λ claim. same_trace crumb.trace claim.trace) state.claims claim claims e)

    after_passes : (event : AgentEvent) → OwnPasses event → AskPasses event → AllPass test state.claims → AllTold test state.said → Passes (after_event settings node state event)
    after_passes (Took (Chunk client sheet)) own ask claims said = input_passes (Chunk client sheet) tt (λ told h. let never : None ≡ Some told = h in absurd cc) claims said
    after_passes (Took (Crumbed client crumb)) own ask claims said = input_passes (Crumbed client crumb) tt (λ told h. late_told crumb told claims (claim_of state.claims crumb.trace) refl h) claims said
    after_passes (Took (Triggered client trigger)) own ask claims said =
        input_passes (Triggered client trigger) (claim_case (admits settings state.tried trigger) refl) (λ told h. told_case told (admits settings state.tried trigger) refl h) claims said
      where
        claim_case : (b : Bool) → admits settings state.tried trigger ≡ b → IsPassed test (cond b (Some (group_of node state trigger).group) None)
        claim_case true e = own client trigger refl e
        claim_case false e = tt

        told_case : (told : Told) (b : Bool) → admits settings state.tried trigger ≡ b → cond b (Some (told_of state.crumbs (group_of node state trigger) Fired)) None ≡ Some told → test told.group ≡ true
        told_case told true e h = subst (λ (told : Told). test told.group ≡ true) (same_Some (told_of state.crumbs (group_of node state trigger) Fired) told h) (own client trigger refl e)
        told_case told false e h = let never : None ≡ Some told = h in absurd cc
    after_passes (Took (Asked asked)) own ask claims said =
        input_passes (Asked asked) ask (λ told h. subst (λ (told : Told). test told.group ≡ true) (same_Some (told_of state.crumbs asked Answer) told h) ask) claims said
    after_passes (Took Turn) own ask claims said = input_passes Turn tt (λ told h. let never : None ≡ Some told = h in absurd cc) claims said
    after_passes (Gave answer) own ask claims said = record { claims = subst (AllPass test) (sym (add.kept answer)) claims; said = subst (AllTold test) (sym (say.answers answer)) said }

-- ---- all that is spoken of

pub record Speaks (settings : PlainSettings) (nodes : List NodeRun) (run : NodeRun) : Type 0 where
  pub claims : AllPass (is_known settings nodes) run.state.claims
  pub said : AllTold (is_known settings nodes) run.state.said
  pub few : run.state.admitted ≤ triggers_in (length run.sends) run.state.log
  pub shares : AreOfRules run.state.shares settings.triggers

pub record Spoken (settings : PlainSettings) (r : Run) : Type 0 where
  pub numbers : (i : ℕ) (run : NodeRun) → slice_get r.nodes i ≡ Some run → run.node ≡ i
  pub nodes : AllByRecursion (Speaks settings r.nodes) r.nodes
  pub heard : AllByRecursion (λ (m : Message). is_known settings r.nodes m.told.group ≡ true) r.heard

module _ (add : EventsAddFew) (this : EventsAddThis) (says : StepsSayWhatTheyTell) (settings : PlainSettings) where
  admitted_more : (nodes : List NodeRun) (place u : ℕ) (node stepped : NodeRun) → slice_get nodes place ≡ Some node → node.state.admitted ≤ stepped.state.admitted → admitted_at nodes u ≤ admitted_at (set nodes place stepped) u
  admitted_more [] place u node stepped h low = omega arith
  admitted_more (x ∷ nodes) zero zero node stepped h low = let same = ap (λ (r : NodeRun). r.state.admitted) (same_Some x node h) in omega (arith, same, low)
  admitted_more (x ∷ nodes) zero (suc u) node stepped h low = omega arith
  admitted_more (x ∷ nodes) (suc place) zero node stepped h low = omega arith
  admitted_more (x ∷ nodes) (suc place) (suc u) node stepped h low = admitted_more nodes place u node stepped h low

  known_more : (before after : List NodeRun) → ((u : ℕ) → admitted_at before u ≤ admitted_at after u) → (g : Group) → is_known settings before g ≡ true → is_known settings after g ≡ true
  known_more before after more g h =
      let parts = and_parts (ltb g.id.number (admitted_at before g.id.node)) (is_declared settings.triggers g.trigger) h in
      let low = ltb-true g.id.number (admitted_at before g.id.node) parts.0 in
      let most = more g.id.node in
      both_true (lt-ltb g.id.number (admitted_at after g.id.node) (omega (arith, low, most))) parts.1

  speaks_more : (before after : List NodeRun) → ((u : ℕ) → admitted_at before u ≤ admitted_at after u) → (run : NodeRun) → Speaks settings before run → Speaks settings after run
  speaks_more before after more run h =
      record {
        claims = all_each (λ (claim : ClaimedTrace). is_known settings before claim.group ≡ true) (λ (claim : ClaimedTrace). is_known settings after claim.group ≡ true) run.state.claims (λ claim k. known_more before after more claim.group k) h.claims;
        said = all_each (λ (told : Told). is_known settings before told.group ≡ true) (λ (told : Told). is_known settings after told.group ≡ true) run.state.said (λ told k. known_more before after more told.group k) h.said;
        few = h.few;
        shares = h.shares;
      }

  -- a declared id is one with a rule
  declared : (id : TriggerId) (rules : List TriggerRule) (rule : TriggerRule) → find (λ (rule : TriggerRule). eqb rule.id.0 id.0) rules ≡ Some rule → list_any (λ (rule : TriggerRule). eqb rule.id.0 id.0) rules ≡ true
  declared id [] rule h = let never : None ≡ Some rule = h in absurd cc
  declared id (x ∷ rules) rule h = either (eqb x.id.0 id.0) h (λ h. declared id rules rule h)
    where
      either : (b : Bool) → cond b (Some x) (find (λ (rule : TriggerRule). eqb rule.id.0 id.0) rules) ≡ Some rule
          → (find (λ (rule : TriggerRule). eqb rule.id.0 id.0) rules ≡ Some rule → list_any (λ (rule : TriggerRule). eqb rule.id.0 id.0) rules ≡ true) → (b || list_any (λ (rule : TriggerRule). eqb rule.id.0 id.0) rules) ≡ true
      either true h on = refl
      either false h on = on h

  admits_declared : (tried : List Tried) (trigger : Trigger) → admits settings tried trigger ≡ true → is_declared settings.triggers trigger.trigger ≡ true
  admits_declared tried trigger h = either (rule_of settings trigger.trigger) refl h
    where
      either : (o : Option TriggerRule) → rule_of settings trigger.trigger ≡ o
          → option_map_or (λ (rule : TriggerRule). nat_le TOKEN (level_found rule.burst rule.rate (moments_of trigger.trigger tried) trigger.moment)) o false ≡ true → is_declared settings.triggers trigger.trigger ≡ true
      either None e h = let never : false ≡ true = h in absurd cc
      either (Some rule) e h = declared trigger.trigger settings.triggers rule e

  -- ---- a node's step

  record IsStep (heard : Messages) (run stepped : NodeRun) : Type 0 where
    step : Step
    rest : List Step
    event : AgentEvent
    met : event_of run heard step ≡ Some event
    is : stepped ≡ perform settings rest run event

  step_event : (heard : Messages) (run stepped : NodeRun) (step : Step) (rest : List Step) (o : Option AgentEvent) → event_of run heard step ≡ o → option_map (perform settings rest run) o ≡ Some stepped → IsStep heard run stepped
  step_event heard run stepped step rest None m h = let never : None ≡ Some stepped = h in absurd cc
  step_event heard run stepped step rest (Some event) m h = record { step = step; rest = rest; event = event; met = m; is = sym (same_Some (perform settings rest run event) stepped h) }

  step_left : (heard : Messages) (run stepped : NodeRun) (left : List Step) → step_of settings heard run left ≡ Some stepped → IsStep heard run stepped
  step_left heard run stepped [] h = let never : None ≡ Some stepped = h in absurd cc
  step_left heard run stepped (step ∷ rest) h = step_event heard run stepped step rest (event_of run heard step) refl h

  -- a trigger is one of a client that is there
  abbrev IsOfClient : ℕ → AgentEvent → Type 0
  IsOfClient clients (Took (Chunk client sheet)) = Unit {0}
  IsOfClient clients (Took (Crumbed client crumb)) = Unit {0}
  IsOfClient clients (Took (Triggered client trigger)) = client < clients
  IsOfClient clients (Took (Asked ask)) = Unit {0}
  IsOfClient clients (Took Turn) = Unit {0}
  IsOfClient clients (Gave answer) = Unit {0}

  there_low : {X : Type 0} (xs : List X) (i : ℕ) (x : X) → slice_get xs i ≡ Some x → i < length xs
  there_low [] i x h = let never : None ≡ Some x = h in absurd cc
  there_low (y ∷ xs) zero x h = omega arith
  there_low (y ∷ xs) (suc i) x h = let rest = there_low xs i x h in omega (arith, rest)

  other_client : {A : Type 0} (clients : ℕ) (f : A → AgentEvent) (o : Option A) (event : AgentEvent) → ((a : A) → IsOfClient clients (f a)) → option_map f o ≡ Some event → IsOfClient clients event
  other_client clients f o event each h = let t = option_unmap f o event h in subst (IsOfClient clients) t.2 (each t.0)

  own_client : {A : Type 0} (run : NodeRun) (client : ℕ) (f : A → AgentEvent) (g : ClientSends → Option A) (o : Option ClientSends) (event : AgentEvent) → slice_get run.sends client ≡ o → (client < length run.sends → (a : A) → IsOfClient (length run.sends) (f a))
      → option_and_then (λ (s : ClientSends). option_map f (g s)) o ≡ Some event → IsOfClient (length run.sends) event
  own_client run client f g None event e each h = let never : None ≡ Some event = h in absurd cc
  own_client run client f g (Some s) event e each h = other_client (length run.sends) f (g s) event (each (there_low run.sends client s e)) h

  event_client : (run : NodeRun) (heard : Messages) (step : Step) (event : AgentEvent) → event_of run heard step ≡ Some event → IsOfClient (length run.sends) event
  event_client run heard (steps.Chunk client) event h = own_client run client (λ sheet. Took (Chunk client sheet)) (λ (s : ClientSends). next_of (Chunks client) run.state s.chunks) (slice_get run.sends client) event refl (λ low a. tt) h
  event_client run heard (steps.Crumb client) event h = own_client run client (λ crumb. Took (Crumbed client crumb)) (λ (s : ClientSends). next_of (Crumbs client) run.state s.crumbs) (slice_get run.sends client) event refl (λ low a. tt) h
  event_client run heard (steps.Trigger client) event h = own_client run client (λ trigger. Took (Triggered client trigger)) (λ (s : ClientSends). next_of (Triggers client) run.state s.triggers) (slice_get run.sends client) event refl (λ low a. low) h
  event_client run heard steps.Ask event h = other_client (length run.sends) (λ ask. Took (Asked ask)) (slice_get (asks_to run.node heard) (taken Asks run.state.log)) event (λ a. tt) h
  event_client run heard steps.Turn event h = subst (IsOfClient (length run.sends)) (same_Some (Took Turn) event h) tt
  event_client run heard (steps.Given stamp) event h = other_client (length run.sends) (λ _. Gave (Given stamp)) (slice_get run.state.hand 0) event (λ a. tt) h
  event_client run heard (steps.Missed stamp) event h = other_client (length run.sends) (λ _. Gave (Missed stamp)) (slice_get run.state.hand 0) event (λ a. tt) h
  event_client run heard steps.Unread event h = other_client (length run.sends) (λ _. Gave Unread) (slice_get run.state.hand 0) event (λ a. tt) h

  taken_step : (log : List Step) (c : ℕ) (step : Step) → taken (Triggers c) (log ++ step ∷ []) ≡ taken (Triggers c) log + one_if (takes (Triggers c) step)
  taken_step log c step =
      let both = count_append (takes (Triggers c)) log (step ∷ []) in
      let last = count_cons (takes (Triggers c)) step [] in
      omega (arith, both, last)

  triggers_more : (clients : ℕ) (log : List Step) (step : Step) → triggers_in clients log ≤ triggers_in clients (log ++ step ∷ [])
  triggers_more clients log step = sum_le (λ c. taken (Triggers c) log) (λ c. taken (Triggers c) (log ++ step ∷ [])) clients (λ c low. let same = taken_step log c step in omega (arith, same))

  triggers_one : (clients client : ℕ) (log : List Step) → client < clients → triggers_in clients log < triggers_in clients (log ++ steps.Trigger client ∷ [])
  triggers_one clients client log low =
      sum_lt (λ c. taken (Triggers c) log) (λ c. taken (Triggers c) (log ++ steps.Trigger client ∷ [])) clients client (λ c low. let same = taken_step log c (steps.Trigger client) in omega (arith, same)) low
      (let same = taken_step log client (steps.Trigger client) in let own = ap one_if (eq-eqb client client refl) in omega (arith, same, own))

  -- what an event admits is among its triggers
  admits_few : (node clients : ℕ) (state : AgentState) (event : AgentEvent) → IsOfClient clients event → state.admitted ≤ triggers_in clients state.log → (after_event settings node state event).admitted ≤ triggers_in clients (after_event settings node state event).log
  admits_few node clients state (Took (Chunk client sheet)) own few =
      let log = ap (triggers_in clients) ((this settings node state).log (Took (Chunk client sheet))) in
      let grows = triggers_more clients state.log (steps.Chunk client) in
      let more = (add settings node state).admitted (Chunk client sheet) in
      omega (arith, log, grows, more, few)
  admits_few node clients state (Took (Crumbed client crumb)) own few =
      let log = ap (triggers_in clients) ((this settings node state).log (Took (Crumbed client crumb))) in
      let grows = triggers_more clients state.log (steps.Crumb client) in
      let more = (add settings node state).admitted (Crumbed client crumb) in
      omega (arith, log, grows, more, few)
  admits_few node clients state (Took (Triggered client trigger)) own few =
      let log = ap (triggers_in clients) ((this settings node state).log (Took (Triggered client trigger))) in
      let grows = triggers_one clients client state.log own in
      let more = (add settings node state).admitted (Triggered client trigger) in
      let most = bool_few (admits settings state.tried trigger) in
      omega (arith, log, grows, more, most, few)
    where
      bool_few : (b : Bool) → cond b 1 0 ≤ 1
      bool_few true = omega arith
      bool_few false = omega arith
  admits_few node clients state (Took (Asked ask)) own few =
      let log = ap (triggers_in clients) ((this settings node state).log (Took (Asked ask))) in
      let grows = triggers_more clients state.log steps.Ask in
      let more = (add settings node state).admitted (Asked ask) in
      omega (arith, log, grows, more, few)
  admits_few node clients state (Took Turn) own few =
      let log = ap (triggers_in clients) ((this settings node state).log (Took Turn)) in
      let grows = triggers_more clients state.log steps.Turn in
      let more = (add settings node state).admitted Turn in
      omega (arith, log, grows, more, few)
  admits_few node clients state (Gave answer) own few =
      let log = ap (triggers_in clients) ((this settings node state).log (Gave answer)) in
      let grows = triggers_more clients state.log (noted_as (Gave answer)) in
      let more = (add settings node state).counted answer in
      omega (arith, log, grows, more, few)

  pub admits_more : (node : ℕ) (state : AgentState) (event : AgentEvent) → state.admitted ≤ (after_event settings node state event).admitted
  admits_more node state (Took input) = let more = (add settings node state).admitted input in omega (arith, more)
  admits_more node state (Gave answer) = let more = (add settings node state).counted answer in omega (arith, more)

  -- a trigger that is admitted makes a group that is known then
  new_known : (nodes : List NodeRun) (place : ℕ) (run : NodeRun) (trigger : Trigger) → slice_get nodes place ≡ Some run → run.node ≡ place → admits settings run.state.tried trigger ≡ true → (after : List NodeRun)
      → run.state.admitted < admitted_at after place → is_known settings after (group_of run.node run.state trigger).group ≡ true
  new_known nodes place run trigger at number h after low =
      both_true (lt-ltb run.state.admitted (admitted_at after run.node) (subst (λ (u : ℕ). run.state.admitted < admitted_at after u) (sym number) low)) (admits_declared run.state.tried trigger h)

  set_at_place : (nodes : List NodeRun) (place : ℕ) (run stepped : NodeRun) → slice_get nodes place ≡ Some run → admitted_at (set nodes place stepped) place ≡ stepped.state.admitted
  set_at_place [] place run stepped h = let never : None ≡ Some run = h in absurd cc
  set_at_place (x ∷ nodes) zero run stepped h = refl
  set_at_place (x ∷ nodes) (suc place) run stepped h = set_at_place nodes place run stepped h

  all_set : (P : NodeRun → Type 0) (xs : List NodeRun) (i : ℕ) (x : NodeRun) → AllByRecursion P xs → P x → AllByRecursion P (set xs i x)
  all_set P [] i x all h = tt
  all_set P (y ∷ xs) zero x all h = (h, all.1)
  all_set P (y ∷ xs) (suc i) x all h = (all.0, all_set P xs i x all.1 h)

  numbers_set : (nodes : List NodeRun) (place : ℕ) (run stepped : NodeRun) → slice_get nodes place ≡ Some run → stepped.node ≡ run.node → (i : ℕ) (x : NodeRun) → slice_get (set nodes place stepped) i ≡ Some x
      → (y : NodeRun) × (slice_get nodes i ≡ Some y) × (x.node ≡ y.node)
  numbers_set [] place run stepped h same i x at = let never : None ≡ Some x = at in absurd cc
  numbers_set (z ∷ nodes) zero run stepped h same zero x at = (z, refl, ap (λ (r : NodeRun). r.node) (sym (same_Some stepped x at)) ∙ same ∙ ap (λ (r : NodeRun). r.node) (sym (same_Some z run h)))
  numbers_set (z ∷ nodes) zero run stepped h same (suc i) x at = (x, at, refl)
  numbers_set (z ∷ nodes) (suc place) run stepped h same zero x at = (x, at, refl)
  numbers_set (z ∷ nodes) (suc place) run stepped h same (suc i) x at = numbers_set nodes place run stepped h same i x at

  node_step : (r : Run) (place : ℕ) (run stepped : NodeRun) → Spoken settings r → slice_get r.nodes place ≡ Some run → step_node settings r.heard run ≡ Some stepped → Spoken settings (record r { nodes = set r.nodes place stepped })
  node_step r place run stepped h at ready =
      let s = step_left r.heard run stepped run.left ready in
      let event = s.event in
      let after_state = after_event settings run.node run.state event in
      let admitted_is : stepped.state.admitted ≡ after_state.admitted = ap (λ (n : NodeRun). n.state.admitted) s.is in
      let grows = admits_more run.node run.state event in
      let more : (u : ℕ) → admitted_at r.nodes u ≤ admitted_at (set r.nodes place stepped) u = λ u. admitted_more r.nodes place u run stepped at (omega (arith, admitted_is, grows)) in
      let after = set r.nodes place stepped in
      let speaks = speaks_more r.nodes after more run (all_at (Speaks settings r.nodes) r.nodes place run h.nodes at) in
      let heard = all_each (λ (m : Message). is_known settings r.nodes m.told.group ≡ true) (λ (m : Message). is_known settings after m.told.group ≡ true) r.heard (λ m k. known_more r.nodes after more m.told.group k) h.heard in
      let number = h.numbers place run at in
      let asks = event_passes (is_known settings after) run r.heard s.step event (asks_known (is_known settings after) run.node [] r.heard tt heard) s.met in
      let there = set_at_place r.nodes place run stepped at in
      let p =
      after_passes (is_known settings after) settings run.node run.state (add settings run.node run.state) (says settings run.node run.state) event
      (λ client trigger is admitted.
      let one_more = (add settings run.node run.state).admitted (Triggered client trigger) in
      let counted : admitted_by settings run.state (Triggered client trigger) ≡ 1 = ap one_if admitted in
      let same : after_state.admitted ≡ (after_event settings run.node run.state (Took (Triggered client trigger))).admitted = ap (λ (event : AgentEvent). (after_event settings run.node run.state event).admitted) is in
      new_known r.nodes place run trigger at number admitted after (omega (arith, there, admitted_is, same, one_more, counted)))
      asks speaks.claims speaks.said
      in
      record {
        numbers = λ i x found. let y = numbers_set r.nodes place run stepped at (ap (λ (n : NodeRun). n.node) s.is) i x found in y.2 ∙ h.numbers i y.0 y.1;
        nodes =
            all_set (Speaks settings after) r.nodes place stepped (all_each (Speaks settings r.nodes) (Speaks settings after) r.nodes (speaks_more r.nodes after more) h.nodes)
            (subst (Speaks settings after) (sym s.is)
            (record {
              claims = p.claims;
              said = p.said;
              few = admits_few run.node (length run.sends) run.state event (event_client run r.heard s.step event s.met) speaks.few;
              shares = shares_event add settings run.node run.state speaks.shares event;
            }));
        heard = heard;
      }

  -- ---- all steps

  said_known : (nodes : List NodeRun) (heard : Messages) (node : NodeId) (m : Message) → AllByRecursion (Speaks settings nodes) nodes → message_of nodes heard node ≡ Some m → is_known settings nodes m.told.group ≡ true
  said_known nodes heard node m all h = either (slice_get nodes node.0) refl h
    where
      either : (o : Option NodeRun) → slice_get nodes node.0 ≡ o → option_and_then (λ (run : NodeRun). option_map (message node) (slice_get run.state.said (count_by (is_from node) heard))) o ≡ Some m → is_known settings nodes m.told.group ≡ true
      either None e h = let never : None ≡ Some m = h in absurd cc
      either (Some run) e h =
          let t = option_unmap (message node) (slice_get run.state.said (count_by (is_from node) heard)) m h in
          let speaks = all_at (Speaks settings nodes) nodes node.0 run all e in
          subst (λ (m : Message). is_known settings nodes m.told.group ≡ true) t.2
          (all_at (λ (told : Told). is_known settings nodes told.group ≡ true) run.state.said (count_by (is_from node) heard) t.0 speaks.said t.1)

  hear_step : (run next : Run) (left : List NodeId) → Spoken settings run → hear run left ≡ Some next → Spoken settings next
  hear_step run next [] h e = let never : None ≡ Some next = e in absurd cc
  hear_step run next (node ∷ rest) h e =
      let t = option_unmap (λ (m : Message). record run { left = rest; heard = run.heard ++ m ∷ [] }) (message_of run.nodes run.heard node) next e in
      subst (Spoken settings) t.2
      (record {
        numbers = h.numbers;
        nodes = h.nodes;
        heard = all_append (λ (m : Message). is_known settings run.nodes m.told.group ≡ true) run.heard (t.0 ∷ []) h.heard (said_known run.nodes run.heard node t.0 h.nodes t.1, tt);
      })

  performs_spoken : (run next : Run) → Spoken settings run → Performs settings run next → Spoken settings next
  performs_spoken run next h (inl s) = subst (Spoken settings) (sym s.result) (node_step run s.place s.node s.stepped h s.stands s.ready)
  performs_spoken run next h (inr heard) = hear_step run next run.left h heard

  leads_spoken : (run last : Run) → Spoken settings run → Leads settings run last → Spoken settings last
  leads_spoken run last h (Stays r) = h
  leads_spoken run last h (Goes r next l p leads) = leads_spoken next last (performs_spoken run next h p) leads

pub all_spoken : EventsAddFew → EventsAddThis → StepsSayWhatTheyTell → (W : PlainWorkload) (J : PlainJournal) (last : Run) → Leads W.settings (run_start W J) last → Spoken W.settings last
all_spoken add this says W J last leads =
    leads_spoken add this says W.settings (run_start W J) last
    (record { numbers = λ i run h. let is = numbered_from 0 W.settings.nodes i run h in omega (arith, is); nodes = starts (run_start W J).nodes (range_with_len 0 W.settings.nodes); heard = tt }) leads
  where
    numbered_from : (start count : ℕ) (i : ℕ) (run : NodeRun) → slice_get (map (node_start W J) (range_with_len start count)) i ≡ Some run → run.node ≡ start + i
    numbered_from start zero i run h = let never : None ≡ Some run = h in absurd cc
    numbered_from start (suc count) zero run h = let same = ap (λ (r : NodeRun). r.node) (same_Some (node_start W J start) run h) in omega (arith, same)
    numbered_from start (suc count) (suc i) run h = let rest = numbered_from (start + 1) count i run h in omega (arith, rest)

    none_few : (clients : ℕ) → 0 ≤ triggers_in clients []
    none_few clients = omega arith

    starts : (nodes : List NodeRun) (numbers : List ℕ) → AllByRecursion (Speaks W.settings nodes) (map (node_start W J) numbers)
    starts nodes [] = tt
    starts nodes (n ∷ numbers) = (record { claims = tt; said = tt; few = none_few (length (node_sends W J n)); shares = shares_start W.settings.triggers }, starts nodes numbers)
