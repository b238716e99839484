-- Each group that is spoken of is one that a node of the run admitted, and no node admits more than there are operations. So a node is asked
-- only so often.
use Rattle.std.proofs.Common.{◌≡◌, ℕ, zero, suc, ◌+◌, ◌<◌, ◌≤◌, Bool, true, false, ◌&&◌, cond, List, [], ◌∷◌, ◌++◌, length, refl, sym, ap, subst, ◌∙◌, Option, Some, None, arith, map, filter, append_assoc, eq-eqb, ltb, lt-ltb, ltb-true, slice_get}
use Rattle.hs_run.proofs.Prelude.{AllByRecursion, append-nil, get_there, Ask, Crumb, Told, Trigger, Messages, MAX_OPERATIONS, after, AgentEvent, asks_in, PlainWorkload, heard_of, asks_for, NodeWork, PlainCoordinatorActor, PlainClosedAgent, RunState, Came, NodeBetweenPasses, AllSents, ClosingAt}
use Rattle.std.proofs.lemmas.Grind.{flat_map-append}
use Rattle.std.proofs.lemmas.List.Sums.{sum_by-append}
use Rattle.std.proofs.lemmas.Bool.{and_parts}
use Rattle.std.specs.Cmp.Derive.{both_true}
use Rattle.std.specs.Option.{option_and_then, option_to_list}
use Rattle.hs_base.proofs.Alls.{all_append, all_find, all_front}
use Rattle.hs_base.proofs.Counts.{count_cons, one_few}
use Rattle.hs_base.specs.Ids.{same_trace}
use Rattle.hs_base.specs.declared.told.Group.{Group}
use Rattle.hs_coord.specs.Messages.{Message}
use Rattle.hs_law_agent.specs.Laws.{AllPass, IsPassed, claimed_by, EventsAddFew, EventsGoOn, StepsSayWhatTheyTell}
use Rattle.hs_law_agent.specs.Messages.{has_crumb, late_of}
use Rattle.hs_law_agent.specs.State.{AgentState, ClaimedTrace, claim_of, start}
use Rattle.hs_law_agent.specs.Stepping.{Input, Chunk, Crumbed, Triggered, Asked, Turn, Took, Gave, admits, after_from, after_event, group_of, told_by}
use Rattle.hs_law_journal.specs.Doings.{ask_in}
use Rattle.hs_law_journal.specs.Following.{asks_behind, asks_to, is_from}
use Rattle.hs_law_journal.proofs.Groups.{asks_known}
use Rattle.hs_law_journal.proofs.Hearing.{heard_both}
use Rattle.hs_law_journal.proofs.Steps.{asks_more}
use Rattle.hs_law_run.proofs.FewAsks.{IsNumbered}
use Rattle.hs_run_actors.specs.Coordinators.{IsHearable}
use Rattle.hs_run_actors.specs.Work.{is_triggered, triggered}
use Rattle.hs_run.proofs.Joined.{post, heard_by, post_last, heard_last, heard_low, heard_grows, all_posts, all_steps}
use Rattle.hs_run.proofs.Spanning.{heard_count, asked_before, said_before}
use Rattle.hs_run.specs.Spans.{IsNodeBetweenPasses, IsStep}

-- ---- lists

-- of two fronts of a list the shorter one has what the longer one has
fronts_pass : {X : Type 0} (P : X → Type 0) (xs rest ys others : List X) → xs ++ rest ≡ ys ++ others → length xs ≤ length ys → AllByRecursion P ys → AllByRecursion P xs
fronts_pass P [] rest ys others e few all = tt
fronts_pass P (x ∷ xs) rest [] others e few all = absurd (omega (arith, few))
fronts_pass P (x ∷ xs) rest (y ∷ ys) others e few all =
    let same : y ≡ x = cc in let later : xs ++ rest ≡ ys ++ others = cc in (subst P same all.0, fronts_pass P xs rest ys others later (omega (arith, few)) all.1)

record Front {X : Type 0} (xs ys : List X) : Type 0 where
  more : List X
  is : ys ≡ xs ++ more

-- a list that grows pass by pass
grown_front : {X : Type 0} (list : ℕ → List X) (passes : ℕ) → ((k : ℕ) → k < passes → Front (list k) (list (suc k))) → (d k : ℕ) → k + d ≡ passes → Front (list k) (list passes)
grown_front list passes grows zero k is = let same : passes ≡ k = omega (arith, is) in record { more = []; is = ap list same ∙ sym (append-nil (list k)) }
grown_front list passes grows (suc d) k is =
    let here = grows k (omega (arith, is)) in
    let rest = grown_front list passes grows d (suc k) (omega (arith, is)) in
    record { more = here.more ++ rest.more; is = rest.is ∙ ap (λ front. front ++ rest.more) here.is ∙ append_assoc (list k) here.more rest.more }

-- ---- an agent

module _ (few : EventsAddFew) (says : StepsSayWhatTheyTell) (W : PlainWorkload) (limit : ℕ) where
  -- whether a node of the workload may have admitted the group
  abbrev pub test : Group → Bool
  test group = ltb group.id.node W.settings.nodes && ltb group.id.number limit

  abbrev Known : Told → Type 0
  Known told = test told.group ≡ true

  abbrev AskPasses : AgentEvent → Type 0
  AskPasses (Took (Chunk client sheet)) = Unit {0}
  AskPasses (Took (Crumbed client crumb)) = Unit {0}
  AskPasses (Took (Triggered client trigger)) = Unit {0}
  AskPasses (Took (Asked ask)) = test ask.group ≡ true
  AskPasses (Took Turn) = Unit {0}
  AskPasses (Gave answer) = Unit {0}

  asks_pass : (events : List AgentEvent) → AllByRecursion (λ (ask : Ask). test ask.group ≡ true) (asks_in events) → AllByRecursion AskPasses events
  asks_pass [] all = tt
  asks_pass (Took (Chunk client sheet) ∷ events) all = (tt, asks_pass events all)
  asks_pass (Took (Crumbed client crumb) ∷ events) all = (tt, asks_pass events all)
  asks_pass (Took (Triggered client trigger) ∷ events) all = (tt, asks_pass events all)
  asks_pass (Took (Asked ask) ∷ events) all = (all.0, asks_pass events all.1)
  asks_pass (Took Turn ∷ events) all = (tt, asks_pass events all)
  asks_pass (Gave answer ∷ events) all = (tt, asks_pass events all)

  module _ (node : ℕ) (low : node < W.settings.nodes) where
    abbrev AllKnown : Option Told → Type 0
    AllKnown told = AllByRecursion Known (option_to_list told)

    claim_told : (crumb : Crumb) (state : AgentState) (o : Option ClaimedTrace) → ((claim : ClaimedTrace) → o ≡ Some claim → test claim.group ≡ true)
        → AllKnown (option_and_then (λ (claim : ClaimedTrace). cond (has_crumb state.crumbs crumb) None (Some (late_of claim crumb))) o)
    claim_told crumb state None each = tt
    claim_told crumb state (Some claim) each = by_test (has_crumb state.crumbs crumb)
      where
        by_test : (b : Bool) → AllKnown (cond b None (Some (late_of claim crumb)))
        by_test true = tt
        by_test false = (each claim refl, tt)

    fired_told : (b : Bool) (told : Told) → Known told → AllKnown (cond b (Some told) None)
    fired_told true told is = (is, tt)
    fired_told false told is = tt

    fired_passed : (b : Bool) (group : Group) → test group ≡ true → IsPassed test (cond b (Some group) None)
    fired_passed true group is = is
    fired_passed false group is = tt

    own_group : (state : AgentState) (trigger : Trigger) → state.admitted < limit → test (group_of node state trigger).group ≡ true
    own_group state trigger less = both_true (lt-ltb node W.settings.nodes low) (lt-ltb state.admitted limit less)

    -- what an input adds
    record Adds (state : AgentState) (input : Input) (events : List AgentEvent) : Type 0 where
      claim : IsPassed test (claimed_by W.settings node state input)
      told : AllKnown (told_by W.settings node state input)
      room : (after_event W.settings node state (Took input)).admitted + triggered events ≤ limit

    adds : (state : AgentState) (input : Input) (events : List AgentEvent) → AllPass test state.claims → AskPasses (Took input) → state.admitted + triggered (Took input ∷ events) ≤ limit → Adds state input events
    adds state (Chunk client sheet) events claims ask most =
        let more = (few W.settings node state).admitted (Chunk client sheet) in let count = count_cons is_triggered (Took (Chunk client sheet)) events in record { claim = tt; told = tt; room = omega (arith, more, count, most) }
    adds state (Crumbed client crumb) events claims ask most =
        let more = (few W.settings node state).admitted (Crumbed client crumb) in
        let count = count_cons is_triggered (Took (Crumbed client crumb)) events in
        record {
          claim = tt;
          told = claim_told crumb state (claim_of state.claims crumb.trace) (λ claim e. all_find (λ (c : ClaimedTrace). test c.group ≡ true) (λ (c : ClaimedTrace). same_trace crumb.trace c.trace) state.claims claim claims e);
          room = omega (arith, more, count, most);
        }
    adds state (Triggered client trigger) events claims ask most =
        let more = (few W.settings node state).admitted (Triggered client trigger) in
        let count = count_cons is_triggered (Took (Triggered client trigger)) events in
        let own = own_group state trigger (omega (arith, count, most)) in
        let once = one_few (admits W.settings state.tried trigger) in
        record {
          claim = fired_passed (admits W.settings state.tried trigger) (group_of node state trigger).group own;
          told = fired_told (admits W.settings state.tried trigger) _ own;
          room = omega (arith, more, count, once, most);
        }
    adds state (Asked asked) events claims ask most =
        let more = (few W.settings node state).admitted (Asked asked) in let count = count_cons is_triggered (Took (Asked asked)) events in record { claim = ask; told = (ask, tt); room = omega (arith, more, count, most) }
    adds state Turn events claims ask most = let more = (few W.settings node state).admitted Turn in let count = count_cons is_triggered (Took Turn) events in record { claim = tt; told = tt; room = omega (arith, more, count, most) }

    said_from : (state : AgentState) (events : List AgentEvent) → AllByRecursion AskPasses events → state.admitted + triggered events ≤ limit → AllPass test state.claims → AllByRecursion Known state.said
        → AllByRecursion Known (after_from W.settings node state events).said
    said_from state [] asks most claims said = said
    said_from state (Took input ∷ events) asks most claims said =
        let a = adds state input events claims asks.0 most in
        said_from (after_event W.settings node state (Took input)) events asks.1 a.room ((few W.settings node state).claims test input claims a.claim)
        (subst (λ (l : List Told). AllByRecursion Known l) (sym ((says W.settings node state).inputs input)) (all_append Known state.said (option_to_list (told_by W.settings node state input)) said a.told))
    said_from state (Gave answer ∷ events) asks most claims said =
        let same = (few W.settings node state).counted answer in
        let count = count_cons is_triggered (Gave answer) events in
        said_from (after_event W.settings node state (Gave answer)) events asks.1 (omega (arith, same, count, most)) (subst (λ (l : List ClaimedTrace). AllPass test l) (sym ((few W.settings node state).kept answer)) claims)
        (subst (λ (l : List Told). AllByRecursion Known l) (sym ((says W.settings node state).answers answer)) said)

    all_said : (events : List AgentEvent) → AllByRecursion AskPasses events → triggered events ≤ limit → AllByRecursion Known (after W.settings node events).said
    all_said events asks most = said_from (start W.settings) events asks (omega (arith, most)) tt tt

    -- what was said stays
    said_more : (state : AgentState) (events : List AgentEvent) → Front state.said (after_from W.settings node state events).said
    said_more state [] = record { more = []; is = sym (append-nil state.said) }
    said_more state (Took input ∷ events) =
        let rest = said_more (after_event W.settings node state (Took input)) events in
        let told = option_to_list (told_by W.settings node state input) in
        record { more = told ++ rest.more; is = rest.is ∙ ap (λ front. front ++ rest.more) ((says W.settings node state).inputs input) ∙ append_assoc state.said told rest.more }
    said_more state (Gave answer ∷ events) =
        let rest = said_more (after_event W.settings node state (Gave answer)) events in record { more = rest.more; is = rest.is ∙ ap (λ front. front ++ rest.more) ((says W.settings node state).answers answer) }

  -- ---- messages of all nodes

  abbrev IsKnown : Message → Type 0
  IsKnown m = test m.told.group ≡ true

  first_known : (m : Message) (rest : Messages) (b : Bool) → b ≡ true → AllByRecursion Known (map (λ (m : Message). m.told) (cond b (m ∷ rest) rest)) → IsKnown m
  first_known m rest true e all = all.0
  first_known m rest false e all = let no : false ≡ true = e in absurd cc

  rest_known : (m : Message) (rest : Messages) (b : Bool) → AllByRecursion Known (map (λ (m : Message). m.told) (cond b (m ∷ rest) rest)) → AllByRecursion Known (map (λ (m : Message). m.told) rest)
  rest_known m rest true all = all.1
  rest_known m rest false all = all

  all_from : (ms : Messages) → AllByRecursion (λ (m : Message). m.node.0 < W.settings.nodes) ms → ((node : ℕ) → node < W.settings.nodes → AllByRecursion Known (heard_of node ms)) → AllByRecursion IsKnown ms
  all_from [] from each = tt
  all_from (m ∷ ms) from each = (
    first_known m (filter (is_from (record { 0 = m.node.0 })) ms) (is_from (record { 0 = m.node.0 }) m) (eq-eqb m.node.0 m.node.0 refl) (each m.node.0 from.0),
    all_from ms from.1 (λ node low. rest_known m (filter (is_from (record { 0 = node })) ms) (is_from (record { 0 = node }) m) (each node low)),
  )

-- ---- the run

module _ (few : EventsAddFew) (says : StepsSayWhatTheyTell) (on : EventsGoOn) (W : PlainWorkload) (rounds : ℕ) (m : RunState) (came : Came W rounds m) (sents : AllSents) (nodes : List PlainClosedAgent) (c : PlainCoordinatorActor)
    (at : ClosingAt W rounds m sents nodes c)
  where
    abbrev hb : ℕ → Messages
    hb = heard_by W at.stand.valid rounds m came at.passes at.posts at.heard at.closing

    abbrev ps : ℕ → ℕ → NodeBetweenPasses
    ps = post W at.stand.valid rounds m came at.passes at.posts at.heard at.closing

    abbrev ev : ℕ → ℕ → List AgentEvent
    ev node k = (ps node k).work.events

    abbrev IsSpoken : Message → Type 0
    IsSpoken m = test few says W MAX_OPERATIONS m.told.group ≡ true

    heard_front : (k : ℕ) → k ≤ at.passes → (d : ℕ) → k + d ≡ at.passes → Front (hb k) at.heard
    heard_front k low d is =
        let whole = grown_front hb at.passes (λ k few. record { more = _; is = heard_grows W at.stand.valid rounds m came at.passes at.posts at.heard at.closing k few }) d k is in
        record { more = whole.more; is = sym (heard_last W at.stand.valid rounds m came at.passes at.posts at.heard at.closing) ∙ whole.is }

    -- one node
    module _ (node : ℕ) (low : node < W.settings.nodes) where
      posts : (k : ℕ) → k ≤ at.passes → IsNodeBetweenPasses W node (hb k) (ps node k)
      posts = all_posts W at.stand.valid rounds m came at.passes at.posts at.heard at.closing node low

      steps : (k : ℕ) → k < at.passes → IsStep W node (hb k) (hb (suc k)) (ps node k) (ps node (suc k))
      steps = all_steps W at.stand.valid rounds m came at.passes at.posts at.heard at.closing node low

      abbrev work : NodeWork
      work = (at.posts node).work

      events_front : (d k : ℕ) → k + d ≡ at.passes → Front (ev node k) work.events
      events_front d k is =
          let whole = grown_front (ev node) at.passes (λ k few. record { more = (steps k few).pass; is = (steps k few).events }) d k is in
          record { more = whole.more; is = ap (λ (p : NodeBetweenPasses). p.work.events) (sym (post_last W at.stand.valid rounds m came at.passes at.posts at.heard at.closing node low)) ∙ whole.is }

      shut_there : (shut : PlainClosedAgent) × (slice_get nodes node ≡ Some shut)
      shut_there = let count = at.stand.count in get_there nodes node (omega (arith, low, count))

      -- what the node is asked behind a pass, where all that was heard before it is known
      asks_known_behind : (d k : ℕ) → suc k + d ≡ at.passes → AllByRecursion IsSpoken (hb k) → AllByRecursion (λ (ask : Ask). test few says W MAX_OPERATIONS ask.group ≡ true) (asks_in (ev node (suc k)))
      asks_known_behind d k is known =
          let stood = (at.stand.stands.each node shut_there.0 shut_there.1).is.stands in
          let front = events_front d (suc k) is in
          let heard = heard_front k (omega (arith, is)) (suc d) (omega (arith, is)) in
          let own = ap asks_in front.is ∙ flat_map-append ask_in (ev node (suc k)) front.more in
          let rest = shut_there.0.asks ++ asks_for node c.asks in
          let taken = asks_in (ev node (suc k)) in
          let whole : taken ++ (asks_in front.more ++ rest) ≡ asks_to node (hb k) ++ asks_behind node ([] ++ hb k) heard.more =
          sym (append_assoc taken (asks_in front.more) rest) ∙ ap (λ all. all ++ rest) (sym own) ∙ sym (append_assoc (asks_in work.events) shut_there.0.asks (asks_for node c.asks))
          ∙ ap (λ all. all ++ asks_for node c.asks) stood.asks_are ∙ sym (at.stand.coordinates.asks_are node low) ∙ ap (asks_to node) heard.is ∙ asks_more node [] (hb k) heard.more
          in
          fronts_pass (λ (ask : Ask). test few says W MAX_OPERATIONS ask.group ≡ true) taken (asks_in front.more ++ rest) (asks_to node (hb k)) (asks_behind node ([] ++ hb k) heard.more) whole
          (asked_before W node at.passes hb (ps node) posts steps k (omega (arith, is))) (asks_known (test few says W MAX_OPERATIONS) node [] (hb k) tt known)

      said_known : (d k : ℕ) → suc k + d ≡ at.passes → AllByRecursion IsSpoken (hb k) → AllByRecursion (λ (told : Told). test few says W MAX_OPERATIONS told.group ≡ true) (after W.settings node (ev node (suc k))).said
      said_known d k is known =
          let front = events_front d (suc k) is in
          let most = (at.stand.few node work shut_there.0 low (at.stand.stands.each node shut_there.0 shut_there.1)).triggers in
          let count = ap triggered front.is ∙ sum_by-append (λ (e : AgentEvent). cond (is_triggered e) 1 0) (ev node (suc k)) front.more in
          all_said few says W MAX_OPERATIONS node low (ev node (suc k)) (asks_pass few says W MAX_OPERATIONS (ev node (suc k)) (asks_known_behind d k is known)) (omega (arith, most, count))

      heard_known : (d k : ℕ) → suc k + d ≡ at.passes → AllByRecursion IsSpoken (hb k) → AllByRecursion (λ (told : Told). test few says W MAX_OPERATIONS told.group ≡ true) (heard_of node (hb (suc k)))
      heard_known d k is known =
          let stood = at.stand.stands.each node shut_there.0 shut_there.1 in
          let works = stood.is.stands.works in
          let told = get_there c.told node (let count = at.stand.coordinates.count in omega (arith, count, low)) in
          let front = events_front d (suc k) is in
          let heard = heard_front (suc k) (omega (arith, is)) d is in
          let here = heard_of node (hb (suc k)) in
          let last : (after W.settings work.node work.events).said ≡ (after W.settings node work.events).said = ap (λ n. (after W.settings n work.events).said) stood.node_is in
          let later = said_more few says W MAX_OPERATIONS node low (after W.settings node (ev node (suc k))) front.more in
          let rest = told.0 ++ shut_there.0.said in
          let whole : here ++ (heard_of node heard.more ++ rest) ≡ (after W.settings node (ev node (suc k))).said ++ later.more =
          sym (append_assoc here (heard_of node heard.more) rest) ∙ ap (λ all. all ++ rest) (sym (ap (heard_of node) heard.is ∙ heard_both (record { 0 = node }) (hb (suc k)) heard.more)) ∙ sym (append_assoc (heard_of node at.heard) told.0 shut_there.0.said)
          ∙ ap (λ all. all ++ shut_there.0.said) (at.stand.coordinates.waits node told.0 told.1) ∙ works.said_is ∙ last
          ∙ ap (λ (s : AgentState). s.said) (ap (after W.settings node) front.is ∙ on W.settings node (ev node (suc k)) front.more) ∙ later.is
          in
          let count = heard_count node (hb (suc k)) in
          let few_heard = said_before W node at.passes hb (ps node) posts steps (suc k) (omega (arith, is)) in
          fronts_pass (λ (told : Told). test few says W MAX_OPERATIONS told.group ≡ true) here (heard_of node heard.more ++ rest) (after W.settings node (ev node (suc k))).said later.more whole (omega (arith, count, few_heard)) (said_known d k is known)

    all_hearable : AllByRecursion (λ (m : Message). m.node.0 < W.settings.nodes) at.heard
    all_hearable = from at.heard at.stand.coordinates.hearable
      where
        from : (ms : Messages) → AllByRecursion (IsHearable W) ms → AllByRecursion (λ (m : Message). m.node.0 < W.settings.nodes) ms
        from [] all = tt
        from (m ∷ ms) all = (all.0.from, from ms all.1)

    known_by : (k d : ℕ) → k + d ≡ at.passes → AllByRecursion IsSpoken (hb k)
    known_by zero d is = subst (AllByRecursion IsSpoken) (sym (heard_low W at.stand.valid rounds m came at.passes at.posts at.heard at.closing 0 (omega arith) ∙ came.begun.heard)) tt
    known_by (suc k) d is =
        let before = known_by k (suc d) (omega (arith, is)) in
        let front = heard_front (suc k) (omega (arith, is)) d is in
        all_from few says W MAX_OPERATIONS (hb (suc k)) (all_front (λ (m : Message). m.node.0 < W.settings.nodes) (hb (suc k)) front.more (subst (AllByRecursion (λ (m : Message). m.node.0 < W.settings.nodes)) front.is all_hearable))
        (λ node low. heard_known node low d k is before)

    pub all_numbered : (v : ℕ) → AllByRecursion (IsNumbered (λ _. MAX_OPERATIONS) W.settings.nodes v) at.heard
    all_numbered v = from at.heard (subst (AllByRecursion IsSpoken) (heard_last W at.stand.valid rounds m came at.passes at.posts at.heard at.closing) (known_by at.passes 0 (omega arith)))
      where
        from : (ms : Messages) → AllByRecursion IsSpoken ms → AllByRecursion (IsNumbered (λ _. MAX_OPERATIONS) W.settings.nodes v) ms
        from [] all = tt
        from (m ∷ ms) all =
            let parts = and_parts (ltb m.told.group.id.node W.settings.nodes) (ltb m.told.group.id.number MAX_OPERATIONS) all.0 in
            ((ltb-true m.told.group.id.node W.settings.nodes parts.0, ltb-true m.told.group.id.number MAX_OPERATIONS parts.1), from ms all.1)
