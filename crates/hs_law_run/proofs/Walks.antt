-- A node performs its steps, one after another, while all else stands still; nodes can do so one after another. What a node is to
-- take is ready as long as there is enough of it, and an offer as long as the hand has a buffer.
use Rattle.std.proofs.Common.{◌≡◌, ℕ, zero, suc, ◌+◌, ◌<◌, ◌≤◌, Bool, true, false, List, [], ◌∷◌, ◌++◌, length, refl, sym, ap, subst, ◌∙◌, Option, Some, None, arith, map, option_map, slice_get, count_by, append_assoc, append-nil, eq-eqb, nat_eq, inl, inr}
use Rattle.hs_law_run.proofs.Prelude.{AllByRecursion, range_with_len, option_and_then, option_map_or, one_if, count_cons, count_append, get_mid, get_there, NodeId, Message, Messages, message, Step, AgentState, AgentEvent, Took, Gave, Chunk, Crumbed, Triggered, Asked, Turn, PlainSettings, Sent, ClientSends, StepsAreNoted, Queue, Chunks, Crumbs, Triggers, Asks, takes, taken, asks_to, is_from, NodeRun, Run, next_of, event_of, perform, step_of, step_node, hear, Leads, Stays, Goes, is_offer, supply, said_at, same_supply}
use Rattle.hs_records.specs.declared.journal.Step.TheVariants as steps
use Rattle.hs_law_agent.specs.Stepping.{Given, give_back}
use Rattle.hs_law_run.proofs.ExtendedLists.{set_at}

-- ---- walks

pub data Walks (settings : PlainSettings) (heard : Messages) : NodeRun → NodeRun → Type 0 where
  Stands : (run : NodeRun) → Walks settings heard run run
  Steps : (run next last : NodeRun) → step_node settings heard run ≡ Some next → Walks settings heard next last → Walks settings heard run last

pub leads_on : (settings : PlainSettings) (a b c : Run) → Leads settings a b → Leads settings b c → Leads settings a c
leads_on settings a b c (Stays r) leads = leads
leads_on settings a b c (Goes r next l p rest) leads = Goes a next c p (leads_on settings next b c rest leads)

-- the run with these nodes
abbrev pub with_nodes : Run → List NodeRun → Run
with_nodes run nodes = record run { nodes = nodes }

walk_leads : (settings : PlainSettings) (run : Run) (front behind : List NodeRun) (node last : NodeRun) → Walks settings run.heard node last
    → Leads settings (with_nodes run (front ++ node ∷ behind)) (with_nodes run (front ++ last ∷ behind))
walk_leads settings run front behind node last (Stands r) = Stays (with_nodes run (front ++ node ∷ behind))
walk_leads settings run front behind node last (Steps r next l h walks) =
    Goes (with_nodes run (front ++ node ∷ behind)) (with_nodes run (front ++ next ∷ behind)) (with_nodes run (front ++ last ∷ behind))
    (inl (record {
      place = length front;
      node = node;
      stepped = next;
      stands = get_mid front node behind;
      ready = h;
      result = ap (with_nodes run) (sym (set_at front node next behind));
    }))
    (walk_leads settings run front behind next last walks)

-- a node that comes somewhere, where it is so
pub record Walked (settings : PlainSettings) (heard : Messages) (Q : NodeRun → Type 0) (run : NodeRun) : Type 0 where
  pub last : NodeRun
  pub walks : Walks settings heard run last
  pub ends : Q last

pub record AllWalked (settings : PlainSettings) (run : Run) (Q : NodeRun → Type 0) (front nodes : List NodeRun) : Type 0 where
  pub lasts : List NodeRun
  pub leads : Leads settings (with_nodes run (front ++ nodes)) (with_nodes run (front ++ lasts))
  pub each : AllByRecursion Q lasts

pub walk_all : (settings : PlainSettings) (run : Run) (Q : NodeRun → Type 0) (front nodes : List NodeRun) → AllByRecursion (Walked settings run.heard Q) nodes → AllWalked settings run Q front nodes
walk_all settings run Q front [] all = record { lasts = []; leads = Stays (with_nodes run (front ++ [])); each = tt }
walk_all settings run Q front (node ∷ nodes) all =
    let w = all.0 in
    let rest = walk_all settings run Q (front ++ w.last ∷ []) nodes all.1 in
    let moved : (behind : List NodeRun) → (front ++ w.last ∷ []) ++ behind ≡ front ++ w.last ∷ behind = λ behind. append_assoc front (w.last ∷ []) behind in
    let later : Leads settings (with_nodes run (front ++ w.last ∷ nodes)) (with_nodes run (front ++ w.last ∷ rest.lasts)) =
    subst (λ (xs : List NodeRun). Leads settings (with_nodes run xs) (with_nodes run (front ++ w.last ∷ rest.lasts))) (moved nodes)
    (subst (λ (xs : List NodeRun). Leads settings (with_nodes run ((front ++ w.last ∷ []) ++ nodes)) (with_nodes run xs)) (moved rest.lasts) rest.leads)
    in
    record {
      lasts = w.last ∷ rest.lasts;
      leads =
          leads_on settings (with_nodes run (front ++ node ∷ nodes)) (with_nodes run (front ++ w.last ∷ nodes)) (with_nodes run (front ++ w.last ∷ rest.lasts))
          (walk_leads settings run front nodes node w.last w.walks) later;
      each = (w.ends, rest.each);
    }

-- ---- one step

record HasEvent (run : NodeRun) (heard : Messages) (step : Step) : Type 0 where
  event : AgentEvent
  met : event_of run heard step ≡ Some event

pub step_is : (settings : PlainSettings) (heard : Messages) (run : NodeRun) (step : Step) (rest : List Step) (event : AgentEvent) → run.left ≡ step ∷ rest → event_of run heard step ≡ Some event
    → step_node settings heard run ≡ Some (perform settings rest run event)
step_is settings heard run step rest event e met = ap (step_of settings heard run) e ∙ ap (option_map (perform settings rest run)) met

-- ---- what is taken

-- there is enough of each queue for all steps of the node
abbrev pub Enough : NodeRun → Messages → Type 0
Enough run heard = (queue : Queue) → taken queue (run.state.log ++ run.left) ≤ supply run heard queue

item_found : {A : Type 0} (f : A → AgentEvent) (queue : Queue) (pick : ClientSends → List (Sent A)) (run : NodeRun) (o : Option ClientSends)
    → taken queue run.state.log < option_map_or (λ (sends : ClientSends). length (pick sends)) o 0
    → (event : AgentEvent) × (option_and_then (λ (sends : ClientSends). option_map f (next_of queue run.state (pick sends))) o ≡ Some event)
item_found f queue pick run None h = absurd (omega (arith, h))
item_found {A = A} f queue pick run (Some sends) h =
    let i = get_there (pick sends) (taken queue run.state.log) h in (f i.0.item, ap (λ o. option_map f (option_map (λ (item : Sent A). item.item) o)) i.1)

module _ (run : NodeRun) (heard : Messages) (step : Step) (rest : List Step) (e : run.left ≡ step ∷ rest) (enough : Enough run heard) where
  next_there : (queue : Queue) → takes queue step ≡ true → taken queue run.state.log < supply run heard queue
  next_there queue own =
      let all = enough queue in
      let both = count_append (takes queue) run.state.log run.left in
      let left : taken queue run.left ≡ taken queue (step ∷ rest) = ap (taken queue) e in
      let first = count_cons (takes queue) step rest in
      let here = ap one_if own in
      omega (arith, all, both, left, first, here)

take_ready : (run : NodeRun) (heard : Messages) (step : Step) (rest : List Step) → run.left ≡ step ∷ rest → Enough run heard → is_offer step ≡ false → HasEvent run heard step
take_ready run heard (steps.Chunk client) rest e enough h =
    let i = item_found (λ sheet. Took (Chunk client sheet)) (Chunks client) (λ (s : ClientSends). s.chunks) run (slice_get run.sends client)
    (next_there run heard (steps.Chunk client) rest e enough (Chunks client) (eq-eqb client client refl)) in
    record { event = i.0; met = i.1 }
take_ready run heard (steps.Crumb client) rest e enough h =
    let i = item_found (λ crumb. Took (Crumbed client crumb)) (Crumbs client) (λ (s : ClientSends). s.crumbs) run (slice_get run.sends client)
    (next_there run heard (steps.Crumb client) rest e enough (Crumbs client) (eq-eqb client client refl)) in
    record { event = i.0; met = i.1 }
take_ready run heard (steps.Trigger client) rest e enough h =
    let i = item_found (λ trigger. Took (Triggered client trigger)) (Triggers client) (λ (s : ClientSends). s.triggers) run (slice_get run.sends client)
    (next_there run heard (steps.Trigger client) rest e enough (Triggers client) (eq-eqb client client refl)) in
    record { event = i.0; met = i.1 }
take_ready run heard steps.Ask rest e enough h =
    let i = get_there (asks_to run.node heard) (taken Asks run.state.log) (next_there run heard steps.Ask rest e enough Asks refl) in
    record { event = Took (Asked i.0); met = ap (option_map (λ ask. Took (Asked ask))) i.1 }
take_ready run heard steps.Turn rest e enough h = record { event = Took Turn; met = refl }
take_ready run heard (steps.Given stamp) rest e enough h = let no : true ≡ false = h in absurd cc
take_ready run heard (steps.Missed stamp) rest e enough h = let no : true ≡ false = h in absurd cc
take_ready run heard steps.Unread rest e enough h = let no : true ≡ false = h in absurd cc

-- no step is left
abbrev pub IsThrough : NodeRun → Type 0
IsThrough run = run.left ≡ []

module _ (noted : StepsAreNoted) (settings : PlainSettings) (heard : Messages) where
  pub takes_walk : (left : List Step) (run : NodeRun) → run.left ≡ left → AllByRecursion (λ (step : Step). is_offer step ≡ false) left → Enough run heard → Walked settings heard IsThrough run
  takes_walk [] run e all enough = record { last = run; walks = Stands run; ends = e }
  takes_walk (step ∷ rest) run e all enough =
      let h = take_ready run heard step rest e enough all.0 in
      let next = perform settings rest run h.event in
      let stepped = step_is settings heard run step rest h.event e h.met in
      let n = noted settings heard run next stepped in
      let w = takes_walk rest next refl all.1
      (λ queue.
      let all = enough queue in
      let log : taken queue (next.state.log ++ next.left) ≡ taken queue (run.state.log ++ run.left) = ap (taken queue) n.log in
      let there = same_supply next run heard queue refl refl in
      omega (arith, all, log, there)) in
      record { last = w.last; walks = Steps run next w.last stepped w.walks; ends = w.ends }

  -- what each step keeps is kept
  pub takes_keep : (P : NodeRun → Type 0)
      → ((run : NodeRun) (step : Step) (rest : List Step) (event : AgentEvent) → run.left ≡ step ∷ rest → is_offer step ≡ false → event_of run heard step ≡ Some event → P run → P (perform settings rest run event))
      → (left : List Step) (run : NodeRun) → run.left ≡ left → AllByRecursion (λ (step : Step). is_offer step ≡ false) left → Enough run heard → P run → Walked settings heard (λ (r : NodeRun). IsThrough r × P r) run
  takes_keep P keeps [] run e all enough p = record { last = run; walks = Stands run; ends = (e, p) }
  takes_keep P keeps (step ∷ rest) run e all enough p =
      let h = take_ready run heard step rest e enough all.0 in
      let next = perform settings rest run h.event in
      let stepped = step_is settings heard run step rest h.event e h.met in
      let n = noted settings heard run next stepped in
      let w = takes_keep P keeps rest next refl all.1
      (λ queue.
      let all = enough queue in
      let log : taken queue (next.state.log ++ next.left) ≡ taken queue (run.state.log ++ run.left) = ap (taken queue) n.log in
      let there = same_supply next run heard queue refl refl in
      omega (arith, all, log, there))
      (keeps run step rest h.event e all.0 h.met p) in
      record { last = w.last; walks = Steps run next w.last stepped w.walks; ends = w.ends }

  -- ---- what is given

  -- no step is left, and no buffer to give
  pub record IsEmptied (run : NodeRun) : Type 0 where
    pub through : run.left ≡ []
    pub hand : run.state.hand ≡ []

  gone_one : (stamp : ℕ) (hand : List ℕ) (state : AgentState) → 0 < length hand → suc (length (give_back stamp hand state).hand) ≡ length hand
  gone_one stamp [] state h = absurd (omega (arith, h))
  gone_one stamp (place ∷ hand) state h = refl

  empty_of : (hand : List ℕ) → length hand ≡ 0 → hand ≡ []
  empty_of [] h = refl
  empty_of (place ∷ hand) h = absurd (omega (arith, h))

  pub gives_walk : (stamps : List ℕ) (run : NodeRun) → run.left ≡ map (λ (stamp : ℕ). steps.Given stamp) stamps → length run.state.hand ≡ length stamps → Walked settings heard IsEmptied run
  gives_walk [] run e same = record { last = run; walks = Stands run; ends = record { through = e; hand = empty_of run.state.hand same } }
  gives_walk (stamp ∷ stamps) run e same =
      let some : 0 < length run.state.hand = omega (arith, same) in
      let first = get_there run.state.hand 0 some in
      let event = Gave (Given stamp) in
      let next = perform settings (map (λ (stamp : ℕ). steps.Given stamp) stamps) run event in
      let stepped = step_is settings heard run (steps.Given stamp) (map (λ (stamp : ℕ). steps.Given stamp) stamps) event e (ap (option_map (λ _. event)) first.1) in
      let gone = gone_one stamp run.state.hand run.state some in
      let w = gives_walk stamps next refl (omega (arith, same, gone)) in
      record { last = w.last; walks = Steps run next w.last stepped w.walks; ends = w.ends }

  -- What each give keeps is kept, where the stamps count on from a number that each give raises.
  module _ (P : ℕ → NodeRun → Type 0)
      (keeps : (stamp place : ℕ) (hand : List ℕ) (run : NodeRun) (rest : List Step) → run.state.hand ≡ place ∷ hand → P stamp run → P (stamp + 1) (perform settings rest run (Gave (Given stamp))))
    where
      abbrev given_from : ℕ → ℕ → List Step
      given_from stamp count = map (λ (stamp : ℕ). steps.Given stamp) (range_with_len stamp count)

      abbrev Emptied : ℕ → NodeRun → Type 0
      Emptied stamp r = IsEmptied r × P stamp r

      abbrev Empties : ℕ → ℕ → Type 0
      Empties count stamp = (run : NodeRun) → run.left ≡ given_from stamp count → length run.state.hand ≡ count → P stamp run → Walked settings heard (Emptied (stamp + count)) run

      one_more : (count stamp : ℕ) → Empties count (stamp + 1) → (run : NodeRun) → run.left ≡ given_from stamp (suc count) → length run.state.hand ≡ suc count → P stamp run → (hand : List ℕ) → run.state.hand ≡ hand
          → Walked settings heard (Emptied (stamp + suc count)) run
      one_more count stamp on run e same p [] h = let none = ap length h in absurd (omega (arith, same, none))
      one_more count stamp on run e same p (place ∷ hand) h =
          let event = Gave (Given stamp) in
          let rest = given_from (stamp + 1) count in
          let next = perform settings rest run event in
          let stepped = step_is settings heard run (steps.Given stamp) rest event e (ap (λ (hand : List ℕ). option_map (λ _. event) (slice_get hand 0)) h) in
          let gone : next.state.hand ≡ hand = ap (λ (hand : List ℕ). (give_back stamp hand run.state).hand) h in
          let few = ap length gone in
          let all = ap length h in
          let w = on next refl (omega (arith, few, all, same)) (keeps stamp place hand run rest h p) in
          let there : stamp + 1 + count ≡ stamp + suc count = omega arith in
          record { last = w.last; walks = Steps run next w.last stepped w.walks; ends = (w.ends.0, subst (λ (n : ℕ). P n w.last) there w.ends.1) }

      pub gives_keep : (count stamp : ℕ) → Empties count stamp
      gives_keep zero stamp run e same p =
          let here : stamp ≡ stamp + 0 = omega arith in
          record { last = run; walks = Stands run; ends = (record { through = e; hand = empty_of run.state.hand same }, subst (λ (n : ℕ). P n run) here p) }
      gives_keep (suc count) stamp run e same p = one_more count stamp (gives_keep count (stamp + 1)) run e same p run.state.hand refl

-- ---- what is heard

abbrev pub is_node : NodeId → NodeId → Bool
is_node node other = nat_eq other.0 node.0

-- enough was said for all messages that are to be heard
abbrev pub EnoughSaid : Run → Type 0
EnoughSaid run = (node : NodeId) → count_by (is_from node) run.heard + count_by (is_node node) run.left ≤ said_at run.nodes node

said_found : (heard : Messages) (node : NodeId) (o : Option NodeRun) → count_by (is_from node) heard < option_map_or (λ (run : NodeRun). length run.state.said) o 0
    → (m : Message) × (option_and_then (λ (run : NodeRun). option_map (message node) (slice_get run.state.said (count_by (is_from node) heard))) o ≡ Some m) × (m.node ≡ node)
said_found heard node None h = absurd (omega (arith, h))
said_found heard node (Some run) h =
    let told = get_there run.state.said (count_by (is_from node) heard) h in (message node told.0, ap (option_map (message node)) told.1, refl)

pub record AllHeard (settings : PlainSettings) (run : Run) : Type 0 where
  pub last : Run
  pub leads : Leads settings run last
  pub nodes : last.nodes ≡ run.nodes
  pub left : last.left ≡ []
  -- a message of each node in turn
  pub more : List Message
  pub heard : last.heard ≡ run.heard ++ more
  pub senders : (node : NodeId) → count_by (is_from node) more ≡ count_by (is_node node) run.left

pub hears_all : (settings : PlainSettings) (left : List NodeId) (run : Run) → run.left ≡ left → EnoughSaid run → AllHeard settings run
hears_all settings [] run e enough =
    record {
      last = run;
      leads = Stays run;
      nodes = refl;
      left = e;
      more = [];
      heard = sym (append-nil run.heard);
      senders = λ v. sym (ap (count_by (is_node v)) e);
    }
hears_all settings (node ∷ rest) run e enough =
    let all = enough node in
    let left : count_by (is_node node) run.left ≡ count_by (is_node node) (node ∷ rest) = ap (count_by (is_node node)) e in
    let first = count_cons (is_node node) node rest in
    let here : one_if (is_node node node) ≡ 1 = ap one_if (eq-eqb node.0 node.0 refl) in
    let m = said_found run.heard node (slice_get run.nodes node.0) (omega (arith, all, left, first, here)) in
    let next : Run = record run { left = rest; heard = run.heard ++ m.0 ∷ [] } in
    let heard : hear run run.left ≡ Some next = ap (hear run) e ∙ ap (option_map (λ (m : Message). record run { left = rest; heard = run.heard ++ m ∷ [] })) m.1 in
    let w = hears_all settings rest next refl
    (λ v.
    let all = enough v in
    let left : count_by (is_node v) run.left ≡ count_by (is_node v) (node ∷ rest) = ap (count_by (is_node v)) e in
    let first = count_cons (is_node v) node rest in
    let more = count_append (is_from v) run.heard (m.0 ∷ []) in
    let last = count_cons (is_from v) m.0 [] in
    let from : one_if (is_from v m.0) ≡ one_if (is_node v node) = ap (λ (n : NodeId). one_if (is_node v n)) m.2 in
    omega (arith, all, left, first, more, last, from)) in
    record {
      last = w.last;
      leads = Goes run next w.last (inr heard) w.leads;
      nodes = w.nodes;
      left = w.left;
      more = m.0 ∷ w.more;
      heard = w.heard ∙ append_assoc run.heard (m.0 ∷ []) w.more;
      senders = λ v.
          let all = ap (count_by (is_node v)) e in
          let left = count_cons (is_node v) node rest in
          let here = count_cons (is_from v) m.0 w.more in
          let later = w.senders v in
          let from : one_if (is_from v m.0) ≡ one_if (is_node v node) = ap (λ (n : NodeId). one_if (is_node v n)) m.2 in
          omega (arith, all, left, here, later, from);
    }
