-- What waits in a queue is taken item by item.
use Rattle.std.proofs.Common.{◌≡◌, ℕ, zero, suc, ◌+◌, ◌-◌, ◌≤◌, min, Bool, true, false, List, [], ◌∷◌, ◌++◌, length, replicate, refl, sym, ap, subst, ◌∙◌, arith, append_assoc, append-nil, eq-eqb}
use Rattle.hs_replay.proofs.Prelude.{ne_eqb, flat_map, range_with_len, option_and_then, one_if, MAX_TAKEN, Step, NodeRun, takes, taken, Machine, heard_in, after_steps, StepByStep, PlainWorkload, Queue, PlainReplayNode, IsAmid, IsDrained, WentBy, TookOne, TookSome, TakesNext, takes_by, takes_first, step_from, IsQueueOf}
use Rattle.hs_records.specs.declared.journal.Step.TheVariants as steps
use Rattle.hs_law_journal.specs.Following as following
use Rattle.hs_law_run.proofs.Items.{taken_both}
use Rattle.hs_replay.specs.declared.queue.Queue.TheVariants as queues
use Rattle.hs_replay.specs.Passing.{sent_to, takes_of_client}
use Rattle.hs_replay.specs.Queues.{queue_of}

-- ---- counts

pub own_step : (queue : Queue) → takes (queue_of queue) (step_from queue) ≡ true
own_step (queues.Chunks client) = eq-eqb client client refl
own_step (queues.Crumbs client) = eq-eqb client client refl
own_step (queues.Triggers client) = eq-eqb client client refl
own_step queues.Asks = refl

pub replicate_more : (count : ℕ) (step : Step) → replicate (count + 1) step ≡ replicate count step ++ step ∷ []
replicate_more count step = let one_more : count + 1 ≡ suc count = omega arith in ap (λ n. replicate n step) one_more ∙ grown count step
  where
    grown : (count : ℕ) (step : Step) → replicate (suc count) step ≡ replicate count step ++ step ∷ []
    grown zero step = refl
    grown (suc count) step = ap (λ (l : List Step). step ∷ l) (grown count step)

pub taken_replicate : (queue : following.Queue) (count : ℕ) (step : Step) → takes queue step ≡ true → taken queue (replicate count step) ≡ count
taken_replicate queue zero step own = refl
taken_replicate queue (suc count) step own =
    let both = taken_both queue (step ∷ []) (replicate count step) in
    let here = ap one_if own in
    let rest = taken_replicate queue count step own in
    omega (arith, both, here, rest)

-- ---- going on

-- steps behind steps
abbrev pub went_on : StepByStep → (W : PlainWorkload) (m : Machine) (n : ℕ) (run : NodeRun) (steps more : List Step) (node node' : PlainReplayNode) (w : WentBy W m n run steps node) → WentBy W m n w.next more node'
    → WentBy W m n run (steps ++ more) node'
went_on by_steps W m n run steps more node node' w v =
    record {
      next = v.next;
      by = by_steps.steps W.settings (heard_in W m.journal) steps more run ∙ ap (option_and_then (after_steps W.settings (heard_in W m.journal) more)) w.by ∙ v.by;
      log = v.log ∙ ap (λ (l : List Step). l ++ more) w.log ∙ append_assoc run.state.log steps more;
      amid = v.amid;
    }

pub went_nowhere : (W : PlainWorkload) (m : Machine) (n : ℕ) (run : NodeRun) (node : PlainReplayNode) → IsAmid W m n run node → WentBy W m n run [] node
went_nowhere W m n run node amid = record { next = run; by = refl; log = sym (append-nil run.state.log); amid = amid }

module _ (W : PlainWorkload) (m : Machine) (n : ℕ) (queue : Queue) (run : NodeRun) where
  pub took_none : (node : PlainReplayNode) → IsAmid W m n run node → TookSome W m n queue run 0 node
  took_none node amid = record { went = went_nowhere W m n run node amid; few = omega arith }

  -- the queue is the same for each run of the node
  same_sent : (next : NodeRun) → next.node ≡ n → run.node ≡ n → sent_to W m next.node queue ≡ sent_to W m run.node queue
  same_sent next e f = ap (λ i. sent_to W m i queue) (e ∙ sym f)

  taken_so : (count : ℕ) (next : NodeRun) → next.state.log ≡ run.state.log ++ replicate count (step_from queue) → taken (queue_of queue) next.state.log ≡ taken (queue_of queue) run.state.log + count
  taken_so count next e =
      let all = ap (taken (queue_of queue)) e in
      let both = taken_both (queue_of queue) run.state.log (replicate count (step_from queue)) in
      let some = taken_replicate (queue_of queue) count (step_from queue) (own_step queue) in
      omega (arith, all, both, some)

  module _ (number : run.node ≡ n) (count : ℕ) (node : PlainReplayNode) (took : TookSome W m n queue run count node) where
    pub took_more : StepByStep → (node' : PlainReplayNode) → TookOne W m n queue took.went.next node' → TookSome W m n queue run (count + 1) node'
    took_more by_steps node' more =
        record {
          went =
              subst (λ (steps : List Step). WentBy W m n run steps node') (sym (replicate_more count (step_from queue)))
              (went_on by_steps W m n run (replicate count (step_from queue)) (step_from queue ∷ []) node node' took.went more.went);
          few =
              let same = same_sent took.went.next took.went.amid.comes.number number in
              let so = taken_so count took.went.next took.went.log in
              let within = more.within in
              omega (arith, same, so, within);
        }

    pub took_all : count ≤ MAX_TAKEN → (node' : PlainReplayNode) → IsDrained W m n queue took.went.next node' → WentBy W m n run (takes_by W m run queue) node'
    took_all low node' drained =
        let same = same_sent took.went.next took.went.amid.comes.number number in
        let so = taken_so count took.went.next took.went.log in
        let none = drained.none in
        let exact : count ≡ min (sent_to W m run.node queue - taken (queue_of queue) run.state.log) MAX_TAKEN = omega (arith, same, so, none, low) in
        subst (λ k. WentBy W m n run (replicate k (step_from queue)) node') exact (record { next = took.went.next; by = took.went.by; log = took.went.log; amid = drained.amid })

    pub took_most : count ≡ MAX_TAKEN → WentBy W m n run (takes_by W m run queue) node
    took_most full =
        let few = took.few in
        let exact : count ≡ min (sent_to W m run.node queue - taken (queue_of queue) run.state.log) MAX_TAKEN = omega (arith, few, full) in
        subst (λ k. WentBy W m n run (replicate k (step_from queue)) node) exact took.went

-- a queue of a client that there is
pub queue_there : (W : PlainWorkload) (m : Machine) (n : ℕ) (run next : NodeRun) (old node : PlainReplayNode) (queue : Queue) → IsAmid W m n run old → IsAmid W m n next node → IsQueueOf (length old.players) queue
    → IsQueueOf (length node.players) queue
queue_there W m n run next old node queue amid now fits = subst (λ k. IsQueueOf k queue) (amid.stands.players.count ∙ sym now.stands.players.count) fits

-- what a flag says of the next item
pub was_taken : (W : PlainWorkload) (m : Machine) (n : ℕ) (queue : Queue) (run : NodeRun) (node : PlainReplayNode) (flag : Bool) → flag ≡ true → TakesNext W m n queue run node flag → TookOne W m n queue run node
was_taken W m n queue run node flag e took = subst (TakesNext W m n queue run node) e took

pub was_drained : (W : PlainWorkload) (m : Machine) (n : ℕ) (queue : Queue) (run : NodeRun) (node : PlainReplayNode) (flag : Bool) → flag ≡ false → TakesNext W m n queue run node flag → IsDrained W m n queue run node
was_drained W m n queue run node flag e took = subst (TakesNext W m n queue run node) e took

-- ---- what other queues' steps leave

-- these steps take nothing from the queue
abbrev pub Spares : following.Queue → List Step → Type 0
Spares queue steps = taken queue steps ≡ 0

pub spares_append : (queue : following.Queue) (front behind : List Step) → Spares queue front → Spares queue behind → Spares queue (front ++ behind)
spares_append queue front behind f b = let both = taken_both queue front behind in omega (arith, both, f, b)

pub spares_replicate : (queue : following.Queue) (count : ℕ) (step : Step) → takes queue step ≡ false → Spares queue (replicate count step)
spares_replicate queue zero step other = refl
spares_replicate queue (suc count) step other =
    let both = taken_both queue (step ∷ []) (replicate count step) in
    let here = ap one_if other in
    let rest = spares_replicate queue count step other in
    omega (arith, both, here, rest)

-- behind steps that spare a queue as much of it is to be taken
pub same_takes : (W : PlainWorkload) (m : Machine) (queue : Queue) (run next : NodeRun) (steps : List Step) → next.node ≡ run.node → next.state.log ≡ run.state.log ++ steps → Spares (queue_of queue) steps
    → takes_by W m next queue ≡ takes_by W m run queue
same_takes W m queue run next steps number log spares =
    let all = ap (taken (queue_of queue)) log in
    let both = taken_both (queue_of queue) run.state.log steps in
    let same : taken (queue_of queue) next.state.log ≡ taken (queue_of queue) run.state.log = omega (arith, all, both, spares) in
    ap (λ i. replicate (min (sent_to W m i queue - taken (queue_of queue) next.state.log) MAX_TAKEN) (step_from queue)) number
    ∙ ap (λ k. replicate (min (sent_to W m run.node queue - k) MAX_TAKEN) (step_from queue)) same

module _ (W : PlainWorkload) (m : Machine) (run : NodeRun) where
  -- how many items of a queue are taken
  abbrev count_for : Queue → ℕ
  count_for queue = min (sent_to W m run.node queue - taken (queue_of queue) run.state.log) MAX_TAKEN

  -- one client's steps spare another client
  pub client_spares : (client other : ℕ) → (client ≡ other → ⊥)
      → Spares (following.Chunks other) (takes_of_client W m run client) × Spares (following.Crumbs other) (takes_of_client W m run client) × Spares (following.Triggers other) (takes_of_client W m run client)
  client_spares client other apart =
      let ne = ne_eqb client other apart in
      let A = takes_by W m run (queues.Chunks client) in
      let B = takes_by W m run (queues.Crumbs client) in
      let C = takes_by W m run (queues.Triggers client) in
      let all : (queue : following.Queue) → takes queue (steps.Chunk client) ≡ false → takes queue (steps.Crumb client) ≡ false → takes queue (steps.Trigger client) ≡ false → Spares queue (A ++ B ++ C) =
      λ queue a b c. spares_append queue (A ++ B) C (spares_append queue A B (spares_replicate queue (count_for (queues.Chunks client)) (steps.Chunk client) a) (spares_replicate queue (count_for (queues.Crumbs client)) (steps.Crumb client) b)) (spares_replicate queue (count_for (queues.Triggers client)) (steps.Trigger client) c) in
      (all (following.Chunks other) ne refl refl, all (following.Crumbs other) refl ne refl, all (following.Triggers other) refl refl ne)

  pub client_spares_asks : (client : ℕ) → Spares following.Asks (takes_of_client W m run client)
  client_spares_asks client =
      let A = takes_by W m run (queues.Chunks client) in
      let B = takes_by W m run (queues.Crumbs client) in
      let C = takes_by W m run (queues.Triggers client) in
      spares_append following.Asks (A ++ B) C (spares_append following.Asks A B (spares_replicate following.Asks (count_for (queues.Chunks client)) (steps.Chunk client) refl) (spares_replicate following.Asks (count_for (queues.Crumbs client)) (steps.Crumb client) refl))
      (spares_replicate following.Asks (count_for (queues.Triggers client)) (steps.Trigger client) refl)

  -- a client's chunks spare its crumbs, and these with its chunks its triggers
  pub client_after_chunks : (client : ℕ) → Spares (following.Crumbs client) (takes_by W m run (queues.Chunks client))
  client_after_chunks client = spares_replicate (following.Crumbs client) (count_for (queues.Chunks client)) (steps.Chunk client) refl

  pub client_after_crumbs : (client : ℕ) → Spares (following.Triggers client) (takes_by W m run (queues.Chunks client) ++ takes_by W m run (queues.Crumbs client))
  client_after_crumbs client =
      spares_append (following.Triggers client) (takes_by W m run (queues.Chunks client)) (takes_by W m run (queues.Crumbs client)) (spares_replicate (following.Triggers client) (count_for (queues.Chunks client)) (steps.Chunk client) refl)
      (spares_replicate (following.Triggers client) (count_for (queues.Crumbs client)) (steps.Crumb client) refl)

  first_more : (start count : ℕ) → flat_map (takes_of_client W m run) (range_with_len start (suc count)) ≡ flat_map (takes_of_client W m run) (range_with_len start count) ++ takes_of_client W m run (start + count)
  first_more start zero =
      let same : start ≡ start + 0 = omega arith in
      append-nil (takes_of_client W m run start) ∙ ap (takes_of_client W m run) same
  first_more start (suc count) =
      let same : start + 1 + count ≡ start + suc count = omega arith in
      ap (λ (l : List Step). takes_of_client W m run start ++ l) (first_more (start + 1) count)
      ∙ sym (append_assoc (takes_of_client W m run start) (flat_map (takes_of_client W m run) (range_with_len (start + 1) count)) (takes_of_client W m run (start + 1 + count)))
      ∙ ap (λ c. (takes_of_client W m run start ++ flat_map (takes_of_client W m run) (range_with_len (start + 1) count)) ++ takes_of_client W m run c) same

  -- one client more
  pub takes_more : (count : ℕ) → takes_first W m run (count + 1) ≡ takes_first W m run count ++ takes_of_client W m run count
  takes_more count =
      let one_more : count + 1 ≡ suc count = omega arith in
      let same : 0 + count ≡ count = omega arith in
      ap (takes_first W m run) one_more ∙ first_more 0 count ∙ ap (λ c. takes_first W m run count ++ takes_of_client W m run c) same

  -- the first clients' steps spare those behind them
  range_spares : (start count other : ℕ) → start + count ≤ other
      → Spares (following.Chunks other) (flat_map (takes_of_client W m run) (range_with_len start count)) × Spares (following.Crumbs other) (flat_map (takes_of_client W m run) (range_with_len start count))
      × Spares (following.Triggers other) (flat_map (takes_of_client W m run) (range_with_len start count))
  range_spares start zero other low = (refl, refl, refl)
  range_spares start (suc count) other low =
      let here = client_spares start other (λ e. omega (arith, e, low)) in
      let rest = range_spares (start + 1) count other (omega (arith, low)) in
      let behind = flat_map (takes_of_client W m run) (range_with_len (start + 1) count) in (
        spares_append (following.Chunks other) (takes_of_client W m run start) behind here.0 rest.0,
        spares_append (following.Crumbs other) (takes_of_client W m run start) behind here.1 rest.1,
        spares_append (following.Triggers other) (takes_of_client W m run start) behind here.2 rest.2,
      )

  pub first_spares : (count : ℕ) → Spares (following.Chunks count) (takes_first W m run count) × Spares (following.Crumbs count) (takes_first W m run count) × Spares (following.Triggers count) (takes_first W m run count)
  first_spares count = range_spares 0 count count (omega arith)

  range_spares_asks : (start count : ℕ) → Spares following.Asks (flat_map (takes_of_client W m run) (range_with_len start count))
  range_spares_asks start zero = refl
  range_spares_asks start (suc count) =
      spares_append following.Asks (takes_of_client W m run start) (flat_map (takes_of_client W m run) (range_with_len (start + 1) count)) (client_spares_asks start) (range_spares_asks (start + 1) count)

  pub first_spare_asks : (count : ℕ) → Spares following.Asks (takes_first W m run count)
  first_spare_asks count = range_spares_asks 0 count

-- behind steps that spare a client as much of it is to be taken
pub same_client : (W : PlainWorkload) (m : Machine) (run next : NodeRun) (client : ℕ) (steps : List Step) → next.node ≡ run.node → next.state.log ≡ run.state.log ++ steps
    → Spares (following.Chunks client) steps × Spares (following.Crumbs client) steps × Spares (following.Triggers client) steps → takes_of_client W m next client ≡ takes_of_client W m run client
same_client W m run next client steps number log spares =
    let a = same_takes W m (queues.Chunks client) run next steps number log spares.0 in
    let b = same_takes W m (queues.Crumbs client) run next steps number log spares.1 in
    let c = same_takes W m (queues.Triggers client) run next steps number log spares.2 in
    ap (λ (l : List Step). l ++ takes_by W m next (queues.Crumbs client) ++ takes_by W m next (queues.Triggers client)) a
    ∙ ap (λ (l : List Step). takes_by W m run (queues.Chunks client) ++ l ++ takes_by W m next (queues.Triggers client)) b
    ∙ ap (λ (l : List Step). takes_by W m run (queues.Chunks client) ++ takes_by W m run (queues.Crumbs client) ++ l) c

-- the agent took from the three queues of a client
pub client_taken : StepByStep → (W : PlainWorkload) (m : Machine) (n : ℕ) (client : ℕ) (run : NodeRun) (a b c : PlainReplayNode) → run.node ≡ n → (w : WentBy W m n run (takes_by W m run (queues.Chunks client)) a)
    → (v : WentBy W m n w.next (takes_by W m w.next (queues.Crumbs client)) b) → WentBy W m n v.next (takes_by W m v.next (queues.Triggers client)) c → WentBy W m n run (takes_of_client W m run client) c
client_taken by_steps W m n client run a b c number w v u =
    let A = takes_by W m run (queues.Chunks client) in
    let B = takes_by W m w.next (queues.Crumbs client) in
    let C = takes_by W m v.next (queues.Triggers client) in
    let two = went_on by_steps W m n run A B a b w v in
    let three = went_on by_steps W m n run (A ++ B) C b c two u in
    let own_b : B ≡ takes_by W m run (queues.Crumbs client) = same_takes W m (queues.Crumbs client) run w.next A (w.amid.comes.number ∙ sym number) w.log (client_after_chunks W m run client) in
    let log : v.next.state.log ≡ run.state.log ++ (A ++ takes_by W m run (queues.Crumbs client)) = two.log ∙ ap (λ (l : List Step). run.state.log ++ (A ++ l)) own_b in
    let own_c : C ≡ takes_by W m run (queues.Triggers client) = same_takes W m (queues.Triggers client) run v.next (A ++ takes_by W m run (queues.Crumbs client)) (v.amid.comes.number ∙ sym number) log (client_after_crumbs W m run client) in
    let all : (A ++ B) ++ C ≡ takes_of_client W m run client = ap (λ (l : List Step). (A ++ l) ++ C) own_b ∙ ap (λ (l : List Step). (A ++ takes_by W m run (queues.Crumbs client)) ++ l) own_c in
    subst (λ (l : List Step). WentBy W m n run l c) all three

-- one client more
pub one_client_more : StepByStep → (W : PlainWorkload) (m : Machine) (n : ℕ) (count : ℕ) (run : NodeRun) (a b : PlainReplayNode) → run.node ≡ n → (w : WentBy W m n run (takes_first W m run count) a)
    → WentBy W m n w.next (takes_of_client W m w.next count) b → WentBy W m n run (takes_first W m run (count + 1)) b
one_client_more by_steps W m n count run a b number w v =
    let own = same_client W m run w.next count (takes_first W m run count) (w.amid.comes.number ∙ sym number) w.log (first_spares W m run count) in
    subst (λ (l : List Step). WentBy W m n run l b) (ap (λ (l : List Step). takes_first W m run count ++ l) own ∙ sym (takes_more W m run count))
    (went_on by_steps W m n run (takes_first W m run count) (takes_of_client W m w.next count) a b w v)

-- all of a pass but the gives
abbrev pub takes_in_pass : PlainWorkload → Machine → NodeRun → List Step
takes_in_pass W m run = takes_first W m run W.settings.clients ++ takes_by W m run queues.Asks ++ steps.Turn ∷ []

pub pass_taken : StepByStep → (W : PlainWorkload) (m : Machine) (n : ℕ) (run : NodeRun) (a b c : PlainReplayNode) → run.node ≡ n → (w : WentBy W m n run (takes_first W m run W.settings.clients) a)
    → (v : WentBy W m n w.next (takes_by W m w.next queues.Asks) b) → WentBy W m n v.next (steps.Turn ∷ []) c → WentBy W m n run (takes_in_pass W m run) c
pass_taken by_steps W m n run a b c number w v u =
    let A = takes_first W m run W.settings.clients in
    let B = takes_by W m w.next queues.Asks in
    let two = went_on by_steps W m n run A B a b w v in
    let three = went_on by_steps W m n run (A ++ B) (steps.Turn ∷ []) b c two u in
    let own_b : B ≡ takes_by W m run queues.Asks = same_takes W m queues.Asks run w.next A (w.amid.comes.number ∙ sym number) w.log (first_spare_asks W m run W.settings.clients) in
    subst (λ (l : List Step). WentBy W m n run ((A ++ l) ++ steps.Turn ∷ []) c) own_b three
