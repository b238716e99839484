-- How far each pool is at each stage: its draws and gives up to there are below that number, and later ones are not.
use Rattle.std.proofs.Common.{◌≡◌, ◌≢◌, ℕ, zero, suc, ◌+◌, ◌-◌, ◌/◌, ◌<◌, ◌≤◌, Bool, true, false, cond, List, [], ◌∷◌, ◌++◌, length, reverse, fold, refl, sym, ap, subst, ◌∙◌, Option, Some, None, arith, map, slice_get, take, drop, nat_eq, nat_lt, eqb-true, eq-eqb, append_assoc, take-append-drop, take_all, length-append}
use Rattle.hs_law_run.proofs.Prelude.{AllByRecursion, range_with_len, option_and_then, length-map, length-range_with_len, div-mul-add, Draw, Step, PlainSettings, PlainWorkload, Messages, stamp_of, next_draws, event_drawn, draws_at, place_of, IsValid, rounds_of, NodeRun, pool_events, pool_history, Machine, client_goes, clients_go, give_steps, agents_take, agents_give, coordinator_hears, passes, node_at, heard_in, after_steps, IsReached, same_Some, all_append, get_there, Known}
use Rattle.hs_law_journal.proofs.StepByStep.{step_by_step}
use Rattle.hs_law_run.proofs.Passes.{run_there}
use Rattle.hs_law_run.proofs.Stages.{reached, gone_reached}
use Rattle.hs_law_run.specs.Parts.{next_pages, next_drawn, sending, ClientGoes, AgentGives}
use Rattle.hs_law_run.specs.Told.{stage, gone}
use Rattle.hs_law_run.proofs.Workloads.{node_client}
use Rattle.hs_words.specs.PoolHistory as pool
use Rattle.hs_law_run.specs.Reaching as reaching
use Rattle.hs_law_run.proofs.Fitting.{clients_go_so, agents_give_so}
use Rattle.hs_law_run.proofs.Taking.{agent_takes}
use Rattle.hs_law_run.proofs.Hearing.{hears_so}
use Rattle.hs_law_run.proofs.Valid.{valid_workloads_run}

next_high : (count stamp bound : ℕ) (queue : List ℕ) → bound ≤ stamp → AllByRecursion (λ (draw : Draw). bound ≤ stamp_of draw) (next_draws count stamp queue)
next_high zero stamp bound queue low = tt
next_high (suc count) stamp bound [] low = (low, next_high count (stamp + 1) bound [] (omega (arith, low)))
next_high (suc count) stamp bound (buffer ∷ queue) low = (low, next_high count (stamp + 1) bound queue (omega (arith, low)))

-- ---- what agents give

record Halfway (settings : PlainSettings) (heard : Messages) (steps more : List Step) (run later : NodeRun) : Type 0 where
  middle : NodeRun
  first : after_steps settings heard steps run ≡ Some middle
  second : after_steps settings heard more middle ≡ Some later

halfway : (settings : PlainSettings) (heard : Messages) (steps more : List Step) (run later : NodeRun) → after_steps settings heard (steps ++ more) run ≡ Some later → Halfway settings heard steps more run later
halfway settings heard steps more run later h = go (after_steps settings heard steps run) refl (sym (step_by_step.steps settings heard steps more run) ∙ h)
  where
    go : (o : Option NodeRun) → after_steps settings heard steps run ≡ o → option_and_then (after_steps settings heard more) o ≡ Some later → Halfway settings heard steps more run later
    go None e h = let no : None ≡ Some later = h in absurd cc
    go (Some middle) e h = record { middle = middle; first = e; second = h }

module _ (W : PlainWorkload) (m new : Machine) (i : ℕ) (run : NodeRun) (v : AgentGives W m new i run) where
  abbrev steps : List Step
  steps = give_steps run

  steps_long : length (give_steps run) ≡ length run.state.hand
  steps_long = length-map (range_with_len (length (pool_events run)) (length run.state.hand)) _ ∙ length-range_with_len (length (pool_events run)) (length run.state.hand)

  -- the history has the gives behind what it had, with the next stamps
  pub record Given : Type 0 where
    pub rises : length (pool_history run) ≤ length (pool_history v.later)
    pub holds : (stamp : ℕ) → length (pool_events run) ≤ stamp → stamp < length (pool_events run) + length run.state.hand → (length (pool_history run) ≤ stamp) × (stamp < length (pool_history v.later))

  pub given : Given
  given = go (length run.state.hand) refl
    where
      go : (n : ℕ) → length run.state.hand ≡ n → Given
      go zero none =
          let nothing : give_steps run ≡ [] = empty (give_steps run) (steps_long ∙ none) in
          let same : run ≡ v.later = same_Some run v.later (ap (λ (steps : List Step). after_steps W.settings (heard_in W m.journal) steps run) (sym nothing) ∙ v.gives) in
          let long = ap (λ (r : NodeRun). length (pool_history r)) same in
          record { rises = omega (arith, long); holds = λ stamp high low. absurd (omega (arith, high, low, none)) }
        where
          empty : (xs : List Step) → length xs ≡ 0 → xs ≡ []
          empty [] e = refl
          empty (x ∷ xs) e = absurd (omega (arith, e))
      go (suc n) some =
          let parts : take n (give_steps run) ++ drop n (give_steps run) ≡ give_steps run = take-append-drop n (give_steps run) in
          let h = halfway W.settings (heard_in W m.journal) (take n (give_steps run)) (drop n (give_steps run)) run v.later (ap (λ (steps : List Step). after_steps W.settings (heard_in W m.journal) steps run) parts ∙ v.gives) in
          let g = v.each n h.middle (omega (arith, some)) h.first in
          let first = v.each 0 run (omega (arith, some)) refl in
          let long = steps_long in
          let whole : take (n + 1) (give_steps run) ≡ give_steps run = take_all (n + 1) (give_steps run) (omega (arith, long, some)) in
          let last : g.next ≡ v.later = same_Some g.next v.later (sym g.gives ∙ ap (λ (steps : List Step). after_steps W.settings (heard_in W m.journal) steps run) whole ∙ v.gives) in
          let a = first.stamp in
          let b = g.stamp in
          let c = ap length g.history in
          let d = length-append (pool_history h.middle) (pool.Given g.buffer ∷ []) in
          let e = ap (λ (r : NodeRun). length (pool_history r)) last in
          record { rises = omega (arith, a, b, c, d, e); holds = λ stamp high low. (omega (arith, a, high), omega (arith, b, c, d, e, low, some)) }

-- ---- what comes later

module _ (known : Known) (W : PlainWorkload) (valid : IsValid W) (i client : ℕ) (low : i < W.settings.nodes) (few : client < W.settings.clients) (mark : ℕ) (old : List Draw) where
  abbrev place : ℕ
  place = place_of W.settings.clients i client

  -- the pool of the node is past the mark, and so are the draws that the client made since
  pub record Since (m : Machine) : Type 0 where
    pub run : NodeRun
    pub at : node_at W m.journal i ≡ Some run
    pub high : mark ≤ length (pool_history run)
    pub more : List Draw
    pub draws : draws_at m.journal (place_of W.settings.clients i client) ≡ old ++ more
    pub above : AllByRecursion (λ (draw : Draw). mark ≤ stamp_of draw) more

  module _ (m : Machine) (r : IsReached W m) (s : Since m) where
    module _ (node number : ℕ) (node_low : node < W.settings.nodes) (number_low : number < W.settings.clients) where
      own : (run : NodeRun) × (node_at W m.journal node ≡ Some run)
      own = run_there known W m node node_low

      g : ClientGoes W m (client_goes W m (place_of W.settings.clients node number)) node (place_of W.settings.clients node number) own.0
      g = clients_go_so known valid_workloads_run W valid m r node number own.0 number_low own.1

      at_other : node ≢ i → Since (client_goes W m (place_of W.settings.clients node number))
      at_other ne =
          let apart : place_of W.settings.clients node number ≢ place = λ e. ne (sym (div-mul-add node W.settings.clients number number_low) ∙ ap (λ (p : ℕ). p / W.settings.clients) e ∙ div-mul-add i W.settings.clients client few) in
          record { run = s.run; at = g.others i ne ∙ s.at; high = s.high; more = s.more; draws = g.others_draws place apart ∙ s.draws; above = s.above }

      module _ (same : node ≡ i) where
        own_is : own.0 ≡ s.run
        own_is = same_Some own.0 s.run (sym own.1 ∙ ap (λ j. node_at W m.journal j) same ∙ s.at)

        now_there : node_at W (client_goes W m (place_of W.settings.clients node number)).journal i ≡ Some (sending W (client_goes W m (place_of W.settings.clients node number)).journal node own.0)
        now_there = ap (λ j. node_at W (client_goes W m (place_of W.settings.clients node number)).journal j) (sym same) ∙ g.node

        now_high : mark ≤ length (pool_history (sending W (client_goes W m (place_of W.settings.clients node number)).journal node own.0))
        now_high =
            let was = ap (λ (r : NodeRun). length (pool_history r)) own_is in
            let high = s.high in
            let now = ap length g.history in
            let both = length-append (pool_history own.0) (map event_drawn (next_drawn W m (place_of W.settings.clients node number) own.0)) in
            omega (arith, was, high, now, both)

        drew : (b : Bool) → nat_eq (place_of W.settings.clients node number) place ≡ b → Since (client_goes W m (place_of W.settings.clients node number))
        drew true e =
            let is = eqb-true (place_of W.settings.clients node number) place e in
            let was = ap (λ (r : NodeRun). length (pool_history r)) own_is in
            let high = s.high in
            let more = next_drawn W m (place_of W.settings.clients node number) own.0 in
            record {
              run = sending W (client_goes W m (place_of W.settings.clients node number)).journal node own.0;
              at = now_there;
              high = now_high;
              more = s.more ++ more;
              draws =
                  ap (draws_at (client_goes W m (place_of W.settings.clients node number)).journal) (sym is) ∙ g.draws ∙ ap (λ (front : List Draw). front ++ more) (ap (draws_at m.journal) is ∙ s.draws)
                  ∙ append_assoc old s.more more;
              above = all_append (λ (draw : Draw). mark ≤ stamp_of draw) s.more more s.above (next_high (next_pages W m (place_of W.settings.clients node number)) (length (pool_history own.0)) mark (pool.queue_after W.settings.buffers (reverse (pool_history own.0))) (omega (arith, was, high)));
            }
        drew false e =
            let apart : place_of W.settings.clients node number ≢ place = λ is. (let yes : true ≡ false = sym (eq-eqb (place_of W.settings.clients node number) place is) ∙ e in absurd cc) in
            record { run = sending W (client_goes W m (place_of W.settings.clients node number)).journal node own.0; at = now_there; high = now_high; more = s.more; draws = g.others_draws place apart ∙ s.draws; above = s.above }

      goes_on : (b : Bool) → nat_eq node i ≡ b → Since (client_goes W m (place_of W.settings.clients node number))
      goes_on true e = drew (eqb-true node i e) (nat_eq (place_of W.settings.clients node number) place) refl
      goes_on false e = at_other (λ is. (let yes : true ≡ false = sym (eq-eqb node i is) ∙ e in absurd cc))

    client_since : (p : ℕ) → p < length W.clients → Since (client_goes W m p)
    client_since p below =
        let ops = get_there W.clients p below in
        let n = node_client W valid p ops.0 ops.1 in
        subst (λ (p : ℕ). Since (client_goes W m p)) (sym n.place_is) (goes_on n.node n.client n.low n.few (nat_eq n.node i) refl)

    take_since : Since (agents_take W m)
    take_since =
        let t = agent_takes known W m r i s.run s.at in
        let long = ap length t.history in
        let high = s.high in
        record { run = t.later; at = t.node; high = omega (arith, long, high); more = s.more; draws = s.draws; above = s.above }

    give_since : Since (agents_give W m)
    give_since =
        let v = agents_give_so known valid_workloads_run W valid m r i s.run s.at in
        let rises = (given W m (agents_give W m) i s.run v).rises in
        let high = s.high in
        record { run = v.later; at = v.node; high = omega (arith, rises, high); more = s.more; draws = s.draws; above = s.above }

    hear_since : Since (coordinator_hears W m)
    hear_since =
        let h = hears_so known W m r in
        record { run = s.run; at = ap (λ (nodes : List NodeRun). slice_get nodes i) h.nodes ∙ s.at; high = s.high; more = s.more; draws = s.draws; above = s.above }

  pub pass_since : (m : Machine) → IsReached W m → Since m → Since (passes W m)
  pass_since m r s =
      let a = agents_take W m in
      let b = agents_give W a in
      hear_since b (reaching.Gives a (reaching.Takes m r)) (give_since a (reaching.Takes m r) (take_since m r s))

  clients_since : (first places : ℕ) (m : Machine) → first + places ≤ length W.clients → IsReached W m → Since m → Since (fold (client_goes W) m (range_with_len first places))
  clients_since first zero m all r s = s
  clients_since first (suc places) m all r s =
      clients_since (first + 1) places (client_goes W m first) (omega (arith, all)) (reaching.Goes m first (omega (arith, all)) r) (client_since m r s first (omega (arith, all)))

  gone_since : (m : Machine) (b : Bool) → IsReached W m → Since m → Since (cond b (clients_go W m) m)
  gone_since m true r s = clients_since 0 (length W.clients) m (omega arith) r s
  gone_since m false r s = s

  module _ (p : ℕ) (begin : Since (stage W p)) where
    pub stage_since : (n : ℕ) → Since (stage W (p + n))
    stage_since zero = let same : p ≡ p + 0 = omega arith in subst (λ j. Since (stage W j)) same begin
    stage_since (suc n) =
        let same : suc (p + n) ≡ p + suc n = omega arith in
        subst (λ j. Since (stage W j)) same
        (pass_since (gone W (p + n)) (gone_reached W (p + n)) (gone_since (stage W (p + n)) (nat_lt (p + n) (rounds_of W)) (reached W (p + n)) (stage_since n)))

    pub then_since : (k : ℕ) → p ≤ k → Since (stage W k)
    then_since k high = let same : p + (k - p) ≡ k = omega (arith, high) in subst (λ j. Since (stage W j)) same (stage_since (k - p))

    pub taken_since : (k : ℕ) → p ≤ k → Since (agents_take W (gone W k))
    taken_since k high = take_since (gone W k) (gone_reached W k) (gone_since (stage W k) (nat_lt k (rounds_of W)) (reached W k) (then_since k high))
