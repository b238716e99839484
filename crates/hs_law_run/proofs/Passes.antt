-- A pass of the schedule: what an agent did in it, and what the coordinator heard.
use Rattle.std.proofs.Common.{◌≡◌, ℕ, zero, suc, ◌+◌, ◌<◌, ◌≤◌, Bool, true, false, cond, List, [], ◌∷◌, ◌++◌, length, fold, refl, sym, ap, ◌∙◌, Option, Some, None, arith, map, option_map, slice_get, nat_lt, ◌/◌}
use Rattle.hs_law_run.proofs.Prelude.{AllByRecursion, range_with_len, option_map_or, slice_get-map, Step, PlainJournal, AgentEvent, PlainWorkload, rounds_of, node_behind, NodeRun, Run, node_start, followed, Known, Machine, machine_start, draws_in, client_goes, clients_go, pass_steps, agents_take, agents_give, node_at, heard_in, IsReached, get_there, same_Some, Messages}
use Rattle.hs_law_agent.specs.Stepping.{Answered, Given, step_of_answer}
use Rattle.hs_law_journal.specs.LoopPasses.{IsPass, IsStamped}
use Rattle.hs_law_run.proofs.Blocks.{counts, few, pass_is, given_steps}
use Rattle.hs_law_run.proofs.Followed.{draws_are, count_nodes, starts_at}
use Rattle.hs_law_run.proofs.Hears.{heard_given, heard_now, more}
use Rattle.hs_law_run.proofs.PassFrom.{PassFrom, pass_from}
use Rattle.hs_law_run.proofs.Stages.{reached, gone_reached}
use Rattle.hs_law_run.proofs.Standing.{kept}
use Rattle.hs_law_run.specs.Parts.{next_done, next_pages}
use Rattle.hs_law_run.specs.Told.{stage, gone, events_at, heard_at}
use Rattle.hs_law_run.specs.Reaching as reaching

-- ---- clients leave agents as they are

pub record IsSame (W : PlainWorkload) (K : PlainJournal) (i : ℕ) (run : NodeRun) : Type 0 where
  pub now : NodeRun
  pub there : node_at W K i ≡ Some now
  pub events : now.events ≡ run.events
  pub state : now.state ≡ run.state

pub record StaysSo (W : PlainWorkload) (J K : PlainJournal) : Type 0 where
  pub heard : heard_in W K ≡ heard_in W J
  pub nodes : (i : ℕ) (run : NodeRun) → node_at W J i ≡ Some run → IsSame W K i run

module _ (known : Known) (W : PlainWorkload) where
  client_stays : (m : Machine) (place : ℕ) → IsReached W m → StaysSo W m.journal (client_goes W m place).journal
  client_stays m place r =
      let K = (client_goes W m place).journal in
      let same = draws_are known W m place (next_done W m place) (draws_in W m (place / W.settings.clients) (next_pages W m place)) (kept known W m r).done in
      record {
        heard = ap (λ (r : Run). r.heard) (sym same);
        nodes = λ i run at.
            record {
              now = node_behind W m.journal K run;
              there = ap (λ (r : Run). slice_get r.nodes i) (sym same) ∙ slice_get-map (node_behind W m.journal K) (followed W m.journal).nodes i ∙ ap (option_map (node_behind W m.journal K)) at;
              events = refl;
              state = refl;
            };
      }

  refl_stays : (J : PlainJournal) → StaysSo W J J
  refl_stays J = record { heard = refl; nodes = λ i run at. record { now = run; there = at; events = refl; state = refl } }

  clients_stay : (first places : ℕ) (m : Machine) → first + places ≤ length W.clients → IsReached W m → StaysSo W m.journal (fold (client_goes W) m (range_with_len first places)).journal
  clients_stay first zero m low r = refl_stays m.journal
  clients_stay first (suc places) m low r =
      let s = client_stays m first r in
      let t = clients_stay (first + 1) places (client_goes W m first) (omega (arith, low)) (reaching.Goes m first (omega (arith, low)) r) in
      record {
        heard = t.heard ∙ s.heard;
        nodes = λ i run at.
            let a = s.nodes i run at in
            let b = t.nodes i a.now a.there in
            record { now = b.now; there = b.there; events = b.events ∙ a.events; state = b.state ∙ a.state };
      }

  pub gone_stays : (m : Machine) → IsReached W m → (b : Bool) → StaysSo W m.journal (cond b (clients_go W m) m).journal
  gone_stays m r true = clients_stay 0 (length W.clients) m (omega arith) r
  gone_stays m r false = refl_stays m.journal

  -- ---- a pass

  pub record PassAt (p i : ℕ) : Type 0 where
    pub later : NodeRun
    pub later_there : node_at W (stage W (suc p)).journal i ≡ Some later
    pub from : PassFrom known W (gone W p) i later
    pub was : events_at W i p ≡ from.node.events

  pub run_there : (m : Machine) (i : ℕ) → i < W.settings.nodes → (run : NodeRun) × (node_at W m.journal i ≡ Some run)
  run_there m i low = let count = count_nodes known W m.journal in get_there (followed W m.journal).nodes i (omega (arith, count, low))

  pub pass_at : (p i : ℕ) → i < W.settings.nodes → PassAt p i
  pass_at p i low =
      let first = run_there (stage W p) i low in
      let last = run_there (stage W (suc p)) i low in
      let s = (gone_stays (stage W p) (reached W p) (nat_lt p (rounds_of W))).nodes i first.0 first.1 in
      let from = pass_from known W (gone W p) (gone_reached W p) i last.0 last.1 in
      record {
        later = last.0;
        later_there = last.1;
        from = from;
        was = ap (λ (o : Option NodeRun). option_map_or (λ (run : NodeRun). run.events) o []) first.1 ∙ sym s.events ∙ ap (λ (n : NodeRun). n.events) (same_Some s.now from.node (sym s.there ∙ from.stands));
      }

  pub events_grow : (p i : ℕ) (low : i < W.settings.nodes) → events_at W i (suc p) ≡ events_at W i p ++ (pass_at p i low).from.new
  events_grow p i low =
      let a = pass_at p i low in
      ap (λ (o : Option NodeRun). option_map_or (λ (run : NodeRun). run.events) o []) a.later_there ∙ a.from.events ∙ ap (λ (front : List AgentEvent). front ++ a.from.new) (sym a.was)

  pub gone_heard : (p : ℕ) → heard_in W (gone W p).journal ≡ heard_at W p
  gone_heard p = (gone_stays (stage W p) (reached W p) (nat_lt p (rounds_of W))).heard

  -- the agents let the coordinator be
  pub given_heard : (p : ℕ) → heard_in W (agents_give W (agents_take W (gone W p))).journal ≡ heard_at W p
  given_heard p = heard_given known W (gone W p) (kept known W (gone W p) (gone_reached W p)) ∙ gone_heard p

  -- what the coordinator heard in a pass
  abbrev pub more_at : ℕ → Messages
  more_at p = more known W (gone W p) (kept known W (gone W p) (gone_reached W p))

  pub heard_grows : (p : ℕ) → heard_at W (suc p) ≡ heard_at W p ++ more_at p
  heard_grows p = heard_now known W (gone W p) (kept known W (gone W p) (gone_reached W p)) ∙ ap (λ (heard : Messages). heard ++ more_at p) (gone_heard p)

  -- ---- the start

  pub starts_bare : (i : ℕ) → events_at W i 0 ≡ []
  starts_bare i =
      ap (λ (r : Run). option_map_or (λ (run : NodeRun). run.events) (slice_get r.nodes i) []) (sym (starts_at known W))
      ∙ ap (λ (o : Option NodeRun). option_map_or (λ (run : NodeRun). run.events) o []) (slice_get-map (node_start W (machine_start W).journal) (range_with_len 0 W.settings.nodes) i)
      ∙ none (slice_get (range_with_len 0 W.settings.nodes) i)
    where
      none : (o : Option ℕ) → option_map_or (λ (run : NodeRun). run.events) (option_map (node_start W (machine_start W).journal) o) [] ≡ []
      none None = refl
      none (Some n) = refl

  pub heard_none : heard_at W 0 ≡ []
  heard_none = ap (λ (r : Run). r.heard) (sym (starts_at known W))

-- ---- it is one of the loop

module _ (known : Known) (W : PlainWorkload) (m : Machine) (i : ℕ) (later : NodeRun) (a : PassFrom known W m i later) where
  abbrev pub offers : List Answered
  offers = map (λ (stamp : ℕ). Given stamp) (range_with_len a.from a.count)

  abbrev pub is_pass : IsPass W a.new
  is_pass =
      record {
        counts = counts W m a.node i;
        few = few W m a.node i;
        offers = offers;
        steps_are =
            a.noted ∙ ap (λ (last : List Step). pass_steps W m (followed W m.journal) a.node ++ last) (given_steps (range_with_len a.from a.count))
            ∙ pass_is W m a.node i a.sends (map step_of_answer offers);
      }

  pub all_stamped : AllByRecursion IsStamped offers
  all_stamped = from (range_with_len a.from a.count)
    where
      from : (stamps : List ℕ) → AllByRecursion IsStamped (map (λ (stamp : ℕ). Given stamp) stamps)
      from [] = tt
      from (stamp ∷ stamps) = (tt, from stamps)
