-- All nodes and the coordinator, where one of them goes on.
use Rattle.std.proofs.Common.{◌≡◌, ◌⊎◌, inl, inr, ℕ, zero, suc, ◌+◌, ◌-◌, ◌<◌, Bool, true, false, List, [], ◌∷◌, length, set, Option, Some, None, refl, sym, ap, subst, ◌∙◌, arith, option_map, slice_get, unwrap_or, length-set}
use Rattle.hs_check_follow.proofs.Prelude.{range_with_len, same_Some, slice_get-map, slice_get_within, get_there, get_set_cases, Listing, NodeId, Ask, PlainJournal, Step, RunsAreOfTheJournal, asks_to, NodeRun, Run, run_start, step_node, followed, Stays, MayTake, PlainSettings, PlainWorkload, NodeAt, AllAt, MayStepAt, HasStepped, HasNotStepped, MayHearAt, HasHeard, HasNotHeard, HearsOn, StepsOn, NodeSteppedIf, SteppedAnyIf, left_of, left_steps, FollowedCoordinator, FollowedNode}
use Rattle.hs_base.proofs.Ranges.{range_found}
use Rattle.hs_law_journal.specs.Orders.{Leads, Goes, Performs, IsAtRest, OrdersAgree, with_node}
use Rattle.hs_law_journal.specs.Fitting.{RunsFit}
use Rattle.hs_check_follow.specs.Whole.{NodesAt, NodeStepped, NodeNotReady, NothingIsReady}
use Rattle.hs_check_follow.specs.declared.run.FollowedRun.{FollowedRun}
use Rattle.hs_check_follow.proofs.Tracking.{steps_fall, steps_stay}

-- ---- runs

-- one step more leads on
pub leads_on : (settings : PlainSettings) (a b c : Run) → Leads settings a b → Performs settings b c → Leads settings a c
leads_on settings a b c (Stays r) p = Goes b c c p (Stays c)
leads_on settings a b c (Goes r next l q leads) p = Goes a next c q (leads_on settings next b c leads p)

pub number_is : RunsAreOfTheJournal → (W : PlainWorkload) (J : PlainJournal) (run : Run) → Leads W.settings (run_start W J) run → (n : ℕ) (node : NodeRun) → slice_get run.nodes n ≡ Some node → node.node ≡ n
number_is runs W J run leads n node at =
    let numbers = (runs W J run leads).numbers in
    let found : slice_get (range_with_len 0 W.settings.nodes) n ≡ Some node.node =
    ap (λ (l : List ℕ). slice_get l n) (sym numbers) ∙ slice_get-map (λ (r : NodeRun). r.node) run.nodes n ∙ ap (option_map (λ (r : NodeRun). r.node)) at
    in
    let is = range_found 0 W.settings.nodes n node.node found in
    omega (arith, is)

module _ (fit : RunsFit) (runs : RunsAreOfTheJournal) (W : PlainWorkload) (J : PlainJournal) (run : Run) (nodes : List FollowedNode) (h : FollowedCoordinator) (a : AllAt W J run nodes h) where
  number : (n : ℕ) (node : NodeRun) → slice_get run.nodes n ≡ Some node → node.node ≡ n
  number = number_is runs W J run a.leads

  node_there : (n : ℕ) (t : FollowedNode) → slice_get nodes n ≡ Some t → (node : NodeRun) × (slice_get run.nodes n ≡ Some node)
  node_there n t at = let low = slice_get_within nodes n t at in let count = a.nodes_are.count in get_there run.nodes n (omega (arith, low, count))

  -- ---- what a node's next step needs

  pub may_step : (n : ℕ) (t : FollowedNode) → slice_get nodes n ≡ Some t → (log : List Step) → slice_get J.logs n ≡ Some log → (list : Listing Ask) → slice_get h.asks.items n ≡ Some list
      → (node : NodeRun) × (slice_get run.nodes n ≡ Some node) × MayStepAt W J run.heard node log list.items t
  may_step n t at log log_there list list_there =
      let found = node_there n t at in
      let node = found.0 in
      let same = number n node found.1 in (
        node,
        found.1,
        record {
          log_is = sym (ap (λ (o : Option (List Step)). unwrap_or o []) (ap (slice_get J.logs) same ∙ log_there));
          asks_are = a.hearing.asks n list list_there ∙ ap (λ i. asks_to i run.heard) (sym same);
          at = a.nodes_are.each n node t found.1 at;
          may = λ step input met. subst (λ i. MayTake W.settings i node.state input) (sym same) ((fit W a.valid J run a.leads n node found.1).takes step input met);
        },
      )

  pub log_there : (n : ℕ) → n < length nodes → (log : List Step) × (slice_get J.logs n ≡ Some log)
  log_there n low = let many = a.nodes_are.many in let logs = a.logs in get_there J.logs n (omega (arith, low, many, logs))

  -- ---- a node went on

  module _ (n : ℕ) (t t' : FollowedNode) (at : slice_get nodes n ≡ Some t) (node : NodeRun) (there : slice_get run.nodes n ≡ Some node) where
    nodes_set : (run' : Run) (nodes' : List FollowedNode) (next : NodeRun) → run'.nodes ≡ set run.nodes n next → nodes' ≡ set nodes n t' → NodeAt W J next t' → NodesAt W J run' nodes'
    nodes_set run' nodes' next runs_are nodes_are now =
        record {
          count =
              let x = ap length nodes_are ∙ length-set nodes n t' in
              let y = ap length runs_are ∙ length-set run.nodes n next in
              let z = a.nodes_are.count in
              omega (arith, x, y, z);
          many = ap length nodes_are ∙ length-set nodes n t' ∙ a.nodes_are.many;
          each =
              λ i r u r_at u_at.
              elim (get_set_cases nodes n i t t' u at (ap (λ (l : List FollowedNode). slice_get l i) (sym nodes_are) ∙ u_at)) as (λ _. NodeAt W J r u) [
                | inl mine ↦
                    elim (get_set_cases run.nodes n i node next r there (ap (λ (l : List NodeRun). slice_get l i) (sym runs_are) ∙ r_at)) as (λ _. NodeAt W J r u) [
                      | inl same ↦ subst (λ (r : NodeRun). NodeAt W J r u) same.1 (subst (NodeAt W J next) mine.1 now)
                      | inr other ↦ absurd (other.0 mine.0)
                    ]
                | inr apart ↦
                    elim (get_set_cases run.nodes n i node next r there (ap (λ (l : List NodeRun). slice_get l i) (sym runs_are) ∙ r_at)) as (λ _. NodeAt W J r u) [
                      | inl same ↦ absurd (apart.0 same.0)
                      | inr other ↦ a.nodes_are.each i r u other.1 apart.1
                    ]
              ];
        }

    pub node_went : (nodes' : List FollowedNode) → nodes' ≡ set nodes n t' → (s : HasStepped W J run.heard node t') → (next : Run) × Performs W.settings run next × AllAt W J next nodes' h
    node_went nodes' nodes_are s =
        let next = with_node run n s.next in
        let performs : Performs W.settings run next = inl (record { place = n; node = node; stepped = s.next; stands = there; ready = s.ready; result = refl }) in (
          next,
          performs,
          record {
            valid = a.valid;
            logs = a.logs;
            leads = leads_on W.settings (run_start W J) run next a.leads performs;
            nodes_are = nodes_set next nodes' s.next refl nodes_are s.at;
            hearing = a.hearing;
          },
        )

    pub node_stayed : (nodes' : List FollowedNode) → nodes' ≡ set nodes n t' → HasNotStepped W J run.heard node t' → AllAt W J run nodes' h
    node_stayed nodes' nodes_are s =
        record {
          valid = a.valid;
          logs = a.logs;
          leads = a.leads;
          nodes_are = nodes_set run nodes' node (set_back run.nodes n node there) nodes_are s.at;
          hearing = a.hearing;
        }
      where
        set_back : (xs : List NodeRun) (i : ℕ) (x : NodeRun) → slice_get xs i ≡ Some x → xs ≡ set xs i x
        set_back [] i x e = refl
        set_back (y ∷ xs) zero x e = ap (λ (z : NodeRun). z ∷ xs) (same_Some y x e)
        set_back (y ∷ xs) (suc i) x e = ap (λ (l : List NodeRun). y ∷ l) (set_back xs i x e)

  -- ---- the coordinator

  pub may_hear : (told : List NodeId) → told ≡ J.told → MayHearAt W J run told nodes h
  may_hear told same =
      record {
        valid = a.valid;
        told_is = same;
        nodes_are = a.nodes_are;
        hearing = a.hearing;
        below = λ n node at. (fit W a.valid J run a.leads n node at).told;
      }

  pub heard_more : (h' : FollowedCoordinator) → HasHeard W J run h' → (next : Run) × Performs W.settings run next × AllAt W J next nodes h'
  heard_more h' s =
      let performs : Performs W.settings run s.next = inr s.ready in (
        s.next,
        performs,
        record {
          valid = a.valid;
          logs = a.logs;
          leads = leads_on W.settings (run_start W J) run s.next a.leads performs;
          nodes_are =
              record {
                count = a.nodes_are.count ∙ ap length (sym s.same);
                many = a.nodes_are.many;
                each = λ n node t r_at t_at. a.nodes_are.each n node t (ap (λ (l : List NodeRun). slice_get l n) (sym s.same) ∙ r_at) t_at;
              };
          hearing = s.hearing;
        },
      )

  pub heard_nothing : (h' : FollowedCoordinator) → HasNotHeard W J run h' → ((n : ℕ) (node : NodeRun) → slice_get run.nodes n ≡ Some node → step_node W.settings run.heard node ≡ None) → AllAt W J run nodes h' × IsAtRest W.settings run
  heard_nothing h' s none = (
    record { valid = a.valid; logs = a.logs; leads = a.leads; nodes_are = a.nodes_are; hearing = s.hearing },
    λ next p.
        elim p as (λ _. ⊥) [
          | inl step ↦ let never : None ≡ Some step.stepped = sym (none step.place step.node step.stands) ∙ step.ready in absurd cc
          | inr heard ↦ let never : None ≡ Some next = sym s.none ∙ heard in absurd cc
        ],
  )

-- ---- the whole

module _ (fit : RunsFit) (runs : RunsAreOfTheJournal) (W : PlainWorkload) (J : PlainJournal) (run : Run) (old : FollowedRun) (a : AllAt W J run old.nodes.items old.hearing) where
  pub node_done : (n : ℕ) (t t' : FollowedNode) → slice_get old.nodes.items n ≡ Some t → (log : List Step) → slice_get J.logs n ≡ Some log → (list : Listing Ask) → slice_get old.hearing.asks.items n ≡ Some list → (done : Bool)
      → StepsOn W log list.items t t' done → (f : FollowedRun) → f.nodes.items ≡ set old.nodes.items n t' → f.hearing ≡ old.hearing → NodeSteppedIf W J run n old f done
  node_done n t t' at log log_there list list_there true on f nodes hearing =
      let m = may_step fit runs W J run old.nodes.items old.hearing a n t at log log_there list list_there in
      let s = on.1 J run.heard m.0 m.2 in
      let w = node_went fit runs W J run old.nodes.items old.hearing a n t t' at m.0 m.1 f.nodes.items nodes s in
      let less = steps_fall old.nodes.items J.logs n t t' log at log_there on.0.0 on.0.1 in
      let left = ap (λ (l : List FollowedNode). left_steps l J.logs) nodes in
      let told = ap (λ (h : FollowedCoordinator). length J.told - h.next) hearing in
      record { next = w.0; performs = w.1; at = subst (AllAt W J w.0 f.nodes.items) (sym hearing) w.2; falls = omega (arith, less, left, told) }
  node_done n t t' at log log_there list list_there false on f nodes hearing =
      let m = may_step fit runs W J run old.nodes.items old.hearing a n t at log log_there list list_there in
      let s = on.1 J run.heard m.0 m.2 in
      record {
        at = subst (AllAt W J run f.nodes.items) (sym hearing) (node_stayed fit runs W J run old.nodes.items old.hearing a n t t' at m.0 m.1 f.nodes.items nodes s);
        stays = ap (λ (l : List FollowedNode). left_steps l J.logs + (length J.told - f.hearing.next)) nodes ∙ ap (λ (h : FollowedCoordinator). left_steps (set old.nodes.items n t') J.logs + (length J.told - h.next)) hearing
            ∙ ap (λ k. k + (length J.told - old.hearing.next)) (steps_stay old.nodes.items J.logs n t t' at on.0);
        count = ap length nodes ∙ length-set old.nodes.items n t';
        none = λ node there. ap (step_node W.settings run.heard) (same_Some node m.0 (sym there ∙ m.1)) ∙ s.none;
      }

-- the first so many nodes were tried, and none was ready
pub record Tried (W : PlainWorkload) (J : PlainJournal) (run : Run) (first : ℕ) (old f : FollowedRun) : Type 0 where
  pub at : AllAt W J run f.nodes.items f.hearing
  pub none : (n : ℕ) (node : NodeRun) → n < first → slice_get run.nodes n ≡ Some node → step_node W.settings run.heard node ≡ None
  pub stays : left_of J f ≡ left_of J old
  pub count : length f.nodes.items ≡ length old.nodes.items

pub tried_none : (W : PlainWorkload) (J : PlainJournal) (run : Run) (f : FollowedRun) → AllAt W J run f.nodes.items f.hearing → Tried W J run 0 f f
tried_none W J run f at = record { at = at; none = λ n node low there. absurd (omega (arith, low)); stays = refl; count = refl }

pub below_last : (n first : ℕ) → n < first + 1 → (n < first) ⊎ (n ≡ first)
below_last zero zero low = inr refl
below_last zero (suc first) low = inl (omega arith)
below_last (suc n) zero low = absurd (omega (arith, low))
below_last (suc n) (suc first) low = elim (below_last n first (omega (arith, low))) as (λ _. (suc n < suc first) ⊎ (suc n ≡ suc first)) [ inl less ↦ inl (omega (arith, less)) | inr same ↦ inr (ap suc same) ]

pub tried_more : (W : PlainWorkload) (J : PlainJournal) (run : Run) (first : ℕ) (old middle f : FollowedRun) → Tried W J run first old middle → NodeNotReady W J run first middle f → Tried W J run (first + 1) old f
tried_more W J run first old middle f tried new =
    record {
      at = new.at;
      none =
          λ n node low there.
          elim (below_last n first low) as (λ _. step_node W.settings run.heard node ≡ None) [
            | inl less ↦ tried.none n node less there
            | inr same ↦ new.none node (ap (slice_get run.nodes) (sym same) ∙ there)
          ];
      stays = new.stays ∙ tried.stays;
      count = new.count ∙ tried.count;
    }

pub stepped_behind : (W : PlainWorkload) (J : PlainJournal) (run : Run) (old middle f : FollowedRun) → left_of J middle ≡ left_of J old → NodeStepped W J run middle f → NodeStepped W J run old f
stepped_behind W J run old middle f same s = let less = s.falls in record { next = s.next; performs = s.performs; at = s.at; falls = omega (arith, same, less) }

-- all nodes were tried, and then the coordinator heard, or did not
pub heard_done : RunsFit → RunsAreOfTheJournal → (W : PlainWorkload) (J : PlainJournal) (run : Run) (old middle : FollowedRun) → Tried W J run (length old.nodes.items) old middle → (told : List NodeId) → told ≡ J.told → (h' : FollowedCoordinator) (done : Bool)
    → HearsOn told middle.nodes.items middle.hearing h' done → (f : FollowedRun) → f.nodes ≡ middle.nodes → f.hearing ≡ h' → SteppedAnyIf W J run old f done
heard_done fit runs W J run old middle tried told same h' true on f nodes hearing =
    let s = on.1 W J run (may_hear fit runs W J run middle.nodes.items middle.hearing tried.at told same) in
    let w = heard_more fit runs W J run middle.nodes.items middle.hearing tried.at h' s in
    let went = on.0 in
    let long = ap length same in
    let left = ap (λ (l : Listing FollowedNode). left_steps l.items J.logs) nodes in
    let now = ap (λ (h : FollowedCoordinator). h.next) hearing in
    let before = tried.stays in
    record {
      next = w.0;
      performs = w.1;
      at = subst (λ (l : Listing FollowedNode). AllAt W J w.0 l.items f.hearing) (sym nodes) (subst (AllAt W J w.0 middle.nodes.items) (sym hearing) w.2);
      falls = omega (arith, went.0, went.1, long, left, now, before);
    }
heard_done fit runs W J run old middle tried told same h' false on f nodes hearing =
    let s = on.1 W J run (may_hear fit runs W J run middle.nodes.items middle.hearing tried.at told same) in
    let long = tried.count in
    let each = tried.at.nodes_are.count in
    let w = heard_nothing fit runs W J run middle.nodes.items middle.hearing tried.at h' s (λ n node there. let low = slice_get_within run.nodes n node there in tried.none n node (omega (arith, low, long, each)) there) in
    record { at = subst (λ (l : Listing FollowedNode). AllAt W J run l.items f.hearing) (sym nodes) (subst (AllAt W J run middle.nodes.items) (sym hearing) w.0); rests = w.1 }

-- at rest all stand where following leads
pub rests_there : OrdersAgree → (W : PlainWorkload) (J : PlainJournal) (run : Run) (f : FollowedRun) → NothingIsReady W J run f → AllAt W J (followed W J) f.nodes.items f.hearing
rests_there agree W J run f n = subst (λ (r : Run). AllAt W J r f.nodes.items f.hearing) (agree W J run (record { leads = n.at.leads; rests = n.rests })) n.at
