-- From what each node did to what all did between two moments.
use Rattle.std.proofs.Common.{◌≡◌, inl, inr, ℕ, zero, suc, ◌<◌, List, [], ◌∷◌, ◌++◌, length, Some, None, refl, sym, ap, subst, ◌∙◌, arith, slice_get}
use Rattle.hs_run.proofs.Prelude.{AllByRecursion, cases_lt, length-map, same_Some, slice_get_within, Result, Ok, Err, OnOk, get_there, Ask, Told, Messages, PlainWorkload, workload_of, Workload, PlainCoordinatorActor, IsCoordinatorActor, asks_for, Hears, NodeWork, PlainNodeActors, RunState, NodeActorsStand, RunStands, moved_by, asked_by, NodeActorsAct, NodeActorsMeet, ActingNode, EachChanged, IsHere, AreFew, ActedTo, MetTo, HasMet, AllHaveActed, NoneFailed, sites_of}
use Rattle.hs_run_actors.specs.Agents.{IsTellable}
use Rattle.hs_run.specs.Nodes.{HasHeard}
use Rattle.hs_run.proofs.Choosing.{Chosen, choose}

-- the coordinator stands by what was moved and asked, node by node
pub coordinates_same : (W : PlainWorkload) (heard : Messages) (moved moved' : ℕ → List Told) (asked asked' : ℕ → List Ask) (c : PlainCoordinatorActor) → ((n : ℕ) → moved' n ≡ moved n) → ((n : ℕ) → asked' n ≡ asked n)
    → IsCoordinatorActor W heard moved asked c → IsCoordinatorActor W heard moved' asked' c
coordinates_same W heard moved moved' asked asked' c mv ak h =
    record {
      few = h.few;
      taken = h.taken;
      nodes = h.nodes;
      count = h.count;
      waits = λ n t at. h.waits n t at ∙ sym (mv n);
      hearable = h.hearable;
      tellable = λ n low. subst (AllByRecursion (IsTellable W)) (sym (mv n)) (h.tellable n low);
      askable = h.askable;
      asks_are = λ n low. h.asks_are n low ∙ ap (λ (l : List Ask). l ++ asks_for n c.asks) (sym (ak n));
    }

abbrev site_in : ActingNode → PlainNodeActors
site_in node = node.site

-- the actors of a node among those of all
pub site_there : (nodes : List ActingNode) (n : ℕ) (node : ActingNode) → slice_get nodes n ≡ Some node → slice_get (sites_of nodes) n ≡ Some node.site
site_there [] n node at = let none : None ≡ Some node = at in absurd cc
site_there (x ∷ nodes) zero node at = ap (λ (y : ActingNode). Some y.site) (same_Some x node at)
site_there (x ∷ nodes) (suc n) node at = site_there nodes n node at

-- the node of these actors
pub node_there : (nodes : List ActingNode) (n : ℕ) (site : PlainNodeActors) → slice_get (sites_of nodes) n ≡ Some site → (node : ActingNode) × (slice_get nodes n ≡ Some node) × (node.site ≡ site)
node_there [] n site at = let none : None ≡ Some site = at in absurd cc
node_there (x ∷ nodes) zero site at = (x, refl, same_Some x.site site at)
node_there (x ∷ nodes) (suc n) site at = node_there nodes n site at

pub hear_all : {T E : Type 0} (r : Result T E) (old new : PlainCoordinatorActor)
    → ((W : PlainWorkload) (heard : Messages) (moved : ℕ → List Told) (asked : ℕ → List Ask) → IsCoordinatorActor W heard moved asked old → OnOk r ((more : Messages) × Hears W heard more moved asked new)) → OnOk r (HasHeard old new)
hear_all (Ok x) old new h = record { by = λ W heard works is. h W heard (moved_by works) (asked_by works) is }
hear_all (Err e) old new h = tt

module _ (W : PlainWorkload) (m : RunState) (nodes : List ActingNode) (c : PlainCoordinatorActor) (here : IsHere W m nodes c) where
  pub node_count : length nodes ≡ W.settings.nodes
  node_count = sym (length-map nodes site_in) ∙ sym (ap length here.nodes_are) ∙ here.stands.count

  pub node_stands : (n : ℕ) (node : ActingNode) → slice_get nodes n ≡ Some node → NodeActorsStand W n (m.works n) node.site
  node_stands n node at = here.stands.each n node.site (ap (λ (l : List PlainNodeActors). slice_get l n) here.nodes_are ∙ site_there nodes n node at)

  pub node_low : (n : ℕ) (node : ActingNode) → slice_get nodes n ≡ Some node → n < W.settings.nodes
  node_low n node at = let low = slice_get_within nodes n node at in let count = node_count in omega (arith, low, count)

  pub coordinates : IsCoordinatorActor W m.heard (moved_by m.works) (asked_by m.works) c
  coordinates = subst (IsCoordinatorActor W m.heard (moved_by m.works) (asked_by m.works)) here.coordinator_is here.stands.coordinator

module _ (w : Workload) (m : RunState) (old new : List ActingNode) (c c' : PlainCoordinatorActor) (here : IsHere (workload_of w) m old c) (few : AreFew (workload_of w) m) (acted : AllHaveActed w old new) (heard : HasHeard c c') (none : NoneFailed new) where
  ActsTo : ℕ → ActingNode → NodeWork → Type 0
  ActsTo n node work' = (node' : ActingNode) → slice_get new n ≡ Some node' → NodeActorsAct (workload_of w) n (m.works n) work' node.site node'.site

  one : (n : ℕ) (node : ActingNode) → slice_get old n ≡ Some node → (work' : NodeWork) × ActsTo n node work'
  unfolding ActsTo
  one n node at =
      let low = slice_get_within old n node at in
      let many = acted.count in
      let (node', at') = get_there new n (omega (arith, low, many)) in
      let (work', acts) = acted.each n node node' at at' (none n node' at') (m.works n) (node_stands (workload_of w) m old c here n node at) (few n (node_low (workload_of w) m old c here n node at)) in
      (work', λ x found. subst (λ (y : ActingNode). NodeActorsAct (workload_of w) n (m.works n) work' node.site y.site) (same_Some node' x (sym at' ∙ found)) acts)

  chosen : Chosen ActsTo m.works old
  chosen = choose ActsTo m.works old one

  works : ℕ → NodeWork
  works n = chosen.value n

  more : (x : Messages) × Hears (workload_of w) m.heard x (moved_by m.works) (asked_by m.works) c'
  more = heard.by (workload_of w) m.heard m.works (coordinates (workload_of w) m old c here)

  -- how the node with this number acted
  acts : (n : ℕ) (node node' : ActingNode) → slice_get old n ≡ Some node → slice_get new n ≡ Some node' → NodeActorsAct (workload_of w) n (m.works n) (works n) node.site node'.site
  unfolding ActsTo works
  acts n node node' at at' = chosen.each n node at node' at'

  same_work : (n : ℕ) → ((works n).moved ≡ (m.works n).moved) × ((works n).asked ≡ (m.works n).asked)
  unfolding works
  same_work n =
      elim (cases_lt n (length old)) [
        | inl low ↦
            let (node, at) = get_there old n low in
            let many = acted.count in
            let (node', at') = get_there new n (omega (arith, low, many)) in
            let e = (acts n node node' at at').work_is in
            (ap (λ (x : NodeWork). x.moved) e, ap (λ (x : NodeWork). x.asked) e)
        | inr high ↦ (ap (λ (x : NodeWork). x.moved) (chosen.past n high), ap (λ (x : NodeWork). x.asked) (chosen.past n high))
      ]

  next : RunState
  next = record { standing = record { nodes = sites_of new; coordinator = c' }; works = works; heard = m.heard ++ more.0 }

  before : (n : ℕ) (node' : ActingNode) → slice_get new n ≡ Some node' → (node : ActingNode) × (slice_get old n ≡ Some node)
  before n node' at' = let low = slice_get_within new n node' at' in let many = acted.count in get_there old n (omega (arith, low, many))

  stands : RunStands (workload_of w) next
  unfolding next
  stands =
      record {
        valid = here.stands.valid;
        count = length-map new site_in ∙ acted.count ∙ node_count (workload_of w) m old c here;
        each = λ n site at.
            let (node', at', is) = node_there new n site at in
            let (node, was) = before n node' at' in
            subst (NodeActorsStand (workload_of w) n (works n)) is (acts n node node' was at').stands;
        coordinator =
            coordinates_same (workload_of w) (m.heard ++ more.0) (moved_by m.works) (moved_by works) (asked_by m.works) (asked_by works) c' (λ n. (same_work n).0) (λ n. (same_work n).1) more.1.stands;
      }

  pub acted_to : ActedTo (workload_of w) m new c'
  unfolding next
  acted_to =
      record {
        next = next;
        acts =
            record {
              stands = stands;
              each = λ n site site' at at'.
                  let (node, was, is) = node_there old n site (sym (ap (λ (l : List PlainNodeActors). slice_get l n) here.nodes_are) ∙ at) in
                  let (node', was', is') = node_there new n site' at' in
                  subst (λ (x : PlainNodeActors). NodeActorsAct (workload_of w) n (m.works n) (works n) x site') is
                  (subst (NodeActorsAct (workload_of w) n (m.works n) (works n) node.site) is' (acts n node node' was was'));
              more = more.0;
              heard = refl;
              hears = more.1;
            };
        here = record { stands = stands; nodes_are = refl; coordinator_is = refl };
      }

-- ---- meeting

module _ (W : PlainWorkload) (m : RunState) (old new : List ActingNode) (c : PlainCoordinatorActor) (here : IsHere W m old c) (met : EachChanged HasMet old new) where
  after : RunState
  after = record { standing = record { nodes = sites_of new; coordinator = c }; works = m.works; heard = m.heard }

  one_met : (n : ℕ) (node node' : ActingNode) → slice_get old n ≡ Some node → slice_get new n ≡ Some node' → NodeActorsMeet W n (m.works n) node.site node'.site
  one_met n node node' at at' = met.each n node node' at at' W n (m.works n) (node_stands W m old c here n node at)

  was_there : (n : ℕ) (node' : ActingNode) → slice_get new n ≡ Some node' → (node : ActingNode) × (slice_get old n ≡ Some node)
  was_there n node' at' = let low = slice_get_within new n node' at' in let many = met.many in get_there old n (omega (arith, low, many))

  stand : RunStands W after
  unfolding after
  stand =
      record {
        valid = here.stands.valid;
        count = length-map new site_in ∙ met.many ∙ node_count W m old c here;
        each = λ n site at.
            let (node', at', is) = node_there new n site at in
            let (node, was) = was_there n node' at' in
            subst (NodeActorsStand W n (m.works n)) is (one_met n node node' was at').stands;
        coordinator = coordinates W m old c here;
      }

  pub met_to : MetTo W m new c
  unfolding after
  met_to =
      record {
        next = after;
        meets =
            record {
              stands = stand;
              each = λ n site site' at at'.
                  let (node, was, is) = node_there old n site (sym (ap (λ (l : List PlainNodeActors). slice_get l n) here.nodes_are) ∙ at) in
                  let (node', was', is') = node_there new n site' at' in
                  subst (λ (x : PlainNodeActors). NodeActorsMeet W n (m.works n) x site') is (subst (NodeActorsMeet W n (m.works n) node.site) is' (one_met n node node' was was'));
              works = refl;
              heard = refl;
              coordinator = sym here.coordinator_is;
            };
        here = record { stands = stand; nodes_are = refl; coordinator_is = refl };
      }
