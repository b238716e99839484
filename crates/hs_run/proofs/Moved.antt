-- What is moved behind a round, node by node.
use Rattle.std.proofs.Common.{◌≡◌, inl, inr, ℕ, ◌+◌, ◌<◌, ◌≤◌, List, [], ◌++◌, set, length, Some, refl, sym, ap, ap₂, subst, ◌∙◌, arith, slice_get}
use Rattle.hs_run.proofs.Prelude.{cases_lt, length-map, get_set_cases, put, put_here, put_else, Asks, PlainWorkload, PlainCoordinatorActor, IsCoordinatorActor, asks_for, NodeWork, PlainNodeActors, RunState, NodeActorsStand, RunStands, moved_by, asked_by, ActingNode, IsHere, MovedTo, Moving, sites_of}
use Rattle.hs_base.proofs.Updates.{put_cases}
use Rattle.hs_run_actors.specs.Coordinators.{AreFetched}
use Rattle.hs_run.specs.Moving.{IsSameDoing, NodeActorsMove}
use Rattle.hs_run.specs.Movings.{HasExchanged, IsExchanged, NodeMoves, exchanged}
use Rattle.hs_run.proofs.Changed.{first_none, first_more, first_all}
use Rattle.hs_run.proofs.Moments.{node_count, node_stands, coordinates, node_there}

pub moving_none : (W : PlainWorkload) (m : RunState) (nodes : List ActingNode) (c : PlainCoordinatorActor) → IsHere W m nodes c → Moving W m 0 nodes nodes c
moving_none W m nodes c here =
    record {
      works = m.works;
      done = λ n low. absurd (omega (arith, low));
      others = λ n high. refl;
      moved = first_none NodeMoves nodes;
      stands = node_stands W m nodes c here;
      coordinates = coordinates W m nodes c here;
      kept = sym (ap (λ (x : PlainCoordinatorActor). x.kept) here.coordinator_is);
      asks = sym (ap (λ (x : PlainCoordinatorActor). x.asks) here.coordinator_is);
    }

module _ (W : PlainWorkload) (m : RunState) (n : ℕ) (before nodes : List ActingNode) (c c' : PlainCoordinatorActor) (x y : ActingNode) (h : Moving W m n before nodes c) (at : slice_get nodes n ≡ Some x) (e : HasExchanged n x.site c y.site c') where
  work : NodeWork
  work = exchanged c.asks n x.site.agent.said (h.works n)

  works : ℕ → NodeWork
  works = put h.works n work

  stands : (k : ℕ) (z : ActingNode) → slice_get (set nodes n y) k ≡ Some z → NodeActorsStand W k (works k) z.site
  unfolding works work
  stands k z found =
      elim (get_set_cases nodes n k x y z at found) [
        | inl at' ↦
            let here = subst (λ (w : NodeWork). NodeActorsStand W n w y.site) (sym (put_here h.works n work)) (e.by W (h.works n) (h.stands n x at) h.coordinates.askable).0 in
            subst (λ (i : ℕ). NodeActorsStand W i (put h.works n work i) z.site) at'.0 (subst (λ (v : ActingNode). NodeActorsStand W n (put h.works n work n) v.site) at'.1 here)
        | inr other ↦ subst (λ (w : NodeWork). NodeActorsStand W k w z.site) (sym (put_else h.works n work k (λ f. other.0 (sym f)))) (h.stands k z other.1)
      ]

  done : (k : ℕ) → k < n + 1 → IsExchanged m.standing.coordinator.asks k (m.works k) (works k)
  unfolding works work
  done k low =
      put_cases (IsExchanged m.standing.coordinator.asks k (m.works k)) h.works n work k
      (λ same. subst (λ (i : ℕ). IsExchanged m.standing.coordinator.asks i (m.works i) work) (sym same) (x.site.agent.said, ap₂ (λ (a : List Asks) (w : NodeWork). exchanged a n x.site.agent.said w) h.asks (h.others n (omega arith))))
      (λ other. h.done k (omega (arith, low, other)))

  pub moving_more : Moving W m (n + 1) before (set nodes n y) c'
  unfolding works work
  moving_more =
      record {
        works = works;
        done = done;
        others = λ k high. put_else h.works n work k (λ same. omega (arith, same, high)) ∙ h.others k (omega (arith, high));
        moved = first_more NodeMoves n before nodes x y h.moved at e.moves;
        stands = stands;
        coordinates =
            (e.by W (h.works n) (h.stands n x at) h.coordinates.askable).1.by m.heard (moved_by h.works) (moved_by works) (asked_by m.works) h.coordinates
            (record { here = ap (λ (w : NodeWork). w.moved) (put_here h.works n work); others = λ k other. ap (λ (w : NodeWork). w.moved) (put_else h.works n work k other) });
        kept = ap (λ (x : PlainCoordinatorActor). x.kept) e.only ∙ h.kept;
        asks = ap (λ (x : PlainCoordinatorActor). x.asks) e.only ∙ h.asks;
      }

module _ (W : PlainWorkload) (m : RunState) (n : ℕ) (before nodes : List ActingNode) (c0 c : PlainCoordinatorActor) (here : IsHere W m before c0) (high : length before ≤ n) (h : Moving W m n before nodes c) where
  -- the asks of all nodes were moved
  pub are_fetched : AreFetched W c.asks (asked_by m.works) (asked_by h.works)
  are_fetched k low =
      let count = node_count W m before c0 here in
      let (told, is) = h.done k (omega (arith, low, count, high)) in
      ap (λ (w : NodeWork). w.asked) is ∙ ap (λ (l : List Asks). (m.works k).asked ++ asks_for k l) (sym h.asks)

  same : (k : ℕ) → IsSameDoing (m.works k) (h.works k)
  same k =
      elim (cases_lt k n) [
        | inl low ↦ let is = (h.done k low).1 in record { node = ap (λ w. w.node) is; pool = ap (λ w. w.pool) is; events = ap (λ w. w.events) is; came = ap (λ w. w.came) is }
        | inr past ↦ let is = h.others k past in record { node = ap (λ w. w.node) is; pool = ap (λ w. w.pool) is; events = ap (λ w. w.events) is; came = ap (λ w. w.came) is }
      ]

  module _ (c' : PlainCoordinatorActor) (only : c' ≡ record c { asks = [] }) (coordinates' : IsCoordinatorActor W m.heard (moved_by h.works) (asked_by h.works) c') where
    next : RunState
    next = record { standing = record { nodes = sites_of nodes; coordinator = c' }; works = h.works; heard = m.heard }

    next_stands : RunStands W next
    unfolding next
    next_stands =
        record {
          valid = here.stands.valid;
          count = length-map nodes (λ (x : ActingNode). x.site) ∙ h.moved.many ∙ node_count W m before c0 here;
          each = λ k site at. let (node, there, is) = node_there nodes k site at in subst (NodeActorsStand W k (h.works k)) is (h.stands k node there);
          coordinator = coordinates';
        }

    pub moved_to : MovedTo W m nodes c'
    unfolding next
    moved_to =
        record {
          next = next;
          moves =
              record {
                stands = next_stands;
                heard = refl;
                works = same;
                each = λ k site site' at at'.
                    let (node, was, is) = node_there before k site (sym (ap (λ (l : List PlainNodeActors). slice_get l k) here.nodes_are) ∙ at) in
                    let (node', was', is') = node_there nodes k site' at' in
                    let moves = (first_all NodeMoves n before nodes high h.moved).each k node node' was was' in
                    subst (λ (x : PlainNodeActors). NodeActorsMove x site') is (subst (NodeActorsMove node.site) is' moves);
                kept = ap (λ (x : PlainCoordinatorActor). x.kept) only ∙ h.kept;
                asks = ap (λ (x : PlainCoordinatorActor). x.asks) only;
              };
          here = record { stands = next_stands; nodes_are = refl; coordinator_is = refl };
        }
