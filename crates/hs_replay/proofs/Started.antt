-- All nodes where nothing was done, and their coordinator.
use Rattle.std.proofs.Common.{◌≡◌, inl, inr, ℕ, zero, suc, ◌+◌, List, [], ◌∷◌, ◌++◌, length, Some, None, Result, Ok, Err, IfOk, sym, ap, subst, ◌∙◌, arith, slice_get, length-append}
use Rattle.hs_replay.proofs.Prelude.{get_push_cases, Messages, PlainCoordinator, HasTaken, Run, machine_start, heard_in, MachinesStartSo, PlainWorkload, AllAt, NodesAt, AreMade, PlainReplayNode, NodeIsAt}

nothing_at : (W : PlainWorkload) (nodes : List PlainReplayNode) (place : ℕ) (node : PlainReplayNode) → nodes ≡ [] → slice_get nodes place ≡ Some node → NodeIsAt W (machine_start W) place node
nothing_at W [] zero node none at = let nobody : None ≡ Some node = at in absurd cc
nothing_at W [] (suc place) node none at = let nobody : None ≡ Some node = at in absurd cc
nothing_at W (x ∷ nodes) place node none at = absurd cc

pub none_made : (W : PlainWorkload) (nodes : List PlainReplayNode) → nodes ≡ [] → AreMade W 0 nodes
none_made W nodes none = record { many = ap length none; each = λ place node at. nothing_at W nodes place node none at }

pub one_more_made : (W : PlainWorkload) (count : ℕ) (nodes : List PlainReplayNode) (node : PlainReplayNode) → AreMade W count nodes → NodeIsAt W (machine_start W) count node → AreMade W (count + 1) (nodes ++ node ∷ [])
one_more_made W count nodes node made at =
    record {
      many = let all = length-append nodes (node ∷ []) in let many = made.many in omega (arith, all, many);
      each =
          λ other n stood.
          elim (get_push_cases nodes node n other stood) [
            | inl h ↦ made.each other n h
            | inr h ↦
                let same : count ≡ other = sym made.many ∙ h.0 in
                subst (λ (q : PlainReplayNode). NodeIsAt W (machine_start W) other q) h.1 (subst (λ i. NodeIsAt W (machine_start W) i node) same at)
          ];
    }

pub coordinator_made : (starts : MachinesStartSo) (W : PlainWorkload) (nodes : List PlainReplayNode) → NodesAt W (machine_start W) nodes → {E : Type 0} (made : Result PlainCoordinator E)
    → IfOk made (λ coordinator. HasTaken coordinator []) → IfOk made (λ coordinator. coordinator.nodes ≡ W.settings.nodes) → IfOk made (AllAt W (machine_start W) nodes)
coordinator_made starts W nodes at (Ok coordinator) taken count =
    let none : heard_in W (machine_start W).journal ≡ [] = ap (λ (r : Run). r.heard) (starts W).run in
    record {
      valid = at.valid;
      reached = at.reached;
      nodes_are = at.nodes_are;
      coordinator_is = record { taken = subst (λ (heard : Messages). HasTaken coordinator heard) (sym none) taken; nodes = count };
    }
coordinator_made starts W nodes at (Err e) taken count = tt
