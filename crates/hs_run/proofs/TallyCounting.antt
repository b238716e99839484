-- How counts go on, client by client and node by node.
use Rattle.std.proofs.Common.{◌≡◌, ℕ, suc, ◌+◌, ◌*◌, ◌≤◌, List, [], length, set, length-set, map, Some, Option, inl, inr, refl, sym, ap, subst, ◌∙◌, arith, slice_get, unwrap_or}
use Rattle.hs_run.proofs.Prelude.{suc-mul, mul-le-mul_right, same_Some, slice_get-map, slice_get_within, same_or_less, get_set, get_other, Listing, PlainClientActor, ClientCount, client_count, Operation, PlainWorkload, operations_at, place_of, Op, Workload, operation_of, operations_of, workload_of, ActingNode, MayCountNodes, CountedFirst, CountedNodes}
use Rattle.std.specs.Option.{option_map}
use Rattle.hs_run.specs.TallyingNodes.{MayCountNode}

-- the operations at a place, as they lie in the workload
pub operations_here : (w : Workload) (place : ℕ) (ops : Listing Op) → slice_get w.clients.items place ≡ Some ops → operations_at (workload_of w) place ≡ map operation_of ops.items
operations_here w place ops at =
    ap (λ (o : Option (List Operation)). unwrap_or o []) (slice_get-map operations_of w.clients.items place ∙ ap (λ (o : Option (Listing Op)). option_map operations_of o) at)

-- ---- one client more

module _ (W : PlainWorkload) (node : ℕ) (callers : List PlainClientActor) (old : List ClientCount) where
  pub none_first : CountedFirst W node 0 callers old old
  none_first = record { many = refl; first = λ number caller low at. absurd (omega (arith, low)); before = λ place low. refl; behind = λ place high. refl }

  pub one_first : (number : ℕ) (mid new : List ClientCount) (count : ClientCount) (caller : PlainClientActor) → CountedFirst W node number callers old mid → slice_get callers number ≡ Some caller
      → slice_get mid (place_of W.settings.clients node number) ≡ Some count
      → new ≡ set mid (place_of W.settings.clients node number) (client_count (operations_at W (place_of W.settings.clients node number)) caller) → CountedFirst W node (number + 1) callers old new
  one_first number mid new count caller h found stood is =
      let place = place_of W.settings.clients node number in
      let counted = client_count (operations_at W place) caller in
      let there : (other : ℕ) → slice_get new other ≡ slice_get (set mid place counted) other = λ other. ap (λ (l : List ClientCount). slice_get l other) is in
      record {
        many = ap length is ∙ length-set mid place counted ∙ h.many;
        first = λ other x low at.
            elim (same_or_less other number (omega (arith, low))) [
              | inl less ↦ there (place_of W.settings.clients node other) ∙ get_other mid place (place_of W.settings.clients node other) counted (λ e. omega (arith, e, less)) ∙ h.first other x less at
              | inr same ↦
                  let x_is : caller ≡ x = same_Some caller x (sym found ∙ ap (slice_get callers) (sym same) ∙ at) in
                  subst (λ (n : ℕ). slice_get new (place_of W.settings.clients node n) ≡ Some (client_count (operations_at W (place_of W.settings.clients node n)) x)) (sym same)
                  (subst (λ (y : PlainClientActor). slice_get new place ≡ Some (client_count (operations_at W place) y)) x_is (there place ∙ get_set mid place count counted stood))
            ];
        before = λ other low. there other ∙ get_other mid place other counted (λ e. omega (arith, e, low)) ∙ h.before other low;
        behind = λ other high. there other ∙ get_other mid place other counted (λ e. omega (arith, e, high)) ∙ h.behind other (omega (arith, high));
      }

-- ---- one node more

module _ (W : PlainWorkload) (nodes : List ActingNode) (old : List ClientCount) where
  pub none_of_nodes : CountedNodes W 0 nodes old old
  none_of_nodes = record { many = refl; first = λ node number at caller low there found. absurd (omega (arith, low)); behind = λ place high. refl }

  -- the clients of the next node can be counted on too
  pub may_next : (node : ℕ) (at : ActingNode) (mid : List ClientCount) → MayCountNodes W nodes old → slice_get nodes node ≡ Some at → CountedNodes W node nodes old mid → MayCountNode W node at.site.callers mid
  may_next node at mid may there h =
      let n = may.each node at there in
      record {
        valid = n.valid;
        low = n.low;
        many = n.many;
        counts_are = h.many ∙ n.counts_are;
        each = λ number caller count found stood. n.each number caller count found (sym (h.behind (place_of W.settings.clients node number) (omega arith)) ∙ stood);
      }

  pub one_of_nodes : (node : ℕ) (at : ActingNode) (mid new : List ClientCount) → MayCountNodes W nodes old → slice_get nodes node ≡ Some at → CountedNodes W node nodes old mid
      → CountedFirst W node W.settings.clients at.site.callers mid new → CountedNodes W (node + 1) nodes old new
  one_of_nodes node at mid new may there h one =
      let each = W.settings.clients in
      let next : (n : ℕ) → (n + 1) * each ≡ n * each + each = λ n. let e : n + 1 ≡ suc n = omega arith in ap (λ (k : ℕ). k * each) e ∙ suc-mul n each in
      record {
        many = one.many ∙ h.many;
        first = λ other number x caller low there' found.
            let own = (may.each other x there').many in
            let below = slice_get_within x.site.callers number caller found in
            elim (same_or_less other node (omega (arith, low))) [
              | inl less ↦
                  let up : other + 1 ≤ node = omega (arith, less) in
                  let row = mul-le-mul_right each up in
                  let more = next other in
                  one.before (place_of each other number) (omega (arith, own, below, row, more)) ∙ h.first other number x caller less there' found
              | inr same ↦
                  let x_is : x ≡ at = same_Some x at (sym there' ∙ ap (slice_get nodes) same ∙ there) in
                  subst (λ (n : ℕ). slice_get new (place_of each n number) ≡ Some (client_count (operations_at W (place_of each n number)) caller)) (sym same)
                  (one.first number caller (omega (arith, own, below)) (sym (ap (λ (y : ActingNode). slice_get y.site.callers number) x_is) ∙ found))
            ];
        behind = λ place high. let more = next node in one.behind place (omega (arith, high, more)) ∙ h.behind place (omega (arith, high, more));
      }
