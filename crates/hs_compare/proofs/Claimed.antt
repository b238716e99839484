-- The claimed traces of an outcome: those that were claimed at some node.
use Rattle.std.proofs.Common.{◌≡◌, ℕ, Bool, true, false, ◌||◌, cond, List, [], ◌∷◌, refl, sym, ap, ◌∙◌, slice_get, Some, eqb, eqb-true, ltb}
use Rattle.hs_compare.proofs.Prelude.{AllByRecursion, flat_map, IsIn, all_each, TraceId, is_among, NodeRun, put_trace, rising_traces, claimed_at}
use Rattle.hs_base.proofs.Bools.{or_twice, or_swap}
use Rattle.hs_compare.proofs.Lists.{all_themselves, in_flat}
use Rattle.hs_compare.proofs.Naming.{Among, among_all, among_in}

-- ---- rising traces

module _ (trace : TraceId) where
  put_case : (other x : TraceId) (traces : List TraceId) (b : Bool) → eqb trace.0 other.0 ≡ b → is_among (put_trace trace traces) x ≡ (eqb trace.0 x.0 || is_among traces x)
      → is_among (cond b (other ∷ traces) (other ∷ put_trace trace traces)) x ≡ (eqb trace.0 x.0 || (eqb other.0 x.0 || is_among traces x))
  put_case other x traces true e rest =
      or_twice (eqb other.0 x.0) (is_among traces x) ∙ ap (λ (n : ℕ). eqb n x.0 || (eqb other.0 x.0 || is_among traces x)) (sym (eqb-true trace.0 other.0 e))
  put_case other x traces false e rest = ap (λ (b : Bool). eqb other.0 x.0 || b) rest ∙ or_swap (eqb other.0 x.0) (eqb trace.0 x.0) (is_among traces x)

  put_before : (other x : TraceId) (traces after : List TraceId) (b : Bool) → is_among after x ≡ (eqb trace.0 x.0 || (eqb other.0 x.0 || is_among traces x))
      → is_among (cond b (trace ∷ other ∷ traces) after) x ≡ (eqb trace.0 x.0 || (eqb other.0 x.0 || is_among traces x))
  put_before other x traces after true h = refl
  put_before other x traces after false h = h

  put_among : (traces : List TraceId) (x : TraceId) → is_among (put_trace trace traces) x ≡ (eqb trace.0 x.0 || is_among traces x)
  put_among [] x = refl
  put_among (other ∷ traces) x =
      put_before other x traces (cond (eqb trace.0 other.0) (other ∷ traces) (other ∷ put_trace trace traces)) (ltb trace.0 other.0) (put_case other x traces (eqb trace.0 other.0) refl (put_among traces x))

  pub put_all : (P : TraceId → Type 0) (traces : List TraceId) → P trace → AllByRecursion P traces → AllByRecursion P (put_trace trace traces)
  put_all P [] here all = (here, tt)
  put_all P (other ∷ traces) here all = first (ltb trace.0 other.0) (eqb trace.0 other.0) (put_all P traces here all.1)
    where
      first : (a b : Bool) → AllByRecursion P (put_trace trace traces) → AllByRecursion P (cond a (trace ∷ other ∷ traces) (cond b (other ∷ traces) (other ∷ put_trace trace traces)))
      first true b rest = (here, all)
      first false true rest = all
      first false false rest = (all.0, rest)

rising_among : (traces : List TraceId) (x : TraceId) → is_among (rising_traces traces) x ≡ is_among traces x
rising_among [] x = refl
rising_among (trace ∷ traces) x = put_among trace (rising_traces traces) x ∙ ap (λ (b : Bool). eqb trace.0 x.0 || b) (rising_among traces x)

pub rising_all : (P : TraceId → Type 0) (traces : List TraceId) → AllByRecursion P traces → AllByRecursion P (rising_traces traces)
rising_all P [] all = tt
rising_all P (trace ∷ traces) all = put_all trace P (rising_traces traces) all.0 (rising_all P traces all.1)

-- ---- all nodes

pub claimed_somewhere : (nodes : List NodeRun) (place : ℕ) (node : NodeRun) (trace : TraceId) → slice_get nodes place ≡ Some node → Among (claimed_at node) trace → Among (rising_traces (flat_map claimed_at nodes)) trace
claimed_somewhere nodes place node trace there h =
    let all = flat_map claimed_at nodes in
    rising_among all trace
    ∙ among_all all (claimed_at node) trace
    (all_each (IsIn (claimed_at node)) (Among all) (claimed_at node) (λ t is. among_in all t (in_flat claimed_at nodes node t (record { place = place; there = there }) is)) (all_themselves (claimed_at node))) h
