-- The least node of a set, and the nodes behind it.
use Rattle.std.proofs.Common.{◌≡◌, ℕ, zero, suc, ◌+◌, ◌^◌, ◌*◌, ◌%◌, ◌<◌, ◌≤◌, List, Bool, true, false, not, ◌&&◌, nat_eq, cond, [], ◌∷◌, filter, eq-eqb, sym, ap, subst, refl, ◌∙◌, arith, ⊎_elim}
use Rattle.std.specs.List.{range_with_len}
use Rattle.std.proofs.Math.Bool.{and-true}
use Rattle.std.proofs.lemmas.Bool.{cases_eq}
use Rattle.std.proofs.Math.Pow.{pow-lt}
use Rattle.std.proofs.lemmas.Grind.{one_shifted}
use borrow.Author.Tests.{ne_eqb}
use Rattle.hs_base.specs.declared.limits.TheConstants.{MOST_NODES}
use Rattle.hs_base.specs.declared.ids.NodeId.{NodeId}
use Rattle.hs_base.specs.declared.node_set.NodeSet.{NodeSet}
use Rattle.hs_base.specs.NodeSets.{has_node, nodes_of, one_node, without}
use Rattle.hs_base.specs.NodeSetLaws.{has-one_node, has-without}

-- the set of one node, as it is shifted
pub shifted : (node : NodeId) → node.0 < MOST_NODES → 1 * 2 ^ node.0 % 340282366920938463463374607431768211456 ≡ 2 ^ node.0
shifted node within = (one_shifted node.0 340282366920938463463374607431768211455 refl within).0

abbrev picked : ℕ → (ℕ → Bool) → ℕ → Bool → List ℕ
picked m f a c = cond c (a ∷ filter f (range_with_len (a + 1) m)) (filter f (range_with_len (a + 1) m))

filter_none : (p : ℕ → Bool) (a m : ℕ) → ((k : ℕ) → k < a + m → p k ≡ false) → filter p (range_with_len a m) ≡ []
filter_none p a zero none = refl
filter_none p a (suc m) none =
    ap (picked m p a) (none a (omega arith))
    ∙ filter_none p (a + 1) m (λ k below. none k (omega arith))

filter_same : (p q : ℕ → Bool) (a m : ℕ) → ((k : ℕ) → a ≤ k → p k ≡ q k) → filter p (range_with_len a m) ≡ filter q (range_with_len a m)
filter_same p q a zero same = refl
filter_same p q a (suc m) same =
    let rest : filter p (range_with_len (a + 1) m) ≡ filter q (range_with_len (a + 1) m) = filter_same p q (a + 1) m (λ k above. same k (omega arith)) in
    ap (picked m p a) (same a (omega arith))
    ∙ ap (λ xs. cond (q a) (a ∷ xs) xs) rest

-- the first number that passes, and those that pass behind it
filter_first : (p q : ℕ → Bool) (n a m : ℕ) → p n ≡ true → ((k : ℕ) → q k ≡ (p k && not (nat_eq k n))) → a ≤ n → n < a + m → ((k : ℕ) → k < n → p k ≡ false)
    → filter p (range_with_len a m) ≡ n ∷ filter q (range_with_len a m)
filter_first p q n a zero is rest low high none = absurd (omega arith)
filter_first p q n a (suc m) is rest low high none = ⊎_elim (λ e. subst (λ b. filter p (range_with_len b (suc m)) ≡ n ∷ filter q (range_with_len b (suc m))) (sym e) here) (λ ne. later ne (filter_first p q n (a + 1) m is rest (omega arith) (omega arith) none)) (cases_eq a n)
  where
    here : filter p (range_with_len n (suc m)) ≡ n ∷ filter q (range_with_len n (suc m))
    here =
        ap (picked m p n) is
        ∙ ap (λ xs. n ∷ xs) (filter_same p q (n + 1) m (λ k above. sym (rest k ∙ ap (λ b. p k && not b) (ne_eqb k n (λ e. omega arith)) ∙ and-true (p k))))
        ∙ sym (ap (λ xs. n ∷ xs) (ap (picked m q n) (rest n ∙ ap (λ b. b && not (nat_eq n n)) is ∙ ap not (eq-eqb n n refl))))

    later : (a ≡ n → ⊥) → filter p (range_with_len (a + 1) m) ≡ n ∷ filter q (range_with_len (a + 1) m) → filter p (range_with_len a (suc m)) ≡ n ∷ filter q (range_with_len a (suc m))
    later ne more =
        let before : p a ≡ false = none a (omega arith) in
        ap (picked m p a) before ∙ more
        ∙ sym (ap (λ xs. n ∷ xs) (ap (picked m q a) (rest a ∙ ap (λ b. b && not (nat_eq a n)) before)))

pub nodes-first : (s : NodeSet) (node : NodeId) → s.0 < 2 ^ 128 → node.0 < MOST_NODES → has_node s node.0 ≡ true → ((k : ℕ) → k < node.0 → has_node s k ≡ false)
    → nodes_of s ≡ node.0 ∷ nodes_of (without s (one_node node))
unfolding nodes_of
nodes-first s node fits within is none =
    filter_first (has_node s) (has_node (without s (one_node node))) node.0 0 MOST_NODES is
    (λ k. has-without s (one_node node) k fits (pow-lt within) ∙ ap (λ b. has_node s k && not b) (has-one_node node k))
    (omega arith) (omega arith) none

pub nodes-none : (s : NodeSet) → ((k : ℕ) → k < MOST_NODES → has_node s k ≡ false) → nodes_of s ≡ []
unfolding nodes_of
nodes-none s none = filter_none (has_node s) 0 MOST_NODES (λ k below. none k (omega arith))
