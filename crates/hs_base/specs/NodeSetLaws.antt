-- What each operation on sets of nodes does to a node, and that sets with the same nodes are one.
use Rattle.std.proofs.Common.{◌≡◌, ℕ, zero, suc, ◌-◌, ◌^◌, ◌<◌, ◌≤◌, min, max, false, not, ◌||◌, ◌&&◌, nat_eq, bit_and, eq-eqb, sym, ap, refl, ◌∙◌, arith, ⊎_elim}
use Rattle.std.specs.Int.{bit_at, w128}
use Rattle.std.proofs.lemmas.Bool.{cases_eq, cases_lt}
use Rattle.std.proofs.lemmas.Nat.Bits.{bit_at-lt, bit_at_above, bit_at_or, bit_at_and, bit_at_not, bit_at-pow_same, bit_at-pow_other, bit_at-zero, same_from_bits}
use borrow.Author.Tests.{ne_eqb}
use Rattle.hs_base.specs.declared.ids.NodeId.{NodeId}
use Rattle.hs_base.specs.declared.node_set.NodeSet.{NodeSet}
use Rattle.hs_base.specs.NodeSets.{has_node, no_nodes, one_node, either, without, with_node}

pub has-no_nodes : (n : ℕ) → has_node no_nodes n ≡ false
has-no_nodes n = ap (λ m. nat_eq m 1) (bit_at-zero n)

pub has-one_node : (node : NodeId) (n : ℕ) → has_node (one_node node) n ≡ nat_eq n node.0
has-one_node node n =
    ⊎_elim
    (λ (e : n ≡ node.0). ap (λ i. nat_eq (bit_at (2 ^ node.0) i) 1) e ∙ ap (λ m. nat_eq m 1) (bit_at-pow_same node.0) ∙ sym (eq-eqb n node.0 e))
    (λ (ne : n ≡ node.0 → ⊥). ap (λ m. nat_eq m 1) (bit_at-pow_other node.0 n ne) ∙ sym (ne_eqb n node.0 ne))
    (cases_eq n node.0)

-- whether either of two bits is 1
max_bits : (a b : ℕ) → a < 2 → b < 2 → nat_eq (max a b) 1 ≡ (nat_eq a 1 || nat_eq b 1)
max_bits zero zero p q = refl
max_bits zero (suc zero) p q = refl
max_bits (suc zero) zero p q = refl
max_bits (suc zero) (suc zero) p q = refl
max_bits (suc (suc a)) b p q = absurd (omega arith)
max_bits zero (suc (suc b)) p q = absurd (omega arith)
max_bits (suc zero) (suc (suc b)) p q = absurd (omega arith)

pub has-either : (a b : NodeSet) (n : ℕ) → has_node (either a b) n ≡ (has_node a n || has_node b n)
has-either a b n = ap (λ m. nat_eq m 1) (bit_at_or a.0 b.0 n) ∙ max_bits (bit_at a.0 n) (bit_at b.0 n) (bit_at-lt a.0 n) (bit_at-lt b.0 n)

pub has-with_node : (s : NodeSet) (node : NodeId) (n : ℕ) → has_node (with_node s node) n ≡ (has_node s n || nat_eq n node.0)
has-with_node s node n = has-either s (one_node node) n ∙ ap (λ b. has_node s n || b) (has-one_node node n)

-- whether one bit is 1 and the other is not
min_bits : (a b : ℕ) → a < 2 → b < 2 → nat_eq (min a (1 - b)) 1 ≡ (nat_eq a 1 && not (nat_eq b 1))
min_bits zero zero p q = refl
min_bits zero (suc zero) p q = refl
min_bits (suc zero) zero p q = refl
min_bits (suc zero) (suc zero) p q = refl
min_bits (suc (suc a)) b p q = absurd (omega arith)
min_bits zero (suc (suc b)) p q = absurd (omega arith)
min_bits (suc zero) (suc (suc b)) p q = absurd (omega arith)

no_min : (a : ℕ) → a < 2 → min 0 a ≡ 0
no_min zero p = refl
no_min (suc zero) p = refl
no_min (suc (suc a)) p = absurd (omega arith)

-- a set has no node from 128 on
pub has-without : (a b : NodeSet) (n : ℕ) → a.0 < 2 ^ 128 → b.0 < 2 ^ 128 → has_node (without a b) n ≡ (has_node a n && not (has_node b n))
has-without a b n fits-a fits-b = ⊎_elim below above (cases_lt n 128)
  where
    below : n < 128 → has_node (without a b) n ≡ (has_node a n && not (has_node b n))
    below within =
        ap (λ m. nat_eq m 1) (bit_at_and a.0 (340282366920938463463374607431768211455 - b.0) n ∙ ap (min (bit_at a.0 n)) (bit_at_not w128 b.0 n fits-b within))
        ∙ min_bits (bit_at a.0 n) (bit_at b.0 n) (bit_at-lt a.0 n) (bit_at-lt b.0 n)

    above : 128 ≤ n → has_node (without a b) n ≡ (has_node a n && not (has_node b n))
    above out =
        let none : bit_at a.0 n ≡ 0 = bit_at_above a.0 128 n fits-a out in
        let zero_bit : bit_at (bit_and a.0 (340282366920938463463374607431768211455 - b.0)) n ≡ 0 = bit_at_and a.0 (340282366920938463463374607431768211455 - b.0) n ∙ ap (λ m. min m (bit_at (340282366920938463463374607431768211455 - b.0) n)) none ∙ no_min (bit_at (340282366920938463463374607431768211455 - b.0) n) (bit_at-lt (340282366920938463463374607431768211455 - b.0) n) in
        ap (λ m. nat_eq m 1) zero_bit ∙ sym (ap (λ m. nat_eq m 1 && not (has_node b n)) none)

-- a bit is known from whether it is 1
same_bit : (a b : ℕ) → a < 2 → b < 2 → nat_eq a 1 ≡ nat_eq b 1 → a ≡ b
same_bit zero zero p q e = refl
same_bit zero (suc zero) p q e = cc
same_bit (suc zero) zero p q e = cc
same_bit (suc zero) (suc zero) p q e = refl
same_bit (suc (suc a)) b p q e = absurd (omega arith)
same_bit zero (suc (suc b)) p q e = absurd (omega arith)
same_bit (suc zero) (suc (suc b)) p q e = absurd (omega arith)

pub same_nodes : (a b : NodeSet) → ((n : ℕ) → has_node a n ≡ has_node b n) → a ≡ b
same_nodes a b same = ap (λ (m : ℕ). record { 0 = m }) (same_from_bits a.0 b.0 (λ i. same_bit (bit_at a.0 i) (bit_at b.0 i) (bit_at-lt a.0 i) (bit_at-lt b.0 i) (same i)))

pub no_nodes-from_has : (s : NodeSet) → ((n : ℕ) → has_node s n ≡ false) → s ≡ no_nodes
no_nodes-from_has s none = same_nodes s no_nodes (λ n. none n ∙ sym (has-no_nodes n))
