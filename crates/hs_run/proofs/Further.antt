-- A pass more behind the rounds.
use Rattle.std.proofs.Common.{◌≡◌, ℕ, suc, ◌<◌, ◌≤◌, Bool, true, false, cond, nat_lt, ltb-true, ltb-false, lt-ltb, ◌++◌, refl, sym, ap, subst, ◌∙◌, Some, arith, slice_get}
use Rattle.hs_run.proofs.Prelude.{Messages, PlainWorkload, PlainNodeActors, NodeBetweenPasses}
use Rattle.hs_run.specs.Closing.{IsPassAlone}
use Rattle.hs_run.specs.Laws.{ClosingGoesOn}

-- a function that goes on from a number
abbrev more_of : {X : Type 0} → ℕ → (ℕ → X) → X → ℕ → X
more_of passes f x k = cond (nat_lt passes k) x (f k)

earlier : {X : Type 0} (passes : ℕ) (f : ℕ → X) (x : X) (k : ℕ) → k ≤ passes → more_of passes f x k ≡ f k
earlier passes f x k low = either (nat_lt passes k) refl
  where
    either : (b : Bool) → nat_lt passes k ≡ b → cond b x (f k) ≡ f k
    either true e = let high = ltb-true passes k e in absurd (omega (arith, low, high))
    either false e = refl

later : {X : Type 0} (passes : ℕ) (f : ℕ → X) (x : X) (k : ℕ) → passes < k → more_of passes f x k ≡ x
later passes f x k high = ap (λ b. cond b x (f k)) (lt-ltb passes k high)

pass_so : (W : PlainWorkload) (node : ℕ) (site : PlainNodeActors) {h h' g g' : Messages} {p p' q q' : NodeBetweenPasses} → h ≡ g → h' ≡ g' → p ≡ q → p' ≡ q' → IsPassAlone W node site g g' q q' → IsPassAlone W node site h h' p p'
pass_so W node site {h} {h'} {g} {g'} {p} {p'} {q} {q'} a b c d pass =
    subst (λ x. IsPassAlone W node site x h' p p') (sym a) (subst (λ x. IsPassAlone W node site g x p p') (sym b) (subst (λ x. IsPassAlone W node site g g' x p') (sym c) (subst (λ x. IsPassAlone W node site g g' q x) (sym d) pass)))

pub goes_on : ClosingGoesOn
goes_on W rounds m passes nodes nodes' heard more closing step =
    record {
      enough = let enough = closing.enough in omega (arith, enough);
      posts = posts;
      heards = heards;
      starts = λ node site there. earlier passes (closing.posts node) (nodes' node) rounds closing.enough ∙ closing.starts node site there;
      starts_heard = earlier passes closing.heards (heard ++ more) rounds closing.enough ∙ closing.starts_heard;
      each = λ k node site high low there. each k node site high low there (nat_lt k passes) refl;
      grows = λ k high low. grows k high low (nat_lt k passes) refl;
      ends = λ node. later passes (closing.posts node) (nodes' node) (suc passes) (omega arith);
      ends_heard = later passes closing.heards (heard ++ more) (suc passes) (omega arith);
    }
  where
    posts : ℕ → ℕ → NodeBetweenPasses
    posts node k = cond (nat_lt passes k) (nodes' node) (closing.posts node k)

    heards : ℕ → Messages
    heards k = cond (nat_lt passes k) (heard ++ more) (closing.heards k)

    each : (k node : ℕ) (site : PlainNodeActors) → rounds ≤ k → k < suc passes → slice_get m.standing.nodes node ≡ Some site → (b : Bool) → nat_lt k passes ≡ b
        → IsPassAlone W node site (more_of passes closing.heards (heard ++ more) k) (more_of passes closing.heards (heard ++ more) (suc k)) (more_of passes (closing.posts node) (nodes' node) k) (more_of passes (closing.posts node) (nodes' node) (suc k))
    each k node site high low there true e =
        let less = ltb-true k passes e in
        pass_so W node site (earlier passes closing.heards (heard ++ more) k (omega (arith, less))) (earlier passes closing.heards (heard ++ more) (suc k) (omega (arith, less)))
        (earlier passes (closing.posts node) (nodes' node) k (omega (arith, less))) (earlier passes (closing.posts node) (nodes' node) (suc k) (omega (arith, less))) (closing.each k node site high less there)
    each k node site high low there false e =
        let least = ltb-false k passes e in
        let is : k ≡ passes = omega (arith, least, low) in
        pass_so W node site (earlier passes closing.heards (heard ++ more) k (omega (arith, is)) ∙ ap closing.heards is ∙ closing.ends_heard) (later passes closing.heards (heard ++ more) (suc k) (omega (arith, is)))
        (earlier passes (closing.posts node) (nodes' node) k (omega (arith, is)) ∙ ap (closing.posts node) is ∙ closing.ends node) (later passes (closing.posts node) (nodes' node) (suc k) (omega (arith, is))) (step node site there)

    grows : (k : ℕ) → rounds ≤ k → k < suc passes → (b : Bool) → nat_lt k passes ≡ b → (more' : Messages) × (more_of passes closing.heards (heard ++ more) (suc k) ≡ more_of passes closing.heards (heard ++ more) k ++ more')
    grows k high low true e =
        let less = ltb-true k passes e in
        let g = closing.grows k high less in
        (g.0, earlier passes closing.heards (heard ++ more) (suc k) (omega (arith, less)) ∙ g.1 ∙ ap (λ front. front ++ g.0) (sym (earlier passes closing.heards (heard ++ more) k (omega (arith, less)))))
    grows k high low false e =
        let least = ltb-false k passes e in
        let is : k ≡ passes = omega (arith, least, low) in (
          more,
          later passes closing.heards (heard ++ more) (suc k) (omega (arith, is))
              ∙ ap (λ front. front ++ more) (sym (earlier passes closing.heards (heard ++ more) k (omega (arith, is)) ∙ ap closing.heards is ∙ closing.ends_heard)),
        )
