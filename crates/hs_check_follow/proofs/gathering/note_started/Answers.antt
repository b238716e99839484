use Rattle.std.proofs.Common.{◌≡◌, ℕ, zero, suc, ◌+◌, List, [], ◌∷◌, ◌++◌, refl, sym, ap, ◌∙◌, arith, append_assoc}
use Rattle.hs_check_follow.proofs.Prelude.{append-nil, replicate}
use Rattle.hs_check_follow.proofs.gathering.note_started.Goals as goal

one_more : (n x : ℕ) → replicate n x ++ x ∷ [] ≡ replicate (n + 1) x
one_more n x = go n ∙ (let same : suc n ≡ n + 1 = omega arith in ap (λ k. replicate k x) same)
  where
    go : (n : ℕ) → replicate n x ++ x ∷ [] ≡ replicate (suc n) x
    go zero = refl
    go (suc n) = ap (λ (l : List ℕ). x ∷ l) (go n)

pub loop-noted-init : goal.loop-noted-init
loop-noted-init c = sym (append-nil c.args.started.now.items)

pub loop-noted-preserved : goal.loop-noted-preserved
loop-noted-preserved c =
    let old = c.args.started.now.items in
    let n = c.loop-noted.noted in
    let x = c.args.number in
    c.in_ok-append.ensures.ok ∙ ap (λ (l : List ℕ). l ++ x ∷ []) c.loop-noted.invariant ∙ append_assoc old (replicate n x) (x ∷ []) ∙ ap (λ (l : List ℕ). old ++ l) (one_more n x)

pub returns : goal.returns
returns c =
    let high = c.loop-noted-test.false in
    let low = c.loop-noted.auto.noted-end in
    let all : c.loop-noted.noted ≡ c.args.count = omega (arith, high, low) in
    c.loop-noted.invariant ∙ ap (λ k. c.args.started.now.items ++ replicate k c.args.number) all
