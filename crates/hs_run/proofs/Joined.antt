-- The rounds and the passes behind them as one.
use Rattle.std.proofs.Common.{◌≡◌, ℕ, zero, suc, ◌<◌, ◌≤◌, min, Bool, true, false, cond, nat_lt, ltb-true, ltb-false, ◌++◌, length, refl, sym, ap, subst, ◌∙◌, Some, arith, slice_get, drop}
use Rattle.hs_run.proofs.Prelude.{drop_front, Messages, PlainWorkload, IsValid, RunState, RunStands, Came, PoolEnds, PoolEndsMeet, added, NodeBetweenPasses, IsNodeBetweenPasses, IsStep, Closing}
use Rattle.hs_run.specs.Closing.{left_at}
use Rattle.hs_run.proofs.StoryMoments.{site_of, site_there, stands_at, post_at, post_stands, round_steps, heard_same}
use Rattle.hs_run.proofs.StoryMeetings.{caller_at, ends_at, has_met}

module _ (W : PlainWorkload) (valid : IsValid W) (rounds : ℕ) (m : RunState) (came : Came W rounds m) (passes : ℕ) (nodes : ℕ → NodeBetweenPasses) (heard : Messages) (closing : Closing W rounds m passes nodes heard) where
  -- where a node stands, and what was heard, behind so many passes
  abbrev pub post : ℕ → ℕ → NodeBetweenPasses
  post node k = cond (nat_lt rounds k) (closing.posts node k) (post_at W valid rounds m came node k)

  abbrev pub heard_by : ℕ → Messages
  heard_by k = cond (nat_lt rounds k) (closing.heards k) (came.at k).heard

  low_so : {X : Type 0} (a b : X) (k : ℕ) → k ≤ rounds → cond (nat_lt rounds k) a b ≡ b
  low_so a b k low = either (nat_lt rounds k) refl
    where
      either : (c : Bool) → nat_lt rounds k ≡ c → cond c a b ≡ b
      either true e = let high = ltb-true rounds k e in absurd (omega (arith, low, high))
      either false e = refl

  high_so : {X : Type 0} (a b : ℕ → X) → a rounds ≡ b rounds → (k : ℕ) → rounds ≤ k → cond (nat_lt rounds k) (a k) (b k) ≡ a k
  high_so a b same k high = either (nat_lt rounds k) refl
    where
      either : (c : Bool) → nat_lt rounds k ≡ c → cond c (a k) (b k) ≡ a k
      either true e = refl
      either false e = let low = ltb-false rounds k e in let is : rounds ≡ k = omega (arith, low, high) in ap b (sym is) ∙ sym same ∙ ap a is

  pub post_low : (node k : ℕ) → k ≤ rounds → post node k ≡ post_at W valid rounds m came node k
  post_low node k low = low_so (closing.posts node k) (post_at W valid rounds m came node k) k low

  pub last_site : (node : ℕ) → node < W.settings.nodes → slice_get m.standing.nodes node ≡ Some (site_of W valid rounds m came m node)
  last_site node few = site_there W valid rounds m came m (subst (λ moment. RunStands W moment) came.last (stands_at W valid rounds m came rounds (omega arith))) node few

  pub post_left : (node : ℕ) → post_at W valid rounds m came node rounds ≡ left_at m node (site_of W valid rounds m came m node)
  post_left node = ap (λ moment. left_at moment node (site_of W valid rounds m came moment node)) came.last

  pub post_high : (node k : ℕ) → node < W.settings.nodes → rounds ≤ k → post node k ≡ closing.posts node k
  post_high node k few high =
      high_so (closing.posts node) (post_at W valid rounds m came node) (closing.starts node (site_of W valid rounds m came m node) (last_site node few) ∙ sym (post_left node)) k high

  pub heard_low : (k : ℕ) → k ≤ rounds → heard_by k ≡ (came.at k).heard
  heard_low k low = low_so (closing.heards k) (came.at k).heard k low

  pub heard_high : (k : ℕ) → rounds ≤ k → heard_by k ≡ closing.heards k
  heard_high k high = high_so closing.heards (λ k. (came.at k).heard) (closing.starts_heard ∙ sym (ap (λ moment. moment.heard) came.last)) k high

  pub heard_last : heard_by passes ≡ heard
  heard_last = heard_high passes closing.enough ∙ closing.ends_heard

  pub post_last : (node : ℕ) → node < W.settings.nodes → post node passes ≡ nodes node
  post_last node few = post_high node passes few closing.enough ∙ closing.ends node

  pub heard_grows : (k : ℕ) → k < passes → heard_by (suc k) ≡ heard_by k ++ added heard_by k
  heard_grows k few = either (nat_lt k rounds) refl
    where
      whole : (more : Messages) → heard_by (suc k) ≡ heard_by k ++ more → heard_by (suc k) ≡ heard_by k ++ added heard_by k
      whole more is = is ∙ ap (λ rest. heard_by k ++ rest) (sym (ap (drop (length (heard_by k))) is ∙ drop_front (heard_by k) more))

      either : (b : Bool) → nat_lt k rounds ≡ b → heard_by (suc k) ≡ heard_by k ++ added heard_by k
      either true e =
          let low = ltb-true k rounds e in
          whole (came.acts k low).more (heard_low (suc k) (omega (arith, low)) ∙ heard_same W valid rounds m came k low ∙ ap (λ front. front ++ (came.acts k low).more) (sym (heard_low k (omega (arith, low)))))
      either false e =
          let high = ltb-false k rounds e in
          let g = closing.grows k high few in
          whole g.0 (heard_high (suc k) (omega (arith, high)) ∙ g.1 ∙ ap (λ front. front ++ g.0) (sym (heard_high k high)))

  -- ---- all passes

  pub all_posts : (node : ℕ) → node < W.settings.nodes → (k : ℕ) → k ≤ passes → IsNodeBetweenPasses W node (heard_by k) (post node k)
  all_posts node few zero most =
      subst (λ h. IsNodeBetweenPasses W node h (post node 0)) (sym (heard_low 0 (omega arith)))
      (subst (IsNodeBetweenPasses W node (came.at 0).heard) (sym (post_low node 0 (omega arith))) (post_stands W valid rounds m came 0 node (omega arith) few))
  all_posts node few (suc k) most = either (nat_lt k rounds) refl
    where
      either : (b : Bool) → nat_lt k rounds ≡ b → IsNodeBetweenPasses W node (heard_by (suc k)) (post node (suc k))
      either true e =
          let low = ltb-true k rounds e in
          subst (λ h. IsNodeBetweenPasses W node h (post node (suc k))) (sym (heard_low (suc k) (omega (arith, low))))
          (subst (IsNodeBetweenPasses W node (came.at (suc k)).heard) (sym (post_low node (suc k) (omega (arith, low)))) (post_stands W valid rounds m came (suc k) node (omega (arith, low)) few))
      either false e =
          let high = ltb-false k rounds e in
          subst (λ h. IsNodeBetweenPasses W node h (post node (suc k))) (sym (heard_high (suc k) (omega (arith, high))))
          (subst (IsNodeBetweenPasses W node (closing.heards (suc k))) (sym (post_high node (suc k) few (omega (arith, high))))
          (closing.each k node (site_of W valid rounds m came m node) high (omega (arith, most)) (last_site node few)).stands)

  step_so : (node : ℕ) {h h' g g' : Messages} {p p' q q' : NodeBetweenPasses} → h ≡ g → h' ≡ g' → p ≡ q → p' ≡ q' → IsStep W node g g' q q' → IsStep W node h h' p p'
  step_so node {h} {h'} {g} {g'} {p} {p'} {q} {q'} a b c d step =
      subst (λ x. IsStep W node x h' p p') (sym a) (subst (λ x. IsStep W node g x p p') (sym b) (subst (λ x. IsStep W node g g' x p') (sym c) (subst (λ x. IsStep W node g g' q x) (sym d) step)))

  pub all_steps : (node : ℕ) → node < W.settings.nodes → (k : ℕ) → k < passes → IsStep W node (heard_by k) (heard_by (suc k)) (post node k) (post node (suc k))
  all_steps node few k most = either (nat_lt k rounds) refl
    where
      either : (b : Bool) → nat_lt k rounds ≡ b → IsStep W node (heard_by k) (heard_by (suc k)) (post node k) (post node (suc k))
      either true e =
          let low = ltb-true k rounds e in
          step_so node (heard_low k (omega (arith, low))) (heard_low (suc k) (omega (arith, low))) (post_low node k (omega (arith, low))) (post_low node (suc k) (omega (arith, low)))
          (round_steps W valid rounds m came k node low few)
      either false e =
          let high = ltb-false k rounds e in
          step_so node (heard_high k high) (heard_high (suc k) (omega (arith, high))) (post_high node k few high) (post_high node (suc k) few (omega (arith, high)))
          (closing.each k node (site_of W valid rounds m came m node) high most (last_site node few)).step

  -- ---- ends

  abbrev ends_of : NodeBetweenPasses → ℕ → ℕ → PoolEnds
  ends_of p node round =
      record {
        turns = p.giver.turns;
        floor = p.giver.floor;
        answers = λ client. (caller_at W valid rounds m came node round client).client.drawer.answers;
        floors = λ client. (caller_at W valid rounds m came node round client).client.drawer.floor;
      }

  abbrev pub ends_by : ℕ → ℕ → PoolEnds
  ends_by node k = ends_of (post node k) node (min k rounds)

  pub ends_low : (node k : ℕ) → k ≤ rounds → ends_by node k ≡ ends_at W valid rounds m came node k
  ends_low node k low =
      let least : min k rounds ≡ k = omega (arith, low) in ap (λ p. ends_of p node (min k rounds)) (post_low node k low) ∙ ap (ends_of (post_at W valid rounds m came node k) node) least

  pub all_met : (node : ℕ) → node < W.settings.nodes → (k client : ℕ) → k < rounds → client < W.settings.clients → PoolEndsMeet client (ends_by node k) (ends_by node (suc k))
  all_met node few k client low own =
      subst (λ e. PoolEndsMeet client e (ends_by node (suc k))) (sym (ends_low node k (omega (arith, low))))
      (subst (PoolEndsMeet client (ends_at W valid rounds m came node k)) (sym (ends_low node (suc k) (omega (arith, low)))) (has_met W valid rounds m came node few k client low own))
