use Rattle.std.proofs.Common.{◌≡◌, length, take, false, ◌++◌, [], ◌∷◌, sym, ap, ◌∙◌, arith}
use Rattle.std.proofs.lemmas.Bool.{eqb-true, eqb-false}
use Rattle.std.proofs.lemmas.List.{length_push, length-drop}
use Rattle.hs_auto.proofs.DistinctLemmas.{so_far_next, so_far_few, others_own, others_again, others_new, is_in}
use Rattle.hs_auto.specs.Firing.{without, distinct}
use Rattle.hs_auto.proofs.laterals.distinct_others.Goals as goal
use Rattle.hs_auto.proofs.laterals.distinct_others.Goals.{then-eq-via-then-eq, then-eq-via-else-eq+then-is_among}

pub loop-earlier-preserved-then-eq : goal.loop-earlier-preserved-then-eq
loop-earlier-preserved-then-eq c =
    let items = c.args.recent.now.items in
    let t = c.args.trace in
    let n = length c.loop-earlier.yielded in
    let x = c.in-Some.earlier.now in
    let so = c.loop-earlier.invariant in
    let next = so_far_next items t n x c.loop-earlier.earlier-iterator c.next.new.self c.loop-earlier.laterals c.loop-earlier.laterals so c.in-Some.ensures.steps in
    rw (length_push c.loop-earlier.yielded c.in-Some.earlier)
    (elim c.then-eq.branch [
      | then-eq-via-then-eq w ↦ next (others_own t x (take n items) (eqb-true x.0 t.0 (sym c.eq.ensures ∙ w.if-eq.true)) ∙ sym so.others)
      | then-eq-via-else-eq+then-is_among w ↦
          next (others_again t x (take n items) (ap (is_in x) (sym so.others) ∙ sym w.is_among.ensures ∙ w.if-is_among.true) ∙ sym so.others)
    ])

pub push-requires : goal.push-requires
push-requires c =
    let items = c.args.recent.now.items in
    let n = length c.loop-earlier.yielded in
    let so = c.loop-earlier.invariant in
    let few = so_far_few items c.args.trace n c.loop-earlier.earlier-iterator c.loop-earlier.laterals so in
    omega (arith, few, ap length so.left, length-drop n items, ap length c.in-Some.ensures.steps, c.requires)

pub loop-earlier-preserved : goal.loop-earlier-preserved
loop-earlier-preserved c =
    let items = c.args.recent.now.items in
    let t = c.args.trace in
    let n = length c.loop-earlier.yielded in
    let x = c.in-Some.earlier.now in
    let so = c.loop-earlier.invariant in
    let other : x.0 ≡ t.0 → ⊥ = eqb-false x.0 t.0 (sym c.eq.ensures ∙ c.if-eq.false) in
    let new : is_in x (without t (distinct (take n items))) ≡ false = ap (is_in x) (sym so.others) ∙ sym c.is_among.ensures ∙ c.if-is_among.false in
    rw (length_push c.loop-earlier.yielded c.in-Some.earlier)
    (so_far_next items t n x c.loop-earlier.earlier-iterator c.next.new.self c.loop-earlier.laterals c.push.new.self so c.in-Some.ensures.steps
    (others_new t x (take n items) other new ∙ ap (λ xs. xs ++ x ∷ []) (sym so.others) ∙ sym c.push.ensures))
