use Rattle.std.proofs.Common.{◌≡◌, Some, true, false, sym, ap, subst, ◌∙◌, inl, inr, arith, slice_get}
use Rattle.hs_run.proofs.Prelude.{slice_get_within, same_or_less, indexed, IsClosedAgent, IsClosedAgentBare}
use Rattle.hs_run.proofs.closing.is_bare.Goals as goal

pub loop-number-preserved : goal.loop-number-preserved
loop-number-preserved c = λ W sents works stand k shut low at.
    elim (same_or_less k c.loop-number.number (omega (arith, low))) [
      | inl less ↦ c.loop-number.invariant W sents works stand k shut less at
      | inr same ↦
          let inside = slice_get_within c.args.nodes.now.items k shut at in
          let here = indexed c.args.nodes.now.items c.as_slice.result.now c.loop-number.number c.index-as_slice-number.result c.as_slice.ensures (omega (arith, inside, same)) c.index-as_slice-number.is in
          let one : Some c.index-as_slice-number.result ≡ Some shut = sym here ∙ ap (slice_get c.args.nodes.now.items) (sym same) ∙ at in
          let is : c.index-as_slice-number.result ≡ shut = cc in
          let stands = (stand.each k shut at).is in
          subst (IsClosedAgentBare W (works k)) is ((c.is_bare.ensures W (works k) (sents k) (subst (IsClosedAgent W (works k) (sents k)) (sym is) stands)).0 c.if-not-is_bare.false)
    ]

pub returns-then-not-is_bare : goal.returns-then-not-is_bare
returns-then-not-is_bare c = λ W sents works stand.
    let k = c.loop-number.number in
    let low = c.loop-number-test.true in
    let len = c.len-number-end.ensures in
    let here = indexed c.args.nodes.now.items c.as_slice.result.now k c.index-as_slice-number.result c.as_slice.ensures (omega (arith, low, len)) c.index-as_slice-number.is in
    let one = c.is_bare.ensures W (works k) (sents k) (stand.each k c.index-as_slice-number.result here).is in
    (λ (yes : false ≡ true). absurd cc, λ (no : false ≡ false). inl (k, c.index-as_slice-number.result, here, one.1 c.if-not-is_bare.true))

pub returns : goal.returns
returns c = λ W sents works stand. (
  λ bare.
      record {
        each = λ k shut at.
            let low = slice_get_within c.args.nodes.now.items k shut at in
            let high = c.loop-number-test.false in
            let end = c.loop-number.auto.number-end in
            let len = c.len-number-end.ensures in
            c.loop-number.invariant W sents works stand k shut (omega (arith, low, high, len)) at;
        told = sym c.is_bare-2.ensures ∙ bare;
      },
  λ no. inr (sym c.is_bare-2.ensures ∙ no),
)
