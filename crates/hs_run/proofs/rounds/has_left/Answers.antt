use Rattle.std.proofs.Common.{ℕ, get_or, false, sym, ap, subst, ◌∙◌, inl, inr, arith, slice_get}
use Rattle.hs_run.proofs.Prelude.{same_Some, slice_get_within, same_or_less, lent_from, workload_of, ActingNode, TellsNodeLeft}
use Rattle.hs_run.proofs.rounds.has_left.Goals as goal

pub has_left_at-requires : goal.has_left_at-requires
has_left_at-requires c =
    c.requires.each c.loop-number.number (get_or c.as_slice.result.now c.loop-number.number c.index-as_slice-number.result)
    (lent_from c.args.nodes.now.items c.as_slice.result.now c.loop-number.number c.index-as_slice-number.result c.as_slice.ensures (let low = c.loop-number-test.true in omega (arith, low)))

pub returns-then-has_left_at : goal.returns-then-has_left_at
returns-then-has_left_at c = (
  c.loop-number.number,
  get_or c.as_slice.result.now c.loop-number.number c.index-as_slice-number.result,
  lent_from c.args.nodes.now.items c.as_slice.result.now c.loop-number.number c.index-as_slice-number.result c.as_slice.ensures (let low = c.loop-number-test.true in omega (arith, low)),
  subst (TellsNodeLeft (workload_of c.args.workload.now) c.loop-number.number (get_or c.as_slice.result.now c.loop-number.number c.index-as_slice-number.result).site) c.if-has_left_at.true c.has_left_at.ensures,
)

pub loop-number-preserved : goal.loop-number-preserved
loop-number-preserved c = λ k node low at.
    let there = lent_from c.args.nodes.now.items c.as_slice.result.now c.loop-number.number c.index-as_slice-number.result c.as_slice.ensures (let low = c.loop-number-test.true in omega (arith, low)) in
    elim (same_or_less k c.loop-number.number (omega (arith, low))) [
      | inl less ↦ c.loop-number.invariant k node less at
      | inr same ↦
          subst (λ (n : ℕ). TellsNodeLeft (workload_of c.args.workload.now) n node.site false) (sym same)
          (subst (λ (x : ActingNode). TellsNodeLeft (workload_of c.args.workload.now) c.loop-number.number x.site false) (same_Some (get_or c.as_slice.result.now c.loop-number.number c.index-as_slice-number.result) node (sym there ∙ ap (slice_get c.args.nodes.now.items) (sym same) ∙ at))
          (subst (TellsNodeLeft (workload_of c.args.workload.now) c.loop-number.number (get_or c.as_slice.result.now c.loop-number.number c.index-as_slice-number.result).site) c.if-has_left_at.false c.has_left_at.ensures))
    ]

pub returns : goal.returns
returns c = λ k node at.
    let low = slice_get_within c.args.nodes.now.items k node at in
    let high = c.loop-number-test.false in
    c.loop-number.invariant k node (omega (arith, low, high)) at
