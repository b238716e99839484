use Rattle.std.proofs.Common.{sym, ap, ◌∙◌, inl, inr, arith, slice_get}
use Rattle.hs_run.proofs.Prelude.{slice_get_within, get_there, same_or_less}
use Rattle.hs_run.proofs.rounds.has_failed.Goals as goal

pub loop-number-preserved : goal.loop-number-preserved
loop-number-preserved c = λ k node low at.
    elim (same_or_less k c.loop-number.number (omega (arith, low))) [
      | inl less ↦ c.loop-number.invariant k node less at
      | inr same ↦ c.has_failed_at.ensures node (ap (slice_get c.args.nodes.now.items) (sym same) ∙ at) ∙ c.if-has_failed_at.false
    ]

pub returns-clause-none : goal.returns-clause-none
returns-clause-none c = λ no k node at.
    let low = slice_get_within c.args.nodes.now.items k node at in
    let high = c.loop-number-test.false in
    c.loop-number.invariant k node (omega (arith, low, high)) at

pub returns-then-has_failed_at-clause-some : goal.returns-then-has_failed_at-clause-some
returns-then-has_failed_at-clause-some c = λ yes.
    let low = c.loop-number-test.true in
    let len = c.len-number-end.ensures in
    let (node, there) = get_there c.args.nodes.now.items c.loop-number.number (omega (arith, low, len)) in
    (c.loop-number.number, node, there, c.has_failed_at.ensures node there ∙ c.if-has_failed_at.true)
