use Rattle.std.proofs.Common.{get_or, sym, ap, ◌∙◌}
use Rattle.hs_run.proofs.Prelude.{same_Some, lent_from, ActingNode}
use Rattle.hs_run.proofs.rounds.has_failed_at.Goals as goal

pub returns : goal.returns
returns c = λ node at.
    let there = lent_from c.args.nodes.now.items c.as_slice.result.now c.args.number c.index-as_slice-number.result c.as_slice.ensures c.requires in
    ap (λ (x : ActingNode). x.failed) (same_Some node (get_or c.as_slice.result.now c.args.number c.index-as_slice-number.result) (sym at ∙ there))
