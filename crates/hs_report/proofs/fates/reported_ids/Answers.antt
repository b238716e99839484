use Rattle.std.proofs.Common.{ap, ◌∙◌, sym}
use Rattle.hs_report.proofs.Prelude.{contains, is_same}
use Rattle.hs_report.proofs.Ids.{was_more, put_one, left_out}
use Rattle.hs_report.proofs.fates.reported_ids.Goals as goal
use Rattle.hs_report.proofs.fates.reported_ids.Goals.{then-is_reported+in_ok-insert, else-is_reported}

pub loop-entry-preserved : goal.loop-entry-preserved
loop-entry-preserved c = λ id.
    elim c.if-is_reported.branch [
      | then-is_reported+in_ok-insert w ↦
          ap (λ ids. contains is_same ids id) w.ids-is ∙ w.in_ok-insert.ensures.updates.0 id
          ∙ put_one _ _ _ _ (c.loop-entry.invariant id) (sym c.is_reported.ensures ∙ w.if-is_reported.true) ∙ sym (was_more c.args.entries.now c.loop-entry.entry-index _ id c.loop-entry-test.true)
      | else-is_reported w ↦
          ap (λ ids. contains is_same ids id) w.ids-is ∙ c.loop-entry.invariant id
          ∙ left_out _ _ _ (sym c.is_reported.ensures ∙ w.if-is_reported.false) ∙ sym (was_more c.args.entries.now c.loop-entry.entry-index _ id c.loop-entry-test.true)
    ]
