use Rattle.std.proofs.Common.{◌≡◌, map, sym, subst, ◌∙◌}
use Rattle.hs_agent.proofs.Prelude.{standing_by}
use Rattle.hs_agent.specs.Leaving.{with_fate}
use Rattle.hs_agent.specs.Noting.{AreMarks}
use Rattle.hs_agent.proofs.Fates.{standings_with}
use Rattle.hs_agent.proofs.chunk_notes.leave_kept.Goals as goal

pub returns-clause-marks : goal.returns-clause-marks
returns-clause-marks c = λ marks kept.
    let items : c.in-Some.standings.items ≡ map standing_by marks = subst (AreMarks marks) c.in-Some.is kept in
    c.note_fate.ensures ∙ (λ i. with_fate c.args.leave.place.0 (c.fate.ensures i) (items i)) ∙ sym (standings_with c.args.leave.place.0 c.args.leave.left marks)
