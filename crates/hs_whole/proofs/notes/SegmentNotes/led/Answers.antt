use Rattle.std.proofs.Common.{rules, ◌≡◌, ◌<◌, sym, ap, subst, ◌∙◌}
use Rattle.hs_whole.specs.declared.answers.NoteLimits.{NoteLimits}
use Rattle.hs_whole.specs.Notes.{PlainNotes}
use Rattle.hs_whole.proofs.Searching.{reordered_searched}
use Rattle.hs_whole.proofs.notes.SegmentNotes.led.Goals as goal

pub lead_on-requires : goal.lead_on-requires
lead_on-requires c =
    let same : c.search.new.self.limits ≡ c.args.self.now.limits = ap (λ (s : PlainNotes). s.limits) c.search.ensures.after ∙ (reordered_searched c.args.self.now c.args.trace).limits in
    let low : c.args.client < c.args.self.now.limits.clients = search rules in
    subst (λ (l : NoteLimits). c.args.client < l.clients) (sym same) low
