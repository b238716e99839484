use Rattle.std.proofs.Common.{Option, sym, ap, ◌∙◌}
use Rattle.std.specs.Map.{set_value}
use Rattle.std.specs.Option.{option_map_or}
use Rattle.hs_base.specs.Ids.{same_trace}
use Rattle.hs_whole.specs.declared.kept.Kept.{Kept}
use Rattle.hs_whole.specs.Kept.{ends}
use Rattle.hs_whole.specs.Notes.{PlainNotes, changed}
use Rattle.hs_whole.proofs.Looking.{Traces}
use Rattle.hs_whole.proofs.notes.SegmentNotes.end_kept.Goals as goal

pub returns : goal.returns
returns c =
    let inside = c.self.inside in
    let trace = c.args.trace in
    let report = c.args.report.now in
    ap (λ (es : Traces). record { limits = inside.limits; heard = inside.heard; horizon = inside.horizon; tracks = inside.tracks.items; traces = es })
    (ap (λ (k : Kept). set_value (same_trace trace) inside.traces.entries k) c.end.ensures
    ∙ ap (λ (o : Option Kept). option_map_or (λ k. set_value (same_trace trace) inside.traces.entries (ends report c.args.is_missed k)) o inside.traces.entries) c.in-Some.ensures.value)
    ∙ ap (λ (s : PlainNotes). changed (ends report c.args.is_missed) trace s) c.self.view_is
