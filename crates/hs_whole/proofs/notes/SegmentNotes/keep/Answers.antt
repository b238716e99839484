use Rattle.std.proofs.Common.{ℕ, ◌-◌, ◌∷◌, take, ap, sym, ◌∙◌}
use Rattle.lru.specs.LruCache.{LruCache}
use Rattle.hs_base.specs.declared.ids.TraceId.{TraceId}
use Rattle.hs_whole.specs.declared.kept.Kept.{Kept}
use Rattle.hs_whole.specs.Kept.{fresh}
use Rattle.hs_whole.specs.Notes.{PlainNotes, kept_of, moved_horizon, with_new}
use Rattle.hs_whole.proofs.Looking.{Traces, put_newest}
use Rattle.hs_whole.proofs.notes.SegmentNotes.keep.Goals as goal

pub returns-in-Ok-clause-kept : goal.returns-in-Ok-clause-kept
returns-in-Ok-clause-kept c =
    let inside = c.self.inside in
    let trace = c.args.trace in
    ap (λ (es : Traces). record { limits = inside.limits; heard = inside.heard; horizon = c.moved_horizon-horizon.result; tracks = inside.tracks.items; traces = es })
    (ap (λ (k : LruCache TraceId Kept). k.entries) c.in-Ok.ensures.entries
    ∙ put_newest trace inside.traces.entries inside.traces.cap c.fresh.result (ap (λ (s : PlainNotes). kept_of s trace) c.self.view_is ∙ c.requires.new)
    ∙ ap (λ (k : Kept). (trace, k) ∷ take (inside.traces.cap - 1) inside.traces.entries) c.fresh.ensures
    ∙ ap (λ (cap : ℕ). (trace, fresh inside.heard c.args.is_missed) ∷ take (cap - 1) inside.traces.entries) c.self.invariant.most)
    ∙ ap (λ (n : ℕ). record { limits = inside.limits; heard = inside.heard; horizon = n; tracks = inside.tracks.items; traces = (trace, fresh inside.heard c.args.is_missed) ∷ take (inside.limits.traces - 1) inside.traces.entries }) (c.moved_horizon-horizon.ensures ∙ ap moved_horizon (sym c.self.view_is))
    ∙ ap (λ (s : PlainNotes). with_new s trace c.args.is_missed) c.self.view_is
