use Rattle.std.proofs.Common.{ap, sym, ◌∙◌}
use Rattle.lru.specs.LruCache.{LruCache}
use Rattle.hs_base.specs.declared.ids.TraceId.{TraceId}
use Rattle.hs_whole.specs.declared.kept.Kept.{Kept}
use Rattle.hs_whole.specs.Notes.{PlainNotes, remembered}
use Rattle.hs_whole.specs.NotesLayout.{notes_in}
use Rattle.hs_whole.proofs.Looking.{remembered_there}
use Rattle.hs_whole.proofs.notes.SegmentNotes.remember.Goals as goal

pub returns-then-contains-clause-kept : goal.returns-then-contains-clause-kept
returns-then-contains-clause-kept c =
    ap (λ (k : LruCache TraceId Kept). record { limits = c.self.inside.limits; heard = c.self.inside.heard; horizon = c.self.inside.horizon; tracks = c.self.inside.tracks.items; traces = k.entries }) c.promote.ensures.entries
    ∙ remembered_there (notes_in c.self.inside) c.args.trace c.args.is_missed (sym c.contains.ensures ∙ c.if-contains.true)
    ∙ ap (λ (s : PlainNotes). remembered s c.args.trace c.args.is_missed) c.self.view_is
