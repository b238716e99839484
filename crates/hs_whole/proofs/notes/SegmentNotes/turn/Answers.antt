use Rattle.std.proofs.Common.{ap, sym, option_map, ◌∙◌}
use Rattle.std.specs.Map.Iter.{deref_pair}
use Rattle.lru.specs.LruCache.{LruCache}
use Rattle.hs_base.specs.declared.ids.TraceId.{TraceId}
use Rattle.hs_whole.specs.declared.kept.Kept.{Kept}
use Rattle.hs_whole.specs.Notes.{turned}
use Rattle.hs_whole.specs.NotesLayout.{notes_in}
use Rattle.hs_whole.proofs.Searching.{turned_to}
use Rattle.hs_whole.proofs.notes.SegmentNotes.turn.Goals as goal

pub returns : goal.returns
returns c =
    ap (λ (k : LruCache TraceId Kept). record { limits = c.self.inside.limits; heard = c.self.inside.heard; horizon = c.self.inside.horizon; tracks = c.self.inside.tracks.items; traces = k.entries }) c.promote.ensures.entries
    ∙ turned_to (notes_in c.self.inside) (c.in-Some.last.now, c.in-Some.field-0-1.now) (sym c.peek_lru.ensures ∙ ap (option_map deref_pair) c.in-Some.is)
    ∙ ap turned c.self.view_is
