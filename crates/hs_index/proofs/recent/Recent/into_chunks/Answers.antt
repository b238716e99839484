use Rattle.std.proofs.Common.{◌≡◌, ◌∷◌, ◌++◌, length, map, sym, ap, ◌∙◌, arith}
use Rattle.std.proofs.lemmas.List.{append_assoc, length-append, length-map}
use Rattle.hs_words.specs.Buffers.{buffer_of}
use Rattle.hs_index.specs.Index.{chunks_left, count_chunks}
use Rattle.hs_index.specs.Touched.{indexed}
use Rattle.hs_index.proofs.Evicting.{count-cons}
use Rattle.hs_index.proofs.recent.Recent.into_chunks.Goals as goal

pub loop-entry-preserved : goal.loop-entry-preserved
loop-entry-preserved g c =
    let first : c.loop-entry.self.traces ≡ indexed (c.in-Some.field-0-0, c.in-Some.entry) ∷ c.take_oldest.new.self.traces = c.in-Some.ensures.some in
    let items = c.join.ensures.items in (
      ap (λ l. l ++ chunks_left c.take_oldest.new.self.traces) items
          ∙ append_assoc (map (buffer_of {L = g.row.L.Denot} {g = g.L.Token}) c.loop-entry.left.items) c.in-Some.entry.chunks (chunks_left c.take_oldest.new.self.traces)
          ∙ ap (λ l. map (buffer_of {L = g.row.L.Denot} {g = g.L.Token}) c.loop-entry.left.items ++ l) (sym (ap chunks_left first))
          ∙ c.loop-entry.invariant.0,
      (
          let counted = ap count_chunks first in
          let whole = count-cons (indexed (c.in-Some.field-0-0, c.in-Some.entry)) c.take_oldest.new.self.traces in
          let long = ap length items in
          let parts = length-append (map (buffer_of {L = g.row.L.Denot} {g = g.L.Token}) c.loop-entry.left.items) c.in-Some.entry.chunks in
          let now = length-map c.join.new.others.items (buffer_of {L = g.row.L.Denot} {g = g.L.Token}) in
          let before = length-map c.loop-entry.left.items (buffer_of {L = g.row.L.Denot} {g = g.L.Token}) in
          let room = c.join.ensures.room in
          let most = c.loop-entry.invariant.1 in
          omega (arith, counted, whole, long, parts, now, before, room, most)
          ),
    )
