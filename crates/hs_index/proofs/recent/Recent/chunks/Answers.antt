use Rattle.std.proofs.Common.{sym, ap, ◌∙◌}
use Rattle.hs_index.specs.Index.{count_chunks}
use Rattle.hs_index.specs.Touched.{Touched}
use Rattle.hs_index.proofs.Listed.{count-listed}
use Rattle.hs_index.proofs.recent.Recent.chunks.Goals as goal

pub returns : goal.returns
returns g c =
    c.self.invariant.chunks
    ∙ sym (count-listed c.self.inside.cache.entries)
    ∙ ap (λ (t : Touched g.row.L.Denot). count_chunks t.traces) c.self.view_is
