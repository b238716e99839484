use Rattle.std.proofs.Common.{sym, ap, ◌∙◌}
use Rattle.hs_index.specs.Index.{noted_of, chunk_count}
use Rattle.hs_index.specs.Touched.{Touched}
use Rattle.hs_index.proofs.Touching.{noted-found, noted-missing, empty-missing}
use Rattle.hs_index.proofs.recent.Recent.chunks_of.Goals as goal

pub returns-then-len-eq0 : goal.returns-then-len-eq0
returns-then-len-eq0 g c =
    sym (ap chunk_count (noted-missing c.args.trace c.self.inside.cache.entries (empty-missing c.args.trace c.self.inside.cache.entries (sym c.len.ensures.len ∙ c.if-len-eq0.true))))
    ∙ ap (λ (t : Touched g.row.L.Denot). chunk_count (noted_of c.args.trace t.traces)) c.self.view_is

pub returns-in-Some : goal.returns-in-Some
returns-in-Some g c =
    c.len-in-Some.ensures
    ∙ sym (ap chunk_count (noted-found c.args.trace c.self.inside.cache.entries c.in-Some.entry.now c.len.ensures.valid.0 (sym c.in-Some.ensures)))
    ∙ ap (λ (t : Touched g.row.L.Denot). chunk_count (noted_of c.args.trace t.traces)) c.self.view_is

pub returns-in-None : goal.returns-in-None
returns-in-None g c =
    sym (ap chunk_count (noted-missing c.args.trace c.self.inside.cache.entries (sym c.in-None.ensures)))
    ∙ ap (λ (t : Touched g.row.L.Denot). chunk_count (noted_of c.args.trace t.traces)) c.self.view_is
