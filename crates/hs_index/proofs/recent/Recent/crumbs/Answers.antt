use Rattle.std.proofs.Common.{sym, ap, ◌∙◌}
use Rattle.hs_index.specs.Index.{PlainIndexedTrace, noted_of}
use Rattle.hs_index.specs.Touched.{Touched}
use Rattle.hs_index.proofs.Touching.{noted-found, noted-missing, empty-missing}
use Rattle.hs_index.proofs.recent.Recent.crumbs.Goals as goal

pub returns-then-len-eq0 : goal.returns-then-len-eq0
returns-then-len-eq0 g c =
    c.none.ensures.value
    ∙ sym (ap (λ (n : PlainIndexedTrace g.row.L.Denot). n.crumbs) (noted-missing c.args.trace c.self.inside.cache.entries (empty-missing c.args.trace c.self.inside.cache.entries (sym c.len.ensures.len ∙ c.if-len-eq0.true))))
    ∙ ap (λ (t : Touched g.row.L.Denot). (noted_of c.args.trace t.traces).crumbs) c.self.view_is

pub returns-in-Some : goal.returns-in-Some
returns-in-Some g c =
    c.crumbs.ensures
    ∙ sym (ap (λ (n : PlainIndexedTrace g.row.L.Denot). n.crumbs) (noted-found c.args.trace c.self.inside.cache.entries c.in-Some.entry.now c.len.ensures.valid.0 (sym c.in-Some.ensures)))
    ∙ ap (λ (t : Touched g.row.L.Denot). (noted_of c.args.trace t.traces).crumbs) c.self.view_is

pub returns-in-None : goal.returns-in-None
returns-in-None g c =
    c.none-in-None.ensures.value
    ∙ sym (ap (λ (n : PlainIndexedTrace g.row.L.Denot). n.crumbs) (noted-missing c.args.trace c.self.inside.cache.entries (sym c.in-None.ensures)))
    ∙ ap (λ (t : Touched g.row.L.Denot). (noted_of c.args.trace t.traces).crumbs) c.self.view_is
