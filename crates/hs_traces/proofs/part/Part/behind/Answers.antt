use Rattle.std.proofs.Common.{ℕ, List, Some, sym, ap, ◌∙◌}
use Rattle.std.specs.Prelude.{find}
use Rattle.std.specs.Ordering.{is_lt}
use Rattle.std.specs.declared.ops.Bound.TheVariants.{Excluded, Unbounded}
use Rattle.std.specs.BTreeMap.Range.{range_contains}
use Rattle.hs_traces.specs.declared.key.PageKey.{PageKey}
use Rattle.hs_traces.specs.Keys.{key_cmp}
use Rattle.hs_traces.specs.Parts.{Pages}
use Rattle.hs_traces.proofs.Finding.{find-first, find-none, and_true}
use Rattle.hs_traces.proofs.part.Part.behind.Goals as goal

pub returns-in-Some : goal.returns-in-Some
returns-in-Some c =
    let test = λ (e : PageKey × List ℕ). is_lt (key_cmp c.args.key e.0) in
    let inside = λ (e : PageKey × List ℕ). range_contains key_cmp (Excluded c.args.key) Unbounded e.0 in
    ap (λ (bytes : List ℕ). Some (c.in-Some.key.now, bytes)) c.as_slice.ensures
    ∙ sym (find-first test inside (λ e. and_true (test e)) c.self.inside.pages.entries (c.in-Some.key.now, c.in-Some.page.now) _ (sym (c.range-pages.ensures.between tt) ∙ c.in-Some.ensures.steps))
    ∙ ap (λ (pages : Pages). find test pages) c.self.view_is

pub returns-in-None : goal.returns-in-None
returns-in-None c =
    let test = λ (e : PageKey × List ℕ). is_lt (key_cmp c.args.key e.0) in
    let inside = λ (e : PageKey × List ℕ). range_contains key_cmp (Excluded c.args.key) Unbounded e.0 in
    sym (find-none test inside (λ e. and_true (test e)) c.self.inside.pages.entries (sym (c.range-pages.ensures.between tt) ∙ c.in-None.ensures.steps.0))
    ∙ ap (λ (pages : Pages). find test pages) c.self.view_is
