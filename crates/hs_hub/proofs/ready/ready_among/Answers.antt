use Rattle.std.proofs.Common.{◌+◌, drop, Option, sym, ap, ◌∙◌}
use Rattle.hs_base.proofs.Parts.{drop_next}
use Rattle.hs_base.specs.declared.ids.TraceId.{TraceId}
use Rattle.hs_hub.specs.Ready.{or_else, first_ready}
use Rattle.hs_hub.proofs.ready.ready_among.Goals as goal

pub returns-in-Some : goal.returns-in-Some
returns-in-Some c =
    let g = c.args.groups.now in
    let s = c.args.standings.now in
    let p = c.args.traces.now in
    let xs = c.args.some.now in
    let i = c.loop-followed.followed-index in
    let x = c.followed-item.result in
    ap (λ (o : Option TraceId). or_else o (first_ready g s p (drop (i + 1) xs))) (sym c.in-Some.is ∙ c.ready_of.ensures) ∙ ap (first_ready g s p) (sym (drop_next xs i x c.loop-followed-test.true c.followed-item.is)) ∙ c.loop-followed.invariant

pub loop-followed-preserved : goal.loop-followed-preserved
loop-followed-preserved c =
    let g = c.args.groups.now in
    let s = c.args.standings.now in
    let p = c.args.traces.now in
    let xs = c.args.some.now in
    let i = c.loop-followed.followed-index in
    let x = c.followed-item.result in
    ap (λ (o : Option TraceId). or_else o (first_ready g s p (drop (i + 1) xs))) (sym c.in_default.is ∙ c.ready_of.ensures) ∙ ap (first_ready g s p) (sym (drop_next xs i x c.loop-followed-test.true c.followed-item.is)) ∙ c.loop-followed.invariant
