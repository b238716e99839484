use Rattle.std.proofs.Common.{◌++◌, List, sym, ap, ◌∙◌}
use Rattle.hs_check.proofs.Prelude.{append-nil, PageDraw}
use Rattle.hs_check.proofs.Drawing.{no_draw}
use Rattle.hs_check.proofs.page_draws.push_client.Goals as goal

pub returns : goal.returns
returns c =
    sym (append-nil c.loop-page.all.items)
    ∙ sym (ap (λ (l : List PageDraw). c.loop-page.all.items ++ l) (no_draw c.args.client c.args.started.now c.args.draws.now c.loop-page.page c.loop-page-test.false))
    ∙ c.loop-page.invariant
