use Rattle.std.proofs.Common.{take, suc, sym, ap, ◌∙◌, subst, add-one}
use Rattle.hs_outcome.proofs.Prelude.{AreCollected, CanBeAdded, Reported}
use Rattle.hs_outcome.proofs.Adding.{page_at, can_front}
use Rattle.hs_outcome.proofs.Sent.{all_beside}
use Rattle.hs_outcome.proofs.pages.collect.Goals as goal

pub add-requires : goal.add-requires
add-requires c =
    let sheets = c.requires.0 in
    let at = page_at c.loop-page.page-index sheets c.args.pages.now _ c.requires.1 c.loop-page-test.true in
    (take c.loop-page.page-index sheets, at.sheet, c.loop-page.invariant sheets c.requires.1 c.requires.2, at.spells, subst CanBeAdded at.next (can_front (suc c.loop-page.page-index) sheets c.requires.2))

pub loop-page-preserved : goal.loop-page-preserved
loop-page-preserved c = λ sheets all can.
    let at = page_at c.loop-page.page-index sheets c.args.pages.now _ all c.loop-page-test.true in
    subst (λ pages. AreCollected pages c.add.new.self) (sym at.next ∙ ap (λ n. take n sheets) (sym (add-one c.loop-page.page-index)))
    (c.in_ok-add.ensures.ok (take c.loop-page.page-index sheets) at.sheet (c.loop-page.invariant sheets all can) at.spells)

pub returns : goal.returns
returns c = λ sheets all can. subst (λ pages. AreCollected pages c.loop-page.collector) (all_beside (λ (p : Reported). p.bytes.now) c.loop-page.page-index sheets c.args.pages.now all.are c.loop-page-test.false) (c.loop-page.invariant sheets all can)
