use Rattle.std.proofs.Common.{◌<◌, [], ◌∷◌, ◌++◌, length, sym, subst}
use Rattle.std.proofs.lemmas.Result.{on_ok_weaker}
use Rattle.tests_with.proofs.PageLemmas.{can_come, spells, all_before}
use Rattle.tests_with.proofs.pages.add_page.Goals as goal

pub add-requires : goal.add-requires
add-requires c =
    let before = c.requires.before in
    let page = c.requires.page in
    let some : 0 < length page.sheet.pieces = subst (λ n. 0 < n) (sym page.count_is) c.requires.some in (
      before.sheets,
      page.sheet,
      before.are,
      spells _ page.sheet _ page.is c.bytes.ensures.spelled c.bytes.ensures.valid some,
      can_come before.sheets _ _ _ _ before.can before.before page c.requires.few,
    )

pub returns : goal.returns
returns c =
    let before = c.requires.before in
    let page = c.requires.page in
    let some : 0 < length page.sheet.pieces = subst (λ n. 0 < n) (sym page.count_is) c.requires.some in
    on_ok_weaker c.add.result
    (λ ok. record {
      sheets = before.sheets ++ page.sheet ∷ [];
      are = ok before.sheets page.sheet before.are (spells _ page.sheet _ page.is c.bytes.ensures.spelled c.bytes.ensures.valid some);
      can = can_come before.sheets _ _ _ _ before.can before.before page c.requires.few;
      before = all_before before.sheets _ _ _ _ page before.before;
    })
    c.add.ensures.ok
