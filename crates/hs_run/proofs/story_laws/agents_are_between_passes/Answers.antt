use Rattle.std.proofs.Common.{◌++◌, sym, ap, subst, ◌∙◌, append-nil, map}
use Rattle.hs_run.proofs.Prelude.{AllByRecursion, HandsReady, AreTurns, IsPageThere, IsWithin, lent_of, start, after}
use Rattle.hs_run.proofs.story_laws.agents_are_between_passes.Goals as goal

pub returns : goal.returns
returns c W node heard work desk lines node_is stands none asked few =
    let is = stands.works.is in
    record {
      node_is = node_is;
      turns = subst (λ m. AreTurns W.settings m (map lent_of work.came) work.events lines.giver.turns) node_is stands.turns;
      pages = subst (λ m. AllByRecursion (IsPageThere W m work.pool) work.came) node_is is.pages;
      sheets = is.sheets;
      within = subst (λ m. AllByRecursion (IsWithin W m) work.events) node_is is.within;
      hands = subst (λ m. HandsReady W.settings m (start W.settings) work.events) node_is is.hands;
      moved = sym (append-nil work.moved) ∙ ap (λ said. work.moved ++ said) (sym none) ∙ stands.works.said_is ∙ ap (λ m. (after W.settings m work.events).said) node_is;
      asked = asked;
      hears = few;
    }
