use Rattle.std.proofs.Common.{List, subst, ◌∙◌}
use Rattle.hs_board.specs.declared.progress.Progress.{Progress}
use Rattle.hs_board.specs.Shown.{IsLast}
use Rattle.hs_board.proofs.watch.Watch.tell.Goals as goal

pub returns-clause-last : goal.returns-clause-last
returns-clause-last c =
    record {
      one = λ last is. c.hear.ensures.told last (subst (λ (l : List Progress). IsLast last l) (c.hear-2.ensures.writer ∙ c.hear.ensures.writer) is);
      other = λ last is. c.hear-2.ensures.told last (subst (λ (l : List Progress). IsLast last l) c.hear-2.ensures.writer is);
    }
