use Rattle.std.proofs.Common.{◌+◌, take, ap, sym, ◌∙◌}
use Rattle.hs_check.proofs.Prelude.{list_any, Shown, is_named}
use Rattle.std.specs.HashSet.{contains}
use Rattle.std.proofs.lemmas.List.Folds.{list_any_more}
use Rattle.hs_check.specs.Showing.{is_same}
use Rattle.hs_check.proofs.Noting.{one_given, none_given}
use Rattle.hs_check.proofs.shown.Shown.give.Goals as goal
use Rattle.hs_check.proofs.shown.Shown.give.Goals.{then-self-gives+in_ok-insert, else-self-gives}

pub returns-clause-given : goal.returns-clause-given
returns-clause-given c = λ given page.
    let gives = c.args.gives.now in
    let old : Shown = c.args.self.now in
    elim c.if-self-gives.branch [
      | then-self-gives+in_ok-insert w ↦
          ap (λ (s : Shown). contains is_same s.given page) w.self-is
          ∙ w.in_ok-insert.ensures.updates.0 page
          ∙ one_given _ _ _ (given page)
          ∙ sym (list_any_more (is_named page) gives old.gives _ w.if-self-gives.true)
          ∙ sym (ap (λ (s : Shown). list_any (is_named page) (take (s.gives + 1) gives)) w.self-is)
      | else-self-gives w ↦
          ap (λ (s : Shown). contains is_same s.given page) w.self-is
          ∙ given page
          ∙ none_given (is_named page) gives old.gives w.if-self-gives.false
          ∙ sym (ap (λ (s : Shown). list_any (is_named page) (take (s.gives + 1) gives)) w.self-is)
    ]
