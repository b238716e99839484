use Rattle.std.proofs.Common.{List, get_or, ap, ◌∙◌}
use Rattle.hs_run_actors.proofs.Prelude.{slice_set, lent_is, lent_from, Told}
use Rattle.std.proofs.lemmas.Result.{on_ok_weaker}
use Rattle.hs_run_actors.proofs.coordinator.bring.Goals as goal

pub returns-clause-put : goal.returns-clause-put
returns-clause-put c =
    let items = c.args.told.now.items in
    let now = c.as_mut_slice.result.now in
    on_ok_weaker c.bring.result
    (λ became. (
      get_or now c.args.node c.index-as_mut_slice-node.result,
      lent_from items now c.args.node c.index-as_mut_slice-node.result c.as_mut_slice.ensures.value c.requires,
      lent_is items now c.args.node c.bring.new.self c.as_mut_slice.ensures.value ∙ ap (λ (l : List Told). slice_set items c.args.node l) became,
    ))
    c.bring.ensures.put
