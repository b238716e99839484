use Rattle.std.proofs.Common.{List, get_or, sym, subst}
use Rattle.hs_run_actors.proofs.Prelude.{lent_is, lent_from, Told, IsTakenOut}
use Rattle.hs_run_actors.proofs.Inboxes.{taken_out}
use Rattle.hs_run_actors.proofs.coordinator.next_told.Goals as goal

pub returns : goal.returns
returns c =
    let items = c.args.told.now.items in
    let now = c.as_mut_slice.result.now in
    subst (λ (l : List (List Told)). IsTakenOut c.args.node items c.next.result l) (sym (lent_is items now c.args.node c.next.new.self c.as_mut_slice.ensures.value))
    (taken_out items c.args.node (get_or now c.args.node c.index-as_mut_slice-node.result) c.next.new.self c.next.result (lent_from items now c.args.node c.index-as_mut_slice-node.result c.as_mut_slice.ensures.value c.requires) c.next.ensures)
