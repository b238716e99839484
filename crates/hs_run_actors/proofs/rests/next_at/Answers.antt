use Rattle.std.proofs.Common.{get_or}
use Rattle.hs_run_actors.proofs.Prelude.{IfSome_then, lent_from}
use Rattle.hs_run_actors.proofs.Resting.{given_at}
use Rattle.hs_run_actors.proofs.rests.next_at.Goals as goal

pub returns-clause-gives : goal.returns-clause-gives
returns-clause-gives g c =
    let next = c.next.ensures in
    given_at c.args.rests.now.items c.as_mut_slice.result.now c.args.client c.index-as_mut_slice-client.result c.next.new.self c.next.result c.as_mut_slice.ensures.value c.requires next.key next.some next.none

pub returns-clause-fact : goal.returns-clause-fact
returns-clause-fact g c =
    let items = c.args.rests.now.items in
    let now = c.as_mut_slice.result.now in
    let default = c.index-as_mut_slice-client.result in
    IfSome_then c.next.result c.next.ensures.fact (λ item holds. (get_or now c.args.client default, lent_from items now c.args.client default c.as_mut_slice.ensures.value c.requires, holds))
