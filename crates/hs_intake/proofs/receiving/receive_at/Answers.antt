use Rattle.std.proofs.Common.{get_or}
use Rattle.std.proofs.lemmas.Option.{IfSome_then}
use Rattle.hs_base.proofs.Lent.{lent_from}
use Rattle.hs_live.proofs.Ports.{received_at}
use Rattle.hs_intake.proofs.receiving.receive_at.Goals as goal

pub returns-clause-received : goal.returns-clause-received
returns-clause-received g c =
    let received = c.receive.ensures in
    received_at c.args.receivers.now.items c.as_mut_slice.result.now c.args.client c.index-as_mut_slice-client.result c.receive.new.self c.receive.result c.as_mut_slice.ensures.value c.requires received.same received.some received.none

pub returns-clause-fact : goal.returns-clause-fact
returns-clause-fact g c =
    let items = c.args.receivers.now.items in
    let now = c.as_mut_slice.result.now in
    let default = c.index-as_mut_slice-client.result in
    IfSome_then c.receive.result c.receive.ensures.fact (λ item holds. (get_or now c.args.client default, lent_from items now c.args.client default c.as_mut_slice.ensures.value c.requires, holds))
