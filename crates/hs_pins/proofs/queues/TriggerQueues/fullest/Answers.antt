use Rattle.std.proofs.Common.{sym, ap, subst, ◌∙◌}
use Rattle.hs_pins.proofs.Prelude.{IsStrictlySortedBy, keys_of, Queues}
use Rattle.std.specs.Map.Iter.{deref_pair}
use Rattle.std.proofs.lemmas.Map.Iter.{rest_all}
use Rattle.hs_pins.proofs.Fullest.{choose, id_cmp, fullest_is}
use Rattle.hs_pins.proofs.queues.TriggerQueues.fullest.Goals as goal

pub returns-clause-found : goal.returns-clause-found
returns-clause-found g c =
    let left = rest_all deref_pair c.loop-id.id-iterator c.next.new.self c.next.result c.in-None.is c.next.ensures.steps in
    (fullest_is c.args.self.now c.loop-id.fullest
    (subst (λ (q : Queues g.row.L.Denot). IsStrictlySortedBy id_cmp (keys_of q)) c.self.view_is c.iter-id-items.ensures.ordered)
    (sym (ap (λ es. choose es c.loop-id.most c.loop-id.fullest) left) ∙ c.loop-id.invariant)).found

pub returns-clause-none : goal.returns-clause-none
returns-clause-none g c =
    let left = rest_all deref_pair c.loop-id.id-iterator c.next.new.self c.next.result c.in-None.is c.next.ensures.steps in
    (fullest_is c.args.self.now c.loop-id.fullest
    (subst (λ (q : Queues g.row.L.Denot). IsStrictlySortedBy id_cmp (keys_of q)) c.self.view_is c.iter-id-items.ensures.ordered)
    (sym (ap (λ es. choose es c.loop-id.most c.loop-id.fullest) left) ∙ c.loop-id.invariant)).none
