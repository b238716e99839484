use Rattle.std.proofs.Common.{sym, subst, ◌∙◌, arith}
use Rattle.hs_pins.proofs.Prelude.{buffer_of, Remembers}
use Rattle.hs_pins.proofs.Remembering.{queue_there, claim_is, back_is, arrived-back, has_arrived}
use Rattle.hs_pins.proofs.pins.Pins.arrive.Goals as goal

pub returns-then-contains-clause-after : goal.returns-then-contains-clause-after
returns-then-contains-clause-after g c = λ memory h.
    let claim = claim_is _ c.args.self.now memory (buffer_of c.args.held) c.claiming_group-group.result c.self.view_is h c.claiming_group-group.ensures in
    subst (Remembers c.args.self.now)
    (sym (arrived-back memory (buffer_of c.args.held)
    (back_is _ c.args.self.now memory (buffer_of c.args.held) c.claiming_group-group.result c.of.result c.contains.result c.self.view_is h claim c.of.ensures c.contains.ensures ∙ c.if-contains.true)))
    h

pub pin_one-pinned-requires-clause-declared : goal.pin_one-pinned-requires-clause-declared
pin_one-pinned-requires-clause-declared g c =
    let claim = claim_is _ c.args.self.now c.requires.claimed.0 (buffer_of c.args.held) c.claiming_group-group.result c.self.view_is c.requires.claimed.1 c.claiming_group-group.ensures in
    queue_there _ c.args.self.now c.requires.claimed.0 c.claiming_group-group.result.trigger c.self.view_is c.requires.claimed.1 claim.declared

pub returns-clause-after : goal.returns-clause-after
returns-clause-after g c = λ memory h.
    let claim = claim_is _ c.args.self.now memory (buffer_of c.args.held) c.claiming_group-group.result c.self.view_is h c.claiming_group-group.ensures in
    has_arrived _ c.args.self.now memory (buffer_of c.args.held) c.claiming_group-group.result c.of-priority.result c.pin_one-pinned.new.self c.self.view_is h claim
    (back_is _ c.args.self.now memory (buffer_of c.args.held) c.claiming_group-group.result c.of.result c.contains.result c.self.view_is h claim c.of.ensures c.contains.ensures ∙ c.if-contains.false)
    (let a = h.pinned.chunks.total in let b = c.requires.few.1.pinned.chunks.total in let few = c.requires.few.2 in omega (arith, a, b, few)) c.of-priority.ensures c.in_default.ensures.ok
