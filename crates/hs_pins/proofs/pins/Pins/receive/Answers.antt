use Rattle.std.proofs.Common.{◌≡◌, true, ◌++◌, map, length, sym, ap, subst, ◌∙◌, arith}
use Rattle.hs_pins.proofs.Prelude.{length-map, buffer_of, pin_of, comes_back, arrived, Remembers}
use Rattle.hs_pins.specs.Abandoning.{drops}
use Rattle.hs_base.proofs.Options.{on_ok_always}
use Rattle.std.proofs.lemmas.Result.{IfOk-weaker}
use Rattle.hs_pins.proofs.Receiving.{received-back, goes_few, goes-back, goes-stays, came, goes_none, stays_so, still_marked, gave_way}
use Rattle.hs_pins.proofs.Remembering.{queue_there, claim_is, back_is, arrived-back}
use Rattle.hs_pins.proofs.pins.Pins.receive.Goals as goal

pub returns-then-contains-clause-gone : goal.returns-then-contains-clause-gone
returns-then-contains-clause-gone g c = λ memory h.
    let chunk = buffer_of c.args.held in
    let claim = claim_is _ c.args.self.now memory chunk c.claiming_group-group.result c.self.view_is h c.claiming_group-group.ensures in
    let back : comes_back memory chunk ≡ true = back_is _ c.args.self.now memory chunk c.claiming_group-group.result c.of.result c.contains.result c.self.view_is h claim c.of.ensures c.contains.ensures ∙ c.if-contains.true in
    IfOk-weaker c.dropped_alone.result _ _ (λ dropped alone. alone ∙ sym (goes-back memory chunk c.claiming_group-group.result claim back)) c.dropped_alone.ensures.ok

pub returns-then-contains-clause-few : goal.returns-then-contains-clause-few
returns-then-contains-clause-few g c = λ memory h.
    let chunk = buffer_of c.args.held in
    IfOk-weaker c.dropped_alone.result _ _ (λ dropped alone. let one = sym (length-map dropped.items pin_of) ∙ ap length alone in omega (arith, one)) c.dropped_alone.ensures.ok

pub returns-then-contains-clause-after : goal.returns-then-contains-clause-after
returns-then-contains-clause-after g c = λ memory h.
    let chunk = buffer_of c.args.held in
    let claim = claim_is _ c.args.self.now memory chunk c.claiming_group-group.result c.self.view_is h c.claiming_group-group.ensures in
    let back : comes_back memory chunk ≡ true = back_is _ c.args.self.now memory chunk c.claiming_group-group.result c.of.result c.contains.result c.self.view_is h claim c.of.ensures c.contains.ensures ∙ c.if-contains.true in
    on_ok_always c.dropped_alone.result (subst (Remembers c.args.self.now) (sym (received-back memory chunk back)) h)

pub returns-then-contains-clause-between : goal.returns-then-contains-clause-between
returns-then-contains-clause-between g c = λ memory h.
    let chunk = buffer_of c.args.held in
    let claim = claim_is _ c.args.self.now memory chunk c.claiming_group-group.result c.self.view_is h c.claiming_group-group.ensures in
    let back : comes_back memory chunk ≡ true = back_is _ c.args.self.now memory chunk c.claiming_group-group.result c.of.result c.contains.result c.self.view_is h claim c.of.ensures c.contains.ensures ∙ c.if-contains.true in
    on_ok_always c.dropped_alone.result (c.args.self.now, subst (Remembers c.args.self.now) (sym (arrived-back memory chunk back)) h)

pub pin_one-added-requires-clause-declared : goal.pin_one-added-requires-clause-declared
pin_one-added-requires-clause-declared g c =
    let claim = claim_is _ c.args.self.now c.requires.claimed.0 (buffer_of c.args.held) c.claiming_group-group.result c.self.view_is c.requires.claimed.1 c.claiming_group-group.ensures in
    queue_there _ c.args.self.now c.requires.claimed.0 c.claiming_group-group.result.trigger c.self.view_is c.requires.claimed.1 claim.declared

pub returns-then-pinned-self-clause-gone : goal.returns-then-pinned-self-clause-gone
returns-then-pinned-self-clause-gone g c = λ memory h.
    let chunk = buffer_of c.args.held in
    let now = came _ c.args.self.now memory chunk c.claiming_group-group.result c.of.result c.contains.result c.of-priority.result c.pin_one-added.new.self c.self.view_is h c.claiming_group-group.ensures c.of.ensures c.contains.ensures c.if-contains.false
    (let a = h.pinned.chunks.total in let b = c.requires.few.1.pinned.chunks.total in let few = c.requires.few.2 in omega (arith, a, b, few)) c.of-priority.ensures c.in_default-added.ensures.ok in
    ap (map pin_of) c.in-Ok.ensures.empty ∙ sym (goes_none _ memory chunk c.claiming_group-group.result now (let test = c.if-pinned-self.true in let is = c.chunks-pinned.ensures in let more = c.in_default-added.ensures.count in omega (arith, test, is, more)))

pub returns-then-pinned-self-clause-few : goal.returns-then-pinned-self-clause-few
returns-then-pinned-self-clause-few g c = λ memory h. let none = ap length c.in-Ok.ensures.empty in omega (arith, none)

pub returns-then-pinned-self-clause-after : goal.returns-then-pinned-self-clause-after
returns-then-pinned-self-clause-after g c = λ memory h.
    let chunk = buffer_of c.args.held in
    let now = came _ c.args.self.now memory chunk c.claiming_group-group.result c.of.result c.contains.result c.of-priority.result c.pin_one-added.new.self c.self.view_is h c.claiming_group-group.ensures c.of.ensures c.contains.ensures c.if-contains.false
    (let a = h.pinned.chunks.total in let b = c.requires.few.1.pinned.chunks.total in let few = c.requires.few.2 in omega (arith, a, b, few)) c.of-priority.ensures c.in_default-added.ensures.ok in
    stays_so _ memory chunk c.claiming_group-group.result now c.room_to_drop.new.marks.keys c.room_to_drop.ensures.keys (let test = c.if-pinned-self.true in let is = c.chunks-pinned.ensures in let more = c.in_default-added.ensures.count in omega (arith, test, is, more))

pub returns-then-pinned-self-clause-between : goal.returns-then-pinned-self-clause-between
returns-then-pinned-self-clause-between g c = λ memory h.
    let chunk = buffer_of c.args.held in
    let now = came _ c.args.self.now memory chunk c.claiming_group-group.result c.of.result c.contains.result c.of-priority.result c.pin_one-added.new.self c.self.view_is h c.claiming_group-group.ensures c.of.ensures c.contains.ensures c.if-contains.false
    (let a = h.pinned.chunks.total in let b = c.requires.few.1.pinned.chunks.total in let few = c.requires.few.2 in omega (arith, a, b, few)) c.of-priority.ensures c.in_default-added.ensures.ok in
    (_, now.arrives)

pub abandon_over-requires-clause-chunks : goal.abandon_over-requires-clause-chunks
abandon_over-requires-clause-chunks g c =
    let test = c.if-pinned-self.false in
    let is = c.chunks-pinned.ensures in
    let more = c.in_default-added.ensures.count in
    let none = ap length c.in-Ok.ensures.empty in
    let room = c.in-Ok.ensures.chunks (omega (arith, test)) in
    omega (arith, is, more, none, room)

pub returns-clause-gone : goal.returns-clause-gone
returns-clause-gone g c = λ memory h.
    let chunk = buffer_of c.args.held in
    let now = came _ c.args.self.now memory chunk c.claiming_group-group.result c.of.result c.contains.result c.of-priority.result c.pin_one-added.new.self c.self.view_is h c.claiming_group-group.ensures c.of.ensures c.contains.ensures c.if-contains.false
    (let a = h.pinned.chunks.total in let b = c.requires.few.1.pinned.chunks.total in let few = c.requires.few.2 in omega (arith, a, b, few)) c.of-priority.ensures c.in_default-added.ensures.ok in
    c.abandon_over.ensures.drops (arrived memory chunk) now.arrives.most (still_marked _ memory chunk c.claiming_group-group.result now c.room_to_drop.new.marks.keys c.room_to_drop.ensures.keys)
    ∙ ap (λ ps. map pin_of ps ++ drops (arrived memory chunk)) c.in-Ok.ensures.empty
    ∙ sym (goes-stays memory chunk c.claiming_group-group.result now.claim now.stays)

pub returns-clause-few : goal.returns-clause-few
returns-clause-few g c = λ memory h.
    let chunk = buffer_of c.args.held in
    let now = came _ c.args.self.now memory chunk c.claiming_group-group.result c.of.result c.contains.result c.of-priority.result c.pin_one-added.new.self c.self.view_is h c.claiming_group-group.ensures c.of.ensures c.contains.ensures c.if-contains.false
    (let a = h.pinned.chunks.total in let b = c.requires.few.1.pinned.chunks.total in let few = c.requires.few.2 in omega (arith, a, b, few)) c.of-priority.ensures c.in_default-added.ensures.ok in
    let gone = ap length (c.abandon_over.ensures.drops (arrived memory chunk) now.arrives.most (still_marked _ memory chunk c.claiming_group-group.result now c.room_to_drop.new.marks.keys c.room_to_drop.ensures.keys)
    ∙ ap (λ ps. map pin_of ps ++ drops (arrived memory chunk)) c.in-Ok.ensures.empty
    ∙ sym (goes-stays memory chunk c.claiming_group-group.result now.claim now.stays)) in
    let one = length-map c.abandon_over.new.dropped.items pin_of in
    let few = goes_few memory chunk in
    omega (arith, gone, one, few)

pub returns-clause-after : goal.returns-clause-after
returns-clause-after g c = λ memory h.
    let chunk = buffer_of c.args.held in
    let now = came _ c.args.self.now memory chunk c.claiming_group-group.result c.of.result c.contains.result c.of-priority.result c.pin_one-added.new.self c.self.view_is h c.claiming_group-group.ensures c.of.ensures c.contains.ensures c.if-contains.false
    (let a = h.pinned.chunks.total in let b = c.requires.few.1.pinned.chunks.total in let few = c.requires.few.2 in omega (arith, a, b, few)) c.of-priority.ensures c.in_default-added.ensures.ok in
    gave_way _ memory chunk c.claiming_group-group.result now c.abandon_over.new.queues c.abandon_over.new.abandoned.keys
    (c.abandon_over.ensures.after (arrived memory chunk) now.arrives.most (still_marked _ memory chunk c.claiming_group-group.result now c.room_to_drop.new.marks.keys c.room_to_drop.ensures.keys))

pub returns-clause-between : goal.returns-clause-between
returns-clause-between g c = λ memory h.
    let chunk = buffer_of c.args.held in
    let now = came _ c.args.self.now memory chunk c.claiming_group-group.result c.of.result c.contains.result c.of-priority.result c.pin_one-added.new.self c.self.view_is h c.claiming_group-group.ensures c.of.ensures c.contains.ensures c.if-contains.false
    (let a = h.pinned.chunks.total in let b = c.requires.few.1.pinned.chunks.total in let few = c.requires.few.2 in omega (arith, a, b, few)) c.of-priority.ensures c.in_default-added.ensures.ok in
    (_, now.arrives)
