use Rattle.std.proofs.Common.{◌++◌, length, map, sym, ap, ap₂, subst, ◌∙◌, arith}
use Rattle.hs_pins.proofs.Prelude.{length-map, is_declared, leaving, pin_of, Remembers}
use Rattle.hs_pins.specs.Abandoning.{drops}
use Rattle.hs_pins.specs.Opens.{Opening, restored}
use Rattle.hs_pins.proofs.Leaving.{relieved-few, drops-few}
use Rattle.hs_pins.proofs.Receiving.{going_few}
use Rattle.hs_pins.proofs.Remembering.{queue_there, has_abandoned}
use Rattle.hs_pins.proofs.PutBack.{found_before, put_back}
use Rattle.hs_pins.proofs.pins.Pins.close.Goals as goal

pub close-requires-clause-declared : goal.close-requires-clause-declared
close-requires-clause-declared g c =
    found_before c.claiming.inside.party.group.trigger c.self.inside.queues c.claiming.inside.opened.groups
    (queue_there _ (restored c.args.self.now c.args.claiming) c.requires.0 c.claiming.inside.party.group.trigger (ap₂ restored c.self.view_is c.claiming.view_is) c.requires.1
    (ap (λ (o : Opening g.row.L.Denot). is_declared c.requires.0.rules o.group.trigger) c.claiming.view_is ∙ c.requires.2.2))

pub returns-then-chunks-self-clause-gone : goal.returns-then-chunks-self-clause-gone
returns-then-chunks-self-clause-gone g c = λ memory h.
    let k = put_back _ (restored c.args.self.now c.args.claiming) memory c.close.new.self (ap₂ restored c.self.view_is c.claiming.view_is) h c.close.ensures in
    let total = k.pinned.chunks.total in
    let most = k.most in
    let few = c.if-chunks-self.true in
    let is = c.chunks.ensures in
    ap (map pin_of) c.claiming.invariant.none ∙ sym (drops-few memory (omega (arith, total, most, few, is)))

pub returns-then-chunks-self-clause-after : goal.returns-then-chunks-self-clause-after
returns-then-chunks-self-clause-after g c = λ memory h.
    let k = put_back _ (restored c.args.self.now c.args.claiming) memory c.close.new.self (ap₂ restored c.self.view_is c.claiming.view_is) h c.close.ensures in
    let total = k.pinned.chunks.total in
    let most = k.most in
    let few = c.if-chunks-self.true in
    let is = c.chunks.ensures in
    subst (Remembers _) (sym (relieved-few memory (omega (arith, total, most, few, is)))) k

pub returns-clause-gone : goal.returns-clause-gone
returns-clause-gone g c = λ memory h.
    let k = put_back _ (restored c.args.self.now c.args.claiming) memory c.close.new.self (ap₂ restored c.self.view_is c.claiming.view_is) h c.close.ensures in
    c.abandon_over.ensures.drops memory k.most k.pinned ∙ ap (λ ps. map pin_of ps ++ drops memory) c.claiming.invariant.none

pub returns-clause-after : goal.returns-clause-after
returns-clause-after g c = λ memory h.
    let k = put_back _ (restored c.args.self.now c.args.claiming) memory c.close.new.self (ap₂ restored c.self.view_is c.claiming.view_is) h c.close.ensures in
    has_abandoned _ (restored c.args.self.now c.args.claiming) memory c.abandon_over.new.queues c.abandon_over.new.abandoned.keys (ap₂ restored c.self.view_is c.claiming.view_is) h
    (c.abandon_over.ensures.after memory k.most k.pinned)

pub returns-clause-few : goal.returns-clause-few
returns-clause-few g c = λ memory h.
    let k = put_back _ (restored c.args.self.now c.args.claiming) memory c.close.new.self (ap₂ restored c.self.view_is c.claiming.view_is) h c.close.ensures in
    let gone = ap length (c.abandon_over.ensures.drops memory k.most k.pinned ∙ ap (λ ps. map pin_of ps ++ drops memory) c.claiming.invariant.none) in
    let one = length-map c.abandon_over.new.dropped.items (pin_of {L = g.row.L.Denot} {g = g.L.Token}) in
    let few = going_few (leaving memory.most memory.pinned) memory.pinned in
    omega (arith, gone, one, few)
