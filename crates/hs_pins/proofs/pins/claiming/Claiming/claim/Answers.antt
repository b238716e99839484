use Rattle.std.proofs.Common.{◌≡◌, map, sym, ap, subst, ◌∙◌, arith}
use Rattle.hs_pins.proofs.Prelude.{length-map, is_declared, buffer_of, claim_of, claimed, Remembers}
use Rattle.hs_pins.specs.Queues.{with_groups, has_queue}
use Rattle.hs_pins.specs.Opens.{Opening, restored}
use Rattle.hs_pins.proofs.Remembering.{has_claimed, queue_there}
use Rattle.hs_pins.proofs.PutBack.{pinned_back}
use Rattle.hs_pins.proofs.pins.claiming.Claiming.claim.Goals as goal

pub invariant_of-self : goal.invariant_of-self
invariant_of-self g c =
    let within = c.requires.chunks in
    let left = ap (λ (o : Opening g.row.L.Denot). o.chunks) c.self.view_is in
    let is = c.len.ensures in
    let room = c.self.invariant.room in
    let few = c.self.invariant.few in
    let less = c.pin.ensures.room in
    let more = c.pin.ensures.count in
    record {
      priority = c.pin.ensures.priority ∙ c.self.invariant.priority;
      seat = c.add.ensures.seat;
      room = omega (arith, within, left, is, room, less);
      few = omega (arith, within, left, is, few, more);
      none = c.self.invariant.none;
      dropped = c.self.invariant.dropped;
      marks = c.self.invariant.marks;
    }

pub returns-clause-after : goal.returns-clause-after
returns-clause-after g c = λ pins memory h declared few.
    let chunks = map (buffer_of {L = g.row.L.Denot} {g = g.L.Token}) c.args.taken.held.items in
    let group = c.self.inside.party.group in
    let is_group = ap (λ (o : Opening g.row.L.Denot). o.group) c.self.view_is in
    let v = restored pins (record { group = group; laterals = c.self.inside.party.laterals; claims = c.self.inside.claims.claims; groups = c.self.inside.opened.groups; abandoned = c.self.inside.marks.keys; traces = c.self.inside.claims.room; chunks = c.self.inside.left; most = c.self.inside.most; ready = c.self.inside.ready }) in
    let same : v ≡ restored pins c.args.self.now = ap (restored pins) c.self.view_is in
    let own_declared = ap (λ (o : Opening g.row.L.Denot). is_declared memory.rules o.group.trigger) c.self.view_is ∙ declared in
    let there : has_queue (with_groups pins.queues group.trigger c.self.inside.opened.groups) group.trigger = queue_there v (restored pins c.args.self.now) memory group.trigger same h own_declared in
    subst (λ (o : Opening g.row.L.Denot). Remembers (record v { claims = c.add.new.self.claims; queues = with_groups pins.queues group.trigger c.pin.new.self.groups }) (claimed memory o.group o.laterals c.args.trace chunks c.args.taken.crumbs)) c.self.view_is
    (has_claimed v (restored pins c.args.self.now) memory group c.self.inside.party.laterals c.args.trace chunks c.args.taken.crumbs c.self.inside.opened.priority c.add.new.self.claims (with_groups pins.queues group.trigger c.pin.new.self.groups) same h
    (ap (λ cs. claim_of cs c.args.trace) (sym h.claims) ∙ c.requires.unclaimed) own_declared
    (let n = length-map c.args.taken.held.items (buffer_of {L = g.row.L.Denot} {g = g.L.Token}) in omega (arith, few, n))
    c.add.ensures.claims c.self.invariant.priority (pinned_back group.trigger pins.queues c.self.inside.opened.groups c.pin.new.self.groups c.self.inside.opened.priority chunks there c.pin.ensures.groups))
