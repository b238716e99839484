use Rattle.std.proofs.Common.{length, map, sym, ap, ◌∙◌, arith}
use Rattle.hs_agent.proofs.Prelude.{length-map, buffer_of, Tagged}
use Rattle.hs_agent.proofs.Asking.{asked-known, asked-free, asked-claimed}
use Rattle.hs_agent.proofs.Needed.{needed-own}
use Rattle.hs_agent.proofs.holdings.claiming.claim_one.Goals as goal

pub claim-requires-2-clause-chunks : goal.claim-requires-2-clause-chunks
claim-requires-2-clause-chunks g c =
    let known = c.requires.known in
    let room = needed-own c.args.index.now.touched c.args.trace known.0 c.args.claiming.now.chunks known.4.chunks in
    let held = ap length c.in-Ok.ensures.held in
    let all = length-map c.in-Ok.taken.held.items (buffer_of {L = Tagged g.row.L.Denot}) in
    omega (arith, room, held, all)

pub returns-then-has-clause-after : goal.returns-then-has-clause-after
returns-then-has-clause-after g c = λ left kept pins point k.
    asked-known c.args.ask.now c.args.trace left kept pins c.args.index.now c.args.notes.now.items c.args.claiming.now point k (sym c.has.ensures ∙ c.if-has.true)

pub returns-clause-after : goal.returns-clause-after
returns-clause-after g c = λ left kept pins point k.
    asked-claimed c.args.ask.now c.args.trace left kept pins c.args.index.now c.args.notes.now.items c.args.claiming.now point k c.claim.new.self c.push.new.self.items c.claim-2.new.self
    (map (buffer_of {L = Tagged g.row.L.Denot}) c.in-Ok.taken.held.items) c.in-Ok.taken.crumbs (length c.in-Ok.taken.held.items)
    (asked-free c.args.ask.now c.args.trace left kept pins c.args.index.now c.args.notes.now.items c.args.claiming.now point k (sym c.has.ensures ∙ c.if-has.false))
    c.claim.ensures.after c.push.ensures.items c.in-Ok.ensures.held c.in-Ok.ensures.crumbs (length-map c.in-Ok.taken.held.items (buffer_of {L = Tagged g.row.L.Denot})) (λ memory h declared few. c.claim-2.ensures.after pins memory h declared few)
    c.claim-2.ensures.group c.claim-2.ensures.laterals c.claim-2.ensures.most c.claim-2.ensures.ready c.claim-2.ensures.chunks c.in-Ok.ensures.count
