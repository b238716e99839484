use Rattle.std.proofs.Common.{◌++◌, length, map, ap, ◌∙◌, arith, length-append}
use Rattle.hs_pins.proofs.Prelude.{length-map, buffer_of, mark_of, pin_for, pin_of, with_mark}
use Rattle.hs_pins.proofs.Leaving.{group_goes}
use Rattle.hs_pins.proofs.abandon.abandon_next.Goals as goal

pub returns-clause-goes : goal.returns-clause-goes
returns-clause-goes g c = λ memory h.
    group_goes c.in-Some.trigger c.in-Some-take_least.priority (map buffer_of c.in-Some-take_least.chunks.items) c.args.queues.now c.take_least.new.self c.args.abandoned.now.keys c.mark.new.abandoned.keys memory
    (map pin_of c.args.dropped.now.items) (map pin_of c.drop_chunks.new.dropped.items) h c.in-Some.ensures.found c.in-Some-take_least.ensures.least c.take_least.ensures.rest
    (c.mark.ensures.marks ∙ ap (λ group. with_mark c.args.abandoned.now.keys (mark_of group)) c.group-group.ensures)
    (c.drop_chunks.ensures.items ∙ ap (λ group. map pin_of c.args.dropped.now.items ++ map (pin_for group) (map buffer_of c.in-Some-take_least.chunks.items)) c.group-group.ensures)

pub returns-clause-chunks : goal.returns-clause-chunks
returns-clause-chunks g c =
    let all = ap length c.drop_chunks.ensures.items in
    let new = length-map c.drop_chunks.new.dropped.items (pin_of {L = g.row.L.Denot} {g = g.L.Token}) in
    let old = length-map c.args.dropped.now.items (pin_of {L = g.row.L.Denot} {g = g.L.Token}) in
    let chunks = length-map (map buffer_of c.in-Some-take_least.chunks.items) (pin_for {L = g.row.L.Denot} c.group-group.result) in
    let held = length-map c.in-Some-take_least.chunks.items (buffer_of {L = g.row.L.Denot} {g = g.L.Token}) in
    let both = length-append (map (pin_of {L = g.row.L.Denot} {g = g.L.Token}) c.args.dropped.now.items) (map (pin_for c.group-group.result) (map buffer_of c.in-Some-take_least.chunks.items)) in
    let count = c.in-Some-take_least.ensures.count in
    omega arith
