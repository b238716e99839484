use Rattle.std.proofs.Common.{arith}
use Rattle.hs_replay.proofs.Giving.{begun, gave_all, gave_one, gave_none, hand_left}
use Rattle.hs_replay.proofs.node.ReplayNode.give_all.Goals as goal

pub gives-init : goal.gives-init
gives-init c = λ W m n still. (0, begun W m n c.args.self.now still)

pub give_next-requires : goal.give_next-requires
give_next-requires c =
    let (W, m, n, still) = c.requires in
    let (given, g) = c.gives.invariant W m n still in
    (W, m, n, still.at.run, given, g)

pub gives-smaller : goal.gives-smaller
gives-smaller c =
    let (W, m, n, still) = c.requires in
    let (given, g) = c.gives.invariant W m n still in
    let more = gave_one W m n still.at.run given c.give_next.new.self c.in_ok-give_next.field-0 c.if-branch.true (c.in_ok-give_next.ensures W m n still.at.run given g) in
    let before = hand_left W m n still.at.run given c.gives.self g c.agents_give_so.ensures in
    let after = hand_left W m n still.at.run _ c.give_next.new.self more c.agents_give_so.ensures in
    let within = more.within in
    omega (arith, before, after, within)

pub gives-preserved : goal.gives-preserved
gives-preserved c = λ W m n still.
    let (given, g) = c.gives.invariant W m n still in
    (_, gave_one W m n still.at.run given c.give_next.new.self c.in_ok-give_next.field-0 c.if-branch.true (c.in_ok-give_next.ensures W m n still.at.run given g))

pub returns : goal.returns
returns c = λ W m n still.
    let (given, g) = c.gives.invariant W m n still in
    let last = gave_none W m n still.at.run given c.give_next.new.self c.in_ok-give_next.field-0 c.if-branch.false (c.in_ok-give_next.ensures W m n still.at.run given g) in
    gave_all c.agents_give_so.ensures W m n still.at.run given c.give_next.new.self last.0 last.1
