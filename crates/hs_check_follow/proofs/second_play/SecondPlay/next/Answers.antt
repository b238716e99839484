use Rattle.std.proofs.Common.{map, arith}
use Rattle.hs_check_follow.proofs.Prelude.{length-map, buffer_of, buffer_in, operation_of}
use Rattle.hs_check_follow.proofs.Filled.{none_left, waits, filled, filled_last}
use Rattle.hs_check_follow.proofs.second_play.SecondPlay.next.Goals as goal

pub operations-init : goal.operations-init
operations-init c = λ settings client draws k rules_are is. is

pub returns-in-Some : goal.returns-in-Some
returns-in-Some c = λ settings client draws k rules_are is.
    let now = c.operations.invariant settings client draws k rules_are is in
    let took = c.in-Some.ensures settings client (map operation_of c.args.operations.now) now.drawn now.done k now.l now.m now.at in
    filled settings client (map operation_of c.args.operations.now) draws k c.operations.self now c.next_chunk.new.self (buffer_of c.in-Some.held) took.0 took.1

pub play_operation-requires-clause-may : goal.play_operation-requires-clause-may
play_operation-requires-clause-may c =
    let (settings, client, draws, k, rules_are, is) = c.requires in
    let now = c.operations.invariant settings client draws k rules_are is in
    let none = c.in_default.ensures settings client (map operation_of c.args.operations.now) now.drawn now.done k now.l now.m now.at in
    (settings, client, draws, k, rules_are, waits settings client (map operation_of c.args.operations.now) draws k c.operations.self now c.next_chunk.new.self none.1)

pub play_operation-requires-clause-left : goal.play_operation-requires-clause-left
play_operation-requires-clause-left c =
    let (settings, client, draws, k, rules_are, is) = c.requires in
    let ops = map operation_of c.args.operations.now in
    let now = c.operations.invariant settings client draws k rules_are is in
    let none = c.in_default.ensures settings client ops now.drawn now.done k now.l now.m now.at in
    let same = none.1.done_is in
    let left = (c.has_left.ensures settings client now.drawn now.done k now.l now.m now.at).0 c.operations-test.true in
    let long = length-map c.args.operations.now operation_of in
    omega (arith, same, left, long)

pub operations-smaller : goal.operations-smaller
operations-smaller c =
    let (settings, client, draws, k, rules_are, is) = c.requires in
    let ops = map operation_of c.args.operations.now in
    let now = c.operations.invariant settings client draws k rules_are is in
    let none = c.in_default.ensures settings client ops now.drawn now.done k now.l now.m now.at in
    let was = now.at.done_is in
    let same = none.1.done_is in
    let left = (c.has_left.ensures settings client now.drawn now.done k now.l now.m now.at).0 c.operations-test.true in
    let long = length-map c.args.operations.now operation_of in
    let more = c.in_ok-play_operation.ensures.done in
    omega (arith, was, same, left, long, more)

pub operations-preserved : goal.operations-preserved
operations-preserved c = λ settings client draws k rules_are is.
    let ops = map operation_of c.args.operations.now in
    let now = c.operations.invariant settings client draws k rules_are is in
    let none = c.in_default.ensures settings client ops now.drawn now.done k now.l now.m now.at in
    c.in_ok-play_operation.ensures.plays settings client draws k rules_are (waits settings client ops draws k c.operations.self now c.next_chunk.new.self none.1)

pub returns : goal.returns
returns c = λ settings client draws k rules_are is.
    let ops = map operation_of c.args.operations.now in
    let now = c.operations.invariant settings client draws k rules_are is in
    let done = none_left c.has_left.result _ _ (c.has_left.ensures settings client now.drawn now.done k now.l now.m now.at) c.operations-test.false now.at.within in
    filled_last settings client ops draws k c.operations.self now c.next_chunk-2.new.self c.timed_pages_are_the_pages.ensures c.timed_pages_are_timely.ensures c.all_is_sent_in_the_end.ensures.chunks done (buffer_in c.next_chunk-2.result)
    (c.next_chunk-2.ensures settings client ops now.drawn now.done k now.l now.m now.at)
