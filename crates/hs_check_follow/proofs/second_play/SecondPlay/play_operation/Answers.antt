use Rattle.std.proofs.Common.{map, arith}
use Rattle.hs_check_follow.proofs.Prelude.{length-map, operation_of}
use Rattle.hs_check_follow.proofs.Filled.{done_more, plays_on, done_quiet, plays_quiet}
use Rattle.hs_check_follow.proofs.second_play.SecondPlay.play_operation.Goals as goal

pub play_from-requires : goal.play_from-requires
play_from-requires c =
    let (settings, client, draws, k, rules_are, is) = c.requires.may in
    record {
      settings = settings;
      client = client;
      drawn = is.drawn;
      done = is.done;
      k = k;
      l = is.l;
      m = is.m;
      at = is.at;
      rules_are = rules_are;
      ready = λ fewer few. record { size_is = is.size_is; least = is.at.playable.least; most = is.at.playable.most };
    }

pub returns-then-is_bare-clause-done : goal.returns-then-is_bare-clause-done
returns-then-is_bare-clause-done c =
    let (settings, client, draws, k, rules_are, is) = c.requires.may in
    let ops = map operation_of c.args.operations.now in
    let went = c.in_ok-play_from.ensures settings client is.drawn is.done k is.l is.m is.at in
    let done = done_quiet settings client ops draws k c.args.self.now is c.play_from.new.well c.play_from.new.self went in
    let was = is.at.done_is in
    let left = c.requires.left in
    let long = length-map c.args.operations.now operation_of in
    omega (arith, done, was, left, long)

pub returns-then-is_bare-clause-plays : goal.returns-then-is_bare-clause-plays
returns-then-is_bare-clause-plays c = λ settings client draws k rules_are is.
    let went = c.in_ok-play_from.ensures settings client is.drawn is.done k is.l is.m is.at in
    plays_quiet settings client (map operation_of c.args.operations.now) draws k c.args.self.now is c.play_from.new.well c.play_from.new.self went c.timed_pages_are_the_pages.ensures

pub returns-clause-done : goal.returns-clause-done
returns-clause-done c =
    let (settings, client, draws, k, rules_are, is) = c.requires.may in
    let ops = map operation_of c.args.operations.now in
    let went = c.in_ok-play_from.ensures settings client is.drawn is.done k is.l is.m is.at in
    let done = done_more settings client ops draws k c.args.self.now is c.play_from.new.well c.play_from.new.self went c.next_crumb-crumb.result c.next_crumb-crumb.new.self c.next_crumb-crumb.ensures c.next_trigger-trigger.result
    c.next_trigger-trigger.new.self c.next_trigger-trigger.ensures in
    let was = is.at.done_is in
    let left = c.requires.left in
    let long = length-map c.args.operations.now operation_of in
    omega (arith, done, was, left, long)

pub returns-clause-plays : goal.returns-clause-plays
returns-clause-plays c = λ settings client draws k rules_are is.
    let went = c.in_ok-play_from.ensures settings client is.drawn is.done k is.l is.m is.at in
    plays_on settings client (map operation_of c.args.operations.now) draws k c.args.self.now is c.play_from.new.well c.play_from.new.self went c.next_crumb-crumb.result c.next_crumb-crumb.new.self c.next_crumb-crumb.ensures c.next_trigger-trigger.result
    c.next_trigger-trigger.new.self c.next_trigger-trigger.ensures c.timed_pages_are_the_pages.ensures
