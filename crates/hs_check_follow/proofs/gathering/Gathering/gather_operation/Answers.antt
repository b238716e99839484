use Rattle.std.proofs.Common.{◌-◌, ◌<◌, length, map, arith}
use Rattle.hs_check_follow.proofs.Prelude.{length-map, on_ok_weaker, operation_of, Gathering}
use Rattle.hs_check_follow.proofs.Going.{Sends, first, second, third, were_chunks, were_crumbs, were_triggers, fewer, starts_here, sent_by, no_chunks, no_crumbs, no_triggers}
use Rattle.hs_check_follow.proofs.gathering.Gathering.gather_operation.Goals as goal

pub play_from-requires : goal.play_from-requires
play_from-requires c =
    let (settings, client, draws, rules_are, s) = c.requires.sent in
    record {
      settings = settings;
      client = client;
      drawn = s.drawn;
      done = c.args.number;
      k = _;
      l = _;
      m = _;
      at = s.at;
      rules_are = rules_are;
      ready = λ fewer few. record { size_is = s.size_is; least = s.at.playable.least; most = s.at.playable.most };
    }

pub overflow_sub-started : goal.overflow_sub-started
overflow_sub-started c =
    let (settings, client, draws, rules_are, s) = c.requires.sent in
    let k : Sends = record { paged = c.timed_pages_are_the_pages.ensures; timely = c.timed_pages_are_timely.ensures; first = c.the_first_operations_send.ensures; chunks = c.the_first_chunks_are_sent.ensures } in
    let ops = map operation_of c.args.operations.now in
    let low : c.args.number < length ops = omega (arith, c.requires.number, length-map c.args.operations.now operation_of) in
    let n = c.args.number in
    let script = c.args.script.now in
    let player = c.args.player.now in
    let g = c.args.self.now in
    let went = c.in_ok-play_from.ensures settings client s.drawn n _ _ _ s.at in
    let few = fewer k settings client ops draws n script player g s low c.play_from.new.well c.play_from.new.self went in
    let before = c.len-left.ensures in
    let after = c.len.ensures in
    omega (arith, few, before, after)

pub take_chunks-requires : goal.take_chunks-requires
take_chunks-requires c =
    let (settings, client, draws, rules_are, s) = c.requires.sent in
    let k : Sends = record { paged = c.timed_pages_are_the_pages.ensures; timely = c.timed_pages_are_timely.ensures; first = c.the_first_operations_send.ensures; chunks = c.the_first_chunks_are_sent.ensures } in
    let ops = map operation_of c.args.operations.now in
    let low : c.args.number < length ops = omega (arith, c.requires.number, length-map c.args.operations.now operation_of) in
    let n = c.args.number in
    let script = c.args.script.now in
    let player = c.args.player.now in
    let g = c.args.self.now in
    let went = c.in_ok-play_from.ensures settings client s.drawn n _ _ _ s.at in
    (first k settings client ops draws n script player g s low c.play_from.new.well c.play_from.new.self went, were_chunks k settings client ops draws n script player g s low c.play_from.new.well c.play_from.new.self went)

pub take_crumbs-requires : goal.take_crumbs-requires
take_crumbs-requires c =
    let (settings, client, draws, rules_are, s) = c.requires.sent in
    let k : Sends = record { paged = c.timed_pages_are_the_pages.ensures; timely = c.timed_pages_are_timely.ensures; first = c.the_first_operations_send.ensures; chunks = c.the_first_chunks_are_sent.ensures } in
    let ops = map operation_of c.args.operations.now in
    let low : c.args.number < length ops = omega (arith, c.requires.number, length-map c.args.operations.now operation_of) in
    let n = c.args.number in
    let script = c.args.script.now in
    let player = c.args.player.now in
    let g = c.args.self.now in
    let went = c.in_ok-play_from.ensures settings client s.drawn n _ _ _ s.at in
    let chunks = c.in_ok-take_chunks.ensures (first k settings client ops draws n script player g s low c.play_from.new.well c.play_from.new.self went) (were_chunks k settings client ops draws n script player g s low c.play_from.new.well c.play_from.new.self went) in
    (second k settings client ops draws n script player g s low c.play_from.new.well c.play_from.new.self went, were_crumbs k settings client ops draws n script player g s low c.play_from.new.well c.play_from.new.self went c.take_chunks.new.player c.take_chunks.new.keeping c.take_chunks.new.numbers.items chunks)

pub take_triggers-requires : goal.take_triggers-requires
take_triggers-requires c =
    let (settings, client, draws, rules_are, s) = c.requires.sent in
    let k : Sends = record { paged = c.timed_pages_are_the_pages.ensures; timely = c.timed_pages_are_timely.ensures; first = c.the_first_operations_send.ensures; chunks = c.the_first_chunks_are_sent.ensures } in
    let ops = map operation_of c.args.operations.now in
    let low : c.args.number < length ops = omega (arith, c.requires.number, length-map c.args.operations.now operation_of) in
    let n = c.args.number in
    let script = c.args.script.now in
    let player = c.args.player.now in
    let g = c.args.self.now in
    let went = c.in_ok-play_from.ensures settings client s.drawn n _ _ _ s.at in
    let chunks = c.in_ok-take_chunks.ensures (first k settings client ops draws n script player g s low c.play_from.new.well c.play_from.new.self went) (were_chunks k settings client ops draws n script player g s low c.play_from.new.well c.play_from.new.self went) in
    let were = were_crumbs k settings client ops draws n script player g s low c.play_from.new.well c.play_from.new.self went c.take_chunks.new.player c.take_chunks.new.keeping c.take_chunks.new.numbers.items chunks in
    let crumbs = c.in_ok-take_crumbs.ensures (second k settings client ops draws n script player g s low c.play_from.new.well c.play_from.new.self went) were in (
      third k settings client ops draws n script player g s low c.play_from.new.well c.play_from.new.self went,
      were_triggers k settings client ops draws n script player g s low c.play_from.new.well c.play_from.new.self went c.take_chunks.new.player c.take_chunks.new.keeping c.take_chunks.new.numbers.items chunks c.take_crumbs.new.player c.take_crumbs.new.queue.items c.take_crumbs.new.numbers.items crumbs,
    )

pub returns-then-is_bare : goal.returns-then-is_bare
returns-then-is_bare c = λ settings client draws rules_are s.
    let k : Sends = record { paged = c.timed_pages_are_the_pages.ensures; timely = c.timed_pages_are_timely.ensures; first = c.the_first_operations_send.ensures; chunks = c.the_first_chunks_are_sent.ensures } in
    let ops = map operation_of c.args.operations.now in
    let low : c.args.number < length ops = omega (arith, c.requires.number, length-map c.args.operations.now operation_of) in
    let n = c.args.number in
    let script = c.args.script.now in
    let player = c.args.player.now in
    let g = c.args.self.now in
    let went = c.in_ok-play_from.ensures settings client s.drawn n _ _ _ s.at in
    let few = fewer k settings client ops draws n script player g s low c.play_from.new.well c.play_from.new.self went in
    let g' : Gathering = record {
      keeping = g.keeping;
      crumbs = g.crumbs;
      triggers = g.triggers;
      found = record { started = c.note_started.new.started; chunks = g.found.chunks; crumbs = g.found.crumbs; triggers = g.found.triggers };
    } in
    let after = c.play_from.new.self in
    sent_by k settings client ops draws n script player g s low c.play_from.new.well c.play_from.new.self went after g' (no_chunks k settings client ops draws n script player g s low c.play_from.new.well c.play_from.new.self went c.items_are_sent_in_order.ensures.chunks c.items_are_sent_in_order.ensures.crumbs c.items_are_sent_in_order.ensures.triggers c.is_bare.result c.is_bare.ensures c.if-is_bare.true) after (no_crumbs k settings client ops draws n script player g s low c.play_from.new.well c.play_from.new.self went c.items_are_sent_in_order.ensures.chunks c.items_are_sent_in_order.ensures.crumbs c.items_are_sent_in_order.ensures.triggers c.is_bare.result c.is_bare.ensures c.if-is_bare.true) after (no_triggers k settings client ops draws n script player g s low c.play_from.new.well c.play_from.new.self went c.items_are_sent_in_order.ensures.chunks c.items_are_sent_in_order.ensures.crumbs c.items_are_sent_in_order.ensures.triggers c.is_bare.result c.is_bare.ensures c.if-is_bare.true)
    (starts_here k settings client ops draws n script player g s low c.play_from.new.well c.play_from.new.self went c.note_started.new.started.items (c.len-left.result - c.len.result) (omega (arith, few, c.len-left.ensures, c.len.ensures)) c.in_ok-note_started.ensures)

pub returns : goal.returns
returns c =
    on_ok_weaker c.take_triggers.result
    (λ took. λ settings client draws rules_are s.
    let k : Sends = record { paged = c.timed_pages_are_the_pages.ensures; timely = c.timed_pages_are_timely.ensures; first = c.the_first_operations_send.ensures; chunks = c.the_first_chunks_are_sent.ensures } in
    let ops = map operation_of c.args.operations.now in
    let low : c.args.number < length ops = omega (arith, c.requires.number, length-map c.args.operations.now operation_of) in
    let n = c.args.number in
    let script = c.args.script.now in
    let player = c.args.player.now in
    let g = c.args.self.now in
    let went = c.in_ok-play_from.ensures settings client s.drawn n _ _ _ s.at in
    let chunks = c.in_ok-take_chunks.ensures (first k settings client ops draws n script player g s low c.play_from.new.well c.play_from.new.self went) (were_chunks k settings client ops draws n script player g s low c.play_from.new.well c.play_from.new.self went) in
    let were = were_crumbs k settings client ops draws n script player g s low c.play_from.new.well c.play_from.new.self went c.take_chunks.new.player c.take_chunks.new.keeping c.take_chunks.new.numbers.items chunks in
    let crumbs = c.in_ok-take_crumbs.ensures (second k settings client ops draws n script player g s low c.play_from.new.well c.play_from.new.self went) were in
    let were_last = were_triggers k settings client ops draws n script player g s low c.play_from.new.well c.play_from.new.self went c.take_chunks.new.player c.take_chunks.new.keeping c.take_chunks.new.numbers.items chunks c.take_crumbs.new.player c.take_crumbs.new.queue.items
    c.take_crumbs.new.numbers.items crumbs in
    let triggers = took (third k settings client ops draws n script player g s low c.play_from.new.well c.play_from.new.self went) were_last in
    let few = fewer k settings client ops draws n script player g s low c.play_from.new.well c.play_from.new.self went in
    let g' : Gathering = record {
      keeping = c.take_chunks.new.keeping;
      crumbs = c.take_crumbs.new.queue;
      triggers = c.take_triggers.new.queue;
      found = record { started = c.note_started.new.started; chunks = c.take_chunks.new.numbers; crumbs = c.take_crumbs.new.numbers; triggers = c.take_triggers.new.numbers };
    } in
    sent_by k settings client ops draws n script player g s low c.play_from.new.well c.play_from.new.self went c.take_chunks.new.player g' chunks c.take_crumbs.new.player crumbs c.take_triggers.new.player triggers
    (starts_here k settings client ops draws n script player g s low c.play_from.new.well c.play_from.new.self went c.note_started.new.started.items (c.len-left.result - c.len.result) (omega (arith, few, c.len-left.ensures, c.len.ensures)) c.in_ok-note_started.ensures))
    c.take_triggers.ensures
