use Rattle.std.proofs.Common.{map}
use Rattle.hs_check_follow.proofs.Prelude.{settings_of, operation_of}
use Rattle.hs_check_follow.proofs.Whole.{Ends, kept, crumbs, triggers, found}
use Rattle.hs_check_follow.proofs.client.followed.Goals as goal

pub make-requires-clause-each : goal.make-requires-clause-each
make-requires-clause-each c = c.requires.sent.1.1.each

pub make-requires-clause-kept : goal.make-requires-clause-kept
make-requires-clause-kept c =
    let sent = c.requires.sent in
    let k : Ends = record {
      paged = c.timed_pages_are_the_pages.ensures;
      timely = c.timed_pages_are_timely.ensures;
      chunks = c.all_is_sent_in_the_end.ensures.chunks;
      crumbs = c.all_is_sent_in_the_end.ensures.crumbs;
      triggers = c.all_is_sent_in_the_end.ensures.triggers;
    } in
    kept k (settings_of c.args.settings.now) c.args.client (map operation_of c.args.operations.now) c.args.draws.now sent.1.0 sent.0 c.args.gathering sent.1.1

pub returns : goal.returns
returns c =
    let settings = settings_of c.args.settings.now in
    let client = c.args.client in
    let ops = map operation_of c.args.operations.now in
    let draws = c.args.draws.now in
    let player = c.requires.sent.0 in
    let script = c.requires.sent.1.0 in
    let s = c.requires.sent.1.1 in
    let g = c.args.gathering in
    let k : Ends = record {
      paged = c.timed_pages_are_the_pages.ensures;
      timely = c.timed_pages_are_timely.ensures;
      chunks = c.all_is_sent_in_the_end.ensures.chunks;
      crumbs = c.all_is_sent_in_the_end.ensures.crumbs;
      triggers = c.all_is_sent_in_the_end.ensures.triggers;
    } in
    record {
      chunks = c.in_ok-chunks.ensures;
      crumbs = crumbs k settings client ops draws script player g s;
      triggers = triggers k settings client ops draws script player g s;
      found = found k settings client ops draws script player g s;
      book = c.requires.book;
    }
