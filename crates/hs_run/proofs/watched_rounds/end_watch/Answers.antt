use Rattle.hs_run.proofs.WatchedRounds.{one_more}
use Rattle.hs_run.proofs.watched_rounds.end_watch.Goals as goal

pub returns-clause-ended : goal.returns-clause-ended
returns-clause-ended g c =
    record {
      stands = c.look_once.ensures.stands (c.tell.ensures.stands (c.in_ok-make_room.ensures.stands (c.in_ok-publish_last.ensures.stands c.requires.stands)));
      knows = c.look_once.ensures.last c.tell.ensures.last;
      ends = c.look_once.ensures.ends;
    }

pub returns-clause-looks : goal.returns-clause-looks
returns-clause-looks g c =
    one_more c.args.watch.now c.publish_last.new.watch c.make_room.new.self c.tell.new.self c.look_once.new.self c.in_ok-publish_last.ensures.looks c.in_ok-make_room.ensures.looks c.tell.ensures.looks c.look_once.ensures.looks
