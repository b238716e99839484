use Rattle.hs_run.proofs.watched_rounds.publish.Goals as goal

pub returns-clause-stands : goal.returns-clause-stands
returns-clause-stands g c = record { by = c.publish_beside.ensures.stands; looks = c.publish_beside.ensures.looks; seen = c.publish_beside.ensures.seen }
