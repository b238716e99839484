use Rattle.hs_run.proofs.watched_rounds.look.Goals as goal

pub returns-clause-stands : goal.returns-clause-stands
returns-clause-stands g c = record { by = c.look.ensures.stands; looks = c.look.ensures.looks; seen = c.look.ensures.seen }
