use Rattle.hs_ring.proofs.closing.close.Goals as goal

pub returns-clause-history : goal.returns-clause-history
returns-clause-history c = let (log, together, counted, turns) = c.close_ends.ensures in (log, together, counted)
