use Rattle.hs_run.proofs.SentFits.{sents_fit}
use Rattle.hs_run.proofs.laws.what_is_sent_fits.Goals as goal

pub returns : goal.returns
returns c = λ W m stands.
    sents_fit (record { runs = c.valid_workloads_run.ensures; counted = c.pieces_are_counted.ensures; paged = c.timed_pages_are_the_pages.ensures; fit = c.pages_fit.ensures }) W m stands c.callers_have_sent.ensures
