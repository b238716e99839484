use Rattle.hs_law_outcome.proofs.Shown.{reports_show_their_traces}
use Rattle.hs_law_outcome.proofs.laws.reports_show_their_traces.Goals as goal

pub returns : goal.returns
returns c = reports_show_their_traces c.each_record_has_one_entry.ensures
