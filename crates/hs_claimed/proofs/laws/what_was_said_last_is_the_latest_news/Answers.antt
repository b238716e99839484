use Rattle.hs_claimed.proofs.Law.{are_kept}
use Rattle.hs_claimed.proofs.laws.what_was_said_last_is_the_latest_news.Goals as goal

pub returns : goal.returns
returns c = record { kept = are_kept }
