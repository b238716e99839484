use Rattle.hs_index.proofs.LongestEnd.{longest_end}
use Rattle.hs_index.proofs.laws.longest_end_stays.Goals as goal

pub returns : goal.returns
returns g c = λ threshold most touched. longest_end threshold most touched
