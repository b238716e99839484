use Rattle.hs_compare.proofs.Gaps.{gaps_are_in_gap_lines}
use Rattle.hs_compare.proofs.laws.gaps_are_in_gap_lines.Goals as goal

pub returns : goal.returns
returns c = gaps_are_in_gap_lines
