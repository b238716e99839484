use Rattle.std.proofs.Common.{◌∙◌, ap}
use Rattle.hs_compare.specs.ComparisonText.{comparison_text}
use Rattle.hs_cli.proofs.comparing.comparison.Goals as goal

pub returns : goal.returns
returns c = c.in_ok-text.ensures ∙ ap comparison_text c.in_ok-comparison.ensures
