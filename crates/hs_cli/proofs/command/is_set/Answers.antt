use Rattle.std.proofs.Common.{◌∙◌, ℕ, Bool, List, Option, false, codes, ap, sym}
use Rattle.std.specs.Str.{bytes_eq}
use Rattle.std.specs.Option.{option_map, option_map_or}
use Rattle.hs_cli.proofs.command.is_set.Goals as goal

abbrev is_true : Option (List ℕ) → Bool
is_true value = option_map_or (λ text. bytes_eq text (codes "true")) value false

pub returns-in-Some : goal.returns-in-Some
returns-in-Some c = c.eq.ensures ∙ ap is_true (ap (option_map (λ word. word.now)) (sym c.in-Some.is) ∙ c.word.ensures)

pub returns-in-None : goal.returns-in-None
returns-in-None c = ap is_true (ap (option_map (λ word. word.now)) (sym c.in-None.is) ∙ c.word.ensures)
