-- What a row asks of a board before it publishes.
use Rattle.std.specs.Prelude.{ℕ, ◌<◌, List}
use Rattle.hs_board.specs.declared.progress.Progress.{Progress}
use Rattle.hs_board.specs.Shown.{IsLast}

-- The last that was shown has fewer rounds than this.
abbrev pub EndsBelow : List Progress → ℕ → Type 0
EndsBelow all most = (last : Progress) → IsLast last all → last.rounds < most
