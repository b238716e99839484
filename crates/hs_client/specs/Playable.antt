-- Which operations a client can be played with, in a replay, a run or a check.
use Rattle.std.specs.Prelude.{ℕ, ◌≤◌, List}
use Rattle.hs_base.specs.declared.limits.TheConstants.{MIN_SIZE, MAX_SIZE, MAX_OPERATIONS}
use Rattle.hs_base.specs.Rules.{AreAutoRules}
use Rattle.hs_records.specs.Plain.{Operation, PlainSettings}
use Rattle.hs_records.specs.Validity.{IsClient, client_pieces}

-- The operations are those of a client of a valid workload with these settings.
pub record IsPlayable (settings : PlainSettings) (ops : List Operation) : Type 0 where
  pub version : ℕ
  pub client : IsClient version settings ops
  pub least : MIN_SIZE ≤ settings.size
  pub most : settings.size ≤ MAX_SIZE
  pub autos : AreAutoRules settings.triggers settings.autos
  pub few : client_pieces settings.size ops ≤ MAX_OPERATIONS
