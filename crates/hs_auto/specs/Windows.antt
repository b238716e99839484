-- What contracts see of a window: how many values it holds at most, and its values from the latest on.
use Rattle.std.specs.Prelude.{ℕ, List}

pub record Window : Type 0 where
  pub size : ℕ
  pub values : List ℕ
