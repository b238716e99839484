-- What contracts see of a slot: how many bytes it can hold, and those of the message that was written last.
use Rattle.std.specs.Prelude.{ℕ, List}

pub record Written : Type 0 where
  pub room : ℕ
  pub bytes : List ℕ
