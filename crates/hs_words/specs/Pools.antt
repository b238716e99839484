-- The name of a pool, which tells it from every other. It is a list of numbers, so that it can hold the name of
-- a table that threads share.
use Rattle.std.specs.Prelude.{ℕ, List}

abbrev pub PoolName : Type 0
PoolName = List ℕ
