-- What a call took from its source: the whole input, which ended, one byte more than an input may have, or no more than that before
-- the source failed.
use Rattle.std.specs.Prelude.{◌≡◌, ℕ, ◌+◌, ◌≤◌, List, [], Option, length, IfSome}
use Rattle.hs_base.specs.Outside.{Loses}
use Rattle.hs_base.specs.declared.limits.TheConstants.{MAX_INPUT}

-- The source gave these bytes and no more came.
pub record ReadWhole (old new : Option (List ℕ)) (input : List ℕ) : Type 0 where
  pub taken : Loses old new input
  pub end : IfSome new (λ rest. rest ≡ [])
  pub short : length input ≤ MAX_INPUT

-- The source gave these bytes, one more than an input may have.
pub record ReadBeyond (old new : Option (List ℕ)) (input : List ℕ) : Type 0 where
  pub taken : Loses old new input
  pub long : length input ≡ MAX_INPUT + 1

-- The source gave these bytes, no more than an input may have, and then it failed.
pub record ReadFront (old new : Option (List ℕ)) (input : List ℕ) : Type 0 where
  pub taken : Loses old new input
  pub short : length input ≤ MAX_INPUT
