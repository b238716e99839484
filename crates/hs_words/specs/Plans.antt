-- What a pool between threads is made with: its buffers, and for each drawer how often it may draw.
use Rattle.std.specs.Prelude.{ℕ, ◌+◌, ◌≤◌, List, [], ◌∷◌}
use Rattle.hs_base.specs.declared.limits.TheConstants.{MOST_BUFFERS, MOST_AHEAD}

-- how many buffers there are, their size, and the allowances of the drawers
pub record Plan : Type 0 where
  pub buffers : ℕ
  pub size : ℕ
  pub allowances : List ℕ

-- ---- allowances

abbrev pub first_of : List ℕ → ℕ
first_of [] = 0
first_of (x ∷ xs) = x

abbrev pub rest_of : List ℕ → List ℕ
rest_of [] = []
rest_of (x ∷ xs) = xs

abbrev pub total : List ℕ → ℕ
total [] = 0
total (x ∷ xs) = x + total xs

-- ---- limits

pub record Within (plan : Plan) : Type 0 where
  pub some_there : 1 ≤ plan.buffers
  pub few : plan.buffers ≤ MOST_BUFFERS
  pub draws : total plan.allowances ≤ MOST_AHEAD
