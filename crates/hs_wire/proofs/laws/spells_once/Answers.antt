use Rattle.std.proofs.Common.{ℕ, List, [], ◌++◌, ap}
use Rattle.hs_wire.proofs.Spellings.{spelled_once}
use Rattle.hs_wire.proofs.laws.spells_once.Goals as goal

pub returns-clause-once : goal.returns-clause-once
returns-clause-once c a b fits fits' same = (spelled_once a b [] [] fits fits' (ap (λ (bytes : List ℕ). bytes ++ []) same)).0

pub returns-clause-apart : goal.returns-clause-apart
returns-clause-apart c a b x y fits fits' same = spelled_once a b x y fits fits' same
