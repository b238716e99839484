-- Tests over groups that lie in two slices.
use Rattle.std.proofs.Common.{◌≡◌, Bool, List, ◌++◌, ◌&&◌}
use Rattle.std.specs.List.{list_all}
use Rattle.std.proofs.lemmas.List.Folds.{list_all-append}

pub all_of_both : {X : Type 0} (p : X → Bool) (xs ys : List X) → list_all p (xs ++ ys) ≡ (list_all p xs && list_all p ys)
all_of_both p xs ys = list_all-append p xs ys
