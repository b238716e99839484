-- Groups that are changed one after another.
use Rattle.std.proofs.Common.{◌≡◌, ℕ, zero, suc, ◌<◌, List, [], ◌∷◌, ◌++◌, length, take, drop, map, Option, Some, None, refl, ◌∙◌, arith}
use Rattle.std.specs.Prelude.{slice_get, slice_set}
use Rattle.std.specs.Option.{option_map_or}
use Rattle.hs_groups.specs.declared.followed_group.FollowedGroup.{FollowedGroup}
use Rattle.hs_groups.specs.Groups.{changed_at}

behind_head : (f : FollowedGroup → FollowedGroup) (x : FollowedGroup) (ys : List FollowedGroup) (i : ℕ) (o : Option FollowedGroup)
    → option_map_or (λ y. slice_set (x ∷ ys) (suc i) (f y)) o (x ∷ ys) ≡ x ∷ option_map_or (λ y. slice_set ys i (f y)) o ys
behind_head f x ys i None = refl
behind_head f x ys i (Some y) = refl

-- the first so many are changed, and then the next one
pub one_more : (f : FollowedGroup → FollowedGroup) (xs : List FollowedGroup) (i : ℕ) → i < length xs → changed_at f (map f (take i xs) ++ drop i xs) i ≡ map f (take (suc i) xs) ++ drop (suc i) xs
one_more f [] i within = absurd (omega (arith, within))
one_more f (x ∷ xs) zero within = refl
one_more f (x ∷ xs) (suc i) within =
    let ys = map f (take i xs) ++ drop i xs in
    let rest = one_more f xs i (omega (arith, within)) in
    behind_head f (f x) ys i (slice_get ys i) ∙ (λ k. f x ∷ rest k)
