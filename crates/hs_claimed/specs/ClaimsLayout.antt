-- How the claims lie in places that are taken once. No group stands there twice.
use Rattle.std.specs.Prelude.{◌≡◌, ◌≤◌, ℕ, true, List, length, slice_get, Some}
use Rattle.std.specs.VecDeque.{deque_capacity}
use Rattle.hs_claimed.specs.declared.claims.ClaimedTraces.TheInside.{Inside}
use Rattle.hs_claimed.specs.Claims.{PlainClaims, same_group}
use Rattle.hs_claimed.specs.declared.answers.Claimant.{Claimant}

abbrev pub claims_in : Inside → PlainClaims
claims_in a = record { most = a.most; claims = a.claims.items; groups = a.groups.items; place = a.place }

abbrev pub AreDistinct : List Claimant → Type 0
AreDistinct groups = (place other : ℕ) (a b : Claimant) → slice_get groups place ≡ Some a → slice_get groups other ≡ Some b → same_group a.group.id b.group.id ≡ true → place ≡ other

pub record AreClaims (a : Inside) : Type 0 where
  pub few : length a.claims.items ≤ a.most
  pub few_groups : length a.groups.items ≤ a.most
  pub claims : a.most ≤ deque_capacity a.claims
  pub groups : a.most ≤ deque_capacity a.groups
  pub distinct : AreDistinct a.groups.items
