-- Every ask was answered exactly where no entry has a node that waits.
use Rattle.std.proofs.Common.{◌≡◌, ℕ, Bool, true, false, not, ◌&&◌, Option, Some, None, All, IfSome, slice_get, refl, sym, ap, subst, ◌∙◌, true≢false, ◌↔◌, get_or, nat_eq, eq-eqb}
use Rattle.std.specs.List.{IsDistinct}
use Rattle.std.specs.Map.{lookup, keys_of}
use Rattle.std.proofs.lemmas.Option.{slice_get-get_or}
use Rattle.std.proofs.lemmas.Bool.{eqb-true}
use Rattle.std.proofs.lemmas.Map.Entries.{All-lookup, lookup_from_place}
use Rattle.hs_base.specs.declared.ids.GroupId.{GroupId}
use Rattle.hs_base.specs.NodeSets.{has_node}
use Rattle.hs_coord.specs.declared.followed.Followed.{Followed}
use Rattle.hs_coord.specs.Following.{Messages, same_group, has_ask, is_answered, is_first_sender, IsSettled}
use Rattle.hs_coord.specs.Kept.{PlainCoordinator, IsFollowed, StandsFor, HasTaken, count_open}
use Rattle.hs_coord.proofs.FollowingLemmas.{no_message_no_crumb}
use Rattle.hs_coord.proofs.KeptLemmas.{same_group_laws}
use Rattle.hs_coord.proofs.OpenLemmas.{IsQuiet, quiet_if_none_open, none_open_if_quiet}

module _ (state : PlainCoordinator) (messages : Messages) (h : HasTaken state messages) where
  pub settled_if_quiet : All IsQuiet state.groups → IsSettled messages
  settled_if_quiet quiet group node ask =
      by (lookup (same_group group) state.groups) (h.groups group) (All-lookup (λ (e : Followed). (n : ℕ) → has_node e.waiting n ≡ false) (same_group group) state.groups quiet)
    where
      answered : (asked done : Bool) → asked ≡ true → false ≡ (asked && not done) → done ≡ true
      answered true true a e = refl
      answered true false a e = absurd (true≢false (sym e))
      answered false done a e = absurd (true≢false (sym a))

      by : (kept : Option Followed) → StandsFor group messages kept → IfSome kept (λ e. (n : ℕ) → has_node e.waiting n ≡ false) → is_answered group messages node ≡ true
      by None none q = absurd (true≢false (sym ask ∙ ap (λ b. b && not (is_first_sender group messages node)) (no_message_no_crumb group messages node none)))
      by (Some entry) f q = answered (has_ask group messages node) (is_answered group messages node) ask (sym (q node) ∙ f.waiting node)

  pub quiet_if_settled : IsDistinct same_group (keys_of state.groups) → IsSettled messages → (i : ℕ) (p : GroupId × Followed) → slice_get state.groups i ≡ Some p → IsQuiet p
  quiet_if_settled distinct settled i p at node =
      let f : IsFollowed p.0 messages p.1 = subst (StandsFor p.0 messages) (lookup_from_place same_group_laws state.groups i p.0 p.1 distinct at) (h.groups p.0) in
      f.waiting node ∙ quiet (has_ask p.0 messages node) (is_answered p.0 messages node) (settled p.0 node)
    where
      quiet : (asked done : Bool) → (asked ≡ true → done ≡ true) → (asked && not done) ≡ false
      quiet true true a = refl
      quiet true false a = absurd (true≢false (sym (a refl)))
      quiet false done a = refl

-- what the number of the open groups says, where no two entries are of one group
pub settled_by_count : (state : PlainCoordinator) (messages : Messages) → HasTaken state messages → IsDistinct same_group (keys_of state.groups) → (open_groups : ℕ) → open_groups ≡ count_open state.groups
    → (nat_eq open_groups 0 ≡ true) ↔ IsSettled messages
settled_by_count state messages h distinct open_groups counted = (
  λ none. settled_if_quiet state messages h (quiet_if_none_open state.groups (sym counted ∙ eqb-true open_groups 0 none)),
  λ settled.
      eq-eqb open_groups 0
      (counted ∙ none_open_if_quiet state.groups (λ k d within. quiet_if_settled state messages h distinct settled k (get_or state.groups k d) (slice_get-get_or state.groups k d within))),
)
