-- Who is in a group's asked set stays in it, and who has an ask keeps it; and a node has each ask that it was sent.
use Rattle.std.proofs.Common.{◌≡◌, ℕ, true, false, not, ◌||◌, ◌&&◌, [], ◌∷◌, ◌++◌, Option, Some, None, find, unwrap_or, refl, sym, ap, subst, ◌∙◌, ⊎_elim, append-nil, append_assoc, true≢false, slice_get, nat_eq}
use Rattle.hs_law_outcome.proofs.Prelude.{AllByRecursion, option_map_or, and_parts, and_from, or_cases, or_left, or_right, cond_both, all_at, all_append, GroupId, Ask, has_node, Message, Messages, same_group, has_crumb, has_ask, is_asked, is_first_sender, first_of, is_newly_asked, first_bit, same_group-true, ask_by, asks_behind, asks_to}
use Rattle.hs_base.proofs.Filters.{find_passes}
use Rattle.hs_coord.specs.Following.{is_of}
use Rattle.hs_coord.proofs.FollowingLemmas.{first_stays, has_crumb-push, no_message_no_crumb}

-- the first message of a message's group is of that group
pub first_id : (before : Messages) (m : Message) → (first_of before m).told.group.id ≡ m.told.group.id
first_id before m = by (find (is_of m.told.group.id) before) refl
  where
    by : (o : Option Message) → find (is_of m.told.group.id) before ≡ o → (unwrap_or o m).told.group.id ≡ m.told.group.id
    by None e = refl
    by (Some x) e = sym (same_group-true m.told.group.id x.told.group.id (find_passes (is_of m.told.group.id) before x e))

module _ (group : GroupId) where
  -- where nothing was heard of a group nobody is asked
  pub nobody_asked : (messages : Messages) (node : ℕ) → find (is_of group) messages ≡ None → is_asked group messages node ≡ true → ⊥
  nobody_asked messages node none e =
      let sender : is_first_sender group messages node ≡ false = ap (λ o. option_map_or (λ (m : Message). nat_eq node m.node.0) o false) none in
      true≢false (sym e ∙ ap (λ b. b || has_crumb group messages node) sender ∙ no_message_no_crumb group messages node none)

  -- who has an ask is in the asked set
  pub ask_asked : (messages : Messages) (node : ℕ) → has_ask group messages node ≡ true → is_asked group messages node ≡ true
  ask_asked messages node e =
      or_right (is_first_sender group messages node) (has_crumb group messages node)
      (and_parts (has_crumb group messages node) (not (is_first_sender group messages node)) e).0

  module _ (before : Messages) (m : Message) (node : ℕ) where
    -- the one that told the first message stays
    sender_stays : (first : Message) → find (is_of group) before ≡ Some first → is_first_sender group (before ++ m ∷ []) node ≡ is_first_sender group before node
    sender_stays first is = first_bit group (before ++ m ∷ []) first (first_stays group before m first is) node ∙ sym (first_bit group before first is node)

    crumb_stays : has_crumb group before node ≡ true → has_crumb group (before ++ m ∷ []) node ≡ true
    crumb_stays e = has_crumb-push group before m node ∙ or_left (has_crumb group before node) (is_of group m && has_node m.told.crumbs node) e

    pub asked_stays : is_asked group before node ≡ true → is_asked group (before ++ m ∷ []) node ≡ true
    asked_stays e = by (find (is_of group) before) refl
      where
        by : (o : Option Message) → find (is_of group) before ≡ o → is_asked group (before ++ m ∷ []) node ≡ true
        by None none = absurd (nobody_asked before node none e)
        by (Some first) is =
            ⊎_elim
            (λ (sender : is_first_sender group before node ≡ true). or_left (is_first_sender group (before ++ m ∷ []) node) (has_crumb group (before ++ m ∷ []) node) (sender_stays first is ∙ sender))
            (λ (crumb : has_crumb group before node ≡ true). or_right (is_first_sender group (before ++ m ∷ []) node) (has_crumb group (before ++ m ∷ []) node) (crumb_stays crumb))
            (or_cases (is_first_sender group before node) (has_crumb group before node) e)

    pub ask_stays : has_ask group before node ≡ true → has_ask group (before ++ m ∷ []) node ≡ true
    ask_stays e = by (find (is_of group) before) refl
      where
        by : (o : Option Message) → find (is_of group) before ≡ o → has_ask group (before ++ m ∷ []) node ≡ true
        by None none = absurd (nobody_asked before node none (ask_asked before node e))
        by (Some first) is =
            let parts = and_parts (has_crumb group before node) (not (is_first_sender group before node)) e in
            and_from (has_crumb group (before ++ m ∷ []) node) (not (is_first_sender group (before ++ m ∷ []) node)) (crumb_stays parts.0) (ap not (sender_stays first is) ∙ parts.1)

  ask_remains : (before later : Messages) (node : ℕ) → has_ask group before node ≡ true → has_ask group (before ++ later) node ≡ true
  ask_remains before [] node e = ap (λ l. has_ask group l node) (append-nil before) ∙ e
  ask_remains before (m ∷ later) node e = ap (λ l. has_ask group l node) (sym (append_assoc before (m ∷ []) later)) ∙ ask_remains (before ++ m ∷ []) later node (ask_stays before m node e)

  -- an ask, which the node has if it is for the group
  abbrev pub IsHad : Messages → ℕ → Ask → Type 0
  IsHad messages node ask = same_group group ask.group.id ≡ true → has_ask group messages node ≡ true

  newly_asked : (before later : Messages) (m : Message) (node : ℕ) → is_newly_asked before m node ≡ true → same_group group (first_of before m).told.group.id ≡ true → has_ask group (before ++ m ∷ later) node ≡ true
  newly_asked before later m node newly own =
      let ask = (and_parts (has_ask m.told.group.id (before ++ m ∷ []) node) (not (has_ask m.told.group.id before node)) newly).0 in
      let same : m.told.group.id ≡ group = sym (same_group-true group (first_of before m).told.group.id own ∙ first_id before m) in
      subst (λ (messages : Messages). has_ask group messages node ≡ true) (append_assoc before (m ∷ []) later)
      (ask_remains (before ++ m ∷ []) later node (subst (λ (g : GroupId). has_ask g (before ++ m ∷ []) node ≡ true) same ask))

  asks_had : (node : ℕ) (before later : Messages) → AllByRecursion (IsHad (before ++ later) node) (asks_behind node before later)
  asks_had node before [] = tt
  asks_had node before (m ∷ later) =
      let first = (first_of before m).told in
      let ask : Ask = record { group = first.group; laterals = first.laterals } in
      all_append (IsHad (before ++ m ∷ later) node) (ask_by node before m) (asks_behind node (before ++ m ∷ []) later)
      (cond_both (is_newly_asked before m node) (ask ∷ []) [] (AllByRecursion (IsHad (before ++ m ∷ later) node)) (λ newly. (newly_asked before later m node newly, tt)) (λ no. tt))
      (subst (λ (messages : Messages). AllByRecursion (IsHad messages node) (asks_behind node (before ++ m ∷ []) later)) (append_assoc before (m ∷ []) later) (asks_had node (before ++ m ∷ []) later))

  pub asked_for : (node : ℕ) (heard : Messages) (place : ℕ) (ask : Ask) → slice_get (asks_to node heard) place ≡ Some ask → IsHad heard node ask
  asked_for node heard place ask there = all_at (IsHad heard node) (asks_to node heard) place ask (asks_had node [] heard) there
