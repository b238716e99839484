-- Message by message a node has at most one ask more for a group, and only where it had none.
use Rattle.std.proofs.Common.{◌≡◌, ℕ, ◌+◌, Bool, true, false, cond, not, ◌||◌, ◌&&◌, [], ◌∷◌, ◌++◌, Option, Some, None, find, refl, sym, ap, ◌∙◌, append-nil, append_assoc, arith, nat_eq}
use Rattle.hs_law_outcome.proofs.Prelude.{option_map_or, or-false, and_parts, and_from, list_any-append, sum_by-append, one_if, GroupId, Ask, has_node, Message, Messages, same_group, has_crumb, has_ask, is_first_sender, first_of, is_newly_asked, same_group-true, ask_by, asks_behind}
use Rattle.std.specs.Prelude.{count_by}
use Rattle.std.specs.Option.{option_or}
use Rattle.std.proofs.lemmas.List.Folds.{find-append}
use Rattle.hs_coord.specs.Following.{is_of}
use Rattle.hs_law_outcome.proofs.Asked.{first_id}
use Rattle.hs_law_outcome.specs.Asking.{NobodyIsAskedTwice}

-- ---- one message more

module _ (group : GroupId) (node : ℕ) where
  abbrev leads_here : Message → Bool
  leads_here m = is_of group m && has_node m.told.crumbs node

  abbrev sent_first : Option Message → Bool
  sent_first o = option_map_or (λ (m : Message). nat_eq node m.node.0) o false

  abbrev mine : Ask → Bool
  mine ask = same_group group ask.group.id

  -- where nothing was heard of a group no crumb leads anywhere
  crumb_if : (m : Message) (b : Bool) (o : Option Message) (rest : Bool) → cond b (Some m) o ≡ None → (o ≡ None → rest ≡ false) → ((b && has_node m.told.crumbs node) || rest) ≡ false
  crumb_if m true o rest h on = let no : Some m ≡ None = h in absurd cc
  crumb_if m false o rest h on = on h

  no_crumb : (messages : Messages) → find (is_of group) messages ≡ None → has_crumb group messages node ≡ false
  no_crumb [] h = refl
  no_crumb (m ∷ messages) h = crumb_if m (is_of group m) (find (is_of group) messages) (has_crumb group messages node) h (no_crumb messages)

  module _ (before : Messages) (m : Message) where
    crumb_more : has_crumb group (before ++ m ∷ []) node ≡ (has_crumb group before node || leads_here m)
    crumb_more = list_any-append leads_here before (m ∷ []) ∙ ap (λ b. has_crumb group before node || b) (or-false (leads_here m))

    -- a message of another group leads to no ask
    other_first : (o : Option Message) → is_of group m ≡ false → option_or o (cond (is_of group m) (Some m) None) ≡ o
    other_first None h = ap (λ b. cond b (Some m) None) h
    other_first (Some x) h = refl

    other : is_of group m ≡ false → has_ask group (before ++ m ∷ []) node ≡ has_ask group before node
    other h =
        let first : find (is_of group) (before ++ m ∷ []) ≡ find (is_of group) before = find-append (is_of group) before (m ∷ []) ∙ other_first (find (is_of group) before) h in
        let crumb : has_crumb group (before ++ m ∷ []) node ≡ has_crumb group before node =
        crumb_more ∙ ap (λ b. has_crumb group before node || (b && has_node m.told.crumbs node)) h ∙ or-false (has_crumb group before node)
        in
        ap (λ b. b && not (is_first_sender group (before ++ m ∷ []) node)) crumb ∙ ap (λ o. has_crumb group before node && not (sent_first o)) first

    -- who has an ask keeps it
    keeps_if : (o : Option Message) → find (is_of group) before ≡ o → has_ask group before node ≡ true → has_ask group (before ++ m ∷ []) node ≡ true
    keeps_if None none h =
        let no : false ≡ true = sym (ap (λ b. b && not (is_first_sender group before node)) (no_crumb before none)) ∙ h in absurd cc
    keeps_if (Some first) is h =
        let parts = and_parts (has_crumb group before node) (not (is_first_sender group before node)) h in
        let behind : find (is_of group) (before ++ m ∷ []) ≡ Some first = find-append (is_of group) before (m ∷ []) ∙ ap (λ o. option_or o (find (is_of group) (m ∷ []))) is in
        let same : is_first_sender group (before ++ m ∷ []) node ≡ is_first_sender group before node = ap sent_first (behind ∙ sym is) in
        and_from (has_crumb group (before ++ m ∷ []) node) (not (is_first_sender group (before ++ m ∷ []) node)) (crumb_more ∙ ap (λ b. b || leads_here m) parts.0) (ap not same ∙ parts.1)

    keeps : has_ask group before node ≡ true → has_ask group (before ++ m ∷ []) node ≡ true
    keeps = keeps_if (find (is_of group) before) refl

    -- what it is sent for the group
    count_if : (b : Bool) (ask : Ask) → count_by mine (cond b (ask ∷ []) []) ≡ one_if (b && mine ask)
    count_if true ask = omega arith
    count_if false ask = refl

    one_more : (had has : Bool) → (had ≡ true → has ≡ true) → one_if ((has && not had) && true) + one_if had ≡ one_if has
    one_more true true stays = refl
    one_more true false stays = let no : false ≡ true = stays refl in absurd cc
    one_more false true stays = refl
    one_more false false stays = refl

    none_more : (newly : Bool) → one_if (newly && false) ≡ 0
    none_more true = refl
    none_more false = refl

    abbrev first_ask : Ask
    first_ask = record { group = (first_of before m).told.group; laterals = (first_of before m).told.laterals }

    step_if : (b : Bool) → is_of group m ≡ b → count_by mine (ask_by node before m) + one_if (has_ask group before node) ≡ one_if (has_ask group (before ++ m ∷ []) node)
    step_if true h =
        let same : m.told.group.id ≡ group = sym (same_group-true group m.told.group.id h) in
        let own : mine first_ask ≡ true = ap (same_group group) (first_id before m) ∙ h in
        let newly : is_newly_asked before m node ≡ (has_ask group (before ++ m ∷ []) node && not (has_ask group before node)) =
        ap (λ (g : GroupId). has_ask g (before ++ m ∷ []) node && not (has_ask g before node)) same
        in
        ap (λ n. n + one_if (has_ask group before node)) (count_if (is_newly_asked before m node) first_ask ∙ ap (λ b. one_if (is_newly_asked before m node && b)) own ∙ ap (λ b. one_if (b && true)) newly)
        ∙ one_more (has_ask group before node) (has_ask group (before ++ m ∷ []) node) keeps
    step_if false h =
        let others : mine first_ask ≡ false = ap (same_group group) (first_id before m) ∙ h in
        let none = count_if (is_newly_asked before m node) first_ask ∙ ap (λ b. one_if (is_newly_asked before m node && b)) others ∙ none_more (is_newly_asked before m node) in
        let still = ap one_if (other h) in
        omega (arith, none, still)

    step : count_by mine (ask_by node before m) + one_if (has_ask group before node) ≡ one_if (has_ask group (before ++ m ∷ []) node)
    step = step_if (is_of group m) refl

  -- ---- all messages

  all_asks : (before later : Messages) → count_by mine (asks_behind node before later) + one_if (has_ask group before node) ≡ one_if (has_ask group (before ++ later) node)
  all_asks before [] = let same = ap (λ (l : Messages). one_if (has_ask group l node)) (append-nil before) in omega (arith, same)
  all_asks before (m ∷ later) =
      let rest = all_asks (before ++ m ∷ []) later in
      let same = ap (λ (l : Messages). one_if (has_ask group l node)) (append_assoc before (m ∷ []) later) in
      let both : count_by mine (asks_behind node before (m ∷ later)) ≡ count_by mine (ask_by node before m) + count_by mine (asks_behind node (before ++ m ∷ []) later) =
      sum_by-append (λ (ask : Ask). one_if (mine ask)) (ask_by node before m) (asks_behind node (before ++ m ∷ []) later)
      in
      omega (arith, rest, same, both, step before m)

pub nobody_is_asked_twice : NobodyIsAskedTwice
nobody_is_asked_twice heard group node = let all = all_asks group node [] heard in omega (arith, all)
