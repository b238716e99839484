-- What a further message does to what the messages say of a group.
use Rattle.std.proofs.Common.{◌≡◌, ℕ, Bool, true, false, not, ◌||◌, ◌&&◌, [], ◌∷◌, ◌++◌, Option, Some, None, refl, sym, ap, ◌∙◌, append_assoc, find, cond}
use Rattle.std.proofs.lemmas.List.{append-nil}
use Rattle.std.proofs.Math.Bool.{or-false, or_assoc}
use Rattle.std.specs.Option.{option_or}
use Rattle.std.proofs.lemmas.List.Folds.{find-append, list_any-append}
use Rattle.std.proofs.lemmas.Bool.{or_parts}
use Rattle.hs_base.specs.declared.ids.GroupId.{GroupId}
use Rattle.hs_base.specs.NodeSets.{has_node}
use Rattle.hs_coord.specs.Following.{Message, Messages, is_of, has_crumb, has_ask, is_first_sender, is_answer_from, is_answered_after, is_answered}

module _ (group : GroupId) (messages : Messages) (m : Message) where
  -- the first message stays
  pub first_stays : (first : Message) → find (is_of group) messages ≡ Some first → find (is_of group) (messages ++ m ∷ []) ≡ Some first
  first_stays first is = find-append (is_of group) messages (m ∷ []) ∙ ap (λ o. option_or o (find (is_of group) (m ∷ []))) is

  -- where there was none, this one is it
  pub first_now : find (is_of group) messages ≡ None → is_of group m ≡ true → find (is_of group) (messages ++ m ∷ []) ≡ Some m
  first_now none its =
      find-append (is_of group) messages (m ∷ []) ∙ ap (λ o. option_or o (find (is_of group) (m ∷ []))) none
      ∙ ap (λ b. cond b (Some m) None) its

  -- a message of another group changes nothing
  pub first_of_other : is_of group m ≡ false → find (is_of group) (messages ++ m ∷ []) ≡ find (is_of group) messages
  first_of_other other = find-append (is_of group) messages (m ∷ []) ∙ by (find (is_of group) messages)
    where
      by : (o : Option Message) → option_or o (find (is_of group) (m ∷ [])) ≡ o
      by None = ap (λ b. cond b (Some m) None) other
      by (Some x) = refl

pub has_crumb-push : (group : GroupId) (messages : Messages) (m : Message) (node : ℕ) → has_crumb group (messages ++ m ∷ []) node ≡ (has_crumb group messages node || (is_of group m && has_node m.told.crumbs node))
has_crumb-push group messages m node =
    list_any-append (λ (x : Message). is_of group x && has_node x.told.crumbs node) messages (m ∷ [])
    ∙ ap (λ b. has_crumb group messages node || b) (or-false (is_of group m && has_node m.told.crumbs node))

answered_after-push : (group : GroupId) (node : ℕ) (before messages : Messages) (m : Message)
    → is_answered_after group node before (messages ++ m ∷ []) ≡ (is_answered_after group node before messages || (has_ask group (before ++ messages) node && is_answer_from group node m))
answered_after-push group node before [] m =
    or-false (has_ask group before node && is_answer_from group node m)
    ∙ ap (λ l. has_ask group l node && is_answer_from group node m) (sym (append-nil before))
answered_after-push group node before (x ∷ messages) m =
    ap (λ b. (has_ask group before node && is_answer_from group node x) || b)
    (answered_after-push group node (before ++ x ∷ []) messages m
    ∙ ap (λ l. is_answered_after group node (before ++ x ∷ []) messages || (has_ask group l node && is_answer_from group node m)) (append_assoc before (x ∷ []) messages))
    ∙ sym (or_assoc (has_ask group before node && is_answer_from group node x) (is_answered_after group node (before ++ x ∷ []) messages) (has_ask group (before ++ x ∷ messages) node && is_answer_from group node m))

pub is_answered-push : (group : GroupId) (messages : Messages) (m : Message) (node : ℕ)
    → is_answered group (messages ++ m ∷ []) node ≡ (is_answered group messages node || (has_ask group messages node && is_answer_from group node m))
is_answered-push group messages m node = answered_after-push group node [] messages m

-- no crumb, no ask, no answer
no_crumb_no_answer : (group : GroupId) (node : ℕ) (before messages : Messages) → has_crumb group (before ++ messages) node ≡ false → is_answered_after group node before messages ≡ false
no_crumb_no_answer group node before [] none = refl
no_crumb_no_answer group node before (x ∷ messages) none =
    let early : has_crumb group before node ≡ false = (or_parts _ _ (sym (list_any-append (λ (y : Message). is_of group y && has_node y.told.crumbs node) before (x ∷ messages)) ∙ none)).0 in
    ap (λ b. b && not (is_first_sender group before node) && is_answer_from group node x || is_answered_after group node (before ++ x ∷ []) messages) early
    ∙ no_crumb_no_answer group node (before ++ x ∷ []) messages (ap (λ l. has_crumb group l node) (append_assoc before (x ∷ []) messages) ∙ none)

pub unanswered : (group : GroupId) (messages : Messages) (node : ℕ) → has_crumb group messages node ≡ false → is_answered group messages node ≡ false
unanswered group messages node none = no_crumb_no_answer group node [] messages none

-- where no message is of the group, no crumb is
pub no_message_no_crumb : (group : GroupId) (messages : Messages) (node : ℕ) → find (is_of group) messages ≡ None → has_crumb group messages node ≡ false
no_message_no_crumb group [] node none = refl
no_message_no_crumb group (x ∷ messages) node none =
    by (is_of group x) refl (λ e. no_message_no_crumb group messages node (sym (ap (λ b. cond b (Some x) (find (is_of group) messages)) e) ∙ none))
  where
    none_is_not_some : {y : Message} → Some y ≡ None → ⊥
    none_is_not_some h = cc

    by : (b : Bool) → is_of group x ≡ b → (is_of group x ≡ false → has_crumb group messages node ≡ false) → has_crumb group (x ∷ messages) node ≡ false
    by true e rest = absurd (none_is_not_some (sym (ap (λ b. cond b (Some x) (find (is_of group) messages)) e) ∙ none))
    by false e rest = ap (λ b. b && has_node x.told.crumbs node || has_crumb group messages node) e ∙ rest e
