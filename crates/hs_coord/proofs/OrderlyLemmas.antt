-- The asked set of an orderly group is the least closed set.
use Rattle.std.proofs.Common.{◌≡◌, ℕ, Bool, true, false, not, ◌||◌, ◌&&◌, List, [], ◌∷◌, ◌++◌, Option, Some, None, All, find, cond, get_or, nat_eq, eq-eqb, refl, sym, ap, subst, ◌∙◌, ⊎_elim, append_assoc, true≢false}
use Rattle.std.proofs.lemmas.List.{append-nil}
use Rattle.std.specs.List.{list_any}
use Rattle.std.proofs.lemmas.List.Folds.{list_any_at, find-append}
use Rattle.std.specs.Option.{option_map_or, option_or}
use Rattle.std.proofs.lemmas.List.Elements.{All-head, All-tail}
use Rattle.std.proofs.lemmas.Bool.{and_from, and_parts, or_cases, or_left, or_right, eqb-true, not-true}
use Rattle.hs_base.specs.declared.ids.GroupId.{GroupId}
use Rattle.hs_base.specs.NodeSets.{has_node}
use Rattle.hs_coord.specs.Following.{Message, Messages, is_of, has_crumb, has_ask, is_asked, is_first_sender, is_answer, is_answer_from, is_answered, is_answered_after}
use Rattle.hs_coord.specs.Orderly.{IsOrderly, IsClosed}
use Rattle.hs_coord.proofs.FollowingLemmas.{first_stays, first_now, has_crumb-push}
use Rattle.hs_coord.proofs.KeptLemmas.{asked_else, first_bit}

-- where the messages of a group begin
record Beginning (group : GroupId) (messages : Messages) : Type 0 where
  before : Messages
  later : Messages
  first : Message
  split : messages ≡ before ++ first ∷ later
  own : is_of group first ≡ true
  none : find (is_of group) before ≡ None
  is_first : find (is_of group) messages ≡ Some first

beginning : (group : GroupId) (messages : Messages) → list_any (is_of group) messages ≡ true → Beginning group messages
beginning group [] e = absurd (true≢false (sym e))
beginning group (x ∷ messages) e =
    by (is_of group x) refl (λ no. beginning group messages (sym (ap (λ b. b || list_any (is_of group) messages) no) ∙ e))
  where
    by : (b : Bool) → is_of group x ≡ b → (is_of group x ≡ false → Beginning group messages) → Beginning group (x ∷ messages)
    by true own rest = record {
      before = [];
      later = messages;
      first = x;
      split = refl;
      own = own;
      none = refl;
      is_first = ap (λ b. cond b (Some x) (find (is_of group) messages)) own;
    }
    by false other rest =
        let r = rest other in
        record {
          before = x ∷ r.before;
          later = r.later;
          first = r.first;
          split = ap (λ l. x ∷ l) r.split;
          own = r.own;
          none = ap (λ b. cond b (Some x) (find (is_of group) r.before)) other ∙ r.none;
          is_first = ap (λ b. cond b (Some x) (find (is_of group) messages)) other ∙ r.is_first;
        }

-- the asked set is closed
pub closed : (group : GroupId) (messages : Messages) → IsOrderly group messages → list_any (is_of group) messages ≡ true → IsClosed group messages (is_asked group messages)
closed group messages orderly there =
    let b = beginning group messages there in
    let sender : b.first.node.0 ≡ group.node =
    eqb-true b.first.node.0 group.node (sym (ap (λ o. option_map_or (λ (first : Message). is_asked group b.before b.first.node.0) o (nat_eq b.first.node.0 group.node)) b.none) ∙ orderly b.before b.later b.first b.split b.own) in
    record {
      admitting = or_left (is_first_sender group messages group.node) (has_crumb group messages group.node) (first_bit group messages b.first b.is_first group.node ∙ eq-eqb group.node b.first.node.0 (sym sender));
      crumbs = λ k d within own known node crumb.
          or_right (is_first_sender group messages node) (has_crumb group messages node)
          (list_any_at (λ (m : Message). is_of group m && has_node m.told.crumbs node) messages k d within (and_from (is_of group (get_or messages k d)) (has_node (get_or messages k d).told.crumbs node) own crumb));
    }

all_at : {X : Type 0} (P : X → Type 0) (before later : List X) (x : X) → All P (before ++ x ∷ later) → P x
all_at P [] later x h = All-head P x later h
all_at P (y ∷ before) later x h = all_at P before later x (All-tail P y (before ++ x ∷ later) h)

module _ (group : GroupId) (set : ℕ → Bool) where
  abbrev HasAsked : Messages → Type 0
  HasAsked messages = (node : ℕ) → is_asked group messages node ≡ true → set node ≡ true

  module _ (before later : Messages) (m : Message) (orderly : IsOrderly group (before ++ m ∷ later)) (closes : IsClosed group (before ++ m ∷ later) set) (has : HasAsked before) where
    sender_in : is_of group m ≡ true → set m.node.0 ≡ true
    sender_in own = by (find (is_of group) before) (orderly before later m refl own)
      where
        by : (o : Option Message) → option_map_or (λ (first : Message). is_asked group before m.node.0) o (nat_eq m.node.0 group.node) ≡ true → set m.node.0 ≡ true
        by None e = ap set (eqb-true m.node.0 group.node e) ∙ closes.admitting
        by (Some x) e = has m.node.0 e

    first_in : is_of group m ≡ true → (node : ℕ) → is_first_sender group (before ++ m ∷ []) node ≡ true → set node ≡ true
    first_in own node e = by (find (is_of group) before) refl
      where
        by : (o : Option Message) → find (is_of group) before ≡ o → set node ≡ true
        by None none = ap set (eqb-true node m.node.0 (sym (first_bit group (before ++ m ∷ []) m (first_now group before m none own) node) ∙ e)) ∙ sender_in own
        by (Some x) is = has node (or_left (is_first_sender group before node) (has_crumb group before node) (first_bit group before x is node ∙ sym (first_bit group (before ++ m ∷ []) x (first_stays group before m x is) node) ∙ e))

    crumb_in : is_of group m ≡ true → (node : ℕ) → has_crumb group (before ++ m ∷ []) node ≡ true → set node ≡ true
    crumb_in own node e =
        ⊎_elim
        (λ (early : has_crumb group before node ≡ true). has node (or_right (is_first_sender group before node) (has_crumb group before node) early))
        (λ (now : (is_of group m && has_node m.told.crumbs node) ≡ true).
        all_at (λ (x : Message). is_of group x ≡ true → set x.node.0 ≡ true → (n : ℕ) → has_node x.told.crumbs n ≡ true → set n ≡ true) before later m closes.crumbs own (sender_in own) node (and_parts (is_of group m) (has_node m.told.crumbs node) now).1)
        (or_cases (has_crumb group before node) (is_of group m && has_node m.told.crumbs node) (sym (has_crumb-push group before m node) ∙ e))

    has_more : HasAsked (before ++ m ∷ [])
    has_more node e = by (is_of group m) refl
      where
        by : (b : Bool) → is_of group m ≡ b → set node ≡ true
        by true own =
            ⊎_elim (first_in own node) (crumb_in own node)
            (or_cases (is_first_sender group (before ++ m ∷ []) node) (has_crumb group (before ++ m ∷ []) node) e)
        by false other = has node (sym (asked_else group before m other node) ∙ e)

  has_all : (before later : Messages) → IsOrderly group (before ++ later) → IsClosed group (before ++ later) set → HasAsked before → HasAsked (before ++ later)
  has_all before [] orderly closes has = subst HasAsked (sym (append-nil before)) has
  has_all before (m ∷ later) orderly closes has =
      let same : (before ++ m ∷ []) ++ later ≡ before ++ m ∷ later = append_assoc before (m ∷ []) later in
      subst HasAsked same
      (has_all (before ++ m ∷ []) later (subst (IsOrderly group) (sym same) orderly) (subst (λ l. IsClosed group l set) (sym same) closes) (has_more before later m orderly closes has))

  -- and it is in every closed set
  pub least : (messages : Messages) → IsOrderly group messages → IsClosed group messages set → HasAsked messages
  least messages orderly closes = has_all [] messages orderly closes (λ node e. absurd (true≢false (sym e)))

-- a node that did not tell the first message did not tell the first of fewer
not_first : (group : GroupId) (before later : Messages) (node : ℕ) → is_first_sender group (before ++ later) node ≡ false → is_first_sender group before node ≡ false
not_first group before later node e = by (find (is_of group) before) refl
  where
    by : (o : Option Message) → find (is_of group) before ≡ o → is_first_sender group before node ≡ false
    by None none = ap (λ o. option_map_or (λ (x : Message). nat_eq node x.node.0) o false) none
    by (Some x) is =
        first_bit group before x is node
        ∙ sym (first_bit group (before ++ later) x (find-append (is_of group) before later ∙ ap (λ o. option_or o (find (is_of group) later)) is) node)
        ∙ e

module _ (group : GroupId) (node : ℕ) where
  -- an `Answer` from a node that has an ask in the end comes after this ask
  asked_before : (before later : Messages) (m : Message) → IsOrderly group (before ++ m ∷ later) → is_first_sender group (before ++ m ∷ later) node ≡ false
      → is_answer_from group node m ≡ true → has_ask group before node ≡ true
  asked_before before later m orderly other answer = by (find (is_of group) before) refl (orderly before later m refl own)
    where
      told : (is_of group m && nat_eq node m.node.0) ≡ true
      told = (and_parts (is_of group m && nat_eq node m.node.0) (is_answer m.told.why) answer).0

      own : is_of group m ≡ true
      own = (and_parts (is_of group m) (nat_eq node m.node.0) told).0

      same : nat_eq node m.node.0 ≡ true
      same = (and_parts (is_of group m) (nat_eq node m.node.0) told).1

      first : find (is_of group) before ≡ None → find (is_of group) (before ++ m ∷ later) ≡ Some m
      first none =
          find-append (is_of group) before (m ∷ later) ∙ ap (λ o. option_or o (find (is_of group) (m ∷ later))) none
          ∙ ap (λ b. cond b (Some m) (find (is_of group) later)) own

      by : (o : Option Message) → find (is_of group) before ≡ o → option_map_or (λ (first : Message). is_asked group before m.node.0) o (nat_eq m.node.0 group.node) ≡ true → has_ask group before node ≡ true
      by None none e = absurd (true≢false (sym (first_bit group (before ++ m ∷ later) m (first none) node ∙ same) ∙ other))
      by (Some x) is e =
          let early : is_first_sender group before node ≡ false = not_first group before (m ∷ later) node other in
          let in_set : is_asked group before node ≡ true = ap (is_asked group before) (eqb-true node m.node.0 same) ∙ e in
          and_from (has_crumb group before node) (not (is_first_sender group before node)) (sym (ap (λ b. b || has_crumb group before node) early) ∙ in_set) (ap not early)

  answered_exactly : (before later : Messages) → IsOrderly group (before ++ later) → is_first_sender group (before ++ later) node ≡ false
      → is_answered_after group node before later ≡ list_any (is_answer_from group node) later
  answered_exactly before [] orderly other = refl
  answered_exactly before (m ∷ later) orderly other =
      let same : (before ++ m ∷ []) ++ later ≡ before ++ m ∷ later = append_assoc before (m ∷ []) later in
      let rest = answered_exactly (before ++ m ∷ []) later (subst (IsOrderly group) (sym same) orderly) (ap (λ l. is_first_sender group l node) same ∙ other) in
      ap (λ b. has_ask group before node && is_answer_from group node m || b) rest
      ∙ ap (λ b. b || list_any (is_answer_from group node) later) (by (is_answer_from group node m) (has_ask group before node) (asked_before before later m orderly other))
    where
      by : (answer ask : Bool) → (answer ≡ true → ask ≡ true) → (ask && answer) ≡ answer
      by true true h = refl
      by true false h = h refl
      by false true h = refl
      by false false h = refl

  pub answered_by_answer : (messages : Messages) → IsOrderly group messages → has_ask group messages node ≡ true → is_answered group messages node ≡ list_any (is_answer_from group node) messages
  answered_by_answer messages orderly ask =
      answered_exactly [] messages orderly (not-true (is_first_sender group messages node) (and_parts (has_crumb group messages node) (not (is_first_sender group messages node)) ask).1)
