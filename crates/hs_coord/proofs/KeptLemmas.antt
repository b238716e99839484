-- What the coordinator keeps still stands for its messages after one more.
use Rattle.std.proofs.Common.{◌≡◌, ℕ, Bool, true, false, not, ◌||◌, ◌&&◌, [], ◌∷◌, ◌++◌, Option, Some, None, unwrap_or, refl, sym, ap, subst, ◌∙◌, true≢false, find, cond, nat_eq, eq-eqb, IsSome}
use Rattle.std.proofs.lemmas.List.{map-append}
use Rattle.std.proofs.Math.Bool.{or-false, and-false}
use Rattle.std.specs.Cmp.{IsEquivalence}
use Rattle.std.specs.Map.{lookup}
use Rattle.std.specs.Option.{option_map_or}
use Rattle.std.proofs.lemmas.Bool.{and_parts, and_from, eqb-true, false_from_ne_true}
use Rattle.hs_base.proofs.Bools.{or_assoc}
use Rattle.hs_base.specs.declared.ids.GroupId.{GroupId}
use Rattle.hs_base.specs.declared.node_set.NodeSet.{NodeSet}
use Rattle.hs_base.specs.NodeSets.{has_node}
use Rattle.hs_coord.specs.declared.asks.Asks.{Asks}
use Rattle.hs_coord.specs.declared.followed.Followed.{Followed}
use Rattle.hs_coord.specs.Following.{Message, Messages, same_group, is_of, has_crumb, has_ask, is_asked, is_first_sender, is_answer, is_answer_from, is_answered, first_of, AreAsks}
use Rattle.hs_coord.specs.Answers.{IsAskedSet}
use Rattle.hs_coord.specs.Kept.{PlainCoordinator, IsFollowed, StandsFor, HasTaken}
use Rattle.hs_coord.specs.Leading.{Begins, Takes, Writes}
use Rattle.hs_coord.proofs.BitLemmas.{ask_bit, waiting_bit}
use Rattle.hs_coord.proofs.FollowingLemmas.{first_stays, first_now, first_of_other, has_crumb-push, is_answered-push, unanswered, no_message_no_crumb}

same_group-refl : (a : GroupId) → same_group a a ≡ true
same_group-refl a = and_from _ _ (eq-eqb a.node a.node refl) (eq-eqb a.number a.number refl)

pub same_group-true : (a b : GroupId) → same_group a b ≡ true → a ≡ b
same_group-true a b e =
    let parts = and_parts (nat_eq a.node b.node) (nat_eq a.number b.number) e in
    λ i. record { node = eqb-true a.node b.node parts.0 i; number = eqb-true a.number b.number parts.1 i }

same_group_sym : (a b : GroupId) → same_group a b ≡ false → same_group b a ≡ false
same_group_sym a b e =
    false_from_ne_true (same_group b a) (λ t. let p : b ≡ a = same_group-true b a t in true≢false (sym (subst (λ (c : GroupId). same_group c b ≡ true) p (same_group-refl b)) ∙ e))

pub same_group_laws : IsEquivalence same_group
same_group_laws = record {
  refl = same_group-refl;
  symm = λ a b. symm a b (same_group a b) refl;
  congr = λ a b d e. ap (λ (x : GroupId). same_group x d) (same_group-true a b e);
}
  where
    symm : (a b : GroupId) (r : Bool) → same_group a b ≡ r → same_group a b ≡ same_group b a
    symm a b true e = e ∙ sym (subst (λ (x : GroupId). same_group x a ≡ true) (same_group-true a b e) (same_group-refl a))
    symm a b false e = e ∙ sym (same_group_sym a b e)

abbrev group_of : Message → GroupId
group_of m = m.told.group.id

-- an entry that stands for its group's messages, with the one that the next message makes the first where there was none
record IsMet (messages : Messages) (m first : Message) (entry : Followed) : Type 0 where
  pub group : entry.ask.group ≡ first.told.group
  pub laterals : entry.ask.laterals ≡ first.told.laterals
  pub asked : (n : ℕ) → has_node entry.asked n ≡ (nat_eq n first.node.0 || has_crumb (group_of m) messages n)
  pub waiting : (n : ℕ) → has_node entry.waiting n ≡ ((has_crumb (group_of m) messages n && not (nat_eq n first.node.0)) && not (is_answered (group_of m) messages n))
  pub had_ask : (n : ℕ) → has_ask (group_of m) messages n ≡ (has_crumb (group_of m) messages n && not (nat_eq n first.node.0))
  pub stays : find (is_of (group_of m)) (messages ++ m ∷ []) ≡ Some first
  pub first_is : first_of messages m ≡ first

pub first_bit : (group : GroupId) (messages : Messages) (first : Message) → find (is_of group) messages ≡ Some first → (n : ℕ) → is_first_sender group messages n ≡ nat_eq n first.node.0
first_bit group messages first is n = ap (λ o. option_map_or (λ (x : Message). nat_eq n x.node.0) o false) is

module _ (messages : Messages) (m : Message) where
  met_before : (entry : Followed) → IsFollowed (group_of m) messages entry → (first : Message) × IsMet messages m first entry
  met_before entry f =
      let bit = first_bit (group_of m) messages f.first f.is_first in (
        f.first,
        record {
          group = f.group_is;
          laterals = f.laterals_are;
          asked = λ n. f.asked n ∙ ap (λ b. b || has_crumb (group_of m) messages n) (bit n);
          waiting = λ n. f.waiting n ∙ ap (λ b. (has_crumb (group_of m) messages n && not b) && not (is_answered (group_of m) messages n)) (bit n);
          had_ask = λ n. ap (λ b. has_crumb (group_of m) messages n && not b) (bit n);
          stays = first_stays (group_of m) messages m f.first f.is_first;
          first_is = ap (λ o. unwrap_or o m) f.is_first;
        },
      )

  met_now : (entry : Followed) → find (is_of (group_of m)) messages ≡ None → Begins m entry → (first : Message) × IsMet messages m first entry
  met_now entry none b =
      let crumb : (n : ℕ) → has_crumb (group_of m) messages n ≡ false = λ n. no_message_no_crumb (group_of m) messages n none in (
        m,
        record {
          group = b.group;
          laterals = b.laterals;
          asked = λ n. b.asked n ∙ sym (ap (λ x. nat_eq n m.node.0 || x) (crumb n) ∙ or-false (nat_eq n m.node.0));
          waiting = λ n. b.waiting n ∙ sym (ap (λ x. (x && not (nat_eq n m.node.0)) && not (is_answered (group_of m) messages n)) (crumb n));
          had_ask = λ n. ap (λ x. x && not (is_first_sender (group_of m) messages n)) (crumb n) ∙ sym (ap (λ x. x && not (nat_eq n m.node.0)) (crumb n));
          stays = first_now (group_of m) messages m none (same_group-refl (group_of m));
          first_is = ap (λ o. unwrap_or o m) none;
        },
      )

  met : (begun : Followed) (kept : Option Followed) → StandsFor (group_of m) messages kept → Begins m begun → (first : Message) × IsMet messages m first (unwrap_or kept begun)
  met begun None none b = met_now begun none b
  met begun (Some entry) f b = met_before entry f

  module _ (first : Message) (entry next : Followed) (fresh : NodeSet) (p : IsMet messages m first entry) (t : Takes m entry next fresh) where
    own : is_of (group_of m) m ≡ true
    own = same_group-refl (group_of m)

    abbrev all : Messages
    all = messages ++ m ∷ []

    first_after : (n : ℕ) → is_first_sender (group_of m) all n ≡ nat_eq n first.node.0
    first_after = first_bit (group_of m) all first p.stays

    crumb_after : (n : ℕ) → has_crumb (group_of m) all n ≡ (has_crumb (group_of m) messages n || has_node m.told.crumbs n)
    crumb_after n =
        has_crumb-push (group_of m) messages m n
        ∙ ap (λ b. has_crumb (group_of m) messages n || (b && has_node m.told.crumbs n)) own

    ask_after : (n : ℕ) → has_ask (group_of m) all n ≡ ((has_crumb (group_of m) messages n || has_node m.told.crumbs n) && not (nat_eq n first.node.0))
    ask_after n = ap (λ b. b && not (is_first_sender (group_of m) all n)) (crumb_after n)
        ∙ ap (λ b. (has_crumb (group_of m) messages n || has_node m.told.crumbs n) && not b) (first_after n)

    answered_after : (n : ℕ) → is_answered (group_of m) all n
        ≡ (is_answered (group_of m) messages n || ((has_crumb (group_of m) messages n && not (nat_eq n first.node.0)) && (nat_eq n m.node.0 && is_answer m.told.why)))
    answered_after n =
        is_answered-push (group_of m) messages m n
        ∙ ap (λ b. is_answered (group_of m) messages n || (b && is_answer_from (group_of m) n m)) (p.had_ask n)
        ∙ ap (λ b. is_answered (group_of m) messages n || ((has_crumb (group_of m) messages n && not (nat_eq n first.node.0)) && ((b && nat_eq n m.node.0) && is_answer m.told.why))) own

    fresh_at : (n : ℕ) → has_node fresh n ≡ (has_node m.told.crumbs n && not (nat_eq n first.node.0 || has_crumb (group_of m) messages n))
    fresh_at n = t.fresh_is n ∙ ap (λ b. has_node m.told.crumbs n && not b) (p.asked n)

    followed_on : IsFollowed (group_of m) all next
    followed_on = record {
      first = first;
      is_first = p.stays;
      group_is = ap (λ a. a.group) t.ask ∙ p.group;
      laterals_are = ap (λ a. a.laterals) t.ask ∙ p.laterals;
      asked = λ n.
          t.asked n ∙ ap (λ b. b || has_node m.told.crumbs n) (p.asked n)
          ∙ or_assoc (nat_eq n first.node.0) (has_crumb (group_of m) messages n) (has_node m.told.crumbs n)
          ∙ sym (ap (λ b. b || has_crumb (group_of m) all n) (first_after n) ∙ ap (λ b. nat_eq n first.node.0 || b) (crumb_after n));
      waiting = λ n.
          t.waiting n
          ∙ ap (λ b. (b && not (nat_eq n m.node.0 && is_answer m.told.why)) || has_node fresh n) (p.waiting n)
          ∙ ap (λ b. (((has_crumb (group_of m) messages n && not (nat_eq n first.node.0)) && not (is_answered (group_of m) messages n)) && not (nat_eq n m.node.0 && is_answer m.told.why)) || b) (fresh_at n)
          ∙ waiting_bit (nat_eq n first.node.0) (has_crumb (group_of m) messages n) (is_answered (group_of m) messages n) (nat_eq n m.node.0 && is_answer m.told.why) (has_node m.told.crumbs n) (unanswered (group_of m) messages n)
          ∙ sym (ap (λ b. b && not (is_answered (group_of m) all n)) (ask_after n)
          ∙ ap (λ b. ((has_crumb (group_of m) messages n || has_node m.told.crumbs n) && not (nat_eq n first.node.0)) && not b) (answered_after n));
    }

    asks_are : (asks : Asks) → asks.ask ≡ next.ask → asks.to ≡ fresh → AreAsks messages m asks
    asks_are asks ask to = record {
      group = ap (λ a. a.group) (ask ∙ t.ask) ∙ p.group ∙ sym (ap (λ (x : Message). x.told.group) p.first_is);
      laterals = ap (λ a. a.laterals) (ask ∙ t.ask) ∙ p.laterals ∙ sym (ap (λ (x : Message). x.told.laterals) p.first_is);
      to = λ n.
          ap (λ s. has_node s n) to ∙ fresh_at n
          ∙ ask_bit (nat_eq n first.node.0) (has_crumb (group_of m) messages n) (has_node m.told.crumbs n)
          ∙ sym (ap (λ b. b && not (has_ask (group_of m) messages n)) (ask_after n)
          ∙ ap (λ b. ((has_crumb (group_of m) messages n || has_node m.told.crumbs n) && not (nat_eq n first.node.0)) && not b) (p.had_ask n));
    }

-- a message of another group
module _ (group : GroupId) (messages : Messages) (m : Message) (other : is_of group m ≡ false) where
  first_else : (n : ℕ) → is_first_sender group (messages ++ m ∷ []) n ≡ is_first_sender group messages n
  first_else n = ap (λ o. option_map_or (λ (x : Message). nat_eq n x.node.0) o false) (first_of_other group messages m other)

  crumb_else : (n : ℕ) → has_crumb group (messages ++ m ∷ []) n ≡ has_crumb group messages n
  crumb_else n =
      has_crumb-push group messages m n ∙ ap (λ b. has_crumb group messages n || (b && has_node m.told.crumbs n)) other
      ∙ or-false (has_crumb group messages n)

  pub asked_else : (n : ℕ) → is_asked group (messages ++ m ∷ []) n ≡ is_asked group messages n
  asked_else n = ap (λ b. b || has_crumb group (messages ++ m ∷ []) n) (first_else n) ∙ ap (λ b. is_first_sender group messages n || b) (crumb_else n)

  answered_else : (n : ℕ) → is_answered group (messages ++ m ∷ []) n ≡ is_answered group messages n
  answered_else n =
      is_answered-push group messages m n
      ∙ ap (λ b. is_answered group messages n || (has_ask group messages n && ((b && nat_eq n m.node.0) && is_answer m.told.why))) other
      ∙ ap (λ b. is_answered group messages n || b) (and-false (has_ask group messages n))
      ∙ or-false (is_answered group messages n)

  stands_else : (kept : Option Followed) → StandsFor group messages kept → StandsFor group (messages ++ m ∷ []) kept
  stands_else None none = first_of_other group messages m other ∙ none
  stands_else (Some entry) f = record {
    first = f.first;
    is_first = first_of_other group messages m other ∙ f.is_first;
    group_is = f.group_is;
    laterals_are = f.laterals_are;
    asked = λ n. f.asked n ∙ sym (asked_else n);
    waiting = λ n.
        f.waiting n
        ∙ sym (ap (λ b. (b && not (is_first_sender group (messages ++ m ∷ []) n)) && not (is_answered group (messages ++ m ∷ []) n)) (crumb_else n)
        ∙ ap (λ b. (has_crumb group messages n && not b) && not (is_answered group (messages ++ m ∷ []) n)) (first_else n)
        ∙ ap (λ b. (has_crumb group messages n && not (is_first_sender group messages n)) && not b) (answered_else n));
  }

module _ (old : PlainCoordinator) (messages : Messages) (m : Message) (begun next : Followed) (fresh : NodeSet)
    (h : HasTaken old messages) (b : Begins m begun) (t : Takes m (unwrap_or (lookup (same_group (group_of m)) old.groups) begun) next fresh) where
  pub taken : {new : PlainCoordinator} → new.log ≡ old.log ++ m.node ∷ [] → Writes old.groups new.groups (group_of m) next → HasTaken new (messages ++ m ∷ [])
  taken {new} log writes = record {
    log = log ∙ ap (λ l. l ++ m.node ∷ []) h.log ∙ sym (map-append (λ (x : Message). x.node) messages (m ∷ []));
    groups = λ q. subst (StandsFor q (messages ++ m ∷ [])) (sym (writes q)) (by q (same_group (group_of m) q) refl);
  }
    where
      by : (q : GroupId) (same : Bool) → same_group (group_of m) q ≡ same → StandsFor q (messages ++ m ∷ []) (cond same (Some next) (lookup (same_group q) old.groups))
      by q true e =
          let w = met messages m begun _ (h.groups (group_of m)) b in
          subst (λ g. IsFollowed g (messages ++ m ∷ []) next) (same_group-true (group_of m) q e) (followed_on messages m w.0 _ next fresh w.1 t)
      by q false e = stands_else q messages m (same_group_sym (group_of m) q e) (lookup (same_group q) old.groups) (h.groups q)

  pub asked_for : (asks : Asks) → asks.ask ≡ next.ask → asks.to ≡ fresh → AreAsks messages m asks
  asked_for asks ask to =
      let w = met messages m begun _ (h.groups (group_of m)) b in asks_are messages m w.0 _ next fresh w.1 t asks ask to

-- what an entry says of its group
pub asked_some : (state : PlainCoordinator) (messages : Messages) (group : GroupId) (entry : Followed) → HasTaken state messages → Some entry ≡ lookup (same_group group) state.groups
    → IsAskedSet group messages (Some entry.asked)
asked_some state messages group entry h is =
    let f : IsFollowed group messages entry = subst (StandsFor group messages) (sym is) (h.groups group) in
    (subst IsSome (sym f.is_first) refl, f.asked)

-- and what no entry says
pub asked_none : (state : PlainCoordinator) (messages : Messages) (group : GroupId) → HasTaken state messages → None ≡ lookup (same_group group) state.groups → IsAskedSet group messages None
asked_none state messages group h is = subst (StandsFor group messages) (sym is) (h.groups group)
