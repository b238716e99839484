-- What an agent remembers and tells of crumbs leads to the nodes to which crumbs led that it took.
use Rattle.std.proofs.Common.{◌≡◌, ℕ, ◌<◌, Bool, true, false, ◌||◌, cond, List, [], ◌∷◌, ◌++◌, refl, sym, subst, ◌∙◌, Option, Some, None, eqb-true, nat_eq, fold, filter}
use Rattle.hs_law_agent.proofs.Prelude.{AllByRecursion, list_any, option_map_or, option_and_then, same_Some, all_append, all_filter, all_append_option, Ask, Crumb, Told, Trigger, Fired, Answer, same_trace, PlainSettings, Sheet, abandon, traces_of, claim_each, evict, has_crumb, told_of, late_of, AgentState, ClaimedTrace, claim_of, is_abandoned, Input, Chunk, Crumbed, Triggered, Asked, Turn, Answered, Given, Missed, Unread, Took, Gave, with_indexed, with_abandoned, with_pinned, pin_chunk, with_touched, tell_late, late_crumb, admits, group_of, claim_for, note_trigger, count_admitted, admit, told_by, take_input, take_answer, give_back}
use Rattle.hs_base.specs.NodeSetLaws.{has-no_nodes, has-one_node, has-with_node}
use Rattle.hs_base.specs.NodeSets.{has_node, no_nodes, with_node}
use Rattle.hs_base.specs.declared.node_set.NodeSet.{NodeSet}
use Rattle.hs_base.specs.declared.told.Why.{Why}
use Rattle.hs_law_agent.specs.Leading.{IsToldBelow, BringsBelow, CrumbsLeadBelow}
use Rattle.hs_law_agent.proofs.Saying.{steps_say_what_they_tell}
use Rattle.hs_law_agent.proofs.Traversal.{evict_loop, abandon_loop, visit_loop, claim_loop}

-- ---- sets of nodes

module _ (nodes : ℕ) where
  abbrev IsBelow : Crumb → Type 0
  IsBelow crumb = crumb.node.0 < nodes

  abbrev HasBelow : NodeSet → Type 0
  HasBelow s = (n : ℕ) → has_node s n ≡ true → n < nodes

  same_node : (n m : ℕ) → nat_eq n m ≡ true → m < nodes → n < nodes
  same_node n m h low = subst (λ (k : ℕ). k < nodes) (sym (eqb-true n m h)) low

  or_case : (n m : ℕ) (a b : Bool) → (a || b) ≡ true → (a ≡ true → n < nodes) → (b ≡ true → n < nodes) → n < nodes
  or_case n m true b h first second = first refl
  or_case n m false b h first second = second h

  with_below : (s : NodeSet) (crumb : Crumb) → IsBelow crumb → HasBelow s → HasBelow (with_node s crumb.node)
  with_below s crumb low below n h =
      or_case n crumb.node.0 (has_node s n) (nat_eq n crumb.node.0) (sym (has-with_node s crumb.node n) ∙ h) (below n) (λ same. same_node n crumb.node.0 same low)

  fold_below : (crumbs : List Crumb) (s : NodeSet) → AllByRecursion IsBelow crumbs → HasBelow s → HasBelow (fold (λ (nodes : NodeSet) (crumb : Crumb). with_node nodes crumb.node) s crumbs)
  fold_below [] s all below = below
  fold_below (crumb ∷ crumbs) s all below = fold_below crumbs (with_node s crumb.node) all.1 (with_below s crumb all.0 below)

  none_below : HasBelow no_nodes
  none_below n h = let never : false ≡ true = sym (has-no_nodes n) ∙ h in absurd cc

  told_below : (crumbs : List Crumb) (ask : Ask) (why : Why) → AllByRecursion IsBelow crumbs → IsToldBelow nodes (told_of crumbs ask why)
  told_below crumbs ask why all =
      fold_below (filter (λ (crumb : Crumb). list_any (same_trace crumb.trace) (traces_of ask)) crumbs) no_nodes (all_filter IsBelow (λ (crumb : Crumb). list_any (same_trace crumb.trace) (traces_of ask)) crumbs all) none_below

  late_below : (claim : ClaimedTrace) (crumb : Crumb) → IsBelow crumb → IsToldBelow nodes (late_of claim crumb)
  late_below claim crumb low n h = same_node n crumb.node.0 (sym (has-one_node crumb.node n) ∙ h) low

  -- ---- what is remembered

  abbrev Remembers : AgentState → Type 0
  Remembers u = AllByRecursion IsBelow u.crumbs

  with_crumb_below : (crumbs : List Crumb) (crumb : Crumb) (b : Bool) → AllByRecursion IsBelow crumbs → IsBelow crumb → AllByRecursion IsBelow (cond b crumbs (crumbs ++ crumb ∷ []))
  with_crumb_below crumbs crumb true all low = all
  with_crumb_below crumbs crumb false all low = all_append IsBelow crumbs (crumb ∷ []) all (low, tt)

  module _ (settings : PlainSettings) (node : ℕ) (s : AgentState) (all : Remembers s) where
    evict_keeps : (u : AgentState) → Remembers u → Remembers (evict settings u)
    evict_keeps u p = evict_loop settings Remembers (λ trace later v first over p. all_filter IsBelow _ v.crumbs p) u.touched u refl p

    abandon_keeps : (u : AgentState) → Remembers u → Remembers (abandon settings u)
    abandon_keeps u p = abandon_loop settings Remembers (λ group v first p. p) u.pinned u p

    claim_keeps : (ask : Ask) (u : AgentState) → Remembers u → Remembers (claim_for settings ask u)
    claim_keeps ask u p = abandon_keeps (claim_each ask u) (claim_loop Remembers (λ ask trace v free p. p) ask (traces_of ask) u p)

    pin_keeps : (sheet : Sheet) (claim : ClaimedTrace) (b : Bool) → Remembers (cond b (with_abandoned sheet claim.group s) (abandon settings (with_pinned sheet claim.group s)))
    pin_keeps sheet claim true = all
    pin_keeps sheet claim false = abandon_keeps (with_pinned sheet claim.group s) all

    chunk_keeps : (sheet : Sheet) (o : Option ClaimedTrace) → Remembers (option_map_or (λ (claim : ClaimedTrace). pin_chunk settings sheet claim.group s) o (evict settings (with_indexed sheet s)))
    chunk_keeps sheet None = evict_keeps (with_indexed sheet s) all
    chunk_keeps sheet (Some claim) = pin_keeps sheet claim (is_abandoned s.abandoned claim.group)

    late_keeps : (crumb : Crumb) (claim : ClaimedTrace) (b : Bool) → IsBelow crumb → Remembers (cond b s (tell_late crumb claim s))
    late_keeps crumb claim true low = all
    late_keeps crumb claim false low = with_crumb_below s.crumbs crumb (has_crumb s.crumbs crumb) all low

    crumb_keeps : (crumb : Crumb) (o : Option ClaimedTrace) → IsBelow crumb → Remembers (option_map_or (λ claim. late_crumb crumb claim s) o (evict settings (with_touched crumb s)))
    crumb_keeps crumb None low = evict_keeps (with_touched crumb s) (with_crumb_below s.crumbs crumb (has_crumb s.crumbs crumb) all low)
    crumb_keeps crumb (Some claim) low = late_keeps crumb claim (has_crumb s.crumbs crumb) low

    trigger_keeps : (trigger : Trigger) (b : Bool) → Remembers (cond b (admit settings node trigger (note_trigger trigger s)) (note_trigger trigger s))
    trigger_keeps trigger true = claim_keeps (group_of node s trigger) (count_admitted (note_trigger trigger s)) all
    trigger_keeps trigger false = all

    input_keeps : (input : Input) → BringsBelow nodes (Took input) → Remembers (take_input settings node s input)
    input_keeps (Chunk client sheet) low = chunk_keeps sheet (claim_of s.claims sheet.header.trace)
    input_keeps (Crumbed client crumb) low = crumb_keeps crumb (claim_of s.claims crumb.trace) low
    input_keeps (Triggered client trigger) low = trigger_keeps trigger (admits settings s.tried trigger)
    input_keeps (Asked ask) low = claim_keeps ask s all
    input_keeps Turn low = visit_loop settings Remembers (λ u share p. p) s.shares s all

    give_keeps : (stamp : ℕ) (hand : List ℕ) → Remembers (give_back stamp hand s)
    give_keeps stamp [] = all
    give_keeps stamp (place ∷ hand) = all

    answer_keeps : (answer : Answered) → Remembers (take_answer s answer)
    answer_keeps (Given stamp) = give_keeps stamp s.hand
    answer_keeps (Missed stamp) = all
    answer_keeps Unread = all

    -- ---- what is told

    late_told : (crumb : Crumb) (told : Told) (o : Option ClaimedTrace) → IsBelow crumb → option_and_then (λ claim. cond (has_crumb s.crumbs crumb) None (Some (late_of claim crumb))) o ≡ Some told → IsToldBelow nodes told
    late_told crumb told None low h = let never : None ≡ Some told = h in absurd cc
    late_told crumb told (Some claim) low h = either (has_crumb s.crumbs crumb) h
      where
        either : (b : Bool) → cond b None (Some (late_of claim crumb)) ≡ Some told → IsToldBelow nodes told
        either true h = let never : None ≡ Some told = h in absurd cc
        either false h = subst (IsToldBelow nodes) (same_Some (late_of claim crumb) told h) (late_below claim crumb low)

    trigger_told : (trigger : Trigger) (told : Told) (b : Bool) → cond b (Some (told_of s.crumbs (group_of node s trigger) Fired)) None ≡ Some told → IsToldBelow nodes told
    trigger_told trigger told true h = subst (IsToldBelow nodes) (same_Some (told_of s.crumbs (group_of node s trigger) Fired) told h) (told_below s.crumbs (group_of node s trigger) Fired all)
    trigger_told trigger told false h = let never : None ≡ Some told = h in absurd cc

    input_told : (input : Input) (told : Told) → BringsBelow nodes (Took input) → told_by settings node s input ≡ Some told → IsToldBelow nodes told
    input_told (Chunk client sheet) told low h = let never : None ≡ Some told = h in absurd cc
    input_told (Crumbed client crumb) told low h = late_told crumb told (claim_of s.claims crumb.trace) low h
    input_told (Triggered client trigger) told low h = trigger_told trigger told (admits settings s.tried trigger) h
    input_told (Asked ask) told low h = subst (IsToldBelow nodes) (same_Some (told_of s.crumbs ask Answer) told h) (told_below s.crumbs ask Answer all)
    input_told Turn told low h = let never : None ≡ Some told = h in absurd cc

pub crumbs_lead_below : CrumbsLeadBelow
crumbs_lead_below settings node nodes s (Took input) low h =
    record {
      crumbs = input_keeps nodes settings node s h.crumbs input low;
      said =
          subst (AllByRecursion (IsToldBelow nodes)) (sym ((steps_say_what_they_tell settings node s).inputs input))
          (all_append_option (IsToldBelow nodes) s.said (told_by settings node s input) h.said (λ told is. input_told nodes settings node s h.crumbs input told low is));
    }
crumbs_lead_below settings node nodes s (Gave answer) low h =
    record { crumbs = answer_keeps nodes settings node s h.crumbs answer; said = subst (AllByRecursion (IsToldBelow nodes)) (sym ((steps_say_what_they_tell settings node s).answers answer)) h.said }
