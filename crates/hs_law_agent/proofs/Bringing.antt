-- Only a trigger or an ask makes claims, one for each of its traces that is not claimed yet. All other small steps leave the claims as they
-- are, and a message is of the group that was claimed for, or of one that was claimed for before.
use Rattle.std.proofs.Common.{◌≡◌, ℕ, Bool, true, false, cond, List, [], ◌∷◌, refl, sym, subst, Option, Some, None}
use Rattle.hs_law_agent.proofs.Prelude.{fold, nat_lt, AllByRecursion, option_map_or, option_and_then, same_Some, all_append, all_append_option, TraceId, Ask, Crumb, Group, Told, Trigger, Fired, Answer, same_trace, PlainSettings, Share, Sheet, next_to_go, pinned_groups, abandon_group, abandon_within, abandon, claim_trace, claim_unclaimed, traces_of, claim_each, is_over, evict_trace, evict_from, evict, StepsSayWhatTheyTell, has_crumb, told_of, late_of, AgentState, ClaimedTrace, claim_of, is_claimed, is_abandoned, Input, Chunk, Crumbed, Triggered, Asked, Turn, Answered, Given, Missed, Unread, Took, Gave, with_indexed, with_abandoned, with_pinned, pin_chunk, with_touched, tell_late, late_crumb, admits, group_of, claim_for, note_trigger, count_admitted, admit, told_by, take_input, take_answer, give_back, visit}
use Rattle.std.specs.Prelude.{length}
use Rattle.hs_law_agent.specs.Bringing.{AllPass, IsClaimOf, TellsOf, BringsOnly, ClaimsAreOfWhatIsBrought}

-- ---- the claims that small steps leave alone

module _ (settings : PlainSettings) where
  evict_from_leaves : (traces : List TraceId) (s : AgentState) → (evict_from settings traces s).claims ≡ s.claims
  evict_from_leaves [] s = refl
  evict_from_leaves (trace ∷ later) s =
      elim (is_over settings s) as (λ b. (cond b (evict_from settings later (evict_trace trace later s)) s).claims ≡ s.claims)
      [ true ↦ evict_from_leaves later (evict_trace trace later s) | false ↦ refl ]

  evict_leaves : (s : AgentState) → (evict settings s).claims ≡ s.claims
  evict_leaves s = evict_from_leaves s.touched s

  abandoned_leaves : (places : List ℕ) (s : AgentState) → ((u : AgentState) → (abandon_within settings places u).claims ≡ u.claims) → (o : Option Group)
      → (option_map_or (λ group. abandon_within settings places (abandon_group group s)) o s).claims ≡ s.claims
  abandoned_leaves places s next None = refl
  abandoned_leaves places s next (Some group) = next (abandon_group group s)

  abandon_within_leaves : (places : List ℕ) (s : AgentState) → (abandon_within settings places s).claims ≡ s.claims
  abandon_within_leaves [] s = refl
  abandon_within_leaves (place ∷ places) s =
      elim (nat_lt settings.pins (length s.pinned))
      as (λ b. (cond b (option_map_or (λ group. abandon_within settings places (abandon_group group s)) (next_to_go (pinned_groups s)) s) s).claims ≡ s.claims)
      [ true ↦ abandoned_leaves places s (abandon_within_leaves places) (next_to_go (pinned_groups s)) | false ↦ refl ]

  abandon_leaves : (s : AgentState) → (abandon settings s).claims ≡ s.claims
  abandon_leaves s = abandon_within_leaves s.pinned s

  visits_leave : (shares : List Share) (s : AgentState) → (fold (visit settings) s shares).claims ≡ s.claims
  visits_leave [] s = refl
  visits_leave (share ∷ shares) s = visits_leave shares (visit settings s share)

-- ---- what is claimed

module _ (test : TraceId → Bool) where
  abbrev Claims : AgentState → Type 0
  Claims u = AllByRecursion (IsClaimOf test) u.claims

  same_claims : (u v : AgentState) → u.claims ≡ v.claims → Claims v → Claims u
  same_claims u v e all = subst (AllByRecursion (IsClaimOf test)) (sym e) all

  abbrev BringsAsk : Ask → Type 0
  BringsAsk ask = AllPass test (ask.group.lead ∷ ask.laterals)

  claim_all : (ask : Ask) → BringsAsk ask → (traces : List TraceId) (s : AgentState) → AllPass test traces → Claims s → Claims (fold (claim_unclaimed ask) s traces)
  claim_all ask only [] s pass all = all
  claim_all ask only (trace ∷ traces) s pass all = claim_all ask only traces (claim_unclaimed ask s trace) pass.1 (by (is_claimed s.claims trace))
    where
      by : (b : Bool) → Claims (cond b s (claim_trace ask trace s))
      by true = all
      by false = all_append (IsClaimOf test) s.claims (record { trace = trace; group = ask.group; laterals = ask.laterals } ∷ []) all (record { trace = pass.0; group = only }, tt)

  -- the claim that is found is one of these
  found_if : (first : ClaimedTrace) (rest : Option ClaimedTrace) (claim : ClaimedTrace) (b : Bool) → IsClaimOf test first → (rest ≡ Some claim → IsClaimOf test claim) → cond b (Some first) rest ≡ Some claim → IsClaimOf test claim
  found_if first rest claim true only later h = subst (IsClaimOf test) (same_Some first claim h) only
  found_if first rest claim false only later h = later h

  found : (trace : TraceId) (claims : List ClaimedTrace) (claim : ClaimedTrace) → AllByRecursion (IsClaimOf test) claims → claim_of claims trace ≡ Some claim → IsClaimOf test claim
  found trace [] claim all h = let no : None ≡ Some claim = h in absurd cc
  found trace (first ∷ claims) claim all h = found_if first (claim_of claims trace) claim (same_trace trace first.trace) all.0 (found trace claims claim all.1) h

  module _ (settings : PlainSettings) (node : ℕ) (s : AgentState) (all : Claims s) where
    claims_for : (ask : Ask) → BringsAsk ask → (u : AgentState) → Claims u → Claims (claim_for settings ask u)
    claims_for ask only u p = same_claims (claim_for settings ask u) (claim_each ask u) (abandon_leaves settings (claim_each ask u)) (claim_all ask only (traces_of ask) u only p)

    pin_claims : (sheet : Sheet) (group : Group) (b : Bool) → Claims (cond b (with_abandoned sheet group s) (abandon settings (with_pinned sheet group s)))
    pin_claims sheet group true = all
    pin_claims sheet group false = same_claims (abandon settings (with_pinned sheet group s)) s (abandon_leaves settings (with_pinned sheet group s)) all

    chunk_claims : (sheet : Sheet) (o : Option ClaimedTrace) → Claims (option_map_or (λ (claim : ClaimedTrace). pin_chunk settings sheet claim.group s) o (evict settings (with_indexed sheet s)))
    chunk_claims sheet None = same_claims (evict settings (with_indexed sheet s)) s (evict_leaves settings (with_indexed sheet s)) all
    chunk_claims sheet (Some claim) = pin_claims sheet claim.group (is_abandoned s.abandoned claim.group)

    late_claims : (crumb : Crumb) (claim : ClaimedTrace) (b : Bool) → Claims (cond b s (tell_late crumb claim s))
    late_claims crumb claim true = all
    late_claims crumb claim false = all

    crumb_claims : (crumb : Crumb) (o : Option ClaimedTrace) → Claims (option_map_or (λ claim. late_crumb crumb claim s) o (evict settings (with_touched crumb s)))
    crumb_claims crumb None = same_claims (evict settings (with_touched crumb s)) s (evict_leaves settings (with_touched crumb s)) all
    crumb_claims crumb (Some claim) = late_claims crumb claim (has_crumb s.crumbs crumb)

    trigger_claims : (trigger : Trigger) (b : Bool) → AllPass test (trigger.lead ∷ trigger.laterals) → Claims (cond b (admit settings node trigger (note_trigger trigger s)) (note_trigger trigger s))
    trigger_claims trigger true only = claims_for (group_of node s trigger) only (count_admitted (note_trigger trigger s)) all
    trigger_claims trigger false only = all

    input_claims : (input : Input) → BringsOnly test (Took input) → Claims (take_input settings node s input)
    input_claims (Chunk client sheet) only = chunk_claims sheet (claim_of s.claims sheet.header.trace)
    input_claims (Crumbed client crumb) only = crumb_claims crumb (claim_of s.claims crumb.trace)
    input_claims (Triggered client trigger) only = trigger_claims trigger (admits settings s.tried trigger) only
    input_claims (Asked ask) only = claims_for ask only s all
    input_claims Turn only = same_claims (fold (visit settings) s s.shares) s (visits_leave settings s.shares s) all

    give_claims : (stamp : ℕ) (hand : List ℕ) → Claims (give_back stamp hand s)
    give_claims stamp [] = all
    give_claims stamp (place ∷ hand) = all

    answer_claims : (answer : Answered) → Claims (take_answer s answer)
    answer_claims (Given stamp) = give_claims stamp s.hand
    answer_claims (Missed stamp) = all
    answer_claims Unread = all

    -- ---- what is told

    late_told : (crumb : Crumb) (told : Told) (o : Option ClaimedTrace) → claim_of s.claims crumb.trace ≡ o
        → option_and_then (λ claim. cond (has_crumb s.crumbs crumb) None (Some (late_of claim crumb))) o ≡ Some told → TellsOf test told
    late_told crumb told None is h = let no : None ≡ Some told = h in absurd cc
    late_told crumb told (Some claim) is h = by (has_crumb s.crumbs crumb) h
      where
        by : (b : Bool) → cond b None (Some (late_of claim crumb)) ≡ Some told → TellsOf test told
        by true h = let no : None ≡ Some told = h in absurd cc
        by false h = subst (TellsOf test) (same_Some (late_of claim crumb) told h) (found crumb.trace s.claims claim all is).group

    trigger_told : (trigger : Trigger) (told : Told) (b : Bool) → AllPass test (trigger.lead ∷ trigger.laterals) → cond b (Some (told_of s.crumbs (group_of node s trigger) Fired)) None ≡ Some told → TellsOf test told
    trigger_told trigger told true only h = subst (TellsOf test) (same_Some (told_of s.crumbs (group_of node s trigger) Fired) told h) only
    trigger_told trigger told false only h = let no : None ≡ Some told = h in absurd cc

    input_told : (input : Input) (told : Told) → BringsOnly test (Took input) → told_by settings node s input ≡ Some told → TellsOf test told
    input_told (Chunk client sheet) told only h = let no : None ≡ Some told = h in absurd cc
    input_told (Crumbed client crumb) told only h = late_told crumb told (claim_of s.claims crumb.trace) refl h
    input_told (Triggered client trigger) told only h = trigger_told trigger told (admits settings s.tried trigger) only h
    input_told (Asked ask) told only h = subst (TellsOf test) (same_Some (told_of s.crumbs ask Answer) told h) only
    input_told Turn told only h = let no : None ≡ Some told = h in absurd cc

pub claims_are_of_what_is_brought : StepsSayWhatTheyTell → ClaimsAreOfWhatIsBrought
claims_are_of_what_is_brought says settings node test s (Took input) only h =
    record {
      claims = input_claims test settings node s h.claims input only;
      said =
          subst (AllByRecursion (TellsOf test)) (sym ((says settings node s).inputs input))
          (all_append_option (TellsOf test) s.said (told_by settings node s input) h.said (λ told is. input_told test settings node s h.claims input told only is));
    }
claims_are_of_what_is_brought says settings node test s (Gave answer) only h =
    record { claims = answer_claims test settings node s h.claims answer; said = subst (AllByRecursion (TellsOf test)) (sym ((says settings node s).answers answer)) h.said }
