-- An input adds its message to those that were said, or none.
use Rattle.std.proofs.Common.{◌≡◌, ℕ, Bool, true, false, cond, List, [], ◌∷◌, ◌++◌, refl, sym, ap, ◌∙◌, Option, Some, None, append-nil}
use Rattle.hs_law_agent.proofs.Prelude.{option_map_or, option_and_then, Ask, Crumb, Told, Trigger, Fired, PlainSettings, Sheet, AgentState, ClaimedTrace, claim_of, is_abandoned, evict, traces_of, claim_each, has_crumb, told_of, late_of, Input, Chunk, Crumbed, Triggered, Asked, Turn, Answered, Given, Missed, Unread, with_indexed, with_abandoned, with_pinned, pin_chunk, with_touched, tell_late, late_crumb, admits, group_of, claim_for, note_trigger, count_admitted, admit, told_by, give_back, abandon, StepsSayWhatTheyTell}
use Rattle.std.specs.Option.{option_to_list}
use Rattle.hs_law_agent.specs.Stepping.{after_step, after_gave}
use Rattle.hs_law_agent.proofs.Traversal.{evict_loop, abandon_loop, visit_loop, claim_loop}

-- the messages are these
abbrev Says : List Told → AgentState → Type 0
Says said u = u.said ≡ said

module _ (settings : PlainSettings) (node : ℕ) (s : AgentState) where
  evict_says : (u : AgentState) → Says s.said u → Says s.said (evict settings u)
  evict_says u e = evict_loop settings (Says s.said) (λ trace later v f over p. p) u.touched u refl e

  abandon_says : (u : AgentState) → Says s.said u → Says s.said (abandon settings u)
  abandon_says u e = abandon_loop settings (Says s.said) (λ group v f p. p) u.pinned u e

  claim_for_says : (ask : Ask) (u : AgentState) → Says s.said u → Says s.said (claim_for settings ask u)
  claim_for_says ask u e = abandon_says (claim_each ask u) (claim_loop (Says s.said) (λ ask trace v free p. p) ask (traces_of ask) u e)

  pin_says : (sheet : Sheet) (claim : ClaimedTrace) (b : Bool) → Says s.said (cond b (with_abandoned sheet claim.group s) (abandon settings (with_pinned sheet claim.group s)))
  pin_says sheet claim true = refl
  pin_says sheet claim false = abandon_says (with_pinned sheet claim.group s) refl

  chunk_says : (sheet : Sheet) (o : Option ClaimedTrace) → Says s.said (option_map_or (λ (claim : ClaimedTrace). pin_chunk settings sheet claim.group s) o (evict settings (with_indexed sheet s)))
  chunk_says sheet None = evict_says (with_indexed sheet s) refl
  chunk_says sheet (Some claim) = pin_says sheet claim (is_abandoned s.abandoned claim.group)

  late_says : (crumb : Crumb) (claim : ClaimedTrace) (b : Bool) → (cond b s (tell_late crumb claim s)).said ≡ s.said ++ option_to_list (cond b None (Some (late_of claim crumb)))
  late_says crumb claim true = sym (append-nil s.said)
  late_says crumb claim false = refl

  crumb_says : (crumb : Crumb) (o : Option ClaimedTrace)
      → (option_map_or (λ claim. late_crumb crumb claim s) o (evict settings (with_touched crumb s))).said
      ≡ s.said ++ option_to_list (option_and_then (λ claim. cond (has_crumb s.crumbs crumb) None (Some (late_of claim crumb))) o)
  crumb_says crumb None = evict_says (with_touched crumb s) refl ∙ sym (append-nil s.said)
  crumb_says crumb (Some claim) = late_says crumb claim (has_crumb s.crumbs crumb)

  trigger_says : (trigger : Trigger) (b : Bool)
      → (cond b (admit settings node trigger (note_trigger trigger s)) (note_trigger trigger s)).said ≡ s.said ++ option_to_list (cond b (Some (told_of s.crumbs (group_of node s trigger) Fired)) None)
  trigger_says trigger true =
      ap (λ said. said ++ told_of s.crumbs (group_of node s trigger) Fired ∷ []) (claim_for_says (group_of node s trigger) (count_admitted (note_trigger trigger s)) refl)
  trigger_says trigger false = sym (append-nil s.said)

  input_says : (input : Input) → (after_step settings node s input).said ≡ s.said ++ option_to_list (told_by settings node s input)
  input_says (Chunk client sheet) = chunk_says sheet (claim_of s.claims sheet.header.trace) ∙ sym (append-nil s.said)
  input_says (Crumbed client crumb) = crumb_says crumb (claim_of s.claims crumb.trace)
  input_says (Triggered client trigger) = trigger_says trigger (admits settings s.tried trigger)
  input_says (Asked ask) = ap (λ said. said ++ told_of s.crumbs ask _ ∷ []) (claim_for_says ask s refl)
  input_says Turn = visit_loop settings (Says s.said) (λ u share p. p) s.shares s refl ∙ sym (append-nil s.said)

  give_says : (stamp : ℕ) (hand : List ℕ) → (give_back stamp hand s).said ≡ s.said
  give_says stamp [] = refl
  give_says stamp (place ∷ hand) = refl

  answer_says : (answer : Answered) → (after_gave s answer).said ≡ s.said
  answer_says (Given stamp) = give_says stamp s.hand
  answer_says (Missed stamp) = refl
  answer_says Unread = refl

pub steps_say_what_they_tell : StepsSayWhatTheyTell
steps_say_what_they_tell settings node s = record { inputs = input_says settings node s; answers = answer_says settings node s }
