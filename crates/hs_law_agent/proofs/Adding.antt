-- What an event adds: its step to the log, and the page of the chunk that it takes. All else that an agent does lets these be.
use Rattle.std.proofs.Common.{◌≡◌, ℕ, suc, Bool, true, false, cond, List, [], ◌∷◌, ◌++◌, refl, sym, ap, ◌∙◌, Option, Some, None, append-nil}
use Rattle.hs_law_agent.proofs.Prelude.{option_map_or, map-append, Ask, Crumb, Trigger, Step, PlainSettings, Sheet, ChunkStanding, Taken, is_among, moved_from, AgentState, ClaimedTrace, GivenPlace, claim_of, is_abandoned, evict, traces_of, claim_each, has_crumb, Input, Chunk, Crumbed, Triggered, Asked, Turn, Answered, Given, Missed, Unread, AgentEvent, Took, Gave, with_indexed, with_abandoned, with_pinned, pin_chunk, with_touched, tell_late, late_crumb, admits, group_of, claim_for, note_trigger, count_admitted, admit, take_input, give_back, take_answer, after_event, abandon, sheets_of, brought_by}
use Rattle.hs_law_agent.specs.Laws.{noted_as, EventsAddThis}
use Rattle.hs_law_agent.proofs.Traversal.{evict_loop, abandon_loop, visit_loop, claim_loop}

moved_same : (from : ℕ) (places : List ℕ) (change : ChunkStanding → ChunkStanding) (taken : List Taken) → sheets_of (moved_from from places change taken) ≡ sheets_of taken
moved_same from places change [] = refl
moved_same from places change (chunk ∷ taken) =
    ap (λ rest. (cond (is_among places from) (record chunk { standing = change chunk.standing }) chunk).sheet ∷ rest) (moved_same (suc from) places change taken)
    ∙ ap (λ (sheet : Sheet). sheet ∷ sheets_of taken) (either (is_among places from))
  where
    either : (b : Bool) → (cond b (record chunk { standing = change chunk.standing }) chunk).sheet ≡ chunk.sheet
    either true = refl
    either false = refl

module _ (sheets : List Sheet) (given : List GivenPlace) (log : List Step) where
  -- the pages, what was given back and the log are these
  record Has (u : AgentState) : Type 0 where
    sheets_are : sheets_of u.taken ≡ sheets
    given_is : u.given ≡ given
    log_is : u.log ≡ log

  module _ (settings : PlainSettings) where
    evict_has : (u : AgentState) → Has u → Has (evict settings u)
    evict_has u h =
        evict_loop settings Has (λ trace later v f over p. record { sheets_are = moved_same 0 _ _ v.taken ∙ p.sheets_are; given_is = p.given_is; log_is = p.log_is }) u.touched u refl h

    abandon_has : (u : AgentState) → Has u → Has (abandon settings u)
    abandon_has u h = abandon_loop settings Has (λ group v f p. record { sheets_are = moved_same 0 _ _ v.taken ∙ p.sheets_are; given_is = p.given_is; log_is = p.log_is }) u.pinned u h

    claim_for_has : (ask : Ask) (u : AgentState) → Has u → Has (claim_for settings ask u)
    claim_for_has ask u h =
        abandon_has (claim_each ask u)
        (claim_loop Has (λ ask trace v free p. record { sheets_are = moved_same 0 _ _ v.taken ∙ p.sheets_are; given_is = p.given_is; log_is = p.log_is }) ask (traces_of ask) u h)

    turn_has : (u : AgentState) → Has u → Has (take_input settings 0 u Turn)
    turn_has u h =
        let v = visit_loop settings Has (λ w share p. record { sheets_are = moved_same 0 _ _ w.taken ∙ p.sheets_are; given_is = p.given_is; log_is = p.log_is }) u.shares u h in
        record { sheets_are = v.sheets_are; given_is = v.given_is; log_is = v.log_is }

    trigger_has : (node : ℕ) (trigger : Trigger) (u : AgentState) → Has u → Has (take_input settings node u (Triggered 0 trigger))
    trigger_has node trigger u h = either (admits settings u.tried trigger)
      where
        noted : Has (note_trigger trigger u)
        noted = record { sheets_are = h.sheets_are; given_is = h.given_is; log_is = h.log_is }

        either : (b : Bool) → Has (cond b (admit settings node trigger (note_trigger trigger u)) (note_trigger trigger u))
        either true =
            let c =
            claim_for_has (group_of node (note_trigger trigger u) trigger) (count_admitted (note_trigger trigger u)) (record { sheets_are = h.sheets_are; given_is = h.given_is; log_is = h.log_is })
            in
            record { sheets_are = c.sheets_are; given_is = c.given_is; log_is = c.log_is }
        either false = noted

    ask_has : (node : ℕ) (ask : Ask) (u : AgentState) → Has u → Has (take_input settings node u (Asked ask))
    ask_has node ask u h = let c = claim_for_has ask u h in record { sheets_are = c.sheets_are; given_is = c.given_is; log_is = c.log_is }

    crumb_has : (node : ℕ) (crumb : Crumb) (u : AgentState) → Has u → Has (take_input settings node u (Crumbed 0 crumb))
    crumb_has node crumb u h = claimed (claim_of u.claims crumb.trace)
      where
        late : (claim : ClaimedTrace) (b : Bool) → Has (cond b u (tell_late crumb claim u))
        late claim true = h
        late claim false = record { sheets_are = h.sheets_are; given_is = h.given_is; log_is = h.log_is }

        claimed : (o : Option ClaimedTrace) → Has (option_map_or (λ claim. late_crumb crumb claim u) o (evict settings (with_touched crumb u)))
        claimed None = evict_has (with_touched crumb u) (record { sheets_are = h.sheets_are; given_is = h.given_is; log_is = h.log_is })
        claimed (Some claim) = late claim (has_crumb u.crumbs crumb)

module _ (settings : PlainSettings) (node : ℕ) (s : AgentState) where
  -- a chunk more has its page behind the others
  chunk_has : (sheet : Sheet) → Has (sheets_of s.taken ++ sheet ∷ []) s.given s.log (take_input settings node s (Chunk 0 sheet))
  chunk_has sheet = claimed (claim_of s.claims sheet.header.trace)
    where
      one_more : (standing : ChunkStanding) → sheets_of (s.taken ++ record { sheet = sheet; standing = standing } ∷ []) ≡ sheets_of s.taken ++ sheet ∷ []
      one_more standing = map-append (λ (chunk : Taken). chunk.sheet) s.taken (record { sheet = sheet; standing = standing } ∷ [])

      pinned : (claim : ClaimedTrace) (b : Bool) → Has (sheets_of s.taken ++ sheet ∷ []) s.given s.log (cond b (with_abandoned sheet claim.group s) (abandon settings (with_pinned sheet claim.group s)))
      pinned claim true = record { sheets_are = one_more _; given_is = refl; log_is = refl }
      pinned claim false =
          abandon_has (sheets_of s.taken ++ sheet ∷ []) s.given s.log settings (with_pinned sheet claim.group s) (record { sheets_are = one_more _; given_is = refl; log_is = refl })

      claimed : (o : Option ClaimedTrace) → Has (sheets_of s.taken ++ sheet ∷ []) s.given s.log (option_map_or (λ (claim : ClaimedTrace). pin_chunk settings sheet claim.group s) o (evict settings (with_indexed sheet s)))
      claimed None = evict_has (sheets_of s.taken ++ sheet ∷ []) s.given s.log settings (with_indexed sheet s) (record { sheets_are = one_more _; given_is = refl; log_is = refl })
      claimed (Some claim) = pinned claim (is_abandoned s.abandoned claim.group)

  stays : Has (sheets_of s.taken) s.given s.log s
  stays = record { sheets_are = refl; given_is = refl; log_is = refl }

  input_has : (input : Input) → Has (sheets_of s.taken ++ brought_by (Took input)) s.given s.log (take_input settings node s input)
  input_has (Chunk client sheet) = let h = chunk_has sheet in record { sheets_are = h.sheets_are; given_is = h.given_is; log_is = h.log_is }
  input_has (Crumbed client crumb) =
      let h = crumb_has (sheets_of s.taken) s.given s.log settings node crumb s stays in
      record { sheets_are = h.sheets_are ∙ sym (append-nil (sheets_of s.taken)); given_is = h.given_is; log_is = h.log_is }
  input_has (Triggered client trigger) =
      let h = trigger_has (sheets_of s.taken) s.given s.log settings node trigger s stays in
      record { sheets_are = h.sheets_are ∙ sym (append-nil (sheets_of s.taken)); given_is = h.given_is; log_is = h.log_is }
  input_has (Asked ask) =
      let h = ask_has (sheets_of s.taken) s.given s.log settings node ask s stays in
      record { sheets_are = h.sheets_are ∙ sym (append-nil (sheets_of s.taken)); given_is = h.given_is; log_is = h.log_is }
  input_has Turn =
      let h = turn_has (sheets_of s.taken) s.given s.log settings s stays in
      record { sheets_are = h.sheets_are ∙ sym (append-nil (sheets_of s.taken)); given_is = h.given_is; log_is = h.log_is }

  given_taken : (stamp : ℕ) (hand : List ℕ) → (give_back stamp hand s).taken ≡ s.taken
  given_taken stamp [] = refl
  given_taken stamp (place ∷ hand) = refl

  given_log : (stamp : ℕ) (hand : List ℕ) → (give_back stamp hand s).log ≡ s.log
  given_log stamp [] = refl
  given_log stamp (place ∷ hand) = refl

  answer_taken : (answer : Answered) → (take_answer s answer).taken ≡ s.taken
  answer_taken (Given stamp) = given_taken stamp s.hand
  answer_taken (Missed stamp) = refl
  answer_taken Unread = refl

  answer_log : (answer : Answered) → (take_answer s answer).log ≡ s.log
  answer_log (Given stamp) = given_log stamp s.hand
  answer_log (Missed stamp) = refl
  answer_log Unread = refl

pub events_add_this : EventsAddThis
events_add_this settings node s =
    record {
      chunks = chunks;
      given = λ input. (input_has settings node s input).given_is;
      log = log;
    }
  where
    chunks : (event : AgentEvent) → sheets_of (after_event settings node s event).taken ≡ sheets_of s.taken ++ brought_by event
    chunks (Took input) = (input_has settings node s input).sheets_are
    chunks (Gave answer) = ap sheets_of (answer_taken settings node s answer) ∙ sym (append-nil (sheets_of s.taken))

    log : (event : AgentEvent) → (after_event settings node s event).log ≡ s.log ++ noted_as event ∷ []
    log (Took input) = ap (λ (log : List Step). log ++ noted_as (Took input) ∷ []) (input_has settings node s input).log_is
    log (Gave answer) = ap (λ (log : List Step). log ++ noted_as (Gave answer) ∷ []) (answer_log settings node s answer)
