-- A chunk that was taken: what is kept then is what the model says.
use Rattle.std.proofs.Common.{◌≡◌, ◌≤◌, Bool, cond, [], ◌∷◌, ◌++◌, length, map, Some, None, sym, ap, subst, ◌∙◌}
use Rattle.hs_agent.proofs.Prelude.{option_map, option_map_or, option_and_then, by_answer, TraceId, Header, Sheet, used_of, header_of, Buffer, Claim, claim_of, pin_for, arrived, with_pin, Remembers, drops, relieved, AgentState, ClaimedTrace, is_abandoned, abandon, evict, with_indexed, with_pinned, with_abandoned, pin_chunk, take_chunk, Placed, placed_at, Kept, Holds, Point, plain_claim, let_go_all, abandoned_going, abandoned_for, noted, indexed, chunk_taken}
use Rattle.hs_index.specs.Index as index
use Rattle.hs_pins.specs.Remembered.{claim_for}
use Rattle.hs_agent.specs.Trying.{ComesToPins}
use Rattle.hs_agent.proofs.Arrived.{TakesOne, holds-arrived, holds-pinned, holds-dropped}
use Rattle.hs_agent.proofs.Crumbed.{claim_known}
use Rattle.hs_agent.proofs.Relieving.{holds-abandoned}
use Rattle.hs_agent.proofs.Returning.{back-for, arrived-for, goes-for}
use Rattle.hs_agent.proofs.Settling.{holds-settled}

module _ {L : Type 0} (old : Kept L) (point : Point L) (h : Holds old point) (buffer : Buffer L) (sheet : Sheet)
    (page : buffer.chunk.page ≡ Some sheet) (size : used_of sheet ≤ point.settings.size) (room : TakesOne old point h) where
  abbrev trace : TraceId
  trace = sheet.header.trace

  abbrev placed : Placed L
  placed = placed_at (length point.state.taken) buffer

  abbrev came : Kept L
  came = noted sheet.header old

  abbrev at : AgentState → Point L
  at state = record point { state = state; buffers = point.buffers ++ buffer ∷ [] }

  -- the model takes the page that came
  taken_by : chunk_taken buffer point
      ≡ at (option_map_or (λ (claim : ClaimedTrace). pin_chunk point.settings sheet claim.group point.state) (option_map plain_claim (claim_of h.memory.claims trace)) (evict point.settings (with_indexed sheet point.state)))
  taken_by =
      ap (λ s. at (take_chunk point.settings (option_map_or (λ sheet. sheet) s (record { header = record { trace = record { 0 = 0 }; client = record { node = 0; number = 0 }; page = 0; first = 0 }; pieces = [] })) point.state)) page
      ∙ ap (λ o. at (option_map_or (λ (claim : ClaimedTrace). pin_chunk point.settings sheet claim.group point.state) o (evict point.settings (with_indexed sheet point.state)))) (claim_known old point h trace)

  pub holds-taken_free : claim_of h.memory.claims trace ≡ None → Holds (indexed placed came) (chunk_taken buffer point)
  holds-taken_free free =
      subst (Holds (indexed placed came))
      (sym (taken_by ∙ ap (λ o. at (option_map_or (λ (claim : ClaimedTrace). pin_chunk point.settings sheet claim.group point.state) (option_map plain_claim o) (evict point.settings (with_indexed sheet point.state)))) free))
      (holds-settled (record came { index = index.arrived old.index placed }) (at (with_indexed sheet point.state)) (holds-arrived old point h buffer sheet page size room free))

  module _ (claim : Claim) (found : claim_of h.memory.claims trace ≡ Some claim) (new : Kept L) (arrives : ComesToPins h.memory placed came new) where
    abbrev taken : Bool → AgentState
    taken gone = cond gone (with_abandoned sheet claim.group point.state) (abandon point.settings (with_pinned sheet claim.group point.state))

    taken_now : chunk_taken buffer point ≡ at (taken (is_abandoned h.memory.abandoned claim.group))
    taken_now =
        taken_by
        ∙ ap (λ o. at (option_map_or (λ (c : ClaimedTrace). pin_chunk point.settings sheet c.group point.state) (option_map plain_claim o) (evict point.settings (with_indexed sheet point.state)))) found
        ∙ ap (λ gone. at (taken (is_abandoned gone claim.group))) (sym h.pins.abandoned)

    of_claim : claim_for h.memory.claims placed ≡ Some claim
    of_claim = ap (λ p. option_and_then (λ (header : Header). claim_of h.memory.claims header.trace) (option_map header_of p)) page ∙ found

    pub holds-taken_claimed : Holds new (chunk_taken buffer point)
    holds-taken_claimed =
        by_answer (is_abandoned h.memory.abandoned claim.group)
        (λ y.
        let back = back-for h.memory placed claim of_claim ∙ y in
        let remembers : Remembers new.pins h.memory = subst (Remembers new.pins) (ap (λ b. cond b h.memory (relieved (arrived h.memory placed))) back) arrives.remembers in
        let gone = goes-for h.memory placed claim of_claim ∙ ap (λ b. cond b (pin_for claim.group placed ∷ []) (drops (arrived h.memory placed))) y in
        subst (λ k. Holds k (chunk_taken buffer point)) (sym (arrives.gone ∙ ap (λ ps. let_go_all (record came { pins = new.pins }) (map abandoned_going ps)) gone))
        (subst (Holds (let_go_all (record came { pins = new.pins }) (record { buffer = placed; left = abandoned_for claim.group } ∷ []))) (sym (taken_now ∙ ap (λ b. at (taken b)) y))
        (holds-dropped old point h buffer sheet page size room claim.group new.pins remembers)))
        (λ n.
        let stays = back-for h.memory placed claim of_claim ∙ n in
        let pinned : arrived h.memory placed ≡ with_pin h.memory claim.group placed = arrived-for h.memory placed claim of_claim n in
        let between : Remembers arrives.between (with_pin h.memory claim.group placed) = subst (Remembers arrives.between) pinned arrives.arrives in
        let now = holds-pinned old point h buffer sheet page size room claim.group arrives.between between in
        let remembers : Remembers new.pins (relieved now.0.memory) =
        subst (Remembers new.pins) (ap (λ b. cond b h.memory (relieved (arrived h.memory placed))) stays ∙ ap relieved (pinned ∙ sym now.1)) arrives.remembers in
        let gone = goes-for h.memory placed claim of_claim ∙ ap (λ b. cond b (pin_for claim.group placed ∷ []) (drops (arrived h.memory placed))) n ∙ ap drops (pinned ∙ sym now.1) in
        subst (λ k. Holds k (chunk_taken buffer point)) (sym (arrives.gone ∙ ap (λ ps. let_go_all (record came { pins = new.pins }) (map abandoned_going ps)) gone))
        (subst (Holds (let_go_all (record came { pins = new.pins }) (map abandoned_going (drops now.0.memory)))) (sym (taken_now ∙ ap (λ b. at (taken b)) n))
        (holds-abandoned (record came { pins = arrives.between }) new.pins (at (with_pinned sheet claim.group point.state)) now.0 remembers)))
