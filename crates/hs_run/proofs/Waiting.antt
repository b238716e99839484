-- What is left at a node that is not bare: an item, an ask, a message, or a chunk that can be reported. And what a pass makes of it.
use Rattle.std.proofs.Common.{◌≡◌, ◌⊎◌, inl, inr, ℕ, zero, suc, ◌+◌, ◌<◌, ◌≤◌, min, Bool, true, false, List, [], ◌∷◌, ◌++◌, length, refl, sym, ap, ◌∙◌, Some, arith, filter}
use Rattle.hs_run.proofs.Prelude.{AllByRecursion, length-append, length-map, slice_get, slice_get_within, same_Some, Told, Ask, Remaining, Key, Leased, Buffer, Messages, asks_in, crumbs_in, triggers_in, PlainWorkload, heard_of, PlainClosedAgent, IsClosedAgentBare, AllSent, IsClosedAgentAt, AllSents, PassedAlone, NodeWork, came_of, is_of, closed}
use Rattle.hs_base.specs.declared.limits.TheConstants.{MAX_TAKEN}
use Rattle.hs_law_agent.specs.Laws.{CanReport, EventsAddFew, EventsGoOn, StepsSayWhatTheyTell, TurnsReport}
use Rattle.hs_law_journal.specs.Doings.{chunks_in}
use Rattle.hs_run_actors.specs.Agents.{state_at}
use Rattle.hs_run_actors.specs.Coordinators.{all_empty, is_empty}
use Rattle.hs_run.specs.Moving.{IsSameDoing}
use Rattle.hs_run.proofs.Gains.{Gains, gains_even, gains_heard, gains_chunk, gains_crumb, gains_trigger, gains_ask, gains_report}

pub data Waits (W : PlainWorkload) (node : ℕ) (sents : AllSent) (heard : Messages) (work : NodeWork) : Type 0 where
  AChunk : (client : ℕ) → client < W.settings.clients → length (came_of client work) < length (sents.chunks client) → Waits W node sents heard work
  ACrumb : (client : ℕ) → client < W.settings.clients → length (crumbs_in client work.events) < length (sents.crumbs client) → Waits W node sents heard work
  ATrigger : (client : ℕ) → client < W.settings.clients → length (triggers_in client work.events) < length (sents.triggers client) → Waits W node sents heard work
  AnAsk : length (asks_in work.events) < length work.asked → Waits W node sents heard work
  AMessage : length (heard_of node heard) < length work.moved → Waits W node sents heard work
  APin : CanReport W.settings (state_at W work) → Waits W node sents heard work

-- ---- what is left

-- Of these links nothing is left, or something of one.
find_left : {T : Type 0} (before all : ℕ → List T) (rests : List (Remaining T Key)) → ((client : ℕ) (r : Remaining T Key) → slice_get rests client ≡ Some r → before client ++ r.items ≡ all client)
    → (AllByRecursion (λ (r : Remaining T Key). r.items ≡ []) rests) ⊎ ((client : ℕ) × (client < length rests) × (length (before client) < length (all client)))
find_left before all [] each = inl tt
find_left {T} before all (r ∷ rests) each = here r.items refl (find_left (λ client. before (suc client)) (λ client. all (suc client)) rests (λ client q at. each (suc client) q at))
  where
    here : (items : List T) → r.items ≡ items → (AllByRecursion (λ (r : Remaining T Key). r.items ≡ []) rests) ⊎ ((client : ℕ) × (client < length rests) × (length (before (suc client)) < length (all (suc client))))
        → (AllByRecursion (λ (r : Remaining T Key). r.items ≡ []) (r ∷ rests)) ⊎ ((client : ℕ) × (client < length (r ∷ rests)) × (length (before client) < length (all client)))
    here [] e (inl none) = inl (e, none)
    here [] e (inr some) = let low = some.1 in inr (suc some.0, omega (arith, low), some.2)
    here (x ∷ items) e rest =
        let whole = ap length (each 0 r refl) in
        let both = length-append (before 0) r.items in
        let long = ap length e in
        inr (0, omega arith, omega (arith, whole, both, long))

module _ (W : PlainWorkload) (node : ℕ) (sents : AllSents) (heard : Messages) (work : NodeWork) (shut : PlainClosedAgent) (at : IsClosedAgentAt W node sents work shut) (said : shut.said ≡ [])
    (reports : (place : ℕ) (others : List ℕ) → (state_at W work).pinned ≡ place ∷ others → CanReport W.settings (state_at W work))
  where
    abbrev Left : Type 0
    Left = Waits W node (sents node) heard work

    -- where a part is bare, or something waits
    pinned_or : (pinned : List ℕ) → (state_at W work).pinned ≡ pinned → ((state_at W work).pinned ≡ []) ⊎ Left
    pinned_or [] e = inl e
    pinned_or (place ∷ others) e = inr (APin (reports place others e))

    asks_or : (asks : List Ask) → shut.asks ≡ asks → (shut.asks ≡ []) ⊎ Left
    asks_or [] e = inl e
    asks_or (ask ∷ asks) e =
        let whole = ap length at.is.stands.asks_are in
        let both = length-append (asks_in work.events) shut.asks in
        let long = ap length e in
        inr (AnAsk (omega (arith, whole, both, long)))

    count_chunks : length shut.chunks ≡ W.settings.clients
    count_chunks = sym (length-map shut.chunks (λ (r : Remaining (Buffer Leased) Key). closed r)) ∙ at.is.stands.lines_are.chunks.count

    count_crumbs : length shut.crumbs ≡ W.settings.clients
    count_crumbs = sym (length-map shut.crumbs (λ (r : Remaining _ Key). closed r)) ∙ at.is.stands.lines_are.crumbs.count

    count_triggers : length shut.triggers ≡ W.settings.clients
    count_triggers = sym (length-map shut.triggers (λ (r : Remaining _ Key). closed r)) ∙ at.is.stands.lines_are.triggers.count

    pub node_waits : (IsClosedAgentBare W work shut → ⊥) → Left
    node_waits unbare =
        elim (find_left (λ client. came_of client work) (sents node).chunks shut.chunks at.is.left.chunks) [
          | inr some ↦ let low = some.1 in let count = count_chunks in AChunk some.0 (omega (arith, low, count)) some.2
          | inl chunks ↦
              elim (find_left (λ client. crumbs_in client work.events) (sents node).crumbs shut.crumbs at.is.left.crumbs) [
                | inr some ↦ let low = some.1 in let count = count_crumbs in ACrumb some.0 (omega (arith, low, count)) some.2
                | inl crumbs ↦
                    elim (find_left (λ client. triggers_in client work.events) (sents node).triggers shut.triggers at.is.left.triggers) [
                      | inr some ↦ let low = some.1 in let count = count_triggers in ATrigger some.0 (omega (arith, low, count)) some.2
                      | inl triggers ↦
                          elim (asks_or shut.asks refl) [
                            | inr left ↦ left
                            | inl asks ↦
                                elim (pinned_or (state_at W work).pinned refl) [
                                  | inr left ↦ left
                                  | inl pinned ↦ absurd (unbare (record { chunks = chunks; crumbs = crumbs; triggers = triggers; asks = asks; said = said; pinned = pinned }))
                                ]
                          ]
                    ]
              ]
        ]

-- a message that is not heard
pub find_told : (told : List (List Told)) → all_empty told ≡ false → (node : ℕ) × (first : Told) × (rest : List Told) × (slice_get told node ≡ Some (first ∷ rest))
find_told [] e = let never : true ≡ false = e in absurd cc
find_told ([] ∷ told) e = let later = find_told told e in (suc later.0, later.1, later.2, later.3)
find_told ((first ∷ rest) ∷ told) e = (0, first, rest, refl)

-- ---- a pass

module _ (add : EventsAddFew) (says : StepsSayWhatTheyTell) (on : EventsGoOn) (reports : TurnsReport) (W : PlainWorkload) (node : ℕ) (sents : AllSents) (old mid new : NodeWork) (giver giver' : _) (alone : PassedAlone W node sents old mid giver giver') (same : IsSameDoing mid new)
    (numbered : new.node ≡ old.node) (heard heard' : Messages) (low : length (heard_of node heard) ≤ length old.moved) (hears : min (length (heard_of node heard) + MAX_TAKEN) (length mid.moved) ≤ length (heard_of node heard'))
    (chunks_old : (client : ℕ) → length (chunks_in client old.events) ≡ length (came_of client old)) (chunks_new : (client : ℕ) → length (chunks_in client new.events) ≡ length (came_of client new))
  where
    abbrev before : ℕ
    before = length (heard_of node heard)

    abbrev behind : ℕ
    behind = length (heard_of node heard')

    grows : before ≤ behind
    grows = let more = alone.grows in omega (arith, hears, low, more)

    events : new.events ≡ old.events ++ alone.pass
    events = same.events ∙ alone.events

    pub pass_even : Gains W 0 old before new behind
    pass_even = gains_even add says on W old new numbered alone.pass events alone.ends.is_pass before behind grows

    pub pass_gains : Waits W node (sents node) heard old → Gains W 1 old before new behind
    pass_gains (AChunk client own less) =
        let t = (alone.takes client own).chunks in
        let came = ap (λ (l : List (Buffer Leased)). length (filter (is_of client) l)) same.came in
        let x = chunks_old client in
        let y = chunks_new client in
        gains_chunk add says on W old new numbered alone.pass events alone.ends.is_pass before behind grows client (omega (arith, t, came, x, y, less))
    pass_gains (ACrumb client own less) =
        let t = (alone.takes client own).crumbs in
        let is = ap (λ l. length (crumbs_in client l)) same.events in
        gains_crumb add says on W old new numbered alone.pass events alone.ends.is_pass before behind grows client (omega (arith, t, is, less))
    pass_gains (ATrigger client own less) =
        let t = (alone.takes client own).triggers in
        let is = ap (λ l. length (triggers_in client l)) same.events in
        gains_trigger add says on W old new numbered alone.pass events alone.ends.is_pass before behind grows client (omega (arith, t, is, less))
    pass_gains (AnAsk less) =
        let t = alone.asks in
        let is = ap (λ l. length (asks_in l)) same.events in
        gains_ask add says on W old new numbered alone.pass events alone.ends.is_pass before behind grows (omega (arith, t, is, less))
    pass_gains (AMessage less) = let more = alone.grows in gains_heard add says on W old new numbered alone.pass events alone.ends.is_pass before behind grows (omega (arith, hears, more, less))
    pass_gains (APin can) = gains_report add says on W old new numbered alone.pass events alone.ends.is_pass before behind grows reports can
