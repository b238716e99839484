-- The acts of a node in its agent's model: they lead where the model's acts lead, and bring the pages of the chunks that they take.
use Rattle.std.proofs.Common.{◌≡◌, ℕ, Bool, true, false, cond, List, [], ◌∷◌, ◌++◌, map, Option, Some, refl, sym, ap, subst, ◌∙◌, append_assoc, append-nil, slice_get}
use Rattle.std.specs.Option.{option_map_or}
use Rattle.std.proofs.lemmas.Bool.{cond-true}
use Rattle.std.proofs.lemmas.List.Elements.{filter_map-append}
use Rattle.std.proofs.lemmas.List.Sums.{fold-append}
use Rattle.hs_base.proofs.Parts.{map_append}
use Rattle.hs_base.proofs.Alls.{all_at}
use Rattle.hs_base.proofs.Places.{get_map, get_unmap}
use Rattle.hs_base.specs.declared.told.Trigger.{Trigger}
use Rattle.hs_records.specs.Plain.{PlainSettings}
use Rattle.hs_words.specs.Pages.{Sheet}
use Rattle.hs_ring.specs.Parts.{Leased}
use Rattle.hs_law_agent.specs.Standings.{ChunkStanding, Indexed, Pinned, Reported, Evicted, Abandoned, Taken, trace_of, is_pinned, is_reported, is_let_go}
use Rattle.hs_law_agent.specs.State.{AgentState, start}
use Rattle.hs_law_agent.specs.Stepping.{AgentEvent, Took, Gave, Triggered, after_from}
use Rattle.hs_law_agent.specs.Laws.{EventsAddThis, WasOver, brought_by, sheets_of}
use Rattle.hs_law_agent.specs.Lives.{EventsLeadOn, GoesOnWell, HeldByClaim, IsGood, LivesGoOnWell, forget_group, is_settled}
use Rattle.hs_law_agent.specs.Lives as model
use Rattle.hs_agent.specs.Points.{sheet_in}
use Rattle.hs_agent.specs.Runs.{AgentRun, bare_run, state_of}
use Rattle.hs_agent.specs.Tries.{after_trigger}
use Rattle.hs_intake.specs.Intakes.{IntakeAct, TakesChunk, TakesCrumb, TakesTrigger, TakesAsk, Turns, LetsGo, Forgets, after_act, life, has_left}
use Rattle.hs_law_agent.specs.Stepping as steps
use Rattle.hs_law_life.specs.NodeLives.{IsSettledAt, AreSettled, model_of, model_in, takings, taking_of, Taking, page_of, state_by, IsCounted, HasFate, IsFound, IsWell}

-- ---- settings

pub settings_kept : (run : AgentRun Leased) (act : IntakeAct) → (after_act run act).settings ≡ run.settings
settings_kept run (TakesChunk client buffer) = refl
settings_kept run (TakesCrumb client crumb) = refl
settings_kept run (TakesTrigger client trigger) = go (has_left run)
  where
    go : (b : Bool) → (cond b (after_trigger run client trigger) run).settings ≡ run.settings
    go true = refl
    go false = refl
settings_kept run (TakesAsk ask) = refl
settings_kept run Turns = refl
settings_kept run (LetsGo answer back) = refl
settings_kept run (Forgets group) = refl

pub node_kept : (run : AgentRun Leased) (act : IntakeAct) → (after_act run act).node ≡ run.node
node_kept run (TakesChunk client buffer) = refl
node_kept run (TakesCrumb client crumb) = refl
node_kept run (TakesTrigger client trigger) = go (has_left run)
  where
    go : (b : Bool) → (cond b (after_trigger run client trigger) run).node ≡ run.node
    go true = refl
    go false = refl
node_kept run (TakesAsk ask) = refl
node_kept run Turns = refl
node_kept run (LetsGo answer back) = refl
node_kept run (Forgets group) = refl

-- ---- one act

trigger_step : EventsLeadOn → (run : AgentRun Leased) (client : ℕ) (trigger : Trigger) (b : Bool)
    → state_of (cond b (after_trigger run client trigger) run)
    ≡ model.life_from run.settings run.node (state_of run) (cond b (model.Does (Took (Triggered client trigger)) ∷ []) [])
trigger_step on run client trigger true = on run.settings run.node run.start run.events (Took (Triggered client trigger) ∷ [])
trigger_step on run client trigger false = refl

own_step : EventsLeadOn → (run : AgentRun Leased) (act : IntakeAct) → IsSettledAt run act → state_of (after_act run act) ≡ model.life_from run.settings run.node (state_of run) (model_of run act)
own_step on run (TakesChunk client buffer) settled = on run.settings run.node run.start run.events (Took (steps.Chunk client (sheet_in buffer)) ∷ [])
own_step on run (TakesCrumb client crumb) settled = on run.settings run.node run.start run.events (Took (steps.Crumbed client crumb) ∷ [])
own_step on run (TakesTrigger client trigger) settled = trigger_step on run client trigger (has_left run)
own_step on run (TakesAsk ask) settled = on run.settings run.node run.start run.events (Took (steps.Asked ask) ∷ [])
own_step on run Turns settled = on run.settings run.node run.start run.events (Took steps.Turn ∷ [])
own_step on run (LetsGo answer back) settled = on run.settings run.node run.start run.events (Gave answer ∷ [])
own_step on run (Forgets group) settled = sym (cond-true (is_settled group (state_of run)) (forget_group group (state_of run)) (state_of run) settled)

pub state_step : EventsLeadOn → (settings : PlainSettings) (node : ℕ) (run : AgentRun Leased) (act : IntakeAct) → run.settings ≡ settings → run.node ≡ node → IsSettledAt run act
    → state_of (after_act run act) ≡ model.life_from settings node (state_of run) (model_of run act)
state_step on settings node run act same number settled =
    own_step on run act settled
    ∙ ap (λ (s : PlainSettings). model.life_from s run.node (state_of run) (model_of run act)) same
    ∙ ap (λ (n : ℕ). model.life_from settings n (state_of run) (model_of run act)) number

-- ---- any acts

pub model_life : EventsLeadOn → (settings : PlainSettings) (node : ℕ) (acts : List IntakeAct) (run : AgentRun Leased) → run.settings ≡ settings → run.node ≡ node → AreSettled run acts
    → state_of (life run acts) ≡ model.life_from settings node (state_of run) (model_in run acts)
model_life on settings node [] run same number settled = refl
model_life on settings node (act ∷ acts) run same number settled =
    model_life on settings node acts (after_act run act) (settings_kept run act ∙ same) (node_kept run act ∙ number) settled.1
    ∙ ap (λ (s : AgentState). model.life_from settings node s (model_in (after_act run act) acts)) (state_step on settings node run act same number settled.0)
    ∙ sym (fold-append (model.after_act settings node) (state_of run) (model_of run act) (model_in (after_act run act) acts))

pub good_life : (settings : PlainSettings) (node : ℕ) → GoesOnWell settings node → (acts : List model.Act) (state : AgentState) → IsGood settings state → IsGood settings (model.life_from settings node state acts)
good_life settings node well [] state good = good
good_life settings node well (act ∷ acts) state good = good_life settings node well acts (model.after_act settings node state act) (well.goes_on state act good)

-- ---- pages

event_pages : EventsLeadOn → EventsAddThis → (run : AgentRun Leased) (event : AgentEvent)
    → sheets_of (after_from run.settings run.node run.start (run.events ++ event ∷ [])).taken ≡ sheets_of (state_of run).taken ++ brought_by event
event_pages on add run event =
    ap (λ (s : AgentState). sheets_of s.taken) (on run.settings run.node run.start run.events (event ∷ [])) ∙ (add run.settings run.node (state_of run)).chunks event

pub act_pages : EventsLeadOn → EventsAddThis → (run : AgentRun Leased) (act : IntakeAct) → sheets_of (state_of (after_act run act)).taken ≡ sheets_of (state_of run).taken ++ map page_of (takings (act ∷ []))
act_pages on add run (TakesChunk client buffer) = event_pages on add run (Took (steps.Chunk client (sheet_in buffer)))
act_pages on add run (TakesCrumb client crumb) = event_pages on add run (Took (steps.Crumbed client crumb))
act_pages on add run (TakesTrigger client trigger) = go (has_left run)
  where
    go : (b : Bool) → sheets_of (state_of (cond b (after_trigger run client trigger) run)).taken ≡ sheets_of (state_of run).taken ++ []
    go true = event_pages on add run (Took (steps.Triggered client trigger))
    go false = sym (append-nil (sheets_of (state_of run).taken))
act_pages on add run (TakesAsk ask) = event_pages on add run (Took (steps.Asked ask))
act_pages on add run Turns = event_pages on add run (Took steps.Turn)
act_pages on add run (LetsGo answer back) = event_pages on add run (Gave answer)
act_pages on add run (Forgets group) = sym (append-nil (sheets_of (state_of run).taken))

pages_more : (act : IntakeAct) (acts : List IntakeAct) → map page_of (takings (act ∷ [])) ++ map page_of (takings acts) ≡ map page_of (takings (act ∷ acts))
pages_more act acts = sym (ap (λ (l : List Taking). map page_of l) (filter_map-append taking_of (act ∷ []) acts) ∙ map_append page_of (takings (act ∷ [])) (takings acts))

pub pages_taken : EventsLeadOn → EventsAddThis → (acts : List IntakeAct) (run : AgentRun Leased) → sheets_of (state_of (life run acts)).taken ≡ sheets_of (state_of run).taken ++ map page_of (takings acts)
pages_taken on add [] run = sym (append-nil (sheets_of (state_of run).taken))
pages_taken on add (act ∷ acts) run =
    pages_taken on add acts (after_act run act)
    ∙ ap (λ (l : List Sheet). l ++ map page_of (takings acts)) (act_pages on add run act)
    ∙ append_assoc (sheets_of (state_of run).taken) (map page_of (takings (act ∷ []))) (map page_of (takings acts))
    ∙ ap (λ (l : List Sheet). sheets_of (state_of run).taken ++ l) (pages_more act acts)

-- ---- the fate of a chunk

module _ (settings : PlainSettings) (state : AgentState) (good : IsGood settings state) (place : ℕ) (chunk : Taken) (at : slice_get state.taken place ≡ Some chunk) where
  abbrev count_by : (ChunkStanding → Bool) → ChunkStanding → ℕ
  count_by test standing = cond (test standing) 1 0

  -- how often the chunk stands in a list, which has each chunk that stands so once
  times : (test : ChunkStanding → Bool) (standing : ChunkStanding) → chunk.standing ≡ standing
      → cond (option_map_or (λ (c : Taken). test c.standing) (slice_get state.taken place) false) 1 0 ≡ count_by test standing
  times test standing is =
      ap (λ (o : Option Taken). cond (option_map_or (λ (c : Taken). test c.standing) o false) 1 0) at ∙ ap (λ (s : ChunkStanding). count_by test s) is

  counted : (standing : ChunkStanding) → chunk.standing ≡ standing → IsCounted state place (count_by is_pinned standing) (count_by is_let_go standing)
  counted standing is =
      record {
        pinned_is = good.places.pinned_each place ∙ times is_pinned standing is;
        gone_is = good.places.gone_each place ∙ times is_let_go standing is;
      }

  held : (standing : ChunkStanding) → chunk.standing ≡ standing → HeldByClaim state.claims (trace_of chunk) standing
  held standing is = subst (λ (s : ChunkStanding). HeldByClaim state.claims (trace_of chunk) s) is (all_at (λ (c : Taken). HeldByClaim state.claims (trace_of c) c.standing) state.taken place chunk good.held at)

  over : (standing : ChunkStanding) → chunk.standing ≡ standing → WasOver settings standing
  over standing is = subst (λ (s : ChunkStanding). WasOver settings s) is (all_at (λ (c : Taken). WasOver settings c.standing) state.taken place chunk good.over at)

  pub fate_of : (standing : ChunkStanding) → chunk.standing ≡ standing → HasFate settings state place (trace_of chunk) standing
  fate_of Indexed is = (held Indexed is, counted Indexed is)
  fate_of (Pinned group) is = (held (Pinned group) is, counted (Pinned group) is)
  fate_of (Reported group) is = (good.places.reported_each place ∙ times is_reported (Reported group) is, counted (Reported group) is)
  fate_of (Evicted chunks traces) is = (over (Evicted chunks traces) is, counted (Evicted chunks traces) is)
  fate_of (Abandoned group) is = counted (Abandoned group) is

found : (settings : PlainSettings) (state : AgentState) (acts : List IntakeAct) → IsGood settings state → sheets_of state.taken ≡ map page_of (takings acts) → (place : ℕ) (taking : Taking)
    → slice_get (takings acts) place ≡ Some taking → IsFound settings state place taking
found settings state acts good pages place taking there =
    let sheet : slice_get (sheets_of state.taken) place ≡ Some (page_of taking) =
    ap (λ (l : List Sheet). slice_get l place) pages ∙ get_map page_of (takings acts) place taking there in
    let one = get_unmap (λ (c : Taken). c.sheet) state.taken place (page_of taking) sheet in
    record { chunk = one.0; at = one.1; page = one.2; fate = fate_of settings state good place one.0 one.1 one.0.standing refl }

-- ---- a life

pub good_by : LivesGoOnWell → EventsLeadOn → (settings : PlainSettings) (node : ℕ) (acts : List IntakeAct) → AreSettled (bare_run settings node) acts → IsGood settings (state_by settings node acts)
good_by well on settings node acts settled =
    let goes = well settings node in
    subst (λ (s : AgentState). IsGood settings s) (sym (model_life on settings node acts (bare_run settings node) refl refl settled))
    (good_life settings node goes (model_in (bare_run settings node) acts) (start settings) goes.begins)

pub is_well : LivesGoOnWell → EventsLeadOn → EventsAddThis → (settings : PlainSettings) (node : ℕ) (acts : List IntakeAct) → AreSettled (bare_run settings node) acts → IsWell settings node acts
is_well well on add settings node acts settled =
    let good = good_by well on settings node acts settled in
    let pages : sheets_of (state_by settings node acts).taken ≡ map page_of (takings acts) = pages_taken on add acts (bare_run settings node) in
    record {
      model_is = model_life on settings node acts (bare_run settings node) refl refl settled;
      good = good;
      pages = pages;
      each = found settings (state_by settings node acts) acts good pages;
    }
