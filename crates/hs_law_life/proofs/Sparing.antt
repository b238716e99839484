-- While a claim stands no chunk of its trace is evicted.
use Rattle.std.proofs.Common.{◌≡◌, ℕ, Bool, true, false, cond, ◌||◌, List, [], ◌∷◌, ◌++◌, map, Option, Some, None, refl, sym, ap, subst, ◌∙◌, slice_get}
use Rattle.std.specs.Prelude.{option_map}
use Rattle.std.specs.List.{AllByRecursion}
use Rattle.std.specs.Option.{option_map_or}
use Rattle.hs_base.proofs.Places.{get_front, get_map, get_unmap}
use Rattle.hs_base.specs.declared.ids.TraceId.{TraceId}
use Rattle.hs_base.specs.declared.told.Group.{Group}
use Rattle.hs_base.specs.declared.told.Trigger.{Trigger}
use Rattle.hs_base.specs.Ids.{same_trace}
use Rattle.hs_records.specs.Plain.{PlainSettings}
use Rattle.hs_words.specs.Pages.{Sheet}
use Rattle.hs_ring.specs.Parts.{Leased}
use Rattle.hs_law_agent.specs.Standings.{Taken, trace_of, is_of_trace, is_evicted, stands}
use Rattle.hs_law_agent.specs.State.{AgentState, ClaimedTrace, claim_of, is_claimed}
use Rattle.hs_law_agent.specs.Stepping.{AgentEvent, Took, Gave, Triggered, after_from}
use Rattle.hs_law_agent.specs.Stepping as steps
use Rattle.hs_law_agent.specs.Laws.{EventsAddThis, claiming_group, sheets_of}
use Rattle.hs_law_agent.specs.Lives.{ClaimsStand, EventsLeadOn, IsGood, LivesGoOnWell, NothingClaimedGoes}
use Rattle.hs_law_agent.specs.Lives as model
use Rattle.hs_agent.specs.Points.{sheet_in}
use Rattle.hs_agent.specs.Runs.{AgentRun, bare_run, state_of}
use Rattle.hs_agent.specs.Tries.{after_trigger}
use Rattle.hs_intake.specs.Intakes.{IntakeAct, TakesChunk, TakesCrumb, TakesTrigger, TakesAsk, Turns, LetsGo, Forgets, after_act, life, has_left}
use Rattle.hs_intake.proofs.Acts.{life_append}
use Rattle.hs_law_life.specs.NodeLives.{AreSettled, IsSettledAt, model_of, takings, page_of, run_by, state_by, Keeps, IsSpared}
use Rattle.hs_law_life.proofs.Acts.{settings_kept, state_step, good_life, good_by, act_pages}

-- ---- settled acts in two parts

pub settled_front : (xs ys : List IntakeAct) (run : AgentRun Leased) → AreSettled run (xs ++ ys) → AreSettled run xs
settled_front [] ys run settled = tt
settled_front (x ∷ xs) ys run settled = (settled.0, settled_front xs ys (after_act run x) settled.1)

pub settled_back : (xs ys : List IntakeAct) (run : AgentRun Leased) → AreSettled run (xs ++ ys) → AreSettled (life run xs) ys
settled_back [] ys run settled = settled
settled_back (x ∷ xs) ys run settled = settled_back xs ys (after_act run x) settled.1

pub settled_both : (xs ys : List IntakeAct) (run : AgentRun Leased) → AreSettled run xs → AreSettled (life run xs) ys → AreSettled run (xs ++ ys)
settled_both [] ys run first second = second
settled_both (x ∷ xs) ys run first second = (first.0, settled_both xs ys (after_act run x) first.1 second)

-- ---- a trace that a group claims

claimed_by_group : (claims : List ClaimedTrace) (trace : TraceId) (group : Group) → claiming_group claims trace ≡ Some group → is_claimed claims trace ≡ true
claimed_by_group [] trace group is = absurd cc
claimed_by_group (claim ∷ claims) trace group is = go (same_trace trace claim.trace) is (claimed_by_group claims trace group)
  where
    go : (b : Bool) → option_map (λ (c : ClaimedTrace). c.group) (cond b (Some claim) (claim_of claims trace)) ≡ Some group
        → (claiming_group claims trace ≡ Some group → is_claimed claims trace ≡ true) → (b || is_claimed claims trace) ≡ true
    go true is next = refl
    go false is next = next is

-- ---- a chunk of a trace stays one

of_some : (trace : TraceId) (o : Option Taken) → option_map_or (λ (c : Taken). same_trace trace (trace_of c)) o false ≡ true → (chunk : Taken) × (o ≡ Some chunk) × (same_trace trace (trace_of chunk) ≡ true)
of_some trace None is = absurd cc
of_some trace (Some chunk) is = (chunk, refl, is)

of_kept : (trace : TraceId) (old new : List Taken) (more : List Sheet) (place : ℕ) → sheets_of new ≡ sheets_of old ++ more → is_of_trace old trace place ≡ true → is_of_trace new trace place ≡ true
of_kept trace old new more place grown is =
    let one = of_some trace (slice_get old place) is in
    let there : slice_get (sheets_of new) place ≡ Some one.0.sheet =
    ap (λ (l : List Sheet). slice_get l place) grown ∙ get_front (sheets_of old) more place one.0.sheet (get_map (λ (c : Taken). c.sheet) old place one.0 one.1) in
    let later = get_unmap (λ (c : Taken). c.sheet) new place one.0.sheet there in
    ap (λ (o : Option Taken). option_map_or (λ (c : Taken). same_trace trace (trace_of c)) o false) later.1
    ∙ ap (λ (s : Sheet). same_trace trace s.header.trace) later.2 ∙ one.2

-- ---- one act

keeps_trigger : (group : Group) (client : ℕ) (trigger : Trigger) (b : Bool) → AllByRecursion (model.Keeps group) (cond b (model.Does (Took (Triggered client trigger)) ∷ []) [])
keeps_trigger group client trigger true = (tt, tt)
keeps_trigger group client trigger false = tt

keeps_by : (group : Group) (run : AgentRun Leased) (act : IntakeAct) → Keeps group act → AllByRecursion (model.Keeps group) (model_of run act)
keeps_by group run (TakesChunk client buffer) keeps = (tt, tt)
keeps_by group run (TakesCrumb client crumb) keeps = (tt, tt)
keeps_by group run (TakesTrigger client trigger) keeps = keeps_trigger group client trigger (has_left run)
keeps_by group run (TakesAsk ask) keeps = (tt, tt)
keeps_by group run Turns keeps = (tt, tt)
keeps_by group run (LetsGo answer back) keeps = (tt, tt)
keeps_by group run (Forgets other) keeps = (keeps, tt)

module _ (spares : NothingClaimedGoes) (on : EventsLeadOn) (run : AgentRun Leased) (good : IsGood run.settings (state_of run)) (trace : TraceId) (place : ℕ)
    (of : is_of_trace (state_of run).taken trace place ≡ true) (claimed : is_claimed (state_of run).claims trace ≡ true) where
  abbrev SameAt : AgentState → Type 0
  SameAt state = stands is_evicted state.taken place ≡ stands is_evicted (state_of run).taken place

  event_spares : (event : AgentEvent) → SameAt (after_from run.settings run.node run.start (run.events ++ event ∷ []))
  event_spares event =
      ap (λ (s : AgentState). stands is_evicted s.taken place) (on run.settings run.node run.start run.events (event ∷ []))
      ∙ (spares run.settings run.node (state_of run) good).events event place trace of claimed

  act_spares : (act : IntakeAct) → SameAt (state_of (after_act run act))
  act_spares (TakesChunk client buffer) = event_spares (Took (steps.Chunk client (sheet_in buffer)))
  act_spares (TakesCrumb client crumb) = event_spares (Took (steps.Crumbed client crumb))
  act_spares (TakesTrigger client trigger) = go (has_left run)
    where
      go : (b : Bool) → SameAt (state_of (cond b (after_trigger run client trigger) run))
      go true = event_spares (Took (Triggered client trigger))
      go false = refl
  act_spares (TakesAsk ask) = event_spares (Took (steps.Asked ask))
  act_spares Turns = event_spares (Took steps.Turn)
  act_spares (LetsGo answer back) = event_spares (Gave answer)
  act_spares (Forgets group) = refl

-- ---- any acts

module _ (well : LivesGoOnWell) (on : EventsLeadOn) (add : EventsAddThis) (spares : NothingClaimedGoes) (stand : ClaimsStand) (trace : TraceId) (group : Group) where
  spared_one : (run : AgentRun Leased) (act : IntakeAct) → IsGood run.settings (state_of run) → IsSettledAt run act → Keeps group act → claiming_group (state_of run).claims trace ≡ Some group
      → IsSpared trace group (state_of run) (state_of (after_act run act))
  spared_one run act good settled keeps claim =
      record {
        claim =
            ap (λ (s : AgentState). claiming_group s.claims trace) (state_step on run.settings run.node run act refl refl settled)
            ∙ stand run.settings run.node (state_of run) (model_of run act) trace group (keeps_by group run act keeps) claim;
        unevicted = λ place of. act_spares spares on run good trace place of (claimed_by_group (state_of run).claims trace group claim) act;
      }

  spared_all : (acts : List IntakeAct) (run : AgentRun Leased) → IsGood run.settings (state_of run) → AreSettled run acts → AllByRecursion (Keeps group) acts → claiming_group (state_of run).claims trace ≡ Some group
      → IsSpared trace group (state_of run) (state_of (life run acts))
  spared_all [] run good settled keeps claim = record { claim = claim; unevicted = λ place of. refl }
  spared_all (act ∷ acts) run good settled keeps claim =
      let one = spared_one run act good settled.0 keeps.0 claim in
      let good' : IsGood run.settings (state_of (after_act run act)) =
      subst (λ (s : AgentState). IsGood run.settings s) (sym (state_step on run.settings run.node run act refl refl settled.0))
      (good_life run.settings run.node (well run.settings run.node) (model_of run act) (state_of run) good) in
      let good'' : IsGood (after_act run act).settings (state_of (after_act run act)) =
      subst (λ (s : PlainSettings). IsGood s (state_of (after_act run act))) (sym (settings_kept run act)) good' in
      let rest = spared_all acts (after_act run act) good'' settled.1 keeps.1 one.claim in
      record {
        claim = rest.claim;
        unevicted = λ place of.
            rest.unevicted place (of_kept trace (state_of run).taken (state_of (after_act run act)).taken (map page_of (takings (act ∷ []))) place (act_pages on add run act) of)
            ∙ one.unevicted place of;
      }

settings_of_life : (acts : List IntakeAct) (run : AgentRun Leased) → (life run acts).settings ≡ run.settings
settings_of_life [] run = refl
settings_of_life (act ∷ acts) run = settings_of_life acts (after_act run act) ∙ settings_kept run act

pub spared_by : LivesGoOnWell → EventsLeadOn → EventsAddThis → NothingClaimedGoes → ClaimsStand → (settings : PlainSettings) (node : ℕ) (acts later : List IntakeAct) (trace : TraceId) (group : Group)
    → AreSettled (bare_run settings node) (acts ++ later) → AllByRecursion (Keeps group) later → claiming_group (state_by settings node acts).claims trace ≡ Some group
    → IsSpared trace group (state_by settings node acts) (state_by settings node (acts ++ later))
spared_by well on add spares stand settings node acts later trace group settled keeps claim =
    let good = good_by well on settings node acts (settled_front acts later (bare_run settings node) settled) in
    let good' : IsGood (run_by settings node acts).settings (state_by settings node acts) =
    subst (λ (s : PlainSettings). IsGood s (state_by settings node acts)) (sym (settings_of_life acts (bare_run settings node))) good in
    subst (λ (r : AgentRun Leased). IsSpared trace group (state_by settings node acts) (state_of r)) (sym (life_append acts later (bare_run settings node)))
    (spared_all well on add spares stand trace group later (run_by settings node acts) good' (settled_back acts later (bare_run settings node) settled) keeps claim)
