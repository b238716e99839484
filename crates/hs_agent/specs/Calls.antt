-- What any calls of an agent come to, from its beginning. Each leads the run on as the contract of that call says. What was told
-- in all of them, the steps in the log, and the state that the run has come to, are those of the model after the events among
-- these calls.
use Rattle.std.specs.Prelude.{◌≡◌, ◌≤◌, ℕ, List, [], ◌∷◌, ◌++◌, length, map, fold, flat_map, Option, None, refl}
use Rattle.std.proofs.Common.{append-nil, ap, sym}
use Rattle.std.specs.Option.{option_to_list}
use Rattle.hs_base.specs.declared.told.Told.{Told}
use Rattle.hs_records.specs.Plain.{PlainSettings}
use Rattle.hs_words.specs.Buffers.{Buffer}
use Rattle.hs_words.specs.declared.token.Given.{Given}
use Rattle.hs_law_agent.specs.Stepping.{Input, Chunk, Turn, Answered, AgentEvent, Took, Gave, told_by, after}
use Rattle.hs_law_agent.specs.Laws.{noted_as}
use Rattle.hs_agent.specs.declared.input.Input.{Input as Taken}
use Rattle.hs_agent.specs.Points.{sheet_in}
use Rattle.hs_agent.specs.Runs.{AgentRun, new_run, state_of, input_of, buffers_in, after_input, after_chunk, after_turn, after_offer, answer_of, back_in, with_back, after_answer}

-- an input, with the chunk that came if one did; an offer; or the pool's answer, with the chunk that came back if one did
pub data Call (L : Type 0) : Type 0 where
  Takes : (input : Input) (came : List (Buffer L)) → Call L
  Offers : Call L
  Answers : (answer : Answered) (back : Option (Buffer L)) → Call L

abbrev pub after_call : {L : Type 0} → AgentRun L → Call L → AgentRun L
after_call run (Takes input came) = record run { events = run.events ++ Took input ∷ []; buffers = run.buffers ++ came }
after_call run Offers = after_offer run
after_call run (Answers answer back) = record run { events = run.events ++ Gave answer ∷ []; buffers = with_back run back; offered = None }

-- the runs to which the contracts of `step` and `gave` lead
a_step_takes : {L : Type 0} {g : _} → (run : AgentRun L) (input : Taken L g) → after_input run input ≡ after_call run (Takes (input_of input) (buffers_in input))
a_step_takes run input = refl

-- `take_chunk` and `turn` lead to the same runs as `step` of these inputs, of which nothing is told
a_chunk_is_taken : {L : Type 0} → (run : AgentRun L) (client : ℕ) (buffer : Buffer L) → after_chunk run client buffer ≡ after_call run (Takes (Chunk client (sheet_in buffer)) (buffer ∷ []))
a_chunk_is_taken run client buffer = refl

a_turn_is_made : {L : Type 0} → (run : AgentRun L) → after_turn run ≡ after_call run (Takes Turn [])
a_turn_is_made run = ap (λ buffers. record (after_turn run) { buffers = buffers }) (sym (append-nil run.buffers))

they_tell_nothing : {L : Type 0} → (run : AgentRun L) (client : ℕ) (buffer : Buffer L) → (told_by run.settings run.node (state_of run) (Chunk client (sheet_in buffer)) ≡ None) × (told_by run.settings run.node (state_of run) Turn ≡ None)
they_tell_nothing run client buffer = (refl, refl)

an_answer_comes : {L : Type 0} {g : _} → (run : AgentRun L) (given : Given L g) → after_answer run given ≡ after_call run (Answers (answer_of given) (back_in given))
an_answer_comes run given = refl

-- the run after these calls
abbrev pub run_after : {L : Type 0} → PlainSettings → ℕ → List (Call L) → AgentRun L
run_after settings node calls = fold after_call (new_run settings node) calls

-- ---- what the calls were

abbrev pub events_in : {L : Type 0} → Call L → List AgentEvent
events_in (Takes input came) = Took input ∷ []
events_in Offers = []
events_in (Answers answer back) = Gave answer ∷ []

abbrev pub events_of : {L : Type 0} → List (Call L) → List AgentEvent
events_of calls = flat_map events_in calls

-- what a call tells the coordinator
abbrev pub told_at : {L : Type 0} → AgentRun L → Call L → List Told
told_at run (Takes input came) = option_to_list (told_by run.settings run.node (state_of run) input)
told_at run Offers = []
told_at run (Answers answer back) = []

-- and what these calls tell, one after another
abbrev pub told_from : {L : Type 0} → AgentRun L → List (Call L) → List Told
told_from run [] = []
told_from run (call ∷ calls) = told_at run call ++ told_from (after_call run call) calls

-- ---- what they come to

pub record MeetsModel {L : Type 0} (settings : PlainSettings) (node : ℕ) (calls : List (Call L)) : Type 0 where
  pub state : state_of (run_after settings node calls) ≡ after settings node (events_of calls)
  pub told : told_from (new_run {L = L} settings node) calls ≡ (after settings node (events_of calls)).said
  pub log : (after settings node (events_of calls)).log ≡ map noted_as (events_of calls)

-- No more triggers are admitted than there were events.
abbrev pub FewAreAdmitted : Type 0
FewAreAdmitted = (settings : PlainSettings) (node : ℕ) (events : List AgentEvent) → (after settings node events).admitted ≤ length events
