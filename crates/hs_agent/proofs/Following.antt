-- An agent follows its run from call to call.
use Rattle.std.proofs.Common.{◌≡◌, ◌≤◌, append-nil, ℕ, Bool, true, false, cond, List, [], ◌∷◌, ◌++◌, slice_set, Some, None, IsSome, refl, sym, ap, subst, ◌∙◌}
use Rattle.hs_agent.proofs.Prelude.{Step, Chunk, Crumbed, Triggered, Asked, Turn, back_after, came_back, fold-append, option_map_or, PlainSettings, Schedule, IsSchedule, Buffer, buffer_of, IsInOnePlace, PlacesMatch, EventsLeadOn, ListsGoOn, AgentState, Answered, Given, Missed, Unread, Took, Gave, note, step_of, take_input, step_of_answer, give_back, take_answer, after_gave, Kept, PlainAgent, Holds, Point, answered, AgentRun, input_of, taken_in, Follows, StandsAt, point_of, state_of, after_offer, Input}
use Rattle.hs_base.proofs.Options.{some_item}
use Rattle.hs_base.specs.declared.limits.TheConstants.{MOST_NODES}
use Rattle.hs_words.specs.declared.token.Given.{Given as Answer}
use Rattle.hs_words.specs.declared.token.Given.TheVariants as given
use Rattle.hs_law_agent.proofs.Bearing.{answer_shares}
use Rattle.hs_law_agent.specs.Stepping.{Input as Taken}
use Rattle.hs_agent.specs.Runs.{after_input, answer_of, back_in, with_back, after_answer, logged}
use Rattle.hs_agent.proofs.Unchanged.{input-log}
use Rattle.hs_agent.proofs.Offered.{holds-rest, holds-given, holds-back}

-- an answer leaves the log and the shares
given-log : (stamp : ℕ) (hand : List ℕ) (state : AgentState) → (give_back stamp hand state).log ≡ state.log
given-log stamp [] state = refl
given-log stamp (place ∷ hand) state = refl

given-shares : (stamp : ℕ) (hand : List ℕ) (state : AgentState) → (give_back stamp hand state).shares ≡ state.shares
given-shares stamp [] state = refl
given-shares stamp (place ∷ hand) state = refl

pub answer-log : (state : AgentState) (answer : Answered) → (take_answer state answer).log ≡ state.log
answer-log state (Given stamp) = given-log stamp state.hand state
answer-log state (Missed stamp) = refl
answer-log state Unread = refl

-- ---- the log

logged-more : (keeps : Bool) (log : List Step) (step : Step) → logged keeps (cond keeps log []) step ≡ cond keeps (log ++ step ∷ []) []
logged-more true log step = refl
logged-more false log step = refl

back-more : (log : List Step) (step : Step) → came_back (log ++ step ∷ []) ≡ back_after (came_back log) step
back-more log step = fold-append back_after false log (step ∷ [])

-- no input changes whether the first of the hand came back
back-input : (before : Bool) (input : Taken) → back_after before (step_of input) ≡ before
back-input before (Chunk client sheet) = refl
back-input before (Crumbed client crumb) = refl
back-input before (Triggered client trigger) = refl
back-input before (Asked ask) = refl
back-input before Turn = refl

module _ {L : Type 0} where
  -- a chunk is out
  pub offered-some : (kept : Kept L) (point : Point L) → Holds kept point → IsSome point.offered → IsSome kept.offered
  offered-some kept point h some = subst IsSome (sym h.offered) some

  module _ (agent next : PlainAgent L) (run : AgentRun L) (follows : Follows agent run) where
    pub follows-offered : next.schedule ≡ agent.schedule → next.log ≡ agent.log → next.keeps ≡ agent.keeps → next.spent ≡ agent.spent → Holds next.kept (point_of (after_offer run)) → Follows next (after_offer run)
    follows-offered schedule log keeps spent holds = record {
      working = spent ∙ follows.working;
      stands = record { chunks = holds; shares = schedule ∙ follows.stands.shares; is_schedule = subst IsSchedule (sym schedule) follows.stands.is_schedule; nodes = follows.stands.nodes };
      keeps = keeps ∙ follows.keeps;
      log = log ∙ follows.log;
      good = follows.good;
    }

    module _ (go_on : EventsLeadOn) (one : (place : ℕ) → IsInOnePlace (state_of run) place) (some : IsSome run.offered) where
      abbrev place : ℕ
      place = (some_item run.offered some).0

      out : run.offered ≡ Some place
      out = (some_item run.offered some).1

      -- a chunk came back, which leaves the state but for the log
      came : (buffer : Buffer L) (answer : Answered) → take_answer (state_of run) answer ≡ state_of run
          → Holds (answered (Some buffer) agent.kept) (record (point_of run) { state = after_gave (state_of run) answer; buffers = with_back run (Some buffer); offered = None; again = true })
      came buffer answer same =
          subst (λ bs. Holds (answered (Some buffer) agent.kept) (record (point_of run) { state = after_gave (state_of run) answer; buffers = bs; offered = None; again = true }))
          (sym (ap (λ o. option_map_or (λ p. slice_set run.buffers p buffer) o run.buffers) out))
          (subst (λ (s : AgentState). Holds (answered (Some buffer) agent.kept) (record (point_of run) { state = note (step_of_answer answer) s; buffers = slice_set run.buffers place buffer; offered = None; again = true })) (sym same)
          (holds-back agent.kept (point_of run) follows.stands.chunks one place out buffer (step_of_answer answer)))

      holds-answered : {g : _} → (answer : Answer L g)
          → Holds (answered (back_in answer) agent.kept) (record (point_of run) { state = after_gave (state_of run) (answer_of answer); buffers = with_back run (back_in answer); offered = None; again = back_after (came_back (state_of run).log) (step_of_answer (answer_of answer)) })
      holds-answered (given.Given stamp) = holds-given agent.kept (point_of run) follows.stands.chunks one place out stamp
      holds-answered {g} (given.Missed held stamp) = came (buffer_of {L = L} {g = g} held) (Missed stamp) refl
      holds-answered {g} (given.Unread held) = came (buffer_of {L = L} {g = g} held) Unread refl

      pub follows-answered : {g : _} → (answer : Answer L g) → next.kept ≡ answered (back_in answer) agent.kept → next.schedule ≡ agent.schedule
          → next.log ≡ logged agent.keeps agent.log (step_of_answer (answer_of answer)) → next.keeps ≡ agent.keeps → next.spent ≡ agent.spent → Follows next (after_answer run answer)
      follows-answered answer kept schedule log keeps spent =
          let state : AgentState = after_gave (state_of run) (answer_of answer) in
          let goes : state_of (after_answer run answer) ≡ state = go_on run.settings run.node run.start run.events (Gave (answer_of answer) ∷ []) in
          let logs : state.log ≡ (state_of run).log ++ step_of_answer (answer_of answer) ∷ [] = ap (λ l. l ++ step_of_answer (answer_of answer) ∷ []) (answer-log (state_of run) (answer_of answer)) in
          let again : back_after (came_back (state_of run).log) (step_of_answer (answer_of answer)) ≡ came_back (state_of (after_answer run answer)).log =
          sym (back-more (state_of run).log (step_of_answer (answer_of answer))) ∙ ap came_back (sym logs) ∙ ap (λ (s : AgentState). came_back s.log) (sym goes) in
          record {
            working = spent ∙ follows.working;
            stands = record {
              chunks =
                  subst (λ (s : AgentState × Bool). Holds next.kept (record (point_of run) { state = s.0; buffers = with_back run (back_in answer); offered = None; again = s.1 })) (λ i. (sym goes i, again i))
                  (subst (λ k. Holds k (record (point_of run) { state = state; buffers = with_back run (back_in answer); offered = None; again = back_after (came_back (state_of run).log) (step_of_answer (answer_of answer)) })) (sym kept)
                  (holds-answered answer));
              shares = schedule ∙ follows.stands.shares ∙ ap (λ shares. record { shares = shares; size = run.settings.size }) (sym (answer_shares (state_of run) (answer_of answer)) ∙ ap (λ (s : AgentState). s.shares) (sym goes));
              is_schedule = subst IsSchedule (sym schedule) follows.stands.is_schedule;
              nodes = follows.stands.nodes;
            };
            keeps = keeps ∙ follows.keeps;
            log =
                log
                ∙ (λ i. logged (follows.keeps i) (follows.log i) (step_of_answer (answer_of answer)))
                ∙ logged-more run.keeps (state_of run).log (step_of_answer (answer_of answer))
                ∙ ap (λ l. cond run.keeps l []) (sym logs ∙ ap (λ (s : AgentState). s.log) (sym goes));
            good = follows.good;
          }

    module _ (go_on : EventsLeadOn) where
      pub follows-taken : {g : _} → (input : Input L g) → StandsAt next.kept next.schedule (taken_in input (point_of run)) → next.log ≡ logged agent.keeps agent.log (step_of (input_of input)) → next.keeps ≡ agent.keeps
          → next.spent ≡ agent.spent → Follows next (after_input run input)
      follows-taken input stands log keeps spent =
          let state : AgentState = take_input run.settings run.node (state_of run) (input_of input) in
          let goes : state_of (after_input run input) ≡ note (step_of (input_of input)) state = go_on run.settings run.node run.start run.events (Took (input_of input) ∷ []) in
          let point : Point L = taken_in input (point_of run) in
          let step = step_of (input_of input) in
          let logs : state.log ++ step ∷ [] ≡ (state_of run).log ++ step ∷ [] = ap (λ l. l ++ step ∷ []) (input-log run.settings run.node (state_of run) (input_of input)) in
          let again : came_back (state_of run).log ≡ came_back (state_of (after_input run input)).log =
          sym (back-input (came_back (state_of run).log) (input_of input)) ∙ sym (back-more (state_of run).log step) ∙ ap came_back (sym logs) ∙ ap (λ (s : AgentState). came_back s.log) (sym goes) in
          record {
            working = spent ∙ follows.working;
            stands = record {
              chunks =
                  subst (λ (s : AgentState × Bool). Holds next.kept (record point { state = s.0; again = s.1 })) (λ i. (sym goes i, again i))
                  (holds-rest next.kept point state.said state.given (state.log ++ step_of (input_of input) ∷ []) state.shares stands.chunks);
              shares = stands.shares ∙ ap (λ (s : AgentState). record { shares = s.shares; size = run.settings.size }) (sym goes);
              is_schedule = stands.is_schedule;
              nodes = follows.stands.nodes;
            };
            keeps = keeps ∙ follows.keeps;
            log =
                log
                ∙ (λ i. logged (follows.keeps i) (follows.log i) step)
                ∙ logged-more run.keeps (state_of run).log step
                ∙ ap (λ l. cond run.keeps l []) (sym logs ∙ ap (λ (s : AgentState). s.log) (sym goes));
            good = follows.good;
          }

-- the lists of an agent's state have their chunks
module _ {L : Type 0} (last : ListsGoOn) (agent : PlainAgent L) (run : AgentRun L) (follows : Follows agent run) where
  pub places_now : PlacesMatch (state_of run)
  places_now = (last run.settings run.node run.start follows.good).events run.events

  pub one_place : (place : ℕ) → IsInOnePlace (state_of run) place
  one_place = (last run.settings run.node (state_of run) places_now).partition

-- the same shares, with other chunks
pub stands-then : {L : Type 0} (old new : Kept L) (schedule : Schedule) (point next : Point L) → StandsAt old schedule point → next.settings ≡ point.settings → next.state.shares ≡ point.state.shares → Holds new next → StandsAt new schedule next
stands-then old new schedule point next stands settings shares holds = record {
  chunks = holds;
  shares = stands.shares ∙ (λ i. record { shares = sym shares i; size = (sym settings i).size });
  is_schedule = stands.is_schedule;
  nodes = subst (λ (s : PlainSettings). s.nodes ≤ MOST_NODES) (sym settings) stands.nodes;
}

-- no chunk came
pub nothing-came : {L : Type 0} (kept : Kept L) (schedule : Schedule) (point : Point L) → StandsAt kept schedule point → StandsAt kept schedule (record point { buffers = point.buffers ++ [] })
nothing-came kept schedule point stands = subst (λ bs. StandsAt kept schedule (record point { buffers = bs })) (sym (append-nil point.buffers)) stands
