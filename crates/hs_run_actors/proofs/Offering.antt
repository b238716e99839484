-- The agent offers the first of its hand to the pool.
use Rattle.std.proofs.Common.{◌≡◌, inl, inr, ℕ, zero, suc, ◌≤◌, true, false, List, [], ◌∷◌, ◌++◌, length, map, Option, Some, None, refl, sym, ap, ap₂, subst, ◌∙◌, arith, append-nil}
use Rattle.hs_run_actors.proofs.Prelude.{same_Some, slice_get, slice_set, IsSome, AllByRecursion, flat_map, option_and_then, option_map_or, option_map, all_append, all_at, MAX_PUBLISHED, asks_in, IsStamped, AreTurns, PlainAgent, sheet_in, AgentRun, Follows, Knows, after_offer, offered_next, state_of, Ask, Crumb, Trigger, EventsGoOn, StepsSayWhatTheyTell, brought_by, AgentState, start, Answered, Gave, PlainWorkload, Leased, Giving, Buffer, buffer_of, GiverTurn, answers_in, Held, AgentIs, IsPooled, IsPageThere, IsWithin, Label, label_of, run_at, state_at, Intake, Intakes, AreIntakesFor, PlainWorkingAgent, WorkingAgentStands, OffersNext, stamps_of, GiverGoesOn, IsOffer, lent_of, NodeWork, with_events}
use Rattle.std.proofs.lemmas.Option.{slice_get-map}
use Rattle.hs_law_journal.specs.Turns.{IsOffered, Offers}
use Rattle.hs_agent.specs.Runs.{after_answer, first_place}
use Rattle.hs_law_agent.specs.Stepping as model
use Rattle.hs_ring.specs.Parts.{after_turn}
use Rattle.hs_ring.specs.Parts as rings
use Rattle.hs_words.specs.Chunks.{Contents}
use Rattle.hs_words.specs.Ends.{Answer, answered, unread}
use Rattle.hs_words.specs.PoolHistory as pools
use Rattle.hs_words.specs.declared.token.Given.{Given}
use Rattle.hs_words.specs.declared.token.Given.TheVariants as given
use Rattle.hs_run_actors.specs.Turns.{was_read}
use Rattle.hs_run_actors.proofs.Stages.{with_none, asks_more, turns_came}
use Rattle.hs_run_actors.proofs.Taking.{brought_more, hands_gave}

-- ---- lists

module _ {A B : Type 0} (f : A → B) where
  -- what stands at a place of one of two lists with the same labels
  pub labelled_at : (xs ys : List A) (place : ℕ) (x : A) → map f xs ≡ map f ys → slice_get xs place ≡ Some x → (y : A) × (slice_get ys place ≡ Some y) × (f y ≡ f x)
  labelled_at [] ys place x e at = let none : None ≡ Some x = at in absurd cc
  labelled_at (z ∷ xs) [] place x e at = absurd cc
  labelled_at (z ∷ xs) (y ∷ ys) zero x e at =
      let first : f z ≡ f y = cc in
      (y, refl, sym first ∙ ap f (same_Some z x at))
  labelled_at (z ∷ xs) (y ∷ ys) (suc place) x e at = let rest : map f xs ≡ map f ys = cc in labelled_at xs ys place x rest at

  pub labels_set : (xs : List A) (place : ℕ) (x y : A) → slice_get xs place ≡ Some x → f y ≡ f x → map f (slice_set xs place y) ≡ map f xs
  labels_set [] place x y at e = refl
  labels_set (z ∷ xs) zero x y at e = ap (λ (b : B). b ∷ map f xs) (e ∙ ap f (sym (same_Some z x at)))
  labels_set (z ∷ xs) (suc place) x y at e = ap (λ (l : List B). f z ∷ l) (labels_set xs place x y at e)

pub all_set : {A : Type 0} (P : A → Type 0) (xs : List A) (place : ℕ) (y : A) → AllByRecursion P xs → P y → AllByRecursion P (slice_set xs place y)
all_set P [] place y all here = tt
all_set P (x ∷ xs) zero y all here = (here, all.1)
all_set P (x ∷ xs) (suc place) y all here = (all.0, all_set P xs place y all.1 here)

-- ---- the first of the hand

-- the buffer that is offered, at its place
pub record IsFirst (run : AgentRun Leased) (buffer : Buffer Leased) : Type 0 where
  pub place : ℕ
  pub first : first_place (state_of run) ≡ Some place
  pub at : slice_get run.buffers place ≡ Some buffer

pub first_is : (run : AgentRun Leased) (buffer : Buffer Leased) → Some buffer ≡ offered_next run → IsFirst run buffer
first_is run buffer e = at_place (first_place (state_of run)) refl e
  where
    at_place : (o : Option ℕ) → first_place (state_of run) ≡ o → Some buffer ≡ option_and_then (λ place. slice_get run.buffers place) o → IsFirst run buffer
    at_place None is none = absurd cc
    at_place (Some place) is there = record { place = place; first = is; at = sym there }

pub none_first : (state : AgentState) → state.hand ≡ [] → first_place state ≡ None
none_first state e = ap (λ (l : List ℕ). slice_get l 0) e

-- ---- an answer more

module _ (W : PlainWorkload) (work : NodeWork) (desk : PlainWorkingAgent) (lines : Intakes) (stands : WorkingAgentStands W work desk lines) where
  abbrev pub run : AgentRun Leased
  run = run_at W work stands.works.is.buffers None

  abbrev pub behind : Answered → NodeWork
  behind answer = with_events (Gave answer ∷ []) [] work

  -- the hand is empty
  pub none_offered : (agent' : PlainAgent Leased) → Follows agent' (after_offer run) → (state_of run).hand ≡ [] → OffersNext W work lines lines (record desk { agent = agent' }) false
  none_offered agent' follows none =
      let same : after_offer run ≡ run = ap (λ (o : Option ℕ). run_at W work stands.works.is.buffers o) (none_first (state_of run) none) in
      inr (
        record {
          gives =
              record {
                pool = refl;
                buffers = refl;
                size = refl;
                drawers = refl;
                floor = omega arith;
                above = tt;
                added = [];
                offers = tt;
                turns = refl;
              };
          only = refl;
          stands =
              subst (λ (w : NodeWork). WorkingAgentStands W w (record desk { agent = agent' }) lines) (sym (with_none work))
              (record {
                works =
                    record {
                      is =
                          record {
                            buffers = stands.works.is.buffers;
                            follows = subst (λ (r : AgentRun Leased). Follows agent' r) same follows;
                            labels = stands.works.is.labels;
                            pooled = stands.works.is.pooled;
                            pages = stands.works.is.pages;
                            sheets = stands.works.is.sheets;
                            within = stands.works.is.within;
                            hands = stands.works.is.hands;
                          };
                      said_is = stands.works.said_is;
                    };
                asks_are = stands.asks_are;
                askable = stands.askable;
                lines_are = stands.lines_are;
                turns = stands.turns;
              });
        },
        none,
      )

  module _ (buffer : Buffer Leased) (first : IsFirst run buffer) where
    pub pooled_first : IsPooled W work.pool buffer
    pooled_first = all_at (IsPooled W work.pool) stands.works.is.buffers first.place buffer stands.works.is.pooled first.at

    pub is_offered : (agent' : PlainAgent Leased) → Follows agent' (after_offer run) → Knows agent' (λ (r : AgentRun Leased). IsSome r.offered)
    is_offered agent' follows = λ working. (after_offer run, follows, subst (λ (o : Option ℕ). IsSome o) (sym first.first) refl)

    -- the agent behind an answer, where its chunks stand in these buffers
    answered_is : EventsGoOn → (answer : Answered) (buffers : List (Buffer Leased)) (agent' : PlainAgent Leased) → Follows agent' (run_at W (behind answer) buffers None) → map label_of buffers ≡ map label_of stands.works.is.buffers
        → AllByRecursion (IsPooled W work.pool) buffers → AgentIs W (behind answer) None agent'
    answered_is go_on answer buffers agent' follows labels pooled =
        record {
          buffers = buffers;
          follows = follows;
          labels = labels ∙ stands.works.is.labels ∙ ap (map label_of) (sym (append-nil work.came));
          pooled = pooled;
          pages = all_append (IsPageThere W work.node work.pool) work.came [] stands.works.is.pages tt;
          sheets = ap (λ (l : List (Buffer Leased)). map sheet_in l) (append-nil work.came) ∙ stands.works.is.sheets ∙ sym (append-nil (flat_map brought_by work.events)) ∙ sym (brought_more work.events (Gave answer ∷ []));
          within = all_append (IsWithin W work.node) work.events (Gave answer ∷ []) stands.works.is.within (tt, tt);
          hands = hands_gave W.settings work.node (start W.settings) work.events answer stands.works.is.hands (subst (λ (o : Option ℕ). IsSome o) (sym first.first) refl);
        }

    answered_stands : EventsGoOn → StepsSayWhatTheyTell → (answer : Answered) (buffers : List (Buffer Leased)) (agent' : PlainAgent Leased) (lines' : Intakes) → Follows agent' (run_at W (behind answer) buffers None)
        → map label_of buffers ≡ map label_of stands.works.is.buffers → AllByRecursion (IsPooled W work.pool) buffers → lines'.giver.pool ≡ lines.giver.pool → lines'.giver.size ≡ lines.giver.size → lines' ≡ record lines { giver = lines'.giver }
        → AreTurns W.settings work.node (map lent_of (work.came ++ [])) (work.events ++ Gave answer ∷ []) lines'.giver.turns → WorkingAgentStands W (behind answer) (record desk { agent = agent' }) lines'
    answered_stands go_on says answer buffers agent' lines' follows labels pooled pool size only turns =
        let chunks : lines'.chunks ≡ lines.chunks = ap (λ (l : Intakes). l.chunks) only in
        let crumbs : lines'.crumbs ≡ lines.crumbs = ap (λ (l : Intakes). l.crumbs) only in
        let triggers : lines'.triggers ≡ lines.triggers = ap (λ (l : Intakes). l.triggers) only in
        record {
          works =
              record {
                is = answered_is go_on answer buffers agent' follows labels pooled;
                said_is = stands.works.said_is ∙ sym ((says W.settings work.node (state_at W work)).answers answer) ∙ ap (λ (s : AgentState). s.said) (sym (go_on W.settings work.node work.events (Gave answer ∷ [])));
              };
          asks_are = ap (λ (l : List Ask). l ++ desk.asks) (asks_more work.events (Gave answer ∷ []) ∙ append-nil (asks_in work.events)) ∙ stands.asks_are;
          askable = stands.askable;
          lines_are =
              record {
                pool_is = pool ∙ stands.lines_are.pool_is;
                size = size ∙ stands.lines_are.size;
                chunks = subst (λ (l : List (Intake (Buffer Leased))). AreIntakesFor W work.node work.pool l) (sym chunks) stands.lines_are.chunks;
                crumbs = subst (λ (l : List (Intake Crumb)). AreIntakesFor W work.node work.pool l) (sym crumbs) stands.lines_are.crumbs;
                triggers = subst (λ (l : List (Intake Trigger)). AreIntakesFor W work.node work.pool l) (sym triggers) stands.lines_are.triggers;
              };
          turns = turns;
        }

    turns_before : AreTurns W.settings work.node (map lent_of (work.came ++ [])) work.events lines.giver.turns
    turns_before = turns_came W.settings work.node work.came [] work.events lines.giver.turns stands.turns

    given_first : (stamp : ℕ) → IsOffered (map lent_of (work.came ++ [])) (state_at W work) (model.Given stamp) (answered (record { stamp = stamp; event = pools.Given buffer.chunk.number; draw = buffer.lease.draw }))
    given_first stamp =
        let labels = stands.works.is.labels ∙ ap (map label_of) (sym (append-nil work.came)) in
        let (b, at, same) = labelled_at label_of stands.works.is.buffers (work.came ++ []) first.place buffer labels first.at in (
          lent_of b,
          record { place = first.place; first = first.first; came = slice_get-map lent_of (work.came ++ []) first.place ∙ ap (option_map lent_of) at },
          ap (λ (l : Label). answered (record { stamp = stamp; event = pools.Given l.number; draw = l.lease.draw })) (sym same),
        )

    -- a giver behind a turn
    turned : (turn : GiverTurn) (floor : ℕ) (giver : Giving) (stamps : List ℕ) → giver ≡ after_turn lines.giver turn floor → lines.giver.floor ≤ floor → IsOffer turn → AllByRecursion (λ (stamp : ℕ). lines.giver.floor ≤ stamp) stamps → GiverGoesOn lines.giver giver stamps
    turned turn floor giver stamps is above offer all =
        record {
          pool = ap (λ (x : Giving). x.pool) is;
          buffers = ap (λ (x : Giving). x.buffers) is;
          size = ap (λ (x : Giving). x.size) is;
          drawers = ap (λ (x : Giving). x.drawers) is;
          floor = let same = ap (λ (x : Giving). x.floor) is in omega (arith, same, above);
          above = all;
          added = turn ∷ [];
          offers = (offer, tt);
          turns = ap (λ (x : Giving). x.turns) is;
        }

    -- what came back in place of the one that was offered
    put_back : (answer : Answered) (back : Buffer Leased) (agent' : PlainAgent Leased)
        → Follows agent' (run_at W (behind answer) (option_map_or (λ place. slice_set stands.works.is.buffers place back) (first_place (state_of run)) stands.works.is.buffers) None)
        → Follows agent' (run_at W (behind answer) (slice_set stands.works.is.buffers first.place back) None)
    put_back answer back agent' follows =
        subst (λ (o : Option ℕ). Follows agent' (run_at W (behind answer) (option_map_or (λ place. slice_set stands.works.is.buffers place back) o stands.works.is.buffers) None)) first.first follows

    back_label : (back : Buffer Leased) → back.chunk.number ≡ buffer.chunk.number → back.lease ≡ buffer.lease → label_of back ≡ label_of buffer
    back_label back number lease = ap₂ (λ (n : ℕ) (l : Leased). record { number = n; lease = l }) number lease

    module _ (go_on : EventsGoOn) (says : StepsSayWhatTheyTell) (agent' : PlainAgent Leased) (lines' : Intakes) (few : length (answers_in lines'.giver.turns) ≤ MAX_PUBLISHED) (only : lines' ≡ record lines { giver = lines'.giver }) where
      -- with a turn that has a stamp
      read : (answer : Answered) (a : Answer) (floor : ℕ) (buffers : List (Buffer Leased)) → IsStamped answer → lines'.giver ≡ after_turn lines.giver (answered a) floor → lines.giver.floor ≤ floor
          → AllByRecursion (λ (stamp : ℕ). lines.giver.floor ≤ stamp) (stamps_of (answer ∷ [])) → IsOffered (map lent_of (work.came ++ [])) (state_at W work) answer (answered a) → Follows agent' (run_at W (behind answer) buffers None)
          → map label_of buffers ≡ map label_of stands.works.is.buffers → AllByRecursion (IsPooled W work.pool) buffers → OffersNext W work lines lines' (record desk { agent = agent' }) true
      read answer a floor buffers stamped is above all answer_is follows labels pooled =
          let turns : lines'.giver.turns ≡ answered a ∷ lines.giver.turns = ap (λ (x : Giving). x.turns) is in (
            answer,
            stamped,
            record {
              gives = turned (answered a) floor lines'.giver (stamps_of (answer ∷ [])) is above tt all;
              only = only;
              stands =
                  answered_stands go_on says answer buffers agent' lines' follows labels pooled (ap (λ (x : Giving). x.pool) is) (ap (λ (x : Giving). x.size) is) only
                  (subst (λ (t : List GiverTurn). AreTurns W.settings work.node (map lent_of (work.came ++ [])) (work.events ++ Gave answer ∷ []) t) (sym turns) (Offers work.events lines.giver.turns answer (answered a) answer_is turns_before));
            },
            ap (λ (t : List GiverTurn). length (answers_in t)) turns,
            few,
          )

      pub offered_so : {g h : _} (held : Held Leased g) (answer : Given Leased h) → buffer_of held ≡ buffer → Follows agent' (after_answer (after_offer run) answer) → rings.Gives lines.giver held answer lines'.giver
          → OffersNext W work lines lines' (record desk { agent = agent' }) (was_read answer)
      offered_so held (given.Given stamp) same follows gives =
          let above = gives.1 in
          let is : lines'.giver ≡ after_turn lines.giver (answered (record { stamp = stamp; event = pools.Given buffer.chunk.number; draw = buffer.lease.draw })) (suc stamp) =
          gives.0 ∙ ap (λ (b : Buffer Leased). after_turn lines.giver (answered (record { stamp = stamp; event = pools.Given b.chunk.number; draw = b.lease.draw })) (suc stamp)) same in
          read (model.Given stamp) _ (suc stamp) stands.works.is.buffers tt is (omega (arith, above)) (above, tt) (given_first stamp) follows refl stands.works.is.pooled
      offered_so held (given.Missed back stamp) same follows gives =
          let above = gives.1 in
          let number : back.chunk.number ≡ buffer.chunk.number = ap (λ (c : Contents). c.number) gives.2 ∙ ap (λ (b : Buffer Leased). b.chunk.number) same in
          let size : back.chunk.size ≡ buffer.chunk.size = ap (λ (c : Contents). c.size) gives.2 ∙ ap (λ (b : Buffer Leased). b.chunk.size) same in
          let lease : back.lease ≡ buffer.lease = gives.3 ∙ ap (λ (b : Buffer Leased). b.lease) same in
          read (model.Missed stamp) _ (suc stamp) (slice_set stands.works.is.buffers first.place (buffer_of back)) tt gives.0 (omega (arith, above)) (above, tt) refl (put_back (model.Missed stamp) (buffer_of back) agent' follows)
          (labels_set label_of stands.works.is.buffers first.place buffer (buffer_of back) first.at (back_label (buffer_of back) number lease))
          (all_set (IsPooled W work.pool) stands.works.is.buffers first.place (buffer_of back) stands.works.is.pooled (record { size = size ∙ pooled_first.size; pool_is = ap (λ (l : Leased). l.pool) lease ∙ pooled_first.pool_is }))
      offered_so held (given.Unread back) same follows gives =
          let number : back.chunk.number ≡ buffer.chunk.number = ap (λ (c : Contents). c.number) gives.1 ∙ ap (λ (b : Buffer Leased). b.chunk.number) same in
          let size : back.chunk.size ≡ buffer.chunk.size = ap (λ (c : Contents). c.size) gives.1 ∙ ap (λ (b : Buffer Leased). b.chunk.size) same in
          let lease : back.lease ≡ buffer.lease = gives.2 ∙ ap (λ (b : Buffer Leased). b.lease) same in
          let turns : lines'.giver.turns ≡ unread ∷ lines.giver.turns = ap (λ (x : Giving). x.turns) gives.0 in
          inl (record {
            gives = turned unread lines.giver.floor lines'.giver [] gives.0 (omega arith) tt tt;
            only = only;
            stands =
                answered_stands go_on says model.Unread (slice_set stands.works.is.buffers first.place (buffer_of back)) agent' lines' (put_back model.Unread (buffer_of back) agent' follows)
                (labels_set label_of stands.works.is.buffers first.place buffer (buffer_of back) first.at (back_label (buffer_of back) number lease))
                (all_set (IsPooled W work.pool) stands.works.is.buffers first.place (buffer_of back) stands.works.is.pooled (record { size = size ∙ pooled_first.size; pool_is = ap (λ (l : Leased). l.pool) lease ∙ pooled_first.pool_is }))
                (ap (λ (x : Giving). x.pool) gives.0) (ap (λ (x : Giving). x.size) gives.0) only
                (subst (λ (t : List GiverTurn). AreTurns W.settings work.node (map lent_of (work.came ++ [])) (work.events ++ Gave model.Unread ∷ []) t) (sym turns) (Offers work.events lines.giver.turns model.Unread unread refl turns_before));
          })
