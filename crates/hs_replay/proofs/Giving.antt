-- What is in the hand goes back to the pool.
use Rattle.std.proofs.Common.{◌≡◌, ℕ, zero, suc, ◌+◌, ◌-◌, ◌<◌, ◌≤◌, ◌^◌, Bool, true, false, List, [], ◌∷◌, ◌++◌, length, map, take, reverse, Option, Some, None, inl, inr, refl, sym, ap, subst, ◌∙◌, arith, option_map, append-nil, slice_get, IsSome, count_by}
use Rattle.hs_replay.proofs.Prelude.{◌↔◌, range_with_len, option_and_then, cases_lt, same_Some, PlainAgent, take_whole, all_at, all_each, sheet_in, Follows, Knows, after_offer, offered_next, state_of, Step, Asks, taken, asks_to, is_from, NodeRun, event_of, perform, page_of, pool_history, taken_still, Machine, agents_give, heard_in, AgentsGiveSo, after_steps, StepByStep, EventsGoOn, EventsAddThis, StepsSayWhatTheyTell, sheets_of, AgentState, AgentEvent, after_event, Pool, IsAfter, PlainWorkload, DrawnPage, Buffer, Sheet, Told, PlainReplayNode, StandsStill, IsGiving, Remain, ReplayClientsStand, NodeIsAt, IsLent, run_of}
use Rattle.std.proofs.lemmas.List.{length-drop}
use Rattle.hs_base.proofs.Parts.{length_map}
use Rattle.hs_agent.specs.Placing.{place_of}
use Rattle.hs_agent.specs.Runs.{AgentRun, first_place}
use Rattle.hs_records.specs.declared.journal.Step.TheVariants as steps
use Rattle.hs_law_journal.specs.Pooled.{buffer_of, pool_events}
use Rattle.hs_law_run.specs.Lockstep.{give_steps}
use Rattle.hs_law_run.specs.Parts.{GivesNext, AgentGives}
use Rattle.hs_law_agent.specs.Standings.{Taken}
use Rattle.hs_law_agent.specs.Stepping.{Gave, Given}
use Rattle.hs_pool.specs.Pool.{IsGiven, IsOut, HasSize}
use Rattle.hs_words.specs.declared.token.Given.{Given as Answer}
use Rattle.hs_words.specs.declared.token.Given.TheVariants as answers
use Rattle.hs_words.specs.PoolHistory as pools
use Rattle.hs_replay.specs.Passing.{GivesNextOf}
use Rattle.hs_replay.proofs.Readying.{none_moves}
use Rattle.hs_replay.proofs.Passed.{with_steps_stand, restand}
use Rattle.hs_replay.proofs.Taken.{one_more}

-- what the pool's law says
abbrev pub WhatIsOut : Type 0
WhatIsOut = (pool : Pool) (history : List pools.PoolEvent) (number : ℕ) → IsAfter history pool → (IsOut pool number ↔ pools.MayFollow pool.buffers (reverse history) (pools.Given number))

-- ---- lists

take_one_more : {A : Type 0} (f : ℕ → A) (start count k : ℕ) → k < count → take (suc k) (map f (range_with_len start count)) ≡ take k (map f (range_with_len start count)) ++ f (start + k) ∷ []
take_one_more f start zero k low = absurd (omega (arith, low))
take_one_more f start (suc count) zero low = let same : start ≡ start + 0 = omega arith in ap (λ i. f i ∷ []) same
take_one_more f start (suc count) (suc k) low =
    let same : start + 1 + k ≡ start + suc k = omega arith in
    ap (λ (l : List _). f start ∷ l) (take_one_more f (start + 1) count k (omega (arith, low)) ∙ ap (λ i. take k (map f (range_with_len (start + 1) count)) ++ f i ∷ []) same)

-- the gives of a node, one more
pub gives_more : (start : NodeRun) (given : ℕ) → given < length start.state.hand
    → take (given + 1) (give_steps start) ≡ take given (give_steps start) ++ steps.Given (length (pool_events start) + given) ∷ []
gives_more start given low =
    let one_more : given + 1 ≡ suc given = omega arith in
    ap (λ k. take k (give_steps start)) one_more ∙ take_one_more (λ (stamp : ℕ). steps.Given stamp) (length (pool_events start)) (length start.state.hand) given low

count_gives : (start : NodeRun) → length (give_steps start) ≡ length start.state.hand
count_gives start = counted (λ (stamp : ℕ). steps.Given stamp) (length (pool_events start)) (length start.state.hand)
  where
    counted : {A : Type 0} (f : ℕ → A) (start count : ℕ) → length (map f (range_with_len start count)) ≡ count
    counted f start zero = refl
    counted f start (suc count) = let rest = counted f (start + 1) count in omega (arith, rest)

-- ---- the chunk that is offered

-- a place of the buffers has the chunk that was taken there
taken_there : (buffers : List (Buffer (Unit {0}))) (taken_chunks : List Taken) (place : ℕ) (buffer : Buffer (Unit {0})) → map sheet_in buffers ≡ sheets_of taken_chunks → slice_get buffers place ≡ Some buffer
    → (f : Sheet → Option DrawnPage) → option_and_then (λ (chunk : Taken). f chunk.sheet) (slice_get taken_chunks place) ≡ f (sheet_in buffer)
taken_there [] taken_chunks place buffer e at f = let none : None ≡ Some buffer = at in absurd cc
taken_there (b ∷ buffers) [] place buffer e at f = absurd cc
taken_there (b ∷ buffers) (chunk ∷ taken_chunks) zero buffer e at f =
    let first : sheet_in b ≡ chunk.sheet = cc in
    ap f (sym first) ∙ ap (λ (x : Buffer (Unit {0})). f (sheet_in x)) (same_Some b buffer at)
taken_there (b ∷ buffers) (chunk ∷ taken_chunks) (suc place) buffer e at f = let rest : map sheet_in buffers ≡ sheets_of taken_chunks = cc in taken_there buffers taken_chunks place buffer rest at f

module _ (W : PlainWorkload) (m : Machine) (n : ℕ) (start : NodeRun) (given : ℕ) (old : PlainReplayNode) (giving : IsGiving W m n start given old) where
  abbrev pub now : NodeRun
  now = giving.run

  abbrev pub held : List (Buffer (Unit {0}))
  held = giving.stands.agent.buffers

  -- the run of the agent before it offers
  abbrev pub before_offer : AgentRun (Unit {0})
  before_offer = run_of W.settings giving.run giving.stands.agent.buffers None

  hand_is : (state_of before_offer).hand ≡ now.state.hand
  hand_is = ap (λ (s : AgentState). s.hand) (sym giving.stands.agent.comes)

  -- what the law says of the next give
  abbrev law_at : AgentsGiveSo → AgentGives W m (agents_give W m) n start
  law_at so = so W giving.valid m giving.reached n start giving.at

  -- all is given where the hand is empty
  pub all_given : AgentsGiveSo → now.state.hand ≡ [] → given ≡ length start.state.hand
  all_given so empty =
      let within = giving.within in
      elim (cases_lt given (length start.state.hand)) [
        | inl low ↦
            let g = (law_at so).each given now low giving.by in
            let none : None ≡ Some g.place = ap (λ (l : List ℕ). slice_get l 0) (sym empty) ∙ g.first in
            absurd cc
        | inr high ↦ omega (arith, within, high)
      ]

  -- the agent and all other parts stand where they stood when nothing was offered
  pub none_offered : AgentsGiveSo → (agent : PlainAgent (Unit {0})) → Follows agent (after_offer before_offer) → (state_of before_offer).hand ≡ [] → IsGiving W m n start given (record old { agent = agent }) × (given ≡ length start.state.hand)
  none_offered so agent follows empty =
      let none : first_place (state_of before_offer) ≡ None = ap (λ (l : List ℕ). slice_get l 0) empty in (
        record {
          valid = giving.valid;
          reached = giving.reached;
          at = giving.at;
          within = giving.within;
          run = giving.run;
          by = giving.by;
          number = giving.number;
          stands =
              record {
                sends = giving.stands.sends;
                players = giving.stands.players;
                agent =
                    record {
                      buffers = held;
                      follows = subst (λ (o : Option ℕ). Follows agent (run_of W.settings giving.run held o)) none follows;
                      comes = giving.stands.agent.comes;
                      lent = giving.stands.agent.lent;
                      sheets = giving.stands.agent.sheets;
                    };
                pool = giving.stands.pool;
                asks = giving.stands.asks;
                said = giving.stands.said;
              };
        },
        all_given so (sym hand_is ∙ empty),
      )

  -- how many chunks are left in the hand
  pub hand_left : AgentsGiveSo → length old.agent.kept.hand ≡ length start.state.hand - given
  hand_left so =
      let kept = ap length giving.stands.agent.follows.stands.chunks.hand in
      let places = length_map place_of old.agent.kept.hand in
      let comes = ap length hand_is in
      let within = giving.within in
      elim (cases_lt given (length start.state.hand)) [
        | inl low ↦
            let hand = ap length ((law_at so).each given now low giving.by).hand in
            let rest = length-drop given start.state.hand in
            omega (arith, kept, places, comes, hand, rest)
        | inr high ↦
            let law = law_at so in
            let count : length (give_steps start) ≤ given = let all = count_gives start in omega (arith, all, high) in
            let same : Some now ≡ Some law.later = sym giving.by ∙ ap (λ (l : List Step). after_steps W.settings (heard_in W m.journal) l start) (take_whole (give_steps start) given count) ∙ law.gives in
            let empty = ap length (ap (λ (r : NodeRun). r.state.hand) (same_Some now law.later same) ∙ law.emptied) in
            omega (arith, kept, places, comes, empty, within, high)
      ]

  -- ---- a chunk was offered

  module _ (so : AgentsGiveSo) (buffer : Buffer (Unit {0})) (first : Some buffer ≡ offered_next before_offer) where
    offered_is : Some buffer ≡ option_and_then (λ place. slice_get held place) (slice_get now.state.hand 0)
    offered_is = first ∙ ap (λ (l : List ℕ). option_and_then (λ place. slice_get held place) (slice_get l 0)) hand_is

    some_left : given < length start.state.hand
    some_left =
        elim (cases_lt given (length start.state.hand)) [
          | inl low ↦ low
          | inr high ↦
              let law = law_at so in
              let count : length (give_steps start) ≤ given = let all = count_gives start in omega (arith, all, high) in
              let same : Some now ≡ Some law.later = sym giving.by ∙ ap (λ (l : List Step). after_steps W.settings (heard_in W m.journal) l start) (take_whole (give_steps start) given count) ∙ law.gives in
              let empty : now.state.hand ≡ [] = ap (λ (r : NodeRun). r.state.hand) (same_Some now law.later same) ∙ law.emptied in
              let none : Some buffer ≡ None = offered_is ∙ ap (λ (l : List ℕ). option_and_then (λ place. slice_get held place) (slice_get l 0)) empty in
              absurd cc
        ]

    abbrev g : GivesNext W m start now given
    g = (law_at so).each given now some_left giving.by

    there : slice_get held g.place ≡ Some buffer
    there = sym (offered_is ∙ ap (option_and_then (λ place. slice_get held place)) g.first)

    is_lent : IsLent W.settings now buffer
    is_lent = all_at (IsLent W.settings now) held g.place buffer giving.stands.agent.lent there

    number_is : g.buffer ≡ buffer.chunk.number
    number_is =
        same_Some g.buffer buffer.chunk.number
        (sym g.is ∙ ap (option_and_then (λ (d : DrawnPage). buffer_of d.draw)) (taken_there held now.state.taken g.place buffer giving.stands.agent.sheets there (page_of now)) ∙ is_lent.drawn)

    pub is_out : WhatIsOut → IsOut old.pool buffer.chunk.number
    is_out out =
        let may : pools.MayFollow old.pool.buffers (reverse (pool_history now)) (pools.Given buffer.chunk.number) =
        subst (λ b. pools.MayFollow b (reverse (pool_history now)) (pools.Given buffer.chunk.number)) (sym giving.stands.pool.buffers)
        (subst (λ k. pools.MayFollow W.settings.buffers (reverse (pool_history now)) (pools.Given k)) number_is g.may) in
        (out old.pool (pool_history now) buffer.chunk.number giving.stands.pool.after).1 may

    pub few_events : old.pool.events < 2 ^ 64 - 1
    few_events = let few = g.few in let events = giving.stands.pool.after.events in omega (arith, few, events)

    pub was_offered : (agent : PlainAgent (Unit {0})) → Follows agent (after_offer before_offer) → Knows agent (λ r. IsSome r.offered)
    was_offered agent follows = λ working. (after_offer before_offer, follows, subst (λ (o : Option ℕ). IsSome o) (sym (ap (λ (l : List ℕ). slice_get l 0) hand_is ∙ g.first)) refl)

    abbrev stamp : ℕ
    stamp = length (pool_events start) + given

    abbrev event : AgentEvent
    event = Gave (Given stamp)

    abbrev next : NodeRun
    next = perform W.settings [] now event

    ready : event_of now (heard_in W m.journal) (steps.Given stamp) ≡ Some event
    ready = ap (option_map (λ _. Gave (Given stamp))) g.first

    module _ (by_steps : StepByStep) (go_on : EventsGoOn) (adds : EventsAddThis) (says : StepsSayWhatTheyTell) (agent : PlainAgent (Unit {0})) (pool : Pool) (answered : ℕ) (stamped : answered ≡ old.pool.events)
        (follows : Follows agent (run_of W.settings (perform W.settings [] now (Gave (Given answered))) held None)) (after_give : IsAfter (pool_history now ++ pools.Given buffer.chunk.number ∷ []) pool)
        (buffers : pool.buffers ≡ old.pool.buffers) (size : HasSize W.settings.size old.pool → buffer.chunk.size ≡ W.settings.size → HasSize W.settings.size pool) where
      stamp_is : answered ≡ stamp
      stamp_is = let events = giving.stands.pool.after.events in let stamps = g.stamp in omega (arith, stamped, events, stamps)

      by_next : after_steps W.settings (heard_in W m.journal) (take (given + 1) (give_steps start)) start ≡ Some next
      by_next =
          ap (λ (l : List Step). after_steps W.settings (heard_in W m.journal) l start) (gives_more start given some_left)
          ∙ one_more by_steps W.settings (heard_in W m.journal) (take given (give_steps start)) (steps.Given stamp) start now event giving.by ready

      history_is : pool_history next ≡ pool_history now ++ pools.Given buffer.chunk.number ∷ []
      history_is = ap pool_history (same_Some next g.next (sym by_next ∙ g.gives)) ∙ g.history ∙ ap (λ k. pool_history now ++ pools.Given k ∷ []) number_is

      log_is : next.state.log ≡ now.state.log ++ steps.Given stamp ∷ []
      log_is = (adds W.settings now.node now.state).log event

      pub one_given : IsGiving W m n start (given + 1) (record old { agent = agent; pool = pool })
      one_given =
          record {
            valid = giving.valid;
            reached = giving.reached;
            at = giving.at;
            within = let low = some_left in omega (arith, low);
            run = next;
            by = by_next;
            number = giving.number;
            stands =
                record {
                  sends = giving.stands.sends;
                  players =
                      subst (λ (log : List Step). ReplayClientsStand W m now.node log old.players) (sym log_is)
                      (none_moves W m now.node now.state.log (steps.Given stamp) old.players (λ client. (refl, refl, refl)) giving.stands.players);
                  agent =
                      record {
                        buffers = held;
                        follows = subst (λ s. Follows agent (run_of W.settings (perform W.settings [] now (Gave (Given s))) held None)) stamp_is follows;
                        comes = ap (λ (s : AgentState). after_event W.settings now.node s event) giving.stands.agent.comes ∙ sym (go_on W.settings now.node now.events (event ∷ []));
                        lent = all_each (IsLent W.settings now) (IsLent W.settings next) held (λ b l. record { drawn = l.drawn; size = l.size }) giving.stands.agent.lent;
                        sheets = giving.stands.agent.sheets ∙ sym ((adds W.settings now.node now.state).chunks event ∙ append-nil (sheets_of now.state.taken));
                      };
                  pool =
                      record {
                        after = subst (λ (h : List pools.PoolEvent). IsAfter h pool) (sym history_is) after_give;
                        buffers = buffers ∙ giving.stands.pool.buffers;
                        size = size giving.stands.pool.size is_lent.size;
                      };
                  asks = subst (λ k. Remain k (asks_to now.node (heard_in W m.journal)) old.asks) (sym (ap (taken Asks) log_is ∙ taken_still Asks now.state.log (steps.Given stamp) refl)) giving.stands.asks;
                  said = subst (λ (l : List Told). Remain (count_by (is_from (record { 0 = now.node })) (heard_in W m.journal)) l old.said) (sym ((says W.settings now.node now.state).answers (Given stamp))) giving.stands.said;
                };
          }

-- the pool's answer is that the buffer was given
pub record WasGiven {g : _} (answer : Answer (Unit {0}) g) (stamp : ℕ) : Type 0 where
  pub stamp_in : ℕ
  pub is : answer ≡ answers.Given stamp_in
  pub stamped : stamp_in ≡ stamp

pub given_so : {g : _} (answer : Answer (Unit {0}) g) (stamp : ℕ) → IsGiven stamp answer → WasGiven answer stamp
given_so (answers.Given other) at is = record { stamp_in = other; is = refl; stamped = is }
given_so (answers.Missed back other) at is = absurd is
given_so (answers.Unread back) at is = absurd is

-- ---- the whole

-- nothing is given yet
pub begun : (W : PlainWorkload) (m : Machine) (n : ℕ) (node : PlainReplayNode) (still : StandsStill W m n node) → IsGiving W m n still.at.run 0 node
begun W m n node still =
    record {
      valid = still.valid;
      reached = still.reached;
      at = still.at.at;
      within = omega arith;
      run = still.at.run;
      by = refl;
      number = still.at.number;
      stands = still.at.stands;
    }

pub gave_all : AgentsGiveSo → (W : PlainWorkload) (m : Machine) (n : ℕ) (start : NodeRun) (given : ℕ) (node : PlainReplayNode) (giving : IsGiving W m n start given node) → given ≡ length start.state.hand → NodeIsAt W (agents_give W m) n node
gave_all so W m n start given node giving all =
    let law : AgentGives W m (agents_give W m) n start = so W giving.valid m giving.reached n start giving.at in
    let count : length (give_steps start) ≤ given = let every = count_gives start in omega (arith, all, every) in
    let by : Some giving.run ≡ Some law.later = sym giving.by ∙ ap (λ (l : List Step). after_steps W.settings (heard_in W m.journal) l start) (take_whole (give_steps start) given count) ∙ law.gives in
    let same : giving.run ≡ law.later = same_Some giving.run law.later by in
    record {
      run = law.later;
      at = law.node;
      number = ap (λ (r : NodeRun). r.node) (sym same) ∙ giving.number;
      stands =
          with_steps_stand W m _ (heard_in W (agents_give W m).journal) (pool_history law.later) law.later law.later.state.log node
          (restand W m (heard_in W m.journal) (heard_in W (agents_give W m).journal) (pool_history giving.run) (pool_history law.later) giving.run law.later node (sym law.heard) (ap pool_history same) same giving.stands);
    }

-- what a flag says
pub gave_one : (W : PlainWorkload) (m : Machine) (n : ℕ) (start : NodeRun) (given : ℕ) (node : PlainReplayNode) (flag : Bool) → flag ≡ true → GivesNextOf W m n start given node flag → IsGiving W m n start (given + 1) node
gave_one W m n start given node flag e gives = subst (GivesNextOf W m n start given node) e gives

pub gave_none : (W : PlainWorkload) (m : Machine) (n : ℕ) (start : NodeRun) (given : ℕ) (node : PlainReplayNode) (flag : Bool) → flag ≡ false → GivesNextOf W m n start given node flag
    → IsGiving W m n start given node × (given ≡ length start.state.hand)
gave_none W m n start given node flag e gives = subst (GivesNextOf W m n start given node) e gives
