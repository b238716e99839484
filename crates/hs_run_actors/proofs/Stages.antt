-- The stages of a pass, item by item.
use Rattle.std.proofs.Common.{◌≡◌, ℕ, ◌+◌, List, [], ◌∷◌, ◌++◌, refl, sym, ap, subst, ◌∙◌, append_assoc, append-nil, ap₂, cond, map}
use Rattle.hs_run_actors.proofs.Prelude.{map-append, sum_by-append, Ask, ask_in, asks_in, AreTurns, Input, AgentEvent, Took, PlainSettings, PlainWorkload, Leased, Buffer, GiverTurn, AgentWorks, Intakes, AreIntakes, PlainWorkingAgent, WorkingAgentStands, lent_of, NodeWork, with_events, is_triggered, triggered}
use Rattle.hs_agent.specs.Keeping.{PlainAgent}
use Rattle.hs_agent.specs.Runs.{Follows, new_run}
use Rattle.hs_base.specs.declared.told.Told.{Told}
use Rattle.hs_law_journal.specs.Turns.{Lent, Begins, Takes}
use Rattle.hs_law_journal.proofs.Lents.{turns_more}
use Rattle.hs_run_actors.specs.Work.{no_work}
use Rattle.hs_words.specs.Pools.{PoolName}

-- ---- work

pub with_none : (work : NodeWork) → with_events [] [] work ≡ work
with_none work = ap₂ (λ (events : List AgentEvent) (came : List (Buffer Leased)). record work { events = events; came = came }) (append-nil work.events) (append-nil work.came)

pub with_more : (work : NodeWork) (events more : List AgentEvent) (came others : List (Buffer Leased)) → with_events more others (with_events events came work) ≡ with_events (events ++ more) (came ++ others) work
with_more work events more came others =
    ap₂ (λ (e : List AgentEvent) (c : List (Buffer Leased)). record work { events = e; came = c }) (append_assoc work.events events more) (append_assoc work.came came others)

pub asks_more : (events more : List AgentEvent) → asks_in (events ++ more) ≡ asks_in events ++ asks_in more
asks_more [] more = refl
asks_more (event ∷ events) more = ap (λ (l : List Ask). ask_in event ++ l) (asks_more events more) ∙ sym (append_assoc (ask_in event) (asks_in events) (asks_in more))

pub triggered_more : (events more : List AgentEvent) → triggered (events ++ more) ≡ triggered events + triggered more
triggered_more events more = sum_by-append (λ (e : AgentEvent). cond (is_triggered e) 1 0) events more

-- ---- turns

module _ (settings : PlainSettings) (node : ℕ) where
  -- nothing was done
  pub turns_begin : (lents : List Lent) (turns : List GiverTurn) → turns ≡ [] → AreTurns settings node lents [] turns
  turns_begin lents turns none = subst (AreTurns settings node lents []) (sym none) Begins

  -- chunks that come leave the turns
  pub turns_came : (came more : List (Buffer Leased)) (events : List AgentEvent) (turns : List GiverTurn) → AreTurns settings node (map lent_of came) events turns → AreTurns settings node (map lent_of (came ++ more)) events turns
  turns_came came more events turns are =
      subst (λ (lents : List Lent). AreTurns settings node lents events turns) (sym (map-append lent_of came more)) (turns_more settings node (map lent_of came) (map lent_of more) events turns are)

-- ---- what stands

-- an agent that has taken nothing
pub works_none : (W : PlainWorkload) (node : ℕ) (pool : PoolName) (agent : PlainAgent Leased) (said : List Told) → said ≡ [] → Follows agent (new_run W.settings node) → AgentWorks W (no_work node pool) agent said
works_none W node pool agent said none follows =
    record { is = record { buffers = []; follows = follows; labels = refl; pooled = tt; pages = tt; sheets = refl; within = tt; hands = tt }; said_is = none }

module _ (W : PlainWorkload) (work : NodeWork) where
  -- an input more
  pub stands_more : (input : Input) (came : List (Buffer Leased)) (old new : PlainWorkingAgent) (lines lines' : Intakes) → WorkingAgentStands W work old lines → AgentWorks W (with_events (Took input ∷ []) came work) new.agent new.said
      → asks_in (Took input ∷ []) ++ new.asks ≡ old.asks → lines'.giver ≡ lines.giver → AreIntakes W work.node work.pool lines' → WorkingAgentStands W (with_events (Took input ∷ []) came work) new lines'
  stands_more input came old new lines lines' stands works asks giver are =
      record {
        works = works;
        asks_are =
            ap (λ (l : List Ask). l ++ new.asks) (asks_more work.events (Took input ∷ [])) ∙ append_assoc (asks_in work.events) (asks_in (Took input ∷ [])) new.asks ∙ ap (λ (l : List Ask). asks_in work.events ++ l) asks
            ∙ stands.asks_are;
        askable = stands.askable;
        lines_are = are;
        turns =
            subst (λ (g : _). AreTurns W.settings work.node (map lent_of (work.came ++ came)) (work.events ++ Took input ∷ []) g.turns) (sym giver)
            (Takes work.events lines.giver.turns input (turns_came W.settings work.node work.came came work.events lines.giver.turns stands.turns));
      }
