-- What a node's pool promises of its events: that stamps number them, that they are a history, and that a give answers the draw of its
-- chunk. And what is known of a pool that keeps this promise because all its ends were closed. All that its ends did is one list of
-- deeds, the last first. The draws of each client are the answers of one drawer, and the gives and
-- misses of the agent those of the giver, each in order.
use Rattle.std.specs.Prelude.{◌≡◌, ◌⊎◌, ℕ, suc, ◌<◌, ◌≤◌, true, List, map, reverse, filter, filter_map, Option, Some, None, [], ◌∷◌, refl}
use Rattle.std.specs.List.{AllByRecursion}
use Rattle.std.specs.Option.{option_and_then}
use Rattle.hs_records.specs.declared.journal.Draw.{Draw}
use Rattle.hs_records.specs.declared.journal.Draw.TheVariants as draws
use Rattle.hs_records.specs.declared.journal.Step.{Step}
use Rattle.hs_records.specs.declared.journal.Step.TheVariants as steps
use Rattle.hs_records.specs.Journals.{PlainJournal}
use Rattle.hs_law_agent.specs.State.{GivenPlace}
use Rattle.hs_records.specs.Plain.{PlainWorkload}
use Rattle.hs_client.specs.Drawn.{DrawnPage}
use Rattle.hs_client.specs.Sending.{client_sends, draws_at, place_of}
use Rattle.hs_words.specs.Ends.{Deed, Answer, events_of, answers_by, is_any_given, EachSpends, four_deeds}
use Rattle.hs_words.specs.PoolHistory.{Got, Empty, Given, Missed, is_missed, IsHistoryBack, IsPoolHistory}
use Rattle.hs_law_journal.specs.Following.{NodeRun}
use Rattle.hs_law_journal.specs.Pooled.{given_page, gives_answer, pool_history}
use Rattle.hs_law_journal.specs.Shape.{log_stamps, node_has_stamps}
use Rattle.hs_law_journal.specs.Doings.{NodeDoings, Doings, all_events, steps_of, journal_of, node_at_end}
use Rattle.hs_law_run.specs.Facts.{ArePlayable}

-- a draw as its drawer was answered
abbrev pub draw_answer : Draw → Answer
draw_answer (draws.Got buffer stamp) = record { stamp = stamp; event = Got buffer; draw = 0 }
draw_answer (draws.Empty stamp) = record { stamp = stamp; event = Empty; draw = 0 }

-- a give of the page of this draw
abbrev pub give_of : ℕ → Draw → Option Answer
give_of stamp (draws.Got buffer draw) = Some (record { stamp = stamp; event = Given buffer; draw = draw })
give_of stamp (draws.Empty draw) = None

-- what was given back, as the giver was answered
abbrev pub give_at : NodeRun → GivenPlace → Option Answer
give_at run given = option_and_then (λ (page : DrawnPage). give_of given.stamp page.draw) (given_page run run.state given.place)

abbrev pub miss_in : Step → Option Answer
miss_in (steps.Missed stamp) = Some (record { stamp = stamp; event = Missed; draw = 0 })
miss_in _ = None

-- the answers of an end, the first one first
abbrev pub answers_to : ℕ → List Deed → List Answer
answers_to end log = reverse (answers_by end log)

-- Of a node: what closing its pool tells. The drawer of the client c is the end c + 1, and the giver is the end 0.
pub record IsPooled (W : PlainWorkload) (J : PlainJournal) (n : NodeDoings) : Type 0 where
  pub log : List Deed
  pub lawful : IsHistoryBack W.settings.buffers (events_of log)
  pub spent : EachSpends log
  pub nobody_else : AllByRecursion (λ (deed : Deed). deed.by ≤ W.settings.clients) log
  -- each client's draws are its drawer's answers, one for each of its pages
  pub drawn : (client : ℕ) → client < W.settings.clients → map draw_answer (draws_at J (place_of W.settings.clients n.node client)) ≡ answers_to (suc client) log
  pub paged : (client : ℕ) → client < W.settings.clients → map (λ (page : DrawnPage). page.draw) (client_sends W J n.node client).drawn ≡ draws_at J (place_of W.settings.clients n.node client)
  -- the giver's answers are gives and misses; the gives are of the chunks that the agent gave back, and all stand in the log
  pub kinds : AllByRecursion (λ (a : Answer). (is_any_given a.event ≡ true) ⊎ (is_missed a.event ≡ true)) (answers_by 0 log)
  pub gives : filter_map (give_at (node_at_end W J n)) (node_at_end W J n).state.given ≡ filter (λ (a : Answer). is_any_given a.event) (answers_to 0 log)
  pub known : AllByRecursion (λ (given : GivenPlace). (a : Answer) × (give_at (node_at_end W J n) given ≡ Some a)) (node_at_end W J n).state.given
  pub misses : filter_map miss_in (steps_of (all_events n)) ≡ filter (λ (a : Answer). is_missed a.event) (answers_to 0 log)
  pub stamps : log_stamps (steps_of (all_events n)) ≡ map (λ (a : Answer). a.stamp) (answers_to 0 log)

-- ---- the promise of a pool

pub record KeepsPool (W : PlainWorkload) (J : PlainJournal) (n : NodeDoings) : Type 0 where
  pub stamped : node_has_stamps W J n.node ≡ true
  pub history : IsPoolHistory W.settings.buffers (pool_history (node_at_end W J n))
  pub answers : gives_answer (node_at_end W J n) ≡ true

abbrev pub KeepPools : PlainWorkload → Doings → Type 0
KeepPools W d = AllByRecursion (KeepsPool W (journal_of W d)) d.nodes

-- What closing a pool tells keeps it.
abbrev pub ClosedPoolsKeep : Type 0
ClosedPoolsKeep = (W : PlainWorkload) (d : Doings) → ArePlayable W d → AllByRecursion (IsPooled W (journal_of W d)) d.nodes → KeepPools W d

-- ---- examples

a_draw : (draw_answer (draws.Got 2 5) ≡ record { stamp = 5; event = Got 2; draw = 0 }) × (draw_answer (draws.Empty 6) ≡ record { stamp = 6; event = Empty; draw = 0 })
a_draw = (refl, refl)

-- a give names the draw of its page
a_give : give_of 7 (draws.Got 2 5) ≡ Some (record { stamp = 7; event = Given 2; draw = 5 })
a_give = refl

nothing_to_give : give_of 7 (draws.Empty 5) ≡ None
nothing_to_give = refl

one_miss : (miss_in (steps.Missed 4) ≡ Some (record { stamp = 4; event = Missed; draw = 0 })) × (miss_in (steps.Given 4) ≡ None) × (miss_in steps.Turn ≡ None)
one_miss = (refl, refl, refl)

by_end : (map (λ (a : Answer). a.stamp) (answers_to 0 four_deeds) ≡ 2 ∷ 3 ∷ []) × (map (λ (a : Answer). a.stamp) (answers_to 1 four_deeds) ≡ 0 ∷ []) × (map (λ (a : Answer). a.stamp) (answers_to 2 four_deeds) ≡ 1 ∷ [])
by_end = (refl, refl, refl)

no_end : answers_to 3 four_deeds ≡ []
no_end = refl
