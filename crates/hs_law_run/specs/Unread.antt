-- What an offer shows that was unread. At that moment the giver's answers are those to the offers before it, the gives among them are of
-- the chunks that the agent gave back by then, and the giver was told of each draw of the rounds before, while a draw of a later round is
-- above all that was answered.
use Rattle.std.specs.Prelude.{◌≡◌, ◌<◌, ◌==◌, true, false, List, ◌∷◌, ◌++◌, map, reverse, filter, filter_map, count_by}
use Rattle.std.specs.List.{AllByRecursion, list_any}
use Rattle.hs_records.specs.Journals.{PlainJournal}
use Rattle.hs_law_agent.specs.Laws.{noted_as}
use Rattle.hs_law_agent.specs.Stepping.{Unread, AgentEvent, Gave, after}
use Rattle.hs_records.specs.Plain.{PlainWorkload}
use Rattle.hs_client.specs.Drawn.{DrawnPage, stamp_of}
use Rattle.hs_words.specs.Ends.{Answer, GiverTurn, answers_in, told_in, is_any_given, IsUnread}
use Rattle.hs_law_journal.specs.Passes.{is_turn, is_unread}
use Rattle.hs_law_journal.specs.Played.{played}
use Rattle.hs_law_journal.specs.Shape.{log_stamps}
use Rattle.hs_law_journal.specs.Unreads.{round_of, has_unreads}
use Rattle.hs_law_journal.specs.Doings.{NodeDoings, Doings, all_events, steps_of, journal_of, node_at_end}
use Rattle.hs_law_run.specs.Facts.{ArePlayable, pages_at}
use Rattle.hs_law_run.specs.Pools.{give_at, IsPooled}

pub record IsUnreadAt (W : PlainWorkload) (J : PlainJournal) (n : NodeDoings) (p : IsPooled W J n) (before : List AgentEvent) : Type 0 where
  pub turns : List GiverTurn
  pub unread : IsUnread W.settings.buffers p.log turns
  pub stamps : log_stamps (steps_of before) ≡ map (λ (a : Answer). a.stamp) (reverse (answers_in turns))
  pub gives : filter_map (give_at (node_at_end W J n)) (after W.settings n.node before).given ≡ filter (λ (a : Answer). is_any_given a.event) (reverse (answers_in turns))
  -- each draw of a later round is above all of these
  pub above : AllByRecursion (λ (page : DrawnPage). count_by is_turn (steps_of before) < round_of W.settings.stride page.started → AllByRecursion (λ stamp. stamp < stamp_of page.draw) (log_stamps (steps_of before))) (pages_at W J n.node)
  pub told : AllByRecursion (λ (page : DrawnPage). round_of W.settings.stride page.started < count_by is_turn (steps_of before) → list_any (λ told. told == stamp_of page.draw) (told_in turns) ≡ true) (pages_at W J n.node)

-- A pool as closing tells of it, each of whose unread offers is so.
pub record IsPooledUnread (W : PlainWorkload) (J : PlainJournal) (n : NodeDoings) : Type 0 where
  pub pool : IsPooled W J n
  pub each : (before behind : List AgentEvent) → all_events n ≡ before ++ Gave Unread ∷ behind → IsUnreadAt W J n pool before

abbrev pub ArePooledUnread : PlainWorkload → Doings → Type 0
ArePooledUnread W d = AllByRecursion (IsPooledUnread W (journal_of W d)) d.nodes

-- where no offer is unread, nothing has to be shown
abbrev pub IsRead : AgentEvent → Type 0
IsRead event = is_unread (noted_as event) ≡ false

abbrev pub NoneIsUnread : Type 0
NoneIsUnread =
    (W : PlainWorkload) (d : Doings) → ArePlayable W d → AllByRecursion (λ (n : NodeDoings). AllByRecursion IsRead (all_events n)) d.nodes → has_unreads (played W (journal_of W d)) ≡ true

-- L7: what is unread could be
abbrev pub UnreadCouldBe : Type 0
UnreadCouldBe =
    (W : PlainWorkload) (d : Doings) → 0 < W.settings.buffers → ArePlayable W d → ArePooledUnread W d → has_unreads (played W (journal_of W d)) ≡ true
