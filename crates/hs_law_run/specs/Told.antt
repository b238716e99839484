-- The schedule told as doings. A stage is the machine behind so many passes: in the rounds the clients go first, and behind them passes
-- are made alone. What an agent or the coordinator did in a pass is what its list grows by from one stage to the next.
use Rattle.std.specs.Prelude.{◌≡◌, ℕ, zero, suc, List, [], map, nat_lt, if◌then◌else◌}
use Rattle.std.specs.List.{AllByRecursion, range_with_len}
use Rattle.std.specs.Option.{option_map_or}
use Rattle.hs_coord.specs.Messages.{Messages}
use Rattle.hs_law_agent.specs.Stepping.{AgentEvent}
use Rattle.hs_records.specs.Plain.{PlainWorkload}
use Rattle.hs_law_journal.specs.Doings.{NodeDoings, Doings, all_events, journal_of}
use Rattle.hs_law_journal.specs.Ends.{rounds_of}
use Rattle.hs_law_journal.specs.Following.{NodeRun}
use Rattle.hs_law_run.specs.Facts.{ArePlayable, HavePasses, HaveRounds, HaveOffers}
use Rattle.hs_law_run.specs.Stories.{added}
use Rattle.hs_law_run.specs.Unread.{IsRead}
use Rattle.hs_law_run.specs.Lockstep.{Machine, machine_start, clients_go, passes, lockstep}
use Rattle.hs_law_run.specs.Parts.{node_at, heard_in}

-- the machine as the pass behind so many finds it: in a round the clients have gone
abbrev pub gone_from : PlainWorkload → ℕ → Machine → Machine
gone_from W k m = if nat_lt k (rounds_of W) then clients_go W m else m

-- the machine behind so many passes
abbrev pub stage : PlainWorkload → ℕ → Machine
stage W zero = machine_start W
stage W (suc k) = passes W (gone_from W k (stage W k))

abbrev pub gone : PlainWorkload → ℕ → Machine
gone W k = gone_from W k (stage W k)

abbrev pub events_at : PlainWorkload → (node passes : ℕ) → List AgentEvent
events_at W node k = option_map_or (λ (run : NodeRun). run.events) (node_at W (stage W k).journal node) []

abbrev pub heard_at : PlainWorkload → ℕ → Messages
heard_at W k = heard_in W (stage W k).journal

abbrev pub node_doings : PlainWorkload → (count node : ℕ) → NodeDoings
node_doings W count node = record { node = node; passes = map (added (events_at W node)) (range_with_len 0 count) }

-- what the schedule's machine did in its first so many passes
abbrev pub doings_of : PlainWorkload → ℕ → Doings
doings_of W count =
    record {
      draws = (stage W count).journal.draws;
      nodes = map (node_doings W count) (range_with_len 0 W.settings.nodes);
      heard = map (added (heard_at W)) (range_with_len 0 count);
    }

-- All that is promised of any workload's schedule, for the clauses on order.
pub record IsToldAs (W : PlainWorkload) : Type 0 where
  pub count : ℕ
  pub journal : lockstep W ≡ journal_of W (doings_of W count)
  pub playable : ArePlayable W (doings_of W count)
  pub passes : HavePasses W (doings_of W count)
  pub rounds : HaveRounds W (doings_of W count)
  pub offers : HaveOffers W (doings_of W count)
  pub read : AllByRecursion (λ (n : NodeDoings). AllByRecursion IsRead (all_events n)) (doings_of W count).nodes

abbrev pub ScheduleIsDoings : Type 0
ScheduleIsDoings = (W : PlainWorkload) → IsToldAs W
