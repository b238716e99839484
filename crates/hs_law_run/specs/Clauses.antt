-- Clauses of the lawful journal that the lockstep schedule keeps, whatever the workload.
use Rattle.std.specs.Prelude.{◌≡◌, ◌*◌, ◌≤◌, true, false, length}
use Rattle.std.specs.List.{AllByRecursion}
use Rattle.hs_base.specs.declared.limits.TheConstants.{MIN_SIZE}
use Rattle.hs_base.specs.declared.settings.TriggerRule.{TriggerRule}
use Rattle.hs_records.specs.Plain.{PlainWorkload}
use Rattle.hs_records.specs.Records.{AreBracketed}
use Rattle.hs_words.specs.PoolHistory.{IsPoolHistory}
use Rattle.hs_law_journal.specs.Ends.{is_followed, has_rounds, is_bare}
use Rattle.hs_law_journal.specs.Following.{NodeRun, followed}
use Rattle.hs_law_journal.specs.Lawful.{IsLawful}
use Rattle.hs_law_journal.specs.Pace.{has_pace}
use Rattle.hs_law_journal.specs.Passes.{has_passes, has_offers}
use Rattle.hs_law_journal.specs.Played.{played}
use Rattle.hs_law_journal.specs.Pooled.{has_answers, pool_history}
use Rattle.hs_law_journal.specs.Shape.{has_shape, has_stamps}
use Rattle.hs_law_journal.specs.Unreads.{has_unreads}
use Rattle.hs_records.specs.Validity.{IsValid}
use Rattle.hs_law_run.specs.Lockstep.{lockstep}

-- Every step of the schedule is ready when its turn comes: following the journal leaves none over.
abbrev pub ScheduleIsFollowed : Type 0
ScheduleIsFollowed = (W : PlainWorkload) → is_followed (played W (lockstep W)) ≡ true

-- No offer of the schedule is unread.
abbrev pub ScheduleHasUnreads : Type 0
ScheduleHasUnreads = (W : PlainWorkload) → has_unreads (played W (lockstep W)) ≡ true

-- All agents make equally many passes, at least as many as there are rounds.
abbrev pub ScheduleHasRounds : Type 0
ScheduleHasRounds = (W : PlainWorkload) → has_rounds (played W (lockstep W)) ≡ true

-- What the shape of a schedule asks of a workload: each node has its clients, each client ends the traces that it begins, and a
-- round does something. Every valid workload keeps this.
pub record IsLaidOut (W : PlainWorkload) : Type 0 where
  pub clients : length W.clients ≡ W.settings.nodes * W.settings.clients
  pub ends : AllByRecursion (AreBracketed false) W.clients
  pub stride : 1 ≤ W.settings.stride

-- The schedule has the shape of its workload: all clients do all of their operations, and draw for each of their pages.
abbrev pub ScheduleHasShape : Type 0
ScheduleHasShape = (W : PlainWorkload) → IsLaidOut W → has_shape (played W (lockstep W)) ≡ true

-- The stamps of each node number the events of its pool: a draw and a give take the next one.
abbrev pub ScheduleHasStamps : Type 0
ScheduleHasStamps = (W : PlainWorkload) → IsLaidOut W → has_stamps (played W (lockstep W)) ≡ true

-- Sorted by stamp, these events are a history of the pool.
abbrev pub ScheduleHasHistory : Type 0
ScheduleHasHistory = (W : PlainWorkload) → AllByRecursion (λ (run : NodeRun). IsPoolHistory W.settings.buffers (pool_history run)) (followed W (lockstep W)).nodes

-- Each give answers the draw of its chunk.
abbrev pub ScheduleHasAnswers : Type 0
ScheduleHasAnswers = (W : PlainWorkload) → has_answers (played W (lockstep W)) ≡ true

-- Every log is one whole pass after another.
abbrev pub ScheduleHasPasses : Type 0
ScheduleHasPasses = (W : PlainWorkload) → has_passes (played W (lockstep W)) ≡ true

-- In each pass all offers are made.
abbrev pub ScheduleHasOffers : Type 0
ScheduleHasOffers = (W : PlainWorkload) → has_offers (played W (lockstep W)) ≡ true

-- Agents and coordinator do not fall behind the clients.
abbrev pub ScheduleHasPace : Type 0
ScheduleHasPace = (W : PlainWorkload) → IsValid W → has_pace (played W (lockstep W)) ≡ true

-- What a whole schedule asks of a workload beside its shape: pages of the least size at least, and a weight for each trigger id. Every
-- valid workload keeps this.
pub record IsRunnable (W : PlainWorkload) : Type 0 where
  pub laid : IsLaidOut W
  pub size : MIN_SIZE ≤ W.settings.size
  pub weights : AllByRecursion (λ (rule : TriggerRule). 1 ≤ rule.weight) W.settings.triggers

-- Closing ends, with nothing left over.
abbrev pub ScheduleIsBare : Type 0
ScheduleIsBare = (W : PlainWorkload) → IsRunnable W → is_bare (played W (lockstep W)) ≡ true

abbrev pub ValidWorkloadsRun : Type 0
ValidWorkloadsRun = (W : PlainWorkload) → IsValid W → IsRunnable W

-- The lockstep journal of each valid workload is lawful.
abbrev pub ScheduleIsLawful : Type 0
ScheduleIsLawful = (W : PlainWorkload) → IsValid W → IsLawful W (lockstep W)
