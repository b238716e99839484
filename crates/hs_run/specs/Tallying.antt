-- What is counted between two rounds, when it can be counted on, and when its sums are numbers of a total.
use Rattle.std.specs.Prelude.{ℕ, suc, ◌<◌, ◌^◌, List, sum_by}
use Rattle.hs_records.specs.Plain.{PlainWorkload}
use Rattle.hs_run.specs.declared.client.ClientCount.{ClientCount}
use Rattle.hs_run.specs.declared.log.LogCount.{LogCount}
use Rattle.hs_run.specs.Counts.{PlainRunTally, AreCounts}
use Rattle.hs_run_actors.specs.Coordinators.{PlainCoordinatorActor}
use Rattle.hs_run.specs.declared.node.ActingNode.{ActingNode}
use Rattle.hs_run.specs.Moments.{RoundsMade}

-- One round more was made than those behind which these counts were taken.
pub record MayCount (W : PlainWorkload) (nodes : List ActingNode) (counts : PlainRunTally) : Type 0 where
  pub rounds : ℕ
  pub coordinator : PlainCoordinatorActor
  pub made : RoundsMade W (suc rounds) nodes coordinator
  pub counted : AreCounts W (made.came.at rounds) counts

-- Each sum is a number of 32 bits.
pub record FitTotals (counts : PlainRunTally) : Type 0 where
  pub operations : sum_by (λ (c : ClientCount). c.done) counts.clients < 2 ^ 32
  pub records : sum_by (λ (c : ClientCount). c.points) counts.clients < 2 ^ 32
  pub nulls : sum_by (λ (c : ClientCount). c.nulls) counts.clients < 2 ^ 32
  pub taken : sum_by (λ (c : LogCount). c.taken) counts.logs < 2 ^ 32
  pub given : sum_by (λ (c : LogCount). c.given) counts.logs < 2 ^ 32
