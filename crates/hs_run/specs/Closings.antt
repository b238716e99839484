-- That closing ends: each pass before which anything is left is paid for, and there is only so much to pay with.
use Rattle.std.specs.Prelude.{◌≡◌, ℕ, ◌+◌, ◌*◌, ◌<◌, ◌≤◌, List, [], ◌++◌, length}
use Rattle.std.specs.List.{AllByRecursion}
use Rattle.hs_agent.specs.Points.{sheet_in}
use Rattle.hs_base.specs.declared.limits.TheConstants.{MAX_NODES, MAX_OPERATIONS}
use Rattle.hs_coord.specs.Messages.{Messages}
use Rattle.hs_records.specs.Plain.{PlainWorkload}
use Rattle.hs_ring.specs.Parts.{Leased}
use Rattle.hs_run_actors.specs.ClosedAgents.{PlainClosedAgent}
use Rattle.hs_run_actors.specs.Coordinators.{PlainCoordinatorActor, Hears}
use Rattle.hs_run_actors.specs.Work.{NodeWork}
use Rattle.hs_run.specs.Coming.{Came}
use Rattle.hs_run.specs.RunStates.{RunState, RunStands, moved_by, asked_by}
use Rattle.hs_words.specs.Buffers.{Buffer}
use Rattle.hs_words.specs.Chunks.{used_of}
use Rattle.hs_run.specs.Accounts.{PaysFor}
use Rattle.hs_run.specs.Shutting.{AllSents, Passing, Asked, ClosingAt, IsSomethingLeft, sents_at}

-- ---- what was sent

-- No client sent more items of a kind than this, and each chunk that it sent has a page that fits.
pub record SentsFit (W : PlainWorkload) (sents : AllSents) : Type 0 where
  pub chunks : (node client : ℕ) → node < W.settings.nodes → client < W.settings.clients → length ((sents node).chunks client) ≤ 2 * MAX_OPERATIONS
  pub crumbs : (node client : ℕ) → node < W.settings.nodes → client < W.settings.clients → length ((sents node).crumbs client) ≤ MAX_OPERATIONS
  pub triggers : (node client : ℕ) → node < W.settings.nodes → client < W.settings.clients → length ((sents node).triggers client) ≤ MAX_OPERATIONS
  pub fit : (node client : ℕ) → node < W.settings.nodes → client < W.settings.clients → AllByRecursion (λ (buffer : Buffer Leased). used_of (sheet_in buffer) ≤ W.settings.size) ((sents node).chunks client)

abbrev pub WhatIsSentFits : Type 0
WhatIsSentFits = (W : PlainWorkload) (m : RunState) → RunStands W m → SentsFit W (sents_at m)

-- ---- a pass

-- A pass led on. If anything was left before it, it is paid for.
pub record LedOn (W : PlainWorkload) (rounds : ℕ) (m : RunState) (sents : AllSents) (old : List PlainClosedAgent) (before : PlainCoordinatorActor) (at : ClosingAt W rounds m sents old before) (nodes : List PlainClosedAgent) (coordinator : PlainCoordinatorActor) : Type 0 where
  pub next : ClosingAt W rounds m sents nodes coordinator
  pub pays : SentsFit W sents → IsSomethingLeft W (λ node. (at.posts node).work) old before → (passes : ℕ) → PaysFor W passes (λ node. (at.posts node).work) at.heard
      → PaysFor W (passes + 1) (λ node. (next.posts node).work) next.heard

abbrev pub PassesPay : Type 0
PassesPay =
    (W : PlainWorkload) (rounds : ℕ) (m : RunState) (sents : AllSents) (old nodes last : List PlainClosedAgent) (c c1 c2 c3 : PlainCoordinatorActor) (at : ClosingAt W rounds m sents old c)
    (p : Passing W sents at.heard (λ node. (at.posts node).work) (length old) old nodes c1) (more : Messages) → Hears W at.heard more (moved_by p.works) (asked_by p.works) c2
    → (a : Asked W sents (at.heard ++ more) p.works nodes last c3) → SentsFit W sents → IsSomethingLeft W (λ node. (at.posts node).work) old c → (passes : ℕ) → PaysFor W passes (λ node. (at.posts node).work) at.heard
    → PaysFor W (passes + 1) a.works (at.heard ++ more)

-- ---- all passes

-- the most passes behind the rounds
abbrev pub most_passes : ℕ
most_passes = MAX_NODES * (2 * (20 * MAX_NODES * MAX_OPERATIONS))

-- So many passes were made behind rounds, each of them paid for.
pub record ClosingPaid (passes : ℕ) (nodes : List PlainClosedAgent) (coordinator : PlainCoordinatorActor) : Type 0 where
  pub workload : PlainWorkload
  pub rounds : ℕ
  pub moment : RunState
  pub came : Came workload rounds moment
  pub sents : AllSents
  pub fit : SentsFit workload sents
  pub at : ClosingAt workload rounds moment sents nodes coordinator
  pub pays : PaysFor workload passes (λ node. (at.posts node).work) at.heard

abbrev pub PassesAreFew : Type 0
PassesAreFew = (passes : ℕ) (nodes : List PlainClosedAgent) (coordinator : PlainCoordinatorActor) → ClosingPaid passes nodes coordinator → passes ≤ most_passes

-- What was done pays for what all agents bear and said. So where the rounds end no pass is made, and all is paid for.
abbrev pub AllIsPaidFor : Type 0
AllIsPaidFor = (W : PlainWorkload) (works : ℕ → NodeWork) (heard : Messages) → PaysFor W 0 works heard
