-- What a call does to the client behind a handle of C.
use Rattle.std.specs.Prelude.{◌≡◌, ℕ, Some, count_by}
use Rattle.hs_client.specs.Core.{is_null}
use Rattle.hs_node_client.specs.Clients.{PlainNodeClient, PutsThrough, waiting}
use Rattle.hs_node_client.specs.Counting.{all_counts}
use Rattle.hs_node_client.specs.declared.counts.ClientCounts.{ClientCounts}
use Rattle.hs_node_client.specs.declared.answers.CallAnswer.{CallAnswer}
use Rattle.hs_node_client.specs.declared.answers.PointAnswer.{PointAnswer}
use Rattle.hs_c.specs.declared.handles.HindClient.{HindClient}
use Rattle.hs_c.specs.declared.handles.HindCounts.{HindCounts}
use Rattle.hs_c.specs.declared.codes.TheConstants.{DONE, VACANT}
use Rattle.hs_c.specs.Codes.{code_of, code_of_point}

-- The handle is in use, and this client stands behind it.
pub record Holds (handle : HindClient) (client : PlainNodeClient) : Type 0 where
  pub live : handle.live ≡ 1
  pub held : handle.slot.held ≡ Some (record { client = client })

-- A handle that is not in use answers so, and stays as it is.
abbrev pub IsIdle : HindClient → ℕ → HindClient → Type 0
IsIdle old code new = (old.live ≡ 1 → ⊥) → (code ≡ VACANT) × (new ≡ old)

-- The client behind the handle is called, and its answer is the code. The same handle holds what it is then.
abbrev pub Calls : (PlainNodeClient → CallAnswer → PlainNodeClient → Type 0) → HindClient → ℕ → HindClient → Type 0
Calls does old code new = (client : PlainNodeClient) → Holds old client → (called : CallAnswer) × (after : PlainNodeClient) × (code ≡ code_of called) × Holds new after × does client called after

-- The same of a point, which is told of a pool that was empty.
abbrev pub Points : (PlainNodeClient → PointAnswer → PlainNodeClient → Type 0) → HindClient → ℕ → HindClient → Type 0
Points does old code new =
    (client : PlainNodeClient) → Holds old client → (pointed : PointAnswer) × (after : PlainNodeClient) × (code ≡ code_of_point pointed) × Holds new after × does client pointed after

-- The client behind the handle does this, with this code. The same handle holds what it is then.
abbrev pub DoesClient : (PlainNodeClient → ℕ → PlainNodeClient → Type 0) → HindClient → ℕ → HindClient → Type 0
DoesClient does old code new = (client : PlainNodeClient) → Holds old client → (after : PlainNodeClient) × Holds new after × does client code after

-- What waits is put through, and the number that still waits is written.
abbrev pub Flushes : HindClient → ℕ → ℕ → HindClient → Type 0
Flushes old code waits new = (client : PlainNodeClient) → Holds old client → (after : PlainNodeClient) × (code ≡ DONE) × Holds new after × PutsThrough client.live after.live × (waits ≡ waiting after)

-- the counts as C sees them
abbrev pub counts_of : ClientCounts → HindCounts
counts_of c =
    record {
      points = c.points;
      null_pages = c.null_pages;
      stray_points = c.stray_points;
      full_points = c.full_points;
      long_points = c.long_points;
      spent_points = c.spent_points;
      refused_crumbs = c.refused_crumbs;
      refused_triggers = c.refused_triggers;
      dropped_notes = c.dropped_notes;
    }

-- The client's counts are written, and the client stays as it is.
abbrev pub Counts : HindClient → ℕ → HindCounts → HindClient → Type 0
Counts old code counts new =
    (client : PlainNodeClient) → Holds old client → (code ≡ DONE) × Holds new client × (counts ≡ counts_of (all_counts (count_by is_null client.live.core.draws) client.tally))
