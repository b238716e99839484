-- The nodes of a run before the first round.
use Rattle.std.specs.Prelude.{◌≡◌, ℕ, List, [], length, slice_get, Some}
use Rattle.hs_base.specs.declared.told.Ask.{Ask}
use Rattle.hs_base.specs.declared.told.Told.{Told}
use Rattle.hs_records.specs.Plain.{PlainWorkload}
use Rattle.hs_words.specs.Pools.{PoolName}
use Rattle.hs_run_actors.specs.ClientActors.{PlainClientActor}
use Rattle.hs_run_actors.specs.Work.{no_work}
use Rattle.hs_run.specs.RunStates.{PlainNodeActors, NodeActorsStand}
use Rattle.hs_run.specs.Laws.{LinksBegin, PoolOf}
use Rattle.hs_run.specs.declared.node.ActingNode.{ActingNode}

abbrev pub nothing_moved : ℕ → List Told
nothing_moved node = []

abbrev pub nothing_asked : ℕ → List Ask
nothing_asked node = []

-- Nothing was done at the node, with new links and a new pool.
pub record NodeActorsBegin (W : PlainWorkload) (node : ℕ) (site : PlainNodeActors) : Type 0 where
  pub pool : PoolName
  pub stands : NodeActorsStand W node (no_work node pool) site
  pub done : (number : ℕ) (caller : PlainClientActor) → slice_get site.callers number ≡ Some caller → caller.done ≡ 0
  pub links : (number : ℕ) (caller : PlainClientActor) → slice_get site.callers number ≡ Some caller → LinksBegin number site caller
  pub pool_of : PoolOf W site

-- So many nodes, by number, where nothing was done.
pub record AreMade (W : PlainWorkload) (count : ℕ) (nodes : List ActingNode) : Type 0 where
  pub many : length nodes ≡ count
  pub each : (number : ℕ) (node : ActingNode) → slice_get nodes number ≡ Some node → NodeActorsBegin W number node.site
