-- How an index lies in its fields. What stays is within the limits, and there is room for one trace more.
use Rattle.std.specs.Prelude.{◌≡◌, ◌+◌, ◌≤◌, length}
use Rattle.hs_index.specs.declared.index.TraceIndex.TheInside.{Inside}
use Rattle.hs_index.specs.Index.{Index, count_chunks}

abbrev pub index_in : {L : Type 0} → Inside L → Index L
index_in a = record { threshold = a.threshold; most = a.most; touched = a.recent.traces }

pub record IsIndex {L : Type 0} (a : Inside L) : Type 0 where
  pub chunks : count_chunks a.recent.traces ≤ a.threshold
  pub traces : length a.recent.traces ≤ a.most
  pub room : a.recent.room ≡ a.most + 1
