-- How the traces that were saved last lie in places that are taken once.
use Rattle.std.specs.Prelude.{◌≤◌, length, vec_capacity}
use Rattle.hs_saved.specs.declared.saved.Saved.TheInside.{Inside}
use Rattle.hs_saved.specs.Saved.{PlainSaved}

abbrev pub saved_in : Inside → PlainSaved
saved_in a = record { most = a.most; traces = a.traces.items }

pub record IsKept (a : Inside) : Type 0 where
  pub few : length a.traces.items ≤ a.most
  pub room : a.most ≤ vec_capacity a.traces
