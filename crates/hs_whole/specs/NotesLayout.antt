-- How the notes lie in memory: the clients in a list, and the traces in a cache whose latest entry stands first.
use Rattle.std.specs.Prelude.{◌≡◌, ◌≤◌, length}
use Rattle.hs_whole.specs.declared.answers.TheConstants.{MOST_CLIENTS}
use Rattle.hs_whole.specs.declared.notes.SegmentNotes.TheInside.{Inside}
use Rattle.hs_whole.specs.Notes.{PlainNotes}

abbrev pub notes_in : Inside → PlainNotes
notes_in a = record { limits = a.limits; heard = a.heard; horizon = a.horizon; tracks = a.tracks.items; traces = a.traces.entries }

pub record AreKept (a : Inside) : Type 0 where
  pub clients : length a.tracks.items ≡ a.limits.clients
  pub few : a.limits.clients ≤ MOST_CLIENTS
  pub most : a.traces.cap ≡ a.limits.traces
