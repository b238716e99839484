-- How what is indexed of a trace lies in its fields. Beside the chunks stands an empty list with room for all of them.
use Rattle.std.specs.Prelude.{◌≡◌, ◌≤◌, [], length, map}
use Rattle.hs_index.specs.declared.entry.IndexedTrace.TheInside.{Inside}
use Rattle.hs_index.specs.Index.{PlainIndexedTrace}
use Rattle.hs_words.specs.Buffers.{buffer_of}

abbrev pub noted_in : {L : Type 0} {g : _} → Inside L g → PlainIndexedTrace L
noted_in a = record { chunks = map buffer_of a.held.items; crumbs = a.crumbs }

pub record HasRoom {L : Type 0} {g : _} (a : Inside L g) : Type 0 where
  pub empty : a.gone.items ≡ []
  pub room : length a.held.items ≤ a.gone.room
