-- How a client and a port lie in their fields, and what is true of these between calls.
use Rattle.hs_live.specs.declared.writer.Writer.{Writer}
use Rattle.hs_live.specs.Live.{outgoing}
use Rattle.hs_live.specs.Writing.{Writing, IsSound}

abbrev pub writing_in : Writer → Writing
writing_in w = record { core = w.core; drawer = w.drawer; chunks = outgoing w.chunks }

abbrev pub IsSoundIn : Writer → Type 0
IsSoundIn w = IsSound (writing_in w)
