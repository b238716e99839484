-- How a client lies in its fields.
use Rattle.std.specs.Prelude.{map}
use Rattle.hs_words.specs.Buffers.{buffer_of}
use Rattle.hs_replay_client.specs.declared.writer.Writer.{Writer}
use Rattle.hs_replay_client.specs.declared.doing.Doing.{Doing}
use Rattle.hs_replay_client.specs.ReplayClients.{Working}
use Rattle.hs_replay_client.specs.Writing.{Writing}

abbrev pub writing_in : Writer → Writing
writing_in w = record { core = w.core; chunks = map buffer_of w.chunks.items }

abbrev pub working_in : Doing → Working
working_in d = record { core = d.writer.core; autos = d.autos.items; chunks = map buffer_of d.writer.chunks.items; crumbs = d.crumbs.items; triggers = d.triggers.items }
