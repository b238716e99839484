-- How a tally lies in its fields.
use Rattle.hs_run.specs.Counts.{PlainRunTally}
use Rattle.hs_run.specs.declared.tallying.RunTally.TheInside.{Inside}

abbrev pub tally_of : Inside → PlainRunTally
tally_of s = record { clients = s.clients.items; logs = s.logs.items }
