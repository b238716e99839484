-- How an agent lies in its fields. While a chunk is out there is room in a log that is kept for the pool's answer.
use Rattle.std.specs.Prelude.{◌≡◌, ◌<◌, true, length, IsSome}
use Rattle.hs_agent.specs.declared.agent.Agent.TheInside.{Inside}
use Rattle.hs_agent.specs.Keeping.{PlainAgent}

abbrev pub keeping_in : {L : Type 0} → Inside L → PlainAgent L
keeping_in a = record { kept = a.holdings; schedule = a.scheduler; log = a.log.items; keeps = a.keeps; spent = a.spent }

abbrev pub HasLogRoom : {L : Type 0} → Inside L → Type 0
HasLogRoom a = IsSome a.holdings.offered → a.keeps ≡ true → length a.log.items < a.log.room
