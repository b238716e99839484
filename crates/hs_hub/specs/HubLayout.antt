-- A hub as it lies in memory: its parts beside each other.
use Rattle.hs_hub.specs.declared.hub.Hub.TheInside.{Inside}
use Rattle.hs_hub.specs.Hub.{PlainHub}

abbrev pub hub_in : Inside → PlainHub
hub_in a = record { limits = a.limits; epoch = a.epoch; asks = a.asks; passes = a.passes; is_fresh = a.is_fresh; births = a.births.items; groups = a.groups; standings = a.standings; traces = a.traces; receipts = a.receipts; saved = a.saved; why = a.why; out_since = a.out_since }
