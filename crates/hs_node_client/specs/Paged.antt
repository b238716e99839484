-- How a client that counts its pages lies in its fields.
use Rattle.hs_live.specs.Live.{PlainClient}
use Rattle.hs_node_client.specs.declared.paged.Paged.TheInside.{Inside}
use Rattle.hs_node_client.specs.Paging.{IsBehind}

abbrev pub live_in : Inside → PlainClient
live_in s = s.live

abbrev pub IsPaged : Inside → Type 0
IsPaged s = IsBehind s.place s.live
