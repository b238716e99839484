-- How a group that is claiming lies in its fields. There is room for what it says, and for all that may be dropped then.
use Rattle.std.specs.Prelude.{◌≡◌, ◌+◌, ◌<◌, ◌≤◌, ◌^◌, []}
use Rattle.indexmap.specs.IndexSet.{spare}
use Rattle.hs_pins.specs.declared.pins.claiming.Claiming.TheInside.{Inside}
use Rattle.hs_pins.specs.Priorities.{priority_of}
use Rattle.hs_pins.specs.Groups.{count_of}
use Rattle.hs_pins.specs.ClaimsLayout.{HasSeat}
use Rattle.hs_pins.specs.Opens.{Opening}

abbrev pub opening_in : {L : Type 0} {g : _} → Inside L g → Opening L
opening_in a =
    record {
      group = a.party.group;
      laterals = a.party.laterals;
      claims = a.claims.claims;
      groups = a.opened.groups;
      abandoned = a.marks.keys;
      traces = a.claims.room;
      chunks = a.left;
      most = a.most;
      ready = a.ready;
    }

pub record IsOpening {L : Type 0} {g : _} (a : Inside L g) : Type 0 where
  pub priority : a.opened.priority ≡ priority_of a.party.group
  pub seat : HasSeat a.claims a.party
  pub room : a.left ≤ a.opened.room
  pub few : count_of a.opened.groups + a.left < 2 ^ 32
  pub none : a.dropped.items ≡ []
  pub dropped : a.most < a.ready → a.ready ≤ a.dropped.room
  pub marks : a.ready ≤ spare a.marks + a.most
