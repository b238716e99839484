-- How a client lies in its fields. The counts of its outboxes may be added up. Each autotrigger fires an id that the key of the
-- triggers declares.
use Rattle.std.specs.Prelude.{◌≡◌, ◌+◌, ◌^◌, ◌<◌, true}
use Rattle.std.specs.List.{AllByRecursion}
use Rattle.hs_base.specs.Rules.{fired_by, is_declared}
use Rattle.hs_auto.specs.Watching.{Watch}
use Rattle.hs_live.specs.declared.client.Client.TheInside.{Inside}
use Rattle.hs_live.specs.Live.{PlainClient, outgoing}
use Rattle.hs_live.specs.Inside.{IsSoundIn}

abbrev pub live_of : Inside → PlainClient
live_of s =
    record {
      core = s.writer.core;
      autos = s.autos.items;
      drawer = s.writer.drawer;
      chunks = outgoing s.writer.chunks;
      crumbs = s.crumbs;
      triggers = s.triggers;
    }

pub record IsClient (s : Inside) : Type 0 where
  pub writer : IsSoundIn s.writer
  pub rooms : s.writer.chunks.room + s.crumbs.room + s.triggers.room < 2 ^ 32
  pub declared : AllByRecursion (λ (watch : Watch). is_declared s.triggers.key.rules (fired_by watch.rule) ≡ true) s.autos.items
