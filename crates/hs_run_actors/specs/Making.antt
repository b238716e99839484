-- A client that was made, with the other ends of its links.
use Rattle.std.specs.Prelude.{◌≡◌, List, [], map}
use Rattle.std.specs.List.{AllByRecursion}
use Rattle.hs_auto.specs.Watching.{Watch, HasSampled}
use Rattle.hs_base.specs.declared.ids.ClientId.{ClientId}
use Rattle.hs_base.specs.declared.limits.TheConstants.{MAX_TAKEN}
use Rattle.hs_base.specs.declared.settings.AutoRule.{AutoRule}
use Rattle.hs_link.specs.Contents.{AreNewEnds}
use Rattle.hs_live.specs.Live.{incoming}
use Rattle.hs_records.specs.Plain.{Operation, PlainSettings}
use Rattle.hs_ring.specs.Parts.{Drawing, Giving}
use Rattle.hs_records.specs.Validity.{client_pieces}
use Rattle.hs_run_actors.specs.declared.making.ConnectedClient.{ConnectedClient}
use Rattle.hs_run_actors.specs.Counting.{crumbs_of, triggers_of}
use Rattle.hs_run_actors.specs.Standing.{ClientActorIsAt, key_for}

-- An autotrigger of each rule, which was given nothing.
pub record AreNewFor (rules : List AutoRule) (autos : List Watch) : Type 0 where
  pub rules_are : map (λ (watch : Watch). watch.rule) autos ≡ rules
  pub fresh : AllByRecursion (λ (watch : Watch). HasSampled watch []) autos

-- Nothing is done. The client has the drawer, and each of its links is new, with a ring of as many entries as a pass takes, and the
-- key of the client.
pub record IsConnected (settings : PlainSettings) (client : ClientId) (ops : List Operation) (giver : Giving) (drawer : Drawing) (c : ConnectedClient) : Type 0 where
  pub at : ClientActorIsAt settings client ops c.caller
  pub done : c.caller.done ≡ 0
  pub drawer_is : c.caller.client.drawer ≡ drawer
  pub chunks : AreNewEnds (key_for settings client giver) MAX_TAKEN (client_pieces settings.size ops) c.caller.client.chunks (incoming c.chunks)
  pub crumbs : AreNewEnds (key_for settings client giver) MAX_TAKEN (crumbs_of ops) c.caller.client.crumbs c.crumbs
  pub triggers : AreNewEnds (key_for settings client giver) MAX_TAKEN (triggers_of ops) c.caller.client.triggers c.triggers
