use Rattle.std.proofs.Common.{◌≡◌, sym, ap, ◌∙◌, List, Some}
use Rattle.hs_base.specs.declared.ids.TriggerId.{TriggerId}
use Rattle.std.specs.Prelude.{slice_get}
use Rattle.hs_node_client.proofs.Known.{auto_found}
use Rattle.hs_node_client.proofs.client.NodeClient.sample.Goals as goal

pub sample-called-requires : goal.sample-called-requires
sample-called-requires c =
    let s = c.self.inside in
    let there : slice_get s.fires.items c.args.auto ≡ Some c.in-Some.trigger = sym c.get.ensures ∙ sym c.copied.ensures ∙ c.in-Some.is in
    auto_found s.live.autos c.args.auto c.in-Some.trigger (ap (λ (l : List TriggerId). slice_get l c.args.auto) c.self.invariant.fires ∙ there)
