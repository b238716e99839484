use Rattle.std.proofs.Common.{sym, subst, ◌∙◌}
use Rattle.hs_collect.proofs.Prelude.{AreCollected}
use Rattle.std.proofs.lemmas.Result.{IfOk-weaker}
use Rattle.hs_collect.proofs.Seen.{keys_seen}
use Rattle.hs_collect.proofs.collector.Collector.traces.Goals as goal

pub returns : goal.returns
returns c =
    IfOk-weaker c.key_list.result _ _
    (λ list is sheets collected. is ∙ keys_seen sheets c.self.inside.traces.entries (subst (AreCollected sheets) (sym c.self.view_is) collected))
    c.key_list.ensures
