use Rattle.std.proofs.Common.{subst, sym}
use Rattle.hs_collect.proofs.Prelude.{AreCollected}
use Rattle.hs_collect.proofs.Seen.{traced, traced_at}
use Rattle.hs_collect.proofs.collector.Collector.trace.Goals as goal

pub returns : goal.returns
returns c = λ sheets collected.
    traced_at c.args.trace sheets c.get.result
    (traced c.args.trace sheets c.self.inside.traces.entries _ (subst (AreCollected sheets) (sym c.self.view_is) collected) c.get.ensures.value)
