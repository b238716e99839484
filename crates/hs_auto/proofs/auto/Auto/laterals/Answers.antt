use Rattle.std.proofs.Common.{◌≡◌, List, arith, ◌∙◌, subst}
use Rattle.hs_auto.specs.Firing.{Sample, laterals_after}
use Rattle.hs_auto.specs.Watching.{Watch, HasSampled}
use Rattle.hs_auto.proofs.AutoLemmas.{small_rooms, laterals_are}
use Rattle.hs_auto.proofs.auto.Auto.laterals.Goals as goal

pub distinct_others-requires : goal.distinct_others-requires
distinct_others-requires c = let rooms = small_rooms c.self.inside.rule c.self.invariant.limits in omega (arith, rooms.2, c.self.invariant.recent, c.self.invariant.few)

pub returns : goal.returns
returns c =
    subst (λ (w : Watch). (samples : List Sample) → HasSampled w samples → c.distinct_others.result ≡ laterals_after w.rule samples c.args.trace) c.self.view_is
    (λ samples has. c.distinct_others.ensures ∙ laterals_are c.self.inside.rule samples c.args.trace c.self.inside.recent.items has.traces)
