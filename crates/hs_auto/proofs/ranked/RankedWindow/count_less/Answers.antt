use Rattle.std.proofs.Common.{ℕ, length, ltb, ap, ◌∙◌, arith}
use Rattle.std.specs.List.{count_by}
use Rattle.hs_auto.specs.Windows.{Window}
use Rattle.hs_auto.proofs.RankLemmas.{length_sorted}
use Rattle.hs_auto.proofs.ranked.RankedWindow.count_less.Goals as goal

pub returns-clause-count : goal.returns-clause-count
returns-clause-count c =
    let p = λ (y : ℕ). ltb y c.args.value in
    c.place_of.ensures.count ∙ ap (count_by p) c.deref.ensures.value ∙ c.self.invariant.order.counts p ∙ ap (λ (w : Window). count_by p w.values) c.self.view_is

pub returns-clause-bound : goal.returns-clause-bound
returns-clause-bound c =
    omega (
      arith,
      c.place_of.ensures.place.within,
      ap length c.deref.ensures.value,
      length_sorted c.self.inside.sorted.items c.self.inside.arrived.items c.self.invariant.order,
      c.self.invariant.within,
      ap (λ (w : Window). w.size) c.self.view_is,
    )
