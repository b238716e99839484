use Rattle.std.proofs.Common.{List, ℕ, ◌∷◌, sym, subst}
use Rattle.hs_auto.specs.Ranks.{StandsSorted}
use Rattle.hs_auto.proofs.RankLemmas.{sorted_put}
use Rattle.hs_auto.proofs.rising.put.Goals as goal

pub returns-clause-joins : goal.returns-clause-joins
returns-clause-joins c = λ values order.
    subst (λ (xs : List ℕ). StandsSorted xs (c.args.value ∷ values)) (sym c.in-Ok.ensures.items)
    (sorted_put c.args.sorted.now.items values c.args.place c.args.value order c.requires.place)
