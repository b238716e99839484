use Rattle.std.proofs.Common.{List, ℕ, ◌∷◌, ◌+◌, ◌-◌, ◌≡◌, ◌≤◌, length, sym, ◌∙◌, subst, arith}
use Rattle.std.specs.List.{insert, remove}
use Rattle.std.proofs.lemmas.List.Edits.{get_or-insert_below, get_or-insert_above}
use Rattle.std.proofs.Math.ListN.{set}
use Rattle.hs_auto.specs.Ranks.{StandsSorted}
use Rattle.hs_auto.proofs.RankLemmas.{stands_at, sorted_exchange, moved_up, moved_down}
use Rattle.hs_auto.proofs.rising.exchange.Goals as goal

pub returns-then-from-to : goal.returns-then-from-to
returns-then-from-to c = λ values order.
    let xs = c.args.sorted.now in
    let ys = c.copy_within.new.self in
    let from = c.place_of-from.result in
    let to = c.args.to in
    let v = c.args.value in
    let x = c.args.leaving in
    let there = stands_at xs x from c.requires.rising c.requires.there c.place_of-from.ensures.place in
    let within : to ≤ length xs = c.requires.place.within in
    let moved = c.copy_within.ensures.by_index in
    let is : set ys (to - 1) v ≡ remove (insert xs to v) from =
    moved_down xs ys from to v c.if-from-to.true within c.copy_within.ensures.len moved.0 moved.1 moved.2 in
    subst (λ (zs : List ℕ). StandsSorted zs (v ∷ values)) (sym is)
    (sorted_exchange xs values to v from x order c.requires.place (omega arith)
    (get_or-insert_below xs to v x from c.if-from-to.true within ∙ there.1))

pub returns-else-from-to : goal.returns-else-from-to
returns-else-from-to c = λ values order.
    let xs = c.args.sorted.now in
    let ys = c.copy_within-else-from-to.new.self in
    let from = c.place_of-from.result in
    let to = c.args.to in
    let v = c.args.value in
    let x = c.args.leaving in
    let there = stands_at xs x from c.requires.rising c.requires.there c.place_of-from.ensures.place in
    let within : to ≤ length xs = c.requires.place.within in
    let moved = c.copy_within-else-from-to.ensures.by_index in
    let is : set ys to v ≡ remove (insert xs to v) (from + 1) =
    moved_up xs ys from to v c.if-from-to.false there.0 c.copy_within-else-from-to.ensures.len moved.0 moved.1 moved.2 in
    subst (λ (zs : List ℕ). StandsSorted zs (v ∷ values)) (sym is)
    (sorted_exchange xs values to v (from + 1) x order c.requires.place (omega (arith, there.0))
    (get_or-insert_above xs to v x from c.if-from-to.false within ∙ there.1))
