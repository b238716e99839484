use Rattle.std.proofs.Common.{rules, ◌∙◌, ap, ◌∷◌, Some, None}
use Rattle.atomic_table.specs.Table.{rest}
use Rattle.hs_link.specs.Ring.{having_put, carried_item}
use Rattle.hs_link.proofs.Moves.{puts}
use Rattle.hs_link.proofs.steps.put.Goals as goal

pub exchange-requires : goal.exchange-requires
exchange-requires g c = (c.requires.seat.0.0, (None, search rules))

pub store-requires : goal.store-requires
store-requires g c = let now = c.exchange.ensures.3 in let was = c.requires.seat.1 in (
  search rules,
  search rules,
  puts g.F.Fact.holds _ _ _ _ _ _ _ _ c.args.item (now ∙ ap (λ m. (m.0, (c.args.entry, Some c.args.item) ∷ rest m.1)) was) c.requires.next c.requires.few (λ e. c.requires.fact),
)

pub returns-clause-sender : goal.returns-clause-sender
returns-clause-sender g c = let now = c.exchange.ensures.3 in let was = c.requires.seat.1 in let at = c.requires.seat.0 in (
  (c.store.ensures.0 ∙ (c.exchange.ensures.0 ∙ at.0), at.1, at.2),
  c.store.ensures.2 ∙ ap (λ m. (having_put m.0 (carried_item m.1), rest m.1)) (now ∙ ap (λ m. (m.0, (c.args.entry, Some c.args.item) ∷ rest m.1)) was),
)
