use Rattle.std.proofs.Common.{rules, arith, ◌%◌, ℕ, length, mod-lt, ◌∙◌, sym, ap, refl, [], ◌∷◌, Some, None}
use Rattle.atomic_table.specs.Table.{rest}
use Rattle.hs_link.specs.declared.board.View.TheVariants.{Taking}
use Rattle.hs_link.specs.Ring.{holding, received_by, received_of, told_of}
use Rattle.hs_link.proofs.Moves.{looks_to_take, takes_it}
use Rattle.hs_link.proofs.steps.take.Goals as goal

pub load-requires : goal.load-requires
load-requires g c = let at = c.requires.seat.0 in let low = mod-lt (length (received_of c.args.place.now)) at.2.0 in let next = c.requires.next in
    (at.0, omega arith, looks_to_take g.F.Fact.holds _ _ _ _ _ _ _ _ c.requires.seat.1 refl c.requires.next)

pub exchange-item-requires : goal.exchange-item-requires
exchange-item-requires g c = let took = c.load.ensures.2.0 (search rules) in let is = c.requires.seat.1 in let slots : ℕ = c.args.entries.now.table_id.slots in
    let now = took.1 ∙ (ap (λ m. (holding m.0 took.0, (length (received_by m.0) % slots, Some took.0) ∷ m.1)) is ∙ ap (λ z. (Taking c.args.entries.now.key (received_of c.args.place.now) (told_of c.args.place.now) took.0, (z, Some took.0) ∷ [])) (sym c.requires.next)) in
    (c.load.ensures.0 ∙ c.requires.seat.0.0, (Some took.0, ap (λ m. m.1) now ∙ ap (λ m. (c.args.entry, Some took.0) ∷ rest m.1) (sym now)))

pub store-requires : goal.store-requires
store-requires g c = let took = c.load.ensures.2.0 (search rules) in let is = c.requires.seat.1 in let slots : ℕ = c.args.entries.now.table_id.slots in
    let now = took.1 ∙ (ap (λ m. (holding m.0 took.0, (length (received_by m.0) % slots, Some took.0) ∷ m.1)) is ∙ ap (λ z. (Taking c.args.entries.now.key (received_of c.args.place.now) (told_of c.args.place.now) took.0, (z, Some took.0) ∷ [])) (sym c.requires.next)) in
    let emptied = c.exchange-item.ensures.3 ∙ ap (λ m. (m.0, (c.args.entry, None) ∷ rest m.1)) now in let at = c.requires.seat.0 in let low = mod-lt (length (received_of c.args.place.now)) at.2.0 in let next = c.requires.next in (
      c.exchange-item.ensures.0 ∙ (c.load.ensures.0 ∙ at.0),
      omega arith,
      takes_it g.F.Fact.holds _ _ _ _ _ _ _ _ took.0 emptied c.requires.next,
    )

pub overflow_mul-entry : goal.overflow_mul-entry
overflow_mul-entry g c = let at = c.requires.seat.0 in let low = mod-lt (length (received_of c.args.place.now)) at.2.0 in let next = c.requires.next in let few = at.2.1 in omega arith
